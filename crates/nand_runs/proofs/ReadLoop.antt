-- The loop of read satisfies the Rust's equation, without fuel: each turn goes on by at least 1.
use Prim.Native.Nat.{ℕ, ◌+◌, ◌≤◌, ◌<◌}
use native.Mathlib.Omega.{arith}
use native.Mathlib.Nat.{mod-lt}
use mathlib.Core.Path.{◌≡◌, refl}
use lib.Dec.{ltb}
use Rattle.qspi.specs.declared.transfer.Sink.{Sink}
use Rattle.std.specs.Prelude.{if◌then◌else◌}
use Rattle.spi_flash.specs.Prog.{Prog, ret, ◌>>◌}
use Rattle.spi_flash.proofs.Laws.{then-assoc}
use Rattle.spi_flash.proofs.Loops.{turn_of, without-fuel}
use Rattle.spi_nand.specs.declared.config.NandGeometry.{NandGeometry}
use Rattle.spi_nand.specs.Transfer.{place_of, page_at, column_at, chunk_of}
use Rattle.spi_nand.specs.declared.setup.Setup.{Setup}
use Rattle.nand_runs.proofs.AsCoded.{page-read, read-cache, read-loop, reading}

-- a turn goes on
pub chunk-some : (g : NandGeometry) (offset len done : ℕ) → 1 ≤ g.page_size → done < len → 1 ≤ chunk_of g offset len done
unfolding chunk_of
chunk-some g offset len done some below = omega (arith, mod-lt (place_of offset done) some)

module _ (flash : Setup) (some : 1 ≤ flash.geometry.page_size) (offset len : ℕ) where
  -- a turn: the page is loaded, and a piece of it read
  abbrev pub read-piece : ℕ → Prog ℕ
  read-piece done =
      page-read flash (page_at flash.geometry (place_of offset done)) >>
      read-cache flash (column_at flash.geometry (place_of offset done)) (chunk_of flash.geometry offset len done) (Sink.Buffer done)

  abbrev next : ℕ → ℕ
  next done = done + chunk_of flash.geometry offset len done

  -- the Rust's `while done < buffer.len()`
  abbrev pub turn : ℕ → Prog (Unit {0})
  turn done =
      if ltb done len
      then (do
        page-read flash (page_at flash.geometry (place_of offset done))
        read-cache flash (column_at flash.geometry (place_of offset done)) (chunk_of flash.geometry offset len done) (Sink.Buffer done)
        reading flash offset len (next done))
      else ret tt

  apart : (done : ℕ) (rest : Prog (Unit {0})) → (read-piece done >> rest) ≡ (do
    page-read flash (page_at flash.geometry (place_of offset done))
    read-cache flash (column_at flash.geometry (place_of offset done)) (chunk_of flash.geometry offset len done) (Sink.Buffer done)
    rest)
  apart done rest =
      then-assoc (page-read flash (page_at flash.geometry (place_of offset done)))
      (read-cache flash (column_at flash.geometry (place_of offset done)) (chunk_of flash.geometry offset len done) (Sink.Buffer done)) rest

  -- a piece and the rest behind it
  pub reading-pieces : (done : ℕ) → reading flash offset len done ≡ turn_of len read-piece next (reading flash offset len) done
  unfolding reading read-loop
  reading-pieces done =
      without-fuel len read-piece next (λ n d. read-loop flash n offset len d)
      record {
        stops = λ d. refl;
        turns = λ n d. rw (apart d (read-loop flash n offset len (next d)));
        goes = λ d below p q f. let on = chunk-some flash.geometry offset len d some below in rw (f (omega arith));
      }
      done

  pub reading-loop : (done : ℕ) → reading flash offset len done ≡ turn done
  reading-loop done = rw (reading-pieces done, apart done (reading flash offset len (next done)))

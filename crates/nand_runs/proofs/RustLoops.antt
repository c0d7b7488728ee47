-- The Rust's loops satisfy its equations, without fuel: each turn goes on by at least 1.
-- Assumes nothing.
use Prim.Native.Nat.{ℕ, ◌+◌, ◌-◌, ◌/◌, ◌%◌, ◌≤◌}
use native.Mathlib.Omega.{arith}
use native.Mathlib.Nat.{mod-lt}
use mathlib.Core.Path.{◌≡◌, refl}
use Rattle.std.specs.Prelude.{min}
use Rattle.qspi.specs.declared.transfer.Payload.{Payload}
use Rattle.qspi.specs.declared.transfer.Sink.{Sink}
use Rattle.spi_flash.specs.Prog.{Prog, ◌>>◌}
use Rattle.spi_flash.proofs.Laws.{then-assoc}
use Rattle.spi_flash.proofs.Loops.{without-fuel}
use Rattle.spi_nand.specs.declared.setup.Setup.{Setup}
use Rattle.spi_nand.proofs.Geometries.{geometries-hold}
use Rattle.nand_runs.specs.Loops.{ReadLoop, FillLoop, NandLoops}
use Rattle.nand_runs.specs.Rust.{Nothing, page-read, read-cache, load-program-data, read-loop, reading, fill-loop, filling}

module _ (flash : Setup) where
  abbrev page_size : ℕ
  page_size = flash.geometry.page_size

  module _ (some : 1 ≤ page_size) (offset len : ℕ) where
    abbrev chunk : ℕ → ℕ
    chunk done = min (page_size - (offset + done) % page_size) (len - done)

    abbrev piece : ℕ → Prog ℕ
    piece done = page-read flash ((offset + done) / page_size) >> read-cache flash ((offset + done) % page_size) (chunk done) (Sink.Buffer done)

    apart : (done : ℕ) (rest : Prog Nothing) →
        (piece done >> rest) ≡ (page-read flash ((offset + done) / page_size) >> (read-cache flash ((offset + done) % page_size) (chunk done) (Sink.Buffer done) >> rest))
    apart done rest = then-assoc (page-read flash ((offset + done) / page_size)) (read-cache flash ((offset + done) % page_size) (chunk done) (Sink.Buffer done)) rest

    reads : (done : ℕ) → ReadLoop flash offset len done
    unfolding reading read-loop
    reads done =
        rw (
          without-fuel len piece (λ d. d + chunk d) (λ n d. read-loop flash n offset len d)
              record {
                stops = λ d. refl;
                turns = λ n d. rw (apart d (read-loop flash n offset len (d + chunk d))) refl;
                goes = λ d below p q f. let r = mod-lt (offset + d) some in rw (f (omega arith)) refl;
              }
              done,
          apart done (read-loop flash (len - (done + chunk done)) offset len (done + chunk done)),
        ) refl

  fills : (column : ℕ) → FillLoop flash column
  unfolding filling fill-loop
  fills column =
      without-fuel page_size (λ c. load-program-data flash c (min (page_size - c) 256) (Payload.Filler (min (page_size - c) 256))) (λ c. c + min (page_size - c) 256) (fill-loop flash)
      record { stops = λ c. refl; turns = λ n c. refl; goes = λ c below p q f. rw (f (omega arith)) refl }
      column

pub nand-loops : NandLoops
nand-loops = record {
  reads = λ flash bounds. reads flash (geometries-hold.bounded flash.geometry bounds).page;
  fills = fills;
}

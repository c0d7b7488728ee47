-- The loop of mark_bad_block's filler satisfies the Rust's equation, without fuel: each turn goes on by at least 1.
use Prim.Native.Nat.{ℕ, ◌+◌, ◌≤◌, ◌<◌}
use native.Mathlib.Omega.{arith}
use mathlib.Core.Path.{◌≡◌, refl}
use lib.Dec.{ltb}
use Rattle.qspi.specs.declared.transfer.Payload.{Payload}
use Rattle.std.specs.Prelude.{if◌then◌else◌}
use Rattle.spi_flash.specs.Prog.{Prog, ret, ◌>>◌}
use Rattle.spi_flash.proofs.Loops.{without-fuel}
use Rattle.spi_nand.specs.declared.config.NandGeometry.{NandGeometry}
use Rattle.spi_nand.specs.Transfer.{filler_of}
use Rattle.spi_nand.specs.declared.setup.Setup.{Setup}
use Rattle.nand_runs.proofs.AsCoded.{load-program-data, fill-loop, filling}

-- a turn goes on
pub filler-some : (g : NandGeometry) (column : ℕ) → column < g.page_size → 1 ≤ filler_of g column
unfolding filler_of
filler-some g column below = omega arith

module _ (flash : Setup) where
  abbrev page : ℕ
  page = flash.geometry.page_size

  abbrev next : ℕ → ℕ
  next column = column + filler_of flash.geometry column

  abbrev load-filler : ℕ → Prog (Unit {0})
  load-filler column = load-program-data flash column (filler_of flash.geometry column) (Payload.Filler (filler_of flash.geometry column))

  -- the Rust's `while column < page_size`
  abbrev pub turn : ℕ → Prog (Unit {0})
  turn column = if ltb column page then (load-filler column >> filling flash (next column)) else ret tt

  pub filling-loop : (column : ℕ) → filling flash column ≡ turn column
  unfolding filling fill-loop
  filling-loop column =
      without-fuel page load-filler next (fill-loop flash)
      record {
        stops = λ c. refl;
        turns = λ n c. refl;
        goes = λ c below p q f. let on = filler-some flash.geometry c below in rw (f (omega arith));
      }
      column

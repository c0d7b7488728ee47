-- What the program of each call comes to: its delay bound is an upper bound and is reached, its actions are bounded, and it can end well.
-- Assumes nothing.
use Prim.Native.Nat.{ℕ}
use mathlib.Core.Bool.{true, false}
use mathlib.Core.Path.{◌≡◌}
use mathlib.Core.List.{List}
use lib.ListN.{length}
use Rattle.qspi.specs.Bytes.{AllBytes}
use Rattle.spi_flash.specs.Path.{delays, Bounded, Ends}
use Rattle.spi_flash.proofs.Paths.{actions, Reaches, Never}
use Rattle.spi_nand.specs.Config.{in_bounds}
use Rattle.spi_nand.specs.declared.call.Call.{Call}
use Rattle.spi_nand.specs.declared.setup.Setup.{Setup}
use Rattle.nand_runs.specs.Bound.{delay_bound, most_actions, can_end}
use Rattle.nand_runs.specs.Program.{Left, program_of}
use Rattle.nand_runs.proofs.Agrees.{same}
use Rattle.nand_runs.proofs.Begins.{Begins}
use Rattle.nand_runs.proofs.Bounds.{bounded, acts}
use Rattle.nand_runs.proofs.Reaches.{ends, never, reached}

-- of a driver whose geometry is within the bounds, whatever the replies; and on the caller's data, with replies that fit
pub record ProgramBounds : Type 0 where
  -- no path asks more than the call's bound, and some path asks exactly that
  pub bounded : (flash : Setup) → in_bounds flash.geometry ≡ true → (call : Call) (b d : ℕ) →
      Bounded delays (delay_bound flash call b) (program_of flash call b d)
  pub reached : (flash : Setup) → in_bounds flash.geometry ≡ true → (call : Call) (b : ℕ) (given : List ℕ) → AllBytes given →
      Begins flash call b (length given) → Reaches given delays (delay_bound flash call b) (program_of flash call b (length given))
  -- no path gives out more actions
  pub acts : (flash : Setup) → in_bounds flash.geometry ≡ true → (call : Call) (b d : ℕ) →
      Bounded actions (most_actions flash call b) (program_of flash call b d)
  -- some path ends well, or none can
  pub ends_well : (flash : Setup) → in_bounds flash.geometry ≡ true → (call : Call) (b : ℕ) (given : List ℕ) → AllBytes given →
      Begins flash call b (length given) → can_end flash call ≡ true → (n : ℕ) × (left : Left) × Ends given delays n left (program_of flash call b (length given))
  pub never_ends : (flash : Setup) → in_bounds flash.geometry ≡ true → (call : Call) (b d : ℕ) → can_end flash call ≡ false → Never (program_of flash call b d)

pub program-bounds : ProgramBounds
program-bounds = record {
  bounded = λ flash bounds call b d. rw (same flash bounds call b d) (bounded flash bounds call b d);
  reached = λ flash bounds call b given small begins. rw (same flash bounds call b (length given)) (reached flash bounds call b given small begins);
  acts = λ flash bounds call b d. rw (same flash bounds call b d) (acts flash bounds call b d);
  ends_well = λ flash bounds call b given small begins can.
      let e = ends flash bounds call b given small begins can in
      (delay_bound flash call b, e.0, rw (same flash bounds call b (length given)) e.1);
  never_ends = λ flash bounds call b d c. rw (same flash bounds call b d) (never flash bounds call b d c);
}

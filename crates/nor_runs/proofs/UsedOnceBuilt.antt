-- A driver is built from the bytes of a part, and used.
use native.Mathlib.Omega.{arith}
use mathlib.Core.List.{List, [], ◌∷◌}
use mathlib.Core.Path.{refl}
use Prim.Native.Nat.{ℕ}
use Rattle.qspi.specs.Bus.{fits_of}
use Rattle.qspi.specs.Command.{with_command}
use Rattle.qspi.specs.Frame.{first_of, action_of, given_scratch, advanced_of, taken_in, delivered_by, exchange_of}
use Rattle.spi_flash.specs.Beginning.{opened, constructed, begun, at_rest, begins}
use Rattle.spi_flash.specs.Entry.{entry_of}
use Rattle.spi_flash.specs.Loan.{ready_of, exchange_for}
use Rattle.spi_flash.specs.Replying.{steps}
use Rattle.spi_flash.specs.Run.{Event, HasEnded, goes_on, call_of, state_after}
use Rattle.spi_flash.specs.Settling.{settled}
use Rattle.flash_runs.specs.Built.{UsedOnceBuilt}
use Rattle.flash_runs.specs.SameAsRust.{EachTurn}
use Rattle.flash_runs.proofs.Shams.{lending, done, got}
use Rattle.spi_nor.specs.Config.{capacity_bytes_of, from_jedec, in_bounds_of}
use Rattle.spi_nor.specs.declared.call.Call.{Call}
use Rattle.nor_steps.specs.Opening.{opening_of}
use Rattle.nor_steps.specs.Register.{device_for, identified_then}
use Rattle.nor_driver.specs.Next.{after_phase, next_of}
use Rattle.nor_runs.specs.Run.{nor_driver}

-- a number read by a command
abbrev number : List ℕ → List (Event Call)
number bytes = done [] ∷ done [] ∷ got bytes [] ∷ done [] ∷ []

-- select raised; the id of a W25Q128JV
abbrev building : List (Event Call)
building = done [] ∷ number (0xEF ∷ 0x40 ∷ 0x18 ∷ [])

pub nor-used : UsedOnceBuilt nor_driver
unfolding opened constructed begun at_rest begins entry_of steps settled first_of action_of exchange_for exchange_of ready_of fits_of advanced_of taken_in given_scratch with_command delivered_by HasEnded goes_on call_of state_after EachTurn next_of after_phase opening_of capacity_bytes_of from_jedec in_bounds_of device_for identified_then
nor-used = record {
  make = record { call = Call.New; lent = lending []; events = building };
  later = record { call = Call.ReadStatus1; lent = lending []; events = number (0 ∷ []) };
  admissible =
      (record { idle = refl; ready = omega arith; inside = refl; same_data = tt }, (record { idle = refl; ready = (refl, omega arith); inside = tt; same_data = tt }, tt));
  on_bus = tt;
  ends = tt;
}

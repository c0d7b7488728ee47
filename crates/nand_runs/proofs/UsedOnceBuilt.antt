-- A driver is built from the bytes of a part, and used.
use native.Mathlib.Omega.{arith}
use mathlib.Core.List.{List, [], ◌∷◌, ◌++◌}
use mathlib.Core.Path.{refl}
use Prim.Native.Nat.{ℕ}
use Rattle.qspi.specs.Bus.{fits_of}
use Rattle.qspi.specs.Command.{with_command}
use Rattle.qspi.specs.Frame.{first_of, action_of, given_scratch, advanced_of, taken_in, delivered_by, exchange_of}
use Rattle.spi_flash.specs.Beginning.{opened, constructed, begun, at_rest, begins}
use Rattle.spi_flash.specs.Entry.{entry_of}
use Rattle.spi_flash.specs.Loan.{ready_of, exchange_for}
use Rattle.spi_flash.specs.Replying.{steps}
use Rattle.spi_flash.specs.Run.{Event, HasEnded, goes_on, call_of, state_after}
use Rattle.spi_flash.specs.Settling.{settled}
use Rattle.spi_flash.specs.Wait.{first_wait, next_wait}
use Rattle.flash_runs.specs.Built.{UsedOnceBuilt}
use Rattle.flash_runs.specs.SameAsRust.{EachTurn}
use Rattle.flash_runs.proofs.Shams.{lending, done, got}
use Rattle.spi_nand.specs.Config.{page_count_of, in_bounds, from_jedec, wanted_for}
use Rattle.spi_nand.specs.Opcode.{timings_of}
use Rattle.spi_nand.specs.Status.{busy_of, with_bits, same_configuration, block_protect_bits, is_unlocked}
use Rattle.spi_nand.specs.Transfer.{task_operation}
use Rattle.spi_nand.specs.declared.call.Call.{Call}
use Rattle.nand_steps.specs.Opening.{opening_of}
use Rattle.nand_steps.specs.Register.{geometry_for, identified_then, configured_then, configure_then, unprotected_then, unprotect_then}
use Rattle.nand_driver.specs.Next.{identify_then, answered_then, after_phase, next_of}
use Rattle.nand_driver.specs.Wait.{reset_then, resume_task, judge_task, wait_then, waiting_then}
use Rattle.nand_runs.specs.Run.{sort_of, nand_driver}

-- a number read by a command
abbrev number : List ℕ → List (Event Call)
number bytes = done [] ∷ done [] ∷ got bytes [] ∷ done [] ∷ []

-- select raised; the reset and its wait; the id of a W25N01GV; the registers as they are wanted
abbrev building : List (Event Call)
building =
    done [] ∷ done [] ∷ done [] ∷ done [] ∷ done [] ∷ number (0 ∷ []) ++ number (0xEF ∷ 0xAA ∷ 0x21 ∷ []) ++ number (0x18 ∷ []) ++ number (0 ∷ []) ++ number (0x18 ∷ [])

pub nand-used : UsedOnceBuilt nand_driver
unfolding sort_of opened constructed begun at_rest begins entry_of steps settled first_of action_of exchange_for exchange_of ready_of fits_of advanced_of taken_in given_scratch with_command delivered_by HasEnded goes_on call_of state_after EachTurn next_of after_phase opening_of page_count_of in_bounds from_jedec wanted_for timings_of busy_of with_bits same_configuration block_protect_bits is_unlocked task_operation geometry_for identified_then configured_then configure_then unprotected_then unprotect_then identify_then answered_then reset_then resume_task judge_task wait_then waiting_then first_wait next_wait
nand-used = record {
  make = record { call = Call.New; lent = lending []; events = building };
  later = record { call = Call.ReadStatus; lent = lending []; events = number (0 ∷ []) };
  admissible =
      (record { idle = refl; ready = omega arith; inside = refl; same_data = tt }, (record { idle = refl; ready = (refl, omega arith); inside = tt; same_data = tt }, tt));
  on_bus = tt;
  ends = tt;
}

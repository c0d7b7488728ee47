-- Sham NAND drivers (docs/SPECIFICATION.md, "Shams"), each against the promise that it breaks. Single runs of a read, with smaller lies, are
-- in specs/Shams.antt.
use Rattle.std.specs.Prelude.{ℕ, Bool, true, false, ltb, List, Option, Some, None, if◌then◌else◌}
use Rattle.machine.specs.declared.state.Job.{Job}
use Rattle.spi_flash.specs.Run.{Given, ended, failed, Moved}
use Rattle.spi_flash.specs.declared.error.FlashError.{FlashError}
use Rattle.spi_nand.specs.declared.answer.Answer.{Answer}
use Rattle.spi_nand.specs.declared.call.Call.{Call}
use Rattle.spi_nand.specs.declared.phase.LoadFor.{LoadFor}
use Rattle.spi_nand.specs.declared.phase.Phase.{Phase}
use Rattle.spi_nand.specs.declared.phase.Task.{Task}
use Rattle.spi_nand.specs.declared.phase.WaitStep.{WaitStep}
use Rattle.spi_nand.specs.declared.setup.Setup.{Setup}
use Rattle.flash_runs.specs.Driver.{leaving, Driver}
use Rattle.flash_runs.specs.Refusals.{ToldByHistory}
use Rattle.flash_runs.specs.SameAsRust.{SameAsRust}
use Rattle.flash_runs.specs.LentShams.{LentShamsFail}
use Rattle.flash_runs.specs.Shams.{Subject, in_place, altered, one_result, ClaimsAll, ShamsFail}
use Rattle.nand_driver.specs.Settle.{SpiNandFlash, flash_of}
use Rattle.nand_runs.specs.Program.{Left}
use Rattle.nand_runs.specs.Promises.{ReadsAsAsked}
use Rattle.nand_runs.specs.Run.{nand_driver}

-- what a sham may hold: all that the driver holds, and numbers of its own
abbrev pub Memory : Type 0
Memory = SpiNandFlash × List ℕ

-- ---- a driver that ends a call in place of a transfer

-- the phase of the transfer that is out, if it is one of these
abbrev pub stands_at : (Phase → Bool) → Option (Job Phase) → Bool
stands_at at None = false
stands_at at (Some job) = at job.phase

-- the call is over, with the driver as it stands
abbrev pub over : Given Left → Moved SpiNandFlash Left → Moved SpiNandFlash Left
over given m = record { given = given; flash = flash_of m.flash.setup m.flash.built m.flash.delivered None; left = m.left }

-- Timeout before looking
abbrev pub is_look : Phase → Bool
is_look (Phase.Waiting task (WaitStep.Look waited)) = true
is_look _ = false

abbrev pub hasty : Driver SpiNandFlash Call Setup Answer
hasty = altered nand_driver (λ m. if stands_at is_look m.flash.running then over (failed FlashError.Timeout) m else m)

-- the first page loaded, the rest claimed: a read that is to load a page behind the bytes that it has read already
abbrev pub is_next_load : Phase → Bool
is_next_load (Phase.Waiting (Task.Load (LoadFor.Read span)) WaitStep.Command) = ltb 0 span.done
is_next_load _ = false

abbrev pub rest_claimed : Driver SpiNandFlash Call Setup Answer
rest_claimed =
    altered nand_driver (λ m. if stands_at is_next_load m.flash.running then over (ended (leaving m.flash.setup Answer.Done)) m else m)

-- ---- the statement

pub record NandShamsFail : Type 0 where
  -- every request refused; success with no traffic; running for ever; a bound that is no sum
  pub general : ShamsFail nand_driver Memory
  -- lent bytes written where they must not be, select left low, errors and refusals with another code, refusals that change something
  pub lent : LentShamsFail nand_driver
  -- success with no traffic, told from the bus
  pub claiming : (sham : Subject Memory Call Setup Answer) → ClaimsAll (in_place nand_driver sham) → ToldByHistory (in_place nand_driver sham) →
      ReadsAsAsked (in_place nand_driver sham) → ⊥
  -- the first page loaded, the rest claimed: told beside the Rust, and told from the bus
  pub rest_beside_rust : SameAsRust rest_claimed → ⊥
  pub rest_on_bus : ReadsAsAsked rest_claimed → ⊥
  pub hasty : SameAsRust hasty → ⊥
  -- whichever result it is, after honest traffic
  pub one_result : (answer : Answer) → SameAsRust (one_result nand_driver answer) → ⊥

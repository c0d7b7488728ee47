-- Sham NOR drivers (docs/SPECIFICATION.md, "Shams"), each against the promise that it breaks.
use Rattle.std.specs.Prelude.{ℕ, Bool, true, false, List, Option, Some, None, if◌then◌else◌}
use Rattle.machine.specs.declared.state.Job.{Job}
use Rattle.spi_flash.specs.Run.{Moved, failed}
use Rattle.spi_flash.specs.declared.error.FlashError.{FlashError}
use Rattle.spi_nor.specs.declared.answer.Answer.{Answer}
use Rattle.spi_nor.specs.declared.call.Call.{Call}
use Rattle.spi_nor.specs.declared.phase.Phase.{Phase}
use Rattle.spi_nor.specs.declared.phase.WriteStep.{WriteStep}
use Rattle.spi_nor.specs.declared.setup.Setup.{Setup}
use Rattle.flash_runs.specs.Driver.{Driver}
use Rattle.flash_runs.specs.SameAsRust.{SameAsRust}
use Rattle.flash_runs.specs.LentShams.{LentShamsFail}
use Rattle.flash_runs.specs.Shams.{altered, one_result, ShamsFail}
use Rattle.nor_driver.specs.Settle.{SpiNorFlash, flash_of}
use Rattle.nor_runs.specs.Program.{Left}
use Rattle.nor_runs.specs.Run.{nor_driver}

-- what a sham may hold: all that the driver holds, and numbers of its own
abbrev pub Memory : Type 0
Memory = SpiNorFlash × List ℕ

-- ---- Timeout before looking

abbrev pub is_look : Phase → Bool
is_look (Phase.Writing task (WriteStep.Look waited)) = true
is_look _ = false

abbrev pub looks : Option (Job Phase) → Bool
looks None = false
looks (Some job) = is_look job.phase

-- where a look is due, the call is over, with Timeout
abbrev pub gives_up : Moved SpiNorFlash Left → Moved SpiNorFlash Left
gives_up m =
    if looks m.flash.running
    then record { given = failed FlashError.Timeout; flash = flash_of m.flash.setup m.flash.built m.flash.delivered None; left = m.left }
    else m

abbrev pub hasty : Driver SpiNorFlash Call Setup Answer
hasty = altered nor_driver gives_up

-- ---- the statement

pub record NorShamsFail : Type 0 where
  -- every request refused; success with no traffic; running for ever; a bound that is no sum
  pub general : ShamsFail nor_driver Memory
  -- lent bytes written where they must not be, select left low, errors and refusals with another code, refusals that change something
  pub lent : LentShamsFail nor_driver
  pub hasty : SameAsRust hasty → ⊥
  -- whichever result it is, after honest traffic
  pub one_result : (answer : Answer) → SameAsRust (one_result nor_driver answer) → ⊥

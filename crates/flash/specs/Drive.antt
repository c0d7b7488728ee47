-- The two drivers' calls and steps, side by side (docs/SPECIFICATION.md, "Actions and replies").
use Rattle.std.specs.Prelude.{ℕ, List}
use Rattle.qspi.specs.declared.bus.Reply.{Reply}
use Rattle.spi_flash.specs.declared.error.FlashError.{FlashError}
pub use Rattle.spi_flash.specs.Replying.{AfterStep, stepped_to}
use Rattle.machine.specs.declared.state.Flash as machine
use Rattle.machine.specs.declared.state.Given.{Given}
use Rattle.machine.specs.declared.state.Stepped as machine_stepped
use Rattle.nor_driver.specs.Call as nor_call
use Rattle.nor_driver.specs.Step as nor_step
use Rattle.nand_driver.specs.Call as nand_call
use Rattle.nand_driver.specs.Step as nand_step
use Rattle.flash_calls.specs.declared.given.Answer.{Answer}
use Rattle.flash_calls.specs.declared.call.Call.{Call}
use Rattle.flash_calls.specs.declared.call.Kind.{Kind}
use Rattle.flash.specs.declared.state.Flash.{Flash}
use Rattle.flash.specs.declared.state.Stepped.{Stepped}

abbrev pub not_built : Kind → Flash
not_built Kind.Nor = Flash.Nor nor_call.not_built
not_built Kind.Nand = Flash.Nand nand_call.not_built

-- how many bytes the last call begun has read
abbrev pub count_of : Flash → ℕ
count_of (Flash.Nor flash) = flash.delivered
count_of (Flash.Nand flash) = flash.delivered

-- turned away: nothing has changed
abbrev pub refused_of : Flash → FlashError → Stepped
refused_of flash error = record { flash = flash; given = Given.Refused error; delivered = count_of flash }

-- before the first call: nothing has been given
abbrev pub fresh_of : Kind → Stepped
fresh_of kind = refused_of (not_built kind) FlashError.OutOfTurn

-- ---- what the one or the other has given, by what its state and its answers are as either's

module _ {S P A : Type 0} (flash_as : machine.Flash S P → Flash) (answer_as : A → Answer) where
  abbrev pub given_by : Given A → Given Answer
  given_by (Given.Act action) = Given.Act action
  given_by (Given.Ended answer) = Given.Ended (answer_as answer)
  given_by (Given.Failed error) = Given.Failed error
  given_by (Given.Refused error) = Given.Refused error

  abbrev pub stepped_by : machine_stepped.Stepped S P A → Stepped
  stepped_by x = record { flash = flash_as x.flash; given = given_by x.given; delivered = x.flash.delivered }

  abbrev pub moved_by : AfterStep (machine_stepped.Stepped S P A) → AfterStep Stepped
  moved_by m = stepped_to (stepped_by m.stepped) m.scratch m.buffer

-- ---- a call, with the lengths of what is lent: scratch, buffer, data; one of the other driver is 13

unfoldable pub begin_of : Flash → Call → ℕ → ℕ → ℕ → Stepped
begin_of (Flash.Nor flash) (Call.Nor call) s b d = stepped_by Flash.Nor Answer.Nor (nor_call.begin_of flash call s b d)
begin_of (Flash.Nor flash) (Call.Nand call) s b d = refused_of (Flash.Nor flash) FlashError.OutOfTurn
begin_of (Flash.Nand flash) (Call.Nor call) s b d = refused_of (Flash.Nand flash) FlashError.OutOfTurn
begin_of (Flash.Nand flash) (Call.Nand call) s b d = stepped_by Flash.Nand Answer.Nand (nand_call.begin_of flash call s b d)

-- ---- a reply

unfoldable pub step_of : Flash → Reply → List ℕ → List ℕ → List ℕ → List ℕ → AfterStep Stepped
step_of (Flash.Nor flash) reply bytes scratch buffer lent = moved_by Flash.Nor Answer.Nor (nor_step.step_of flash reply bytes scratch buffer lent)
step_of (Flash.Nand flash) reply bytes scratch buffer lent = moved_by Flash.Nand Answer.Nand (nand_step.step_of flash reply bytes scratch buffer lent)

-- Where a call stands, what the code decides there, and how each call opens: the NOR driver as flash_runs makes one.
use mathlib.Core.Bool.{true}
use mathlib.Core.Path.{◌≡◌}
use Rattle.qspi.specs.Frame.{Outcome}
use Rattle.spi_flash.proofs.Machine.{Decision}
use Rattle.flash_runs.proofs.General as General
use Rattle.flash_runs.proofs.General.{Parts, parts_of}
use Rattle.flash_runs.proofs.Supplies as Supplies
use Rattle.spi_nor.specs.Config.{in_bounds_of}
use Rattle.nor_driver.specs.Call.{nor_calls}
use Rattle.nor_driver.specs.Settle.{then_as}
use Rattle.nor_driver.specs.Step.{nor_next}
use Rattle.nor_runs.specs.Program.{Left}
use Rattle.spi_nor.specs.declared.answer.Answer.{Answer}
use Rattle.spi_nor.specs.declared.call.Call.{Call}
use Rattle.spi_nor.specs.declared.phase.Phase.{Phase}
use Rattle.spi_nor.specs.declared.setup.Setup.{Setup}
use Rattle.nor_steps.specs.Then.{Then}

-- where a call stands, with what the driver holds
abbrev pub Place : Type 0
Place = General.Place Setup Phase

abbrev pub place : Setup → Phase → Place
place setup phase = General.place setup phase

abbrev pub decide : Then → Decision Place Left
decide x = General.decide (then_as x)

abbrev pub nor_parts : Parts Setup Phase Answer Call
nor_parts = parts_of nor_calls nor_next

abbrev pub decide_next : Place → Outcome → Decision Place Left
decide_next s o = General.decide_next nor_parts s o

-- the device is within the bounds
abbrev pub Valid : Place → Type 0
Valid s = in_bounds_of s.setup.device ≡ true

-- the phases of a call on a driver that is built
abbrev pub Built : Phase → Type 0
Built Phase.Raised = ⊥
Built Phase.Identify = ⊥
Built Phase.Status1 = Unit {0}
Built Phase.Status2 = Unit {0}
Built Phase.Busy = Unit {0}
Built Phase.JedecId = Unit {0}
Built Phase.UniqueId = Unit {0}
Built Phase.QuadEnabled2 = Unit {0}
Built Phase.QuadEnabled1 = Unit {0}
Built Phase.EnableCheck2 = Unit {0}
Built Phase.EnableCheck1 = Unit {0}
Built Phase.EnableRead2 = Unit {0}
Built Phase.EnableVerify2 = Unit {0}
Built Phase.EnableRead1 = Unit {0}
Built Phase.EnableVerify1 = Unit {0}
Built Phase.DisableRead2 = Unit {0}
Built Phase.DisableVerify2 = Unit {0}
Built Phase.DisableRead1 = Unit {0}
Built Phase.DisableVerify1 = Unit {0}
Built Phase.UnprotectRead1 = Unit {0}
Built (Phase.UnprotectRead2 before) = Unit {0}
Built (Phase.UnprotectAfter before) = Unit {0}
Built (Phase.Reading p) = Unit {0}
Built (Phase.Verifying p) = Unit {0}
Built (Phase.Writing task at) = Unit {0}

-- the driver holds what it held when the call began, and the call is no construction
abbrev pub Stays : Setup → Then → Type 0
Stays s x = Supplies.Stays Built s (then_as x)

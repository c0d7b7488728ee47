-- The NAND driver as the general theory has it: what follows a transfer, how a call opens, and where a call stands.
use mathlib.Core.Bool.{true}
use mathlib.Core.Path.{◌≡◌}
use Rattle.spi_flash.proofs.Machine.{Decision}
use Rattle.flash_runs.proofs.General as General
use Rattle.flash_runs.proofs.General.{Place, Parts, parts_of}
use Rattle.spi_nand.specs.Config.{in_bounds}
use Rattle.spi_nand.specs.declared.answer.Answer.{Answer}
use Rattle.spi_nand.specs.declared.call.Call.{Call}
use Rattle.spi_nand.specs.declared.phase.Phase.{Phase}
use Rattle.spi_nand.specs.declared.setup.Setup.{Setup}
use Rattle.nand_steps.specs.Then.{Then}
use Rattle.nand_driver.specs.Call.{nand_calls}
use Rattle.nand_driver.specs.Settle.{then_as}
use Rattle.nand_driver.specs.Step.{nand_next}
use Rattle.nand_runs.specs.Program.{Left}

abbrev pub parts : Parts Setup Phase Answer Call
parts = parts_of nand_calls nand_next

-- where a call stands, with what the driver holds
abbrev pub NandPlace : Type 0
NandPlace = Place Setup Phase

abbrev pub decide : Then → Decision NandPlace Left
decide x = General.decide (then_as x)

-- the geometry is within the bounds
abbrev pub Valid : NandPlace → Type 0
Valid s = in_bounds s.setup.geometry ≡ true

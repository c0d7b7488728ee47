-- The SPI NAND driver as the step machine has it (specs/Shape.antt of machine).
use Rattle.spi_flash.specs.Shape.{Shape}
use Rattle.machine.specs.Shape.{shape}
pub use Rattle.machine.specs.Shape.{then_as, running_as, given_as, flash_of, refused_of}
use Rattle.machine.specs.declared.state.Flash as Machine
use Rattle.machine.specs.declared.state.Given as Gives
use Rattle.machine.specs.declared.state.Stepped as Steps
use Rattle.spi_nand.specs.declared.answer.Answer.{Answer}
use Rattle.spi_nand.specs.declared.phase.Phase.{Phase}
use Rattle.spi_nand.specs.declared.setup.Setup.{Setup}

abbrev pub SpiNandFlash : Type 0
SpiNandFlash = Machine.Flash Setup Phase

abbrev pub Given : Type 0
Given = Gives.Given Answer

abbrev pub Stepped : Type 0
Stepped = Steps.Stepped Setup Phase Answer

abbrev pub nand_shape : Shape SpiNandFlash Setup Phase Answer Stepped
nand_shape = shape

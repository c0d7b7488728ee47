-- What a reply does to the SPI NAND driver (specs/Replying.antt of spi_flash).
use Rattle.std.specs.Prelude.{ℕ, List}
use Rattle.qspi.specs.declared.bus.Reply.{Reply}
use Rattle.qspi.specs.Frame.{Outcome}
use Rattle.spi_flash.specs.Replying.{steps, delivered_in}
pub use Rattle.spi_flash.specs.Replying.{AfterStep, stepped_to}
use Rattle.spi_flash.specs.Shape as Shape
use Rattle.spi_nand.specs.declared.answer.Answer.{Answer}
use Rattle.spi_nand.specs.declared.phase.Phase.{Phase}
use Rattle.spi_nand.specs.declared.setup.Setup.{Setup}
use Rattle.nand_driver.specs.Next.{next_of}
use Rattle.nand_driver.specs.Settle.{SpiNandFlash, Stepped, then_as, nand_shape}

-- what follows each transfer
abbrev pub nand_next : Setup → Phase → Outcome → Shape.Then Setup Phase Answer
nand_next setup phase outcome = then_as (next_of setup phase outcome)

abbrev pub step_of : SpiNandFlash → Reply → List ℕ → List ℕ → List ℕ → List ℕ → AfterStep Stepped
step_of = steps nand_shape nand_next

abbrev pub delivered_part : SpiNandFlash → List ℕ → List ℕ
delivered_part = delivered_in nand_shape

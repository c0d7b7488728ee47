-- What a reply does to the SPI NOR driver (specs/Replying.antt of spi_flash).
use Rattle.std.specs.Prelude.{ℕ, List}
use Rattle.qspi.specs.declared.bus.Reply.{Reply}
use Rattle.qspi.specs.Frame.{Outcome}
use Rattle.spi_flash.specs.Replying.{steps, delivered_in}
pub use Rattle.spi_flash.specs.Replying.{AfterStep, stepped_to}
use Rattle.spi_flash.specs.Shape as Shape
use Rattle.spi_nor.specs.declared.answer.Answer.{Answer}
use Rattle.spi_nor.specs.declared.phase.Phase.{Phase}
use Rattle.spi_nor.specs.declared.setup.Setup.{Setup}
use Rattle.nor_driver.specs.Next.{next_of}
use Rattle.nor_driver.specs.Settle.{SpiNorFlash, Stepped, then_as, nor_shape}

-- what follows each transfer
abbrev pub nor_next : Setup → Phase → Outcome → Shape.Then Setup Phase Answer
nor_next setup phase outcome = then_as (next_of setup phase outcome)

abbrev pub step_of : SpiNorFlash → Reply → List ℕ → List ℕ → List ℕ → List ℕ → AfterStep Stepped
step_of = steps nor_shape nor_next

abbrev pub delivered_part : SpiNorFlash → List ℕ → List ℕ
delivered_part = delivered_in nor_shape

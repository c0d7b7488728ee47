-- How the SPI NOR driver's calls begin (specs/Beginning.antt of spi_flash), and what stands in it before the id is known.
use Rattle.std.specs.Prelude.{ℕ, false, None}
use Rattle.spi_flash.specs.Beginning.{Calls, begins}
use Rattle.spi_nor.specs.Config.{in_bounds_of, single_config}
use Rattle.spi_nor.specs.declared.answer.Answer.{Answer}
use Rattle.spi_nor.specs.declared.call.Call.{Call}
use Rattle.spi_nor.specs.declared.phase.Phase.{Phase}
use Rattle.spi_nor.specs.declared.setup.Setup.{Setup}
use Rattle.nor_steps.specs.Opening.{opening_of}
pub use Rattle.nor_steps.specs.Opening.{given_at, given_device, fresh_setup}
use Rattle.machine.specs.Shape.{opening_as}
use Rattle.nor_driver.specs.Settle.{SpiNorFlash, Stepped, flash_of, nor_shape}

-- a driver before any construction
abbrev pub not_built : SpiNorFlash
not_built = flash_of (fresh_setup single_config) false 0 None

-- ---- what its calls are

abbrev pub nor_calls : Calls Setup Phase Answer Call
nor_calls =
    record {
      opening = λ setup call b d. opening_as (opening_of setup call b d);
      raised = Phase.Raised;
      done = Answer.Done;
      in_bounds = λ setup. in_bounds_of setup.device;
    }

-- every call, with the lengths of scratch, buffer and data
abbrev pub begin_of : SpiNorFlash → Call → ℕ → ℕ → ℕ → Stepped
begin_of = begins nor_shape nor_calls

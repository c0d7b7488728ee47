-- How the SPI NAND driver's calls begin (specs/Beginning.antt of spi_flash), and what stands in it before the id is known.
use Rattle.std.specs.Prelude.{ℕ, false, None}
use Rattle.spi_flash.specs.Beginning.{Calls, begins}
use Rattle.spi_nand.specs.Config.{in_bounds, single_config}
use Rattle.spi_nand.specs.declared.answer.Answer.{Answer}
use Rattle.spi_nand.specs.declared.call.Call.{Call}
use Rattle.spi_nand.specs.declared.phase.Phase.{Phase}
use Rattle.spi_nand.specs.declared.setup.Setup.{Setup}
use Rattle.nand_steps.specs.Opening.{opening_of}
pub use Rattle.nand_steps.specs.Opening.{given_at, given_geometry, fresh_setup}
use Rattle.machine.specs.Shape.{opening_as}
use Rattle.nand_driver.specs.Settle.{SpiNandFlash, Stepped, flash_of, nand_shape}

-- a driver before any construction
abbrev pub not_built : SpiNandFlash
not_built = flash_of (fresh_setup single_config) false 0 None

-- ---- what its calls are

abbrev pub nand_calls : Calls Setup Phase Answer Call
nand_calls =
    record {
      opening = λ setup call b d. opening_as (opening_of setup call b d);
      raised = Phase.Raised;
      done = Answer.Done;
      in_bounds = λ setup. in_bounds setup.geometry;
    }

-- every call, with the lengths of scratch, buffer and data
abbrev pub begin_of : SpiNandFlash → Call → ℕ → ℕ → ℕ → Stepped
begin_of = begins nand_shape nand_calls

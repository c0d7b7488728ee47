-- The NAND driver is the general driver of flash_runs.
use mathlib.Core.Path.{refl}
use Rattle.spi_flash.proofs.Faithful.{back, Faithful}
use Rattle.flash_runs.proofs.Shapes.{begins-alike, answers-alike}
use Rattle.flash_runs.proofs.Supplies.{Is}
use Rattle.nand_driver.specs.Step.{nand_next}
use Rattle.nand_driver.specs.Call.{nand_calls}
use Rattle.nand_driver.specs.Settle.{running_as, nand_shape}
use Rattle.machine.proofs.Faithful.{faithful}
use Rattle.nand_runs.specs.Run.{nand_driver}
use Rattle.nand_runs.proofs.Places.{parts}

nand-faithful : Faithful nand_shape
nand-faithful = faithful

pub nand-is : Is nand_driver parts
nand-is = record {
  count = λ flash. flash.delivered;
  running = λ flash. running_as flash.running;
  back = back nand_shape;
  whole = nand-faithful.whole;
  begins = begins-alike nand_shape nand-faithful nand_calls nand_next;
  answers = answers-alike nand_shape nand-faithful nand_calls nand_next;
  runs = λ flash. refl;
  at_rest = refl;
  not_built = refl;
  shows = λ flash buffer. refl;
}

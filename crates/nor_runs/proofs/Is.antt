-- The NOR driver is the general driver of flash_runs.
use mathlib.Core.Path.{refl}
use Rattle.spi_flash.proofs.Faithful.{back, Faithful}
use Rattle.flash_runs.proofs.Shapes.{begins-alike, answers-alike}
use Rattle.flash_runs.proofs.Supplies.{Is}
use Rattle.nor_driver.specs.Step.{nor_next}
use Rattle.nor_driver.specs.Call.{nor_calls}
use Rattle.nor_driver.specs.Settle.{running_as, nor_shape}
use Rattle.machine.proofs.Faithful.{faithful}
use Rattle.nor_runs.specs.Run.{nor_driver}
use Rattle.nor_runs.proofs.Places.{nor_parts}

nor-faithful : Faithful nor_shape
nor-faithful = faithful

pub nor-is : Is nor_driver nor_parts
nor-is = record {
  count = λ flash. flash.delivered;
  running = λ flash. running_as flash.running;
  back = back nor_shape;
  whole = nor-faithful.whole;
  begins = begins-alike nor_shape nor-faithful nor_calls nor_next;
  answers = answers-alike nor_shape nor-faithful nor_calls nor_next;
  runs = λ flash. refl;
  at_rest = refl;
  not_built = refl;
  shows = λ flash buffer. refl;
}

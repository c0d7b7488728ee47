-- The NOR driver keeps every promise.
-- Assumes nothing.
use Rattle.std.specs.Prelude.{Ok, Err}
use Rattle.qspi.specs.Frame.{Outcome}
use lib.ListN.{length}
use Rattle.flash_runs.proofs.Promises.{promises}
use Rattle.flash_runs.proofs.Supplies.{Supplies, Known}
use Rattle.nor_driver.specs.Next.{next_of}
use Rattle.spi_nor.specs.declared.phase.Phase.{Phase}
use Rattle.spi_nor.specs.declared.setup.Setup.{Setup}
use Rattle.nor_runs.specs.Bound.{delay_bound}
use Rattle.nor_runs.specs.Run.{nor_driver, NorPromises}
use Rattle.nor_runs.proofs.Places.{nor_parts, Valid, Built, Stays}
use Rattle.nor_runs.proofs.Keeps.{stays, keeps-built}
use Rattle.nor_runs.proofs.Simulation.{meaning, simulates}
use Rattle.nor_runs.proofs.Agrees.{same}
use Rattle.nor_runs.proofs.Openings.{opened, alike}
use Rattle.nor_runs.proofs.Bounds.{bounded, acts}
use Rattle.nor_runs.proofs.Reaches.{ends, never, reached}
use Rattle.nor_runs.proofs.Unread.{lent, dataless, pays}
use Rattle.nor_runs.proofs.Is.{nor-is}

stays-next : (s : Setup) (phase : Phase) (o : Outcome) → Built phase → Stays s (next_of s phase o)
unfolding next_of
stays-next s phase (Ok v) h = keeps-built (Stays s) s (stays s) phase h v
stays-next s phase (Err error) h = tt

pub supplies : Supplies nor_driver nor_parts Valid Built meaning
supplies = record {
  simulates = simulates;
  opens = opened;
  alike = alike;
  stays = stays-next;
  bounded = bounded;
  acts = acts;
  reached = λ flash call b given inside small asks. let e = same flash call b (length given) inside in rw e (reached flash call b given inside small (rw e at asks));
  ends_well = λ flash call b given inside small asks can. let e = same flash call b (length given) inside in
      let ended = ends flash call b given inside small (rw e at asks) can in (delay_bound flash call (length given), ended.0, rw e ended.1);
  never = λ flash call b d inside cannot. rw (same flash call b d inside) (never flash call b d cannot);
  lent = lent;
  dataless = dataless;
  pays = pays;
}

abbrev pub known : Known nor_driver
known = record { P = Phase; parts = nor_parts; Valid = Valid; Built = Built; meaning = meaning; supplies = supplies; is = nor-is }

pub nor-promises : NorPromises
nor-promises = promises nor_driver nor_parts Valid Built meaning supplies nor-is

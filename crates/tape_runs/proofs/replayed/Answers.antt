use Rattle.tape_runs.proofs.EveryPart.{replayed}
use Rattle.tape_runs.proofs.replayed.Goals as goal

pub returns : goal.returns
returns g c = replayed g.D.Part.calls g.D.Part.next

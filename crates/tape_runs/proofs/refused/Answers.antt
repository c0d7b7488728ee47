use Rattle.tape_runs.proofs.EveryPart.{refused}
use Rattle.tape_runs.proofs.refused.Goals as goal

pub returns : goal.returns
returns g c = refused g.D.Part.calls g.D.Part.next

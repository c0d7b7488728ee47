use Rattle.nor_runs.proofs.NothingWraps.{nothing-wraps}
use Rattle.nor_runs.proofs.nor_never_wraps.Goals as goal

pub returns : goal.returns
returns c = nothing-wraps

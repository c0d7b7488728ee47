use Rattle.nor_runs.proofs.RustLoops.{nor-loops}
use Rattle.nor_runs.proofs.nor_loops_turn_as_the_rusts.Goals as goal

pub returns : goal.returns
returns c = nor-loops

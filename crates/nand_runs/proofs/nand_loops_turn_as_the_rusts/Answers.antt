use Rattle.nand_runs.proofs.RustLoops.{nand-loops}
use Rattle.nand_runs.proofs.nand_loops_turn_as_the_rusts.Goals as goal

pub returns : goal.returns
returns c = nand-loops

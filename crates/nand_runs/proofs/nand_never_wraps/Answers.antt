use Rattle.nand_runs.proofs.NothingWraps.{nothing-wraps}
use Rattle.nand_runs.proofs.nand_never_wraps.Goals as goal

pub returns : goal.returns
returns c = nothing-wraps

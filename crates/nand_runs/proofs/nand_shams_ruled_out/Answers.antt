use Rattle.nand_runs.proofs.Shams.{shams-ruled-out}
use Rattle.nand_runs.proofs.nand_shams_ruled_out.Goals as goal

pub returns : goal.returns
returns c = shams-ruled-out

use Rattle.nand_runs.proofs.ShamDrivers.{nand-shams-fail}
use Rattle.nand_runs.proofs.nand_shams_fail.Goals as goal

pub returns : goal.returns
returns c = nand-shams-fail

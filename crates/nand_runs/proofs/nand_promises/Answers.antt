use Rattle.nand_runs.proofs.Promises.{nand-promises}
use Rattle.nand_runs.proofs.nand_promises.Goals as goal

pub returns : goal.returns
returns c = nand-promises

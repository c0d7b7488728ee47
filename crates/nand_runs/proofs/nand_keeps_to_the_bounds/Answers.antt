use Rattle.nand_runs.proofs.Built.{nand-built}
use Rattle.nand_runs.proofs.UsedOnceBuilt.{nand-used}
use Rattle.nand_runs.proofs.nand_keeps_to_the_bounds.Goals as goal

pub returns : goal.returns
returns c = record { general = nand-built; witness = nand-used }

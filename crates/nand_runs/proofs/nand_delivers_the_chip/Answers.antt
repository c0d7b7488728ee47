use Rattle.nand_runs.proofs.Chip.{delivers-the-chip}
use Rattle.nand_runs.proofs.nand_delivers_the_chip.Goals as goal

pub returns : goal.returns
returns c = delivers-the-chip

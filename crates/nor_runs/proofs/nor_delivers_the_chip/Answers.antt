use Rattle.nor_runs.proofs.Chip.{nor-delivers-the-chip}
use Rattle.nor_runs.proofs.nor_delivers_the_chip.Goals as goal

pub returns : goal.returns
returns c = nor-delivers-the-chip

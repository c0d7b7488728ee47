use Rattle.nor_runs.proofs.Built.{nor-built}
use Rattle.nor_runs.proofs.UsedOnceBuilt.{nor-used}
use Rattle.nor_runs.proofs.nor_keeps_to_the_bounds.Goals as goal

pub returns : goal.returns
returns c = record { general = nor-built; witness = nor-used }

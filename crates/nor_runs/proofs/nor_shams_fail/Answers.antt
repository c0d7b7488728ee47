use Rattle.nor_runs.proofs.Shams.{nor-shams-fail}
use Rattle.nor_runs.proofs.nor_shams_fail.Goals as goal

pub returns : goal.returns
returns c = nor-shams-fail

use Rattle.replay_runs.proofs.Shams.{replay-shams-fail}
use Rattle.replay_runs.proofs.replay_shams_fail.Goals as goal

pub returns : goal.returns
returns c = replay-shams-fail

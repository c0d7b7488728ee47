use Rattle.replay_runs.proofs.Statements.{replayed}
use Rattle.replay_runs.proofs.replayed.Goals as goal

pub returns : goal.returns
returns c = replayed

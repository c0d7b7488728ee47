use Rattle.replay_runs.proofs.Statements.{refused}
use Rattle.replay_runs.proofs.refused.Goals as goal

pub returns : goal.returns
returns c = refused

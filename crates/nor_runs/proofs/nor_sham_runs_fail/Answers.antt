use Rattle.nor_runs.proofs.ShamRuns.{sham-runs-fail}
use Rattle.nor_runs.proofs.nor_sham_runs_fail.Goals as goal

pub returns : goal.returns
returns c = sham-runs-fail

use Rattle.nor_runs.proofs.Promises.{nor-promises}
use Rattle.nor_runs.proofs.nor_promises.Goals as goal

pub returns : goal.returns
returns c = nor-promises

use Rattle.qspi.proofs.Sent.{scratch-kept}
use Rattle.qspi.proofs.scratch_kept.Goals as goal

pub returns : goal.returns
returns c = scratch-kept

use Rattle.qspi.proofs.Sent.{shown-bytes}
use Rattle.qspi.proofs.shown_bytes.Goals as goal

pub returns : goal.returns
returns c = shown-bytes

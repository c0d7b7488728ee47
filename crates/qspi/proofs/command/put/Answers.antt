use Rattle.std.proofs.Common.{zero-add, arith}
use Rattle.std.proofs.lemmas.List.Edits.{sets-eq}
use Rattle.qspi.proofs.command.put.Goals as goal

pub returns : goal.returns
returns c = rw (sets-eq c.args.bytes.now c.args.scratch.now 0 (omega arith), zero-add, c.copy_from_slice.ensures.after)

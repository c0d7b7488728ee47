use Rattle.std.proofs.Common.{take}
use Rattle.lines.specs.Writing.{Appends}
use Rattle.lines.proofs.text.Writer.put_all.Given as goal

abbrev pub invariant-loop-b : goal.invariant-loop-b
invariant-loop-b l = Appends (take l.b-index l.s) l.initial.writer l.writer

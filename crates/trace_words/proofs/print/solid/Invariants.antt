use Rattle.std.proofs.Common.{take}
use Rattle.lines.specs.Writing.{Appends}
use Rattle.trace_words.specs.Print.{solid_of}
use Rattle.trace_words.proofs.print.solid.Given as goal

abbrev pub invariant-loop-b : goal.invariant-loop-b
invariant-loop-b l = Appends (solid_of (take l.b-index l.s)) l.initial.writer l.writer

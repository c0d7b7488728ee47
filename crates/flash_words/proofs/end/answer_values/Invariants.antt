use Rattle.std.proofs.Common.{take}
use Rattle.lines.specs.Writing.{Appends}
use Rattle.flash_calls.specs.Answer.{answer_values}
use Rattle.trace_words.specs.Print.{fields_of}
use Rattle.flash_words.proofs.end.answer_values.Given as goal

abbrev pub invariant-loop-i : goal.invariant-loop-i
invariant-loop-i l = Appends (fields_of (take l.i (answer_values l.answer))) l.initial.out l.out

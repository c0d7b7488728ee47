use Rattle.std.proofs.Common.{◌≡◌}
use Rattle.std.proofs.Math.Seq.{paste}
use Rattle.case_text.specs.Number.{bytes_of}
use Rattle.case_text.proofs.word.write_pairs.Given as goal

abbrev pub invariant-loop-i : goal.invariant-loop-i
invariant-loop-i l = l.room ≡ paste l.initial.room 0 (bytes_of l.s) l.i

use Rattle.lines.specs.Text.{two_digits}
use Rattle.lines.proofs.Appending.{both_appended, one_more}
use Rattle.trace_words.proofs.print.solid.Goals as goal

pub loop-b-preserved : goal.loop-b-preserved
loop-b-preserved c = both_appended c.loop-b.invariant c.byte.ensures (one_more two_digits _ _ c.loop-b-test.true)

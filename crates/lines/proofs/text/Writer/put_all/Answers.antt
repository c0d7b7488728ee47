use Rattle.std.proofs.lemmas.List.{take_more}
use Rattle.lines.proofs.Appending.{both_appended}
use Rattle.lines.proofs.text.Writer.put_all.Goals as goal

pub loop-b-preserved : goal.loop-b-preserved
loop-b-preserved c = both_appended c.loop-b.invariant c.put.ensures (take_more _ _ 0 c.loop-b-test.true)

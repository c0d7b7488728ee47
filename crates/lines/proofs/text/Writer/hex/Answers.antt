use Rattle.std.proofs.Common.{refl}
use Rattle.lines.specs.Text.{hex_byte}
use Rattle.lines.proofs.Appending.{both_appended, one_more}
use Rattle.lines.proofs.text.Writer.hex.Goals as goal

pub loop-b-preserved : goal.loop-b-preserved
loop-b-preserved c =
    both_appended c.loop-b.invariant (both_appended c.put.ensures c.byte.ensures refl) (one_more hex_byte _ _ c.loop-b-test.true)

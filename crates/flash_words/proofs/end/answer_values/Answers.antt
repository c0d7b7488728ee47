use Rattle.std.proofs.Common.{refl, ◌∙◌, arith}
use Rattle.std.proofs.Math.Seq.{take_all}
use Rattle.lines.specs.Line.{field_of}
use Rattle.lines.specs.Text.{appended}
use Rattle.lines.proofs.Appending.{both_appended, one_more}
use Rattle.flash_calls.specs.Answer.{answer_values}
use Rattle.trace_words.proofs.Values.{no_values, some_values}
use Rattle.flash_words.proofs.end.answer_values.Goals as goal

pub returns-then-n-eq0 : goal.returns-then-n-eq0
unfolding appended
returns-then-n-eq0 c = rw (no_values (answer_values c.args.answer) (omega (arith, c.value_count-n.ensures))) (record { text = refl; same = refl })

pub loop-i-init : goal.loop-i-init
unfolding appended
loop-i-init c = record { text = refl; same = refl }

pub loop-i-preserved : goal.loop-i-preserved
loop-i-preserved c =
    both_appended c.loop-i.invariant c.field.ensures
    (rw c.value.ensures (one_more field_of (answer_values c.args.answer) c.loop-i.i (omega (arith, c.value_count-n.ensures))))

pub returns : goal.returns
returns c =
    let vs = answer_values c.args.answer in
    let fields = rw (take_all c.loop-i.i vs (omega (arith, c.value_count-n.ensures))) at c.loop-i.invariant in
    both_appended (both_appended c.put.ensures fields refl) c.put-2.ensures (some_values vs (λ e. c.if-n-eq0.false (c.value_count-n.ensures ∙ e)))

use Rattle.std.proofs.Common.{sym, ap, ◌∙◌, arith}
use Rattle.tape.specs.Reader.{Read}
use Rattle.tape.proofs.Walk.{end_step, end-here, spent-stays}
use Rattle.tape.proofs.judge.end_from.Goals as goal

pub loop-preserved : goal.loop-preserved
loop-preserved c =
    let step = c.next.ensures.steps in
    let here = c.loop in
    let at = ap (λ (x : Read). x.reader.at) step in
    let same = ap (λ (x : Read). x.reader.tape.now) step in
    (rw (at, here.invariant.1) (end_step c.args.tape.now here.reader.at ∙ here.invariant.0), same ∙ here.invariant.1)

pub returns : goal.returns
returns c =
    let tape = c.args.tape.now in
    let here = c.loop in
    let step = rw here.invariant.1 at c.next.ensures.steps in
    let at = ap (λ (x : Read). x.reader.at) step in
    let none = ap (λ (x : Read). x.given) step in
    let stays = spent-stays tape here.reader.at (sym none ∙ c.in_default.is) in
    at ∙ stays ∙ sym (end-here tape here.reader.at (omega arith)) ∙ here.invariant.0

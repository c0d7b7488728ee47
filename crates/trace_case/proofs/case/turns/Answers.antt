use Rattle.std.proofs.Common.{refl, rules, sym, ◌∙◌}
use native.Mathlib.Nat.{sub-zero}
use Rattle.trace_case.proofs.Turns.{turn-taken, turns-over, turns-spent, whole-case}
use Rattle.trace_case.proofs.case.turns.Goals as goal

pub loop-init : goal.loop-init
loop-init c = (rw sub-zero (whole-case _ _ _ _ _ _ _ c.start-trace.ensures c.budget-most.ensures), refl)

pub returns-then-is_over : goal.returns-then-is_over
returns-then-is_over c =
    let e = turns-over _ _ _ (sym c.is_over.ensures ∙ c.if-is_over.true) ∙ c.loop.invariant.0 in
    rw (← e) (search rules)

pub loop-preserved : goal.loop-preserved
loop-preserved c = (
  rw c.advance-trace.ensures.traced
      (turn-taken _ _ _ _ c.loop-test.true (sym c.is_over.ensures ∙ c.if-is_over.false) ∙ c.loop.invariant.0),
  c.advance-trace.ensures.same ∙ c.loop.invariant.1,
)

pub returns : goal.returns
returns c =
    let e = turns-spent _ _ _ _ c.loop-test.false ∙ c.loop.invariant.0 in
    rw (← e) (search rules)

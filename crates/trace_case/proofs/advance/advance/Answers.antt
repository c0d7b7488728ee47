use Rattle.trace_case.proofs.Turns.{one-turn}
use Rattle.trace_case.proofs.advance.advance.Goals as goal

pub returns-clause-traced : goal.returns-clause-traced
returns-clause-traced c =
    let args = c.args in
    one-turn _ args.trace _ _ _ _ c.turn-turn.result _ _ _ c.asked.result _ _ _ c.turn-turn.ensures.taken c.asked.ensures c.traced_by.ensures

use Rattle.std.proofs.Common.{ap}
use Rattle.trace_case.specs.Lent.{answered_over, none_over, kept_over}
use Rattle.trace_case.proofs.lent.answered.Goals as goal

pub returns-in-Nothing : goal.returns-in-Nothing
unfolding answered_over none_over
returns-in-Nothing c =
    rw c.in-Nothing.is (ap (kept_over _) c.with_none.ensures)

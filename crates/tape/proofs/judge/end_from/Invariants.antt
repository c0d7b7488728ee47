use Rattle.std.proofs.Common.{◌≡◌}
use Rattle.tape.specs.Judge.{end_from}
use Rattle.tape.proofs.judge.end_from.Given as goal

abbrev pub invariant-loop : goal.invariant-loop
invariant-loop l = (end_from l.tape l.reader.at ≡ end_from l.tape l.from) × (l.reader.tape.now ≡ l.tape)

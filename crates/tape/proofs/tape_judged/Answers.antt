use Rattle.tape.proofs.Statements.{tape-judged}
use Rattle.tape.proofs.tape_judged.Goals as goal

pub returns : goal.returns
returns c = tape-judged

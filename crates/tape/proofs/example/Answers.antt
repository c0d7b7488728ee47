use Rattle.tape.proofs.Statements.{example}
use Rattle.tape.proofs.example.Goals as goal

pub returns : goal.returns
returns c = example

use Rattle.tape.proofs.Statements.{reader-walks}
use Rattle.tape.proofs.reader_walks.Goals as goal

pub returns : goal.returns
returns c = reader-walks

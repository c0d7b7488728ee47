-- What follows a transfer, and what a call is (specs/Then.antt of machine).
use Rattle.machine.specs.Then as Machine
use Rattle.machine.specs.declared.then.Opening as Declared
use Rattle.spi_nor.specs.declared.answer.Answer.{Answer}
use Rattle.spi_nor.specs.declared.phase.Phase.{Phase}
use Rattle.spi_nor.specs.declared.setup.Setup.{Setup}

abbrev pub Then : Type 0
Then = Machine.Then Setup Phase Answer

abbrev pub Opening : Type 0
Opening = Declared.Opening Setup Phase Answer

-- Reads of registers and ids.
use Rattle.std.specs.Prelude.{ℕ}
use Rattle.qspi.specs.declared.command.Command.{Command}
use Rattle.qspi.specs.declared.transfer.Sink.{Sink}
use Rattle.qspi.specs.declared.transfer.Body.{Body}
use Rattle.qspi.specs.declared.transfer.Transfer.{Transfer}

-- a register or an id: its bytes are a number
abbrev pub number_transfer : Command → ℕ → Transfer
number_transfer command n = Transfer.Framed command (Body.Read n Sink.Number)

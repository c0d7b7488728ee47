-- One exchange with the chip.
use Rattle.qspi.specs.declared.command.Command.{Command}
use Rattle.qspi.specs.declared.transfer.Body.{Body}
use Rattle.qspi.specs.declared.transfer.Transfer.{Transfer}

-- the Rust's `command`: select low, the command's bytes, select high
abbrev pub command_only : Command → Transfer
command_only command = Transfer.Framed command Body.None

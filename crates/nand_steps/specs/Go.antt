-- The steps that calls are made of (nand/driver.rs).
use Rattle.std.specs.Prelude.{Bool, ℕ}
use Rattle.qspi.specs.Transfer.{command_only}
use Rattle.qspi.specs.declared.command.Command.{Command}
use Rattle.qspi.specs.declared.transfer.Body.{Body}
use Rattle.qspi.specs.declared.transfer.Transfer.{Transfer}
use Rattle.spi_nand.specs.Command.{reset_command, write_enable_command}
use Rattle.spi_nand.specs.Opcode.{REG-STATUS}
use Rattle.spi_nand.specs.declared.answer.Answer.{Answer}
use Rattle.spi_nand.specs.Transfer.{register_transfer, id_transfer}
use Rattle.spi_nand.specs.declared.phase.Asked.{Asked}
use Rattle.spi_nand.specs.declared.phase.EnableFor.{EnableFor}
use Rattle.spi_nand.specs.declared.phase.EnableStep.{EnableStep}
use Rattle.spi_nand.specs.declared.phase.Phase.{Phase}
use Rattle.spi_nand.specs.declared.phase.ResetFor.{ResetFor}
use Rattle.spi_nand.specs.declared.phase.Task.{Task}
use Rattle.spi_nand.specs.declared.phase.WaitStep.{WaitStep}
use Rattle.spi_nand.specs.declared.setup.Setup.{Setup}
use Rattle.nand_steps.specs.Then.{Then}
pub use Rattle.machine.specs.Then.{go_to, end_with}

-- `Ok(())`
abbrev pub done : Setup → Then
done setup = end_with setup Answer.Done

-- read_register
abbrev pub ask : Setup → ℕ → Asked → Then
ask setup register asked = go_to setup (register_transfer register) (Phase.Asking asked)

-- jedec_id
abbrev pub ask_id : Setup → Bool → Then
ask_id setup bring_up = go_to setup id_transfer (Phase.Asking (Asked.Id bring_up))

-- read_status, of a wait or of write_enable
abbrev pub look : Setup → Phase → Then
look setup phase = go_to setup (register_transfer REG-STATUS) phase

-- the status behind a wait, which has the verdict of a load, a program or an erase (docs/SPECIFICATION.md, "Registers")
abbrev pub verdict : Setup → Task → Then
verdict setup task = look setup (Phase.Waiting task WaitStep.Verdict)

-- a command that is waited for
abbrev pub send : Setup → Command → Task → Then
send setup command task = go_to setup (Transfer.Framed command Body.None) (Phase.Waiting task WaitStep.Command)

-- reset
abbrev pub reset : Setup → ResetFor → Then
reset setup why = send setup reset_command (Task.Reset why)

-- write_enable
abbrev pub enable : Setup → EnableFor → Then
enable setup why = go_to setup (command_only write_enable_command) (Phase.Enabling why EnableStep.Command)

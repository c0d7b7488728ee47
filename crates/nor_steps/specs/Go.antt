-- The steps that calls are made of (nor/driver.rs).
use Rattle.std.specs.Prelude.{Bool, Err}
use Rattle.qspi.specs.Transfer.{command_only}
use Rattle.qspi.specs.Choice.{pick}
use Rattle.spi_flash.specs.declared.error.FlashError.{FlashError}
use Rattle.spi_nor.specs.Command.{write_enable_command, read_status1_command, read_status2_command, read_id_command, read_unique_id_command}
use Rattle.spi_flash.specs.Number.{number_transfer}
use Rattle.spi_nor.specs.declared.phase.Phase.{Phase}
use Rattle.spi_nor.specs.declared.phase.Task.{Task}
use Rattle.spi_nor.specs.declared.phase.WriteStep.{WriteStep}
use Rattle.spi_nor.specs.declared.answer.Answer.{Answer}
use Rattle.spi_nor.specs.declared.setup.Setup.{Setup}
use Rattle.nor_steps.specs.Then.{Then}
pub use Rattle.machine.specs.Then.{go_to, end_with}

-- read_status1
abbrev pub read1_then : Setup → Phase → Then
read1_then setup phase = go_to setup (number_transfer read_status1_command 1) phase

-- read_status2
abbrev pub read2_then : Setup → Phase → Then
read2_then setup phase = go_to setup (number_transfer read_status2_command 1) phase

-- jedec_id
abbrev pub read_id_then : Setup → Phase → Then
read_id_then setup phase = go_to setup (number_transfer read_id_command 3) phase

-- unique_id
abbrev pub read_unique_id_then : Setup → Phase → Then
read_unique_id_then setup phase = go_to setup (number_transfer read_unique_id_command 8) phase

-- write_enable: its command
abbrev pub enabled_then : Setup → Task → Then
enabled_then setup task = go_to setup (command_only write_enable_command) (Phase.Writing task WriteStep.Enable)

-- enable_quad: `if .. { return Ok(()); }`
abbrev pub done_if : Bool → Setup → Then → Then
done_if test setup other = pick test (end_with setup Answer.Done) other

-- enable_quad, disable_quad: the bit read back, or `Err(FlashError::NotSupported)`
abbrev pub supported_if : Bool → Setup → Then
supported_if test setup = pick test (end_with setup Answer.Done) (Err FlashError.NotSupported)

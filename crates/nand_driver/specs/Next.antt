-- What follows each transfer of a call: nand/driver.rs, cut where it uses the bus.
use Rattle.std.specs.Prelude.{Bool, true, false, ℕ, Ok, Err}
use Rattle.qspi.specs.Choice.{pick}
use Rattle.qspi.specs.declared.transfer.Payload.{Payload}
use Rattle.qspi.specs.Bytes.{byte_of}
use Rattle.qspi.specs.Frame.{Outcome}
use Rattle.spi_flash.specs.declared.error.FlashError.{FlashError}
use Rattle.spi_nand.specs.Command.{set_feature_command, block_erase_command}
use Rattle.spi_nand.specs.Config.{first_page_of}
use Rattle.spi_nand.specs.Status.{status_of, write_enabled_of, configuration_of, protection_of}
use Rattle.spi_nand.specs.declared.config.NandJedecId.{NandJedecId}
use Rattle.spi_nand.specs.declared.status.Status.{Status}
use Rattle.spi_nand.specs.declared.answer.Answer.{Answer}
use Rattle.spi_nand.specs.BringUp.{in_bring_up}
use Rattle.spi_nand.specs.declared.phase.Asked.{Asked}
use Rattle.spi_nand.specs.declared.phase.EnableFor.{EnableFor}
use Rattle.spi_nand.specs.declared.phase.EnableStep.{EnableStep}
use Rattle.spi_nand.specs.declared.phase.EraseFor.{EraseFor}
use Rattle.spi_nand.specs.declared.phase.Phase.{Phase}
use Rattle.spi_nand.specs.declared.phase.ProgramFor.{ProgramFor}
use Rattle.spi_nand.specs.declared.phase.RegisterFor.{RegisterFor}
use Rattle.spi_nand.specs.declared.phase.ResetFor.{ResetFor}
use Rattle.spi_nand.specs.declared.phase.Task.{Task}
use Rattle.spi_nand.specs.declared.setup.Setup.{Setup}
use Rattle.nand_steps.specs.Block.{marker_then, fill_from, filled_then, mark_then}
use Rattle.nand_steps.specs.Cache.{compared_then, load_program_then}
use Rattle.nand_steps.specs.Go.{end_with, done, look, send, reset}
use Rattle.nand_steps.specs.Page.{program_then}
use Rattle.nand_steps.specs.Read.{piece_read_then}
use Rattle.nand_steps.specs.Register.{id_of, identified_then, configure_then, check_configuration, unprotect_then, brought_up, disable_quad, quad_disabled}
use Rattle.nand_steps.specs.Then.{Then}
use Rattle.nand_driver.specs.Wait.{waiting_then}

-- ---- write_enable, and what it is for

-- write_register: its command
abbrev pub write_then : Setup → ℕ → ℕ → RegisterFor → Then
write_then setup register value why = send setup (set_feature_command register value) (Task.Register why)

-- write_page: `self.load_program_data(0, data)`
abbrev pub load_page_then : Setup → ℕ → Then
load_page_then setup page = load_program_then setup 0 (Payload.Data 0 setup.geometry.page_size) (Phase.LoadingPage page)

-- erase_block: its command
abbrev pub start_erase : Setup → ℕ → EraseFor → Then
start_erase setup block why = send setup (block_erase_command (first_page_of setup.geometry block)) (Task.Erase why)

-- what stands behind `self.write_enable()?` of each
unfoldable pub enabled_then : Setup → EnableFor → Then
enabled_then setup EnableFor.Call = done setup
enabled_then setup (EnableFor.Register register value why) = write_then setup register value why
enabled_then setup (EnableFor.WritePage page) = load_page_then setup page
enabled_then setup (EnableFor.Erase block why) = start_erase setup block why
enabled_then setup (EnableFor.MarkBad block) = fill_from setup block 0

-- write_enable: `if !self.read_status()?.write_enabled()`
unfoldable pub latched_then : Setup → EnableFor → Status → Then
latched_then setup why status = pick (write_enabled_of status) (enabled_then setup why) (Err FlashError.WriteEnableFailed)

-- what follows each step of write_enable
unfoldable pub enabling_then : Setup → EnableFor → EnableStep → Status → Then
enabling_then setup why EnableStep.Command status = look setup (Phase.Enabling why EnableStep.Latch)
enabling_then setup why EnableStep.Latch status = latched_then setup why status

-- ---- what was asked

-- jedec_id, reset_and_identify; bring_up
unfoldable pub identify_then : Setup → NandJedecId → Bool → Then
identify_then setup id false = end_with setup (Answer.Id id)
identify_then setup id true = identified_then setup id

-- what stands behind the read of a register, or of the id
unfoldable pub answered_then : Setup → Asked → ℕ → Then
answered_then setup Asked.Status v = end_with setup (Answer.Status (status_of (byte_of v)))
answered_then setup Asked.Configuration v = end_with setup (Answer.Configuration (configuration_of (byte_of v)))
answered_then setup Asked.Protection v = end_with setup (Answer.Protection (protection_of (byte_of v)))
answered_then setup (Asked.Id bring_up) v = identify_then setup (id_of v) bring_up
answered_then setup (Asked.Configure bring_up) v = configure_then setup (configuration_of (byte_of v)) bring_up
answered_then setup (Asked.Configured before bring_up) v = check_configuration setup before bring_up (configuration_of (byte_of v))
answered_then setup (Asked.Unprotect bring_up) v = unprotect_then setup (protection_of (byte_of v)) bring_up
answered_then setup Asked.BroughtUp v = brought_up setup (configuration_of (byte_of v))
answered_then setup Asked.DisableQuad v = disable_quad setup (configuration_of (byte_of v))
answered_then setup Asked.QuadDisabled v = quad_disabled setup (configuration_of (byte_of v))

-- ---- what follows a transfer that gave v

unfoldable pub after_phase : Setup → Phase → ℕ → Then
after_phase setup Phase.Raised v = reset setup (ResetFor.Identify in_bring_up)
after_phase setup (Phase.Asking asked) v = answered_then setup asked v
after_phase setup (Phase.Enabling why at) v = enabling_then setup why at (status_of (byte_of v))
after_phase setup (Phase.Waiting task at) v = waiting_then setup task at (status_of (byte_of v))
after_phase setup Phase.ReadingCache v = done setup
after_phase setup Phase.Comparing v = compared_then setup v
after_phase setup (Phase.ReadingMarker why) v = marker_then setup why (byte_of v)
after_phase setup (Phase.Reading s) v = piece_read_then setup s.offset s.len s.done
after_phase setup Phase.LoadingData v = done setup
after_phase setup (Phase.LoadingPage page) v = program_then setup page (ProgramFor.WritePage page)
after_phase setup (Phase.LoadingFiller block column) v = filled_then setup block column
after_phase setup (Phase.LoadingMarker block) v = mark_then setup block

-- a bus error ends the call: `map_err(FlashError::Spi)?`
unfoldable pub next_of : Setup → Phase → Outcome → Then
next_of setup phase (Ok v) = after_phase setup phase v
next_of setup phase (Err error) = Err (FlashError.Spi error.0)

-- Pages (nand/driver.rs: page_read, is_bad_block, program_execute, read_page, write_page), cut where they use the bus.
use Rattle.std.specs.Prelude.{ℕ, ltb, eqb, Err}
use Rattle.qspi.specs.Choice.{pick}
use Rattle.qspi.specs.declared.transfer.Sink.{Sink}
use Rattle.spi_flash.specs.declared.error.FlashError.{FlashError}
use Rattle.spi_nand.specs.Command.{page_read_command, program_execute_command}
use Rattle.spi_nand.specs.Config.{page_count_of, first_page_of}
use Rattle.spi_nand.specs.Status.{program_failed_of, verdict_of}
use Rattle.spi_nand.specs.declared.status.Status.{Status}
use Rattle.spi_nand.specs.Verdict.{asks_verdict, uncorrectable}
use Rattle.spi_nand.specs.declared.phase.EnableFor.{EnableFor}
use Rattle.spi_nand.specs.declared.phase.LoadFor.{LoadFor}
use Rattle.spi_nand.specs.declared.phase.MarkerFor.{MarkerFor}
use Rattle.spi_nand.specs.declared.phase.Phase.{Phase}
use Rattle.spi_nand.specs.declared.phase.ProgramFor.{ProgramFor}
use Rattle.spi_nand.specs.declared.phase.Task.{Task}
use Rattle.spi_nand.specs.declared.setup.Setup.{Setup}
use Rattle.nand_steps.specs.Cache.{within, whole_then, read_marker_then, piece_then}
use Rattle.nand_steps.specs.Go.{done, verdict, send, enable}
use Rattle.nand_steps.specs.Then.{Then}

-- ---- loads

-- load_page
abbrev pub load_then : Setup → ℕ → LoadFor → Then
load_then setup page why = send setup (page_read_command page) (Task.Load why)

-- page_read: check_page, then load_page
unfoldable pub page_read_then : Setup → ℕ → LoadFor → Then
page_read_then setup page why = within (ltb page (page_count_of setup.geometry)) (load_then setup page why)

-- the page is loaded ahead of the test of its column, which fails where there are no spare bytes (docs/SPECIFICATION.md, "Refusals and numbers")
unfoldable pub is_bad_then : Setup → ℕ → MarkerFor → Then
is_bad_then setup block why =
    within (ltb block setup.geometry.block_count) (load_then setup (first_page_of setup.geometry block) (LoadFor.Marker why))

-- what is done with a page that is taken
unfoldable pub accepted_then : Setup → LoadFor → Then
accepted_then setup LoadFor.PageRead = done setup
accepted_then setup LoadFor.ReadPage = whole_then setup (Sink.Buffer 0) Phase.ReadingCache
accepted_then setup LoadFor.Verify = whole_then setup (Sink.Compare 0) Phase.Comparing
accepted_then setup (LoadFor.Marker why) = read_marker_then setup why
accepted_then setup (LoadFor.Read s) = piece_then setup s.offset s.len s.done

-- a load is judged by the status behind its wait (docs/SPECIFICATION.md, "Registers")
unfoldable pub loaded_then : Setup → LoadFor → Then
loaded_then setup why = pick (asks_verdict why) (verdict setup (Task.Load why)) (accepted_then setup why)

-- `if self.read_status()?.ecc_verdict() == EccVerdict::Uncorrectable`
unfoldable pub judged_then : Setup → LoadFor → Status → Then
judged_then setup why status = pick (uncorrectable (verdict_of status)) (Err FlashError.UncorrectableEcc) (accepted_then setup why)

-- ---- programs

-- program_execute: check_page, then the command
unfoldable pub program_then : Setup → ℕ → ProgramFor → Then
program_then setup page why = within (ltb page (page_count_of setup.geometry)) (send setup (program_execute_command page) (Task.Program why))

-- `Ok(())`; write_page reads back, mark_bad_block looks at its marker
abbrev pub after_program : Setup → ProgramFor → Then
after_program setup ProgramFor.Call = done setup
after_program setup (ProgramFor.WritePage page) = page_read_then setup page LoadFor.Verify
after_program setup (ProgramFor.MarkBad block) = is_bad_then setup block MarkerFor.Confirm

-- `if self.read_status()?.program_failed()`
unfoldable pub programmed_then : Setup → ProgramFor → Status → Then
programmed_then setup why status = pick (program_failed_of status) (Err FlashError.ProgramFailed) (after_program setup why)

-- ---- whole pages: the length is tested ahead of the page

unfoldable pub read_page_then : Setup → ℕ → ℕ → Then
read_page_then setup page n =
    pick (eqb n setup.geometry.page_size) (page_read_then setup page LoadFor.ReadPage) (Err FlashError.InvalidLength)

unfoldable pub write_page_then : Setup → ℕ → ℕ → Then
write_page_then setup page n =
    pick (eqb n setup.geometry.page_size)
    (within (ltb page (page_count_of setup.geometry)) (enable setup (EnableFor.WritePage page)))
    (Err FlashError.InvalidLength)

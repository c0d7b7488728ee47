-- Blocks (nand/driver.rs: erase_block, is_bad_block, mark_bad_block), cut where they use the bus.
use Rattle.std.specs.Prelude.{ℕ, ◌+◌, Bool, not, ltb, eqb, Err}
use Rattle.qspi.specs.Choice.{pick}
use Rattle.qspi.specs.declared.transfer.Payload.{Payload}
use Rattle.spi_flash.specs.declared.error.FlashError.{FlashError}
use Rattle.spi_nand.specs.Config.{first_page_of}
use Rattle.spi_nand.specs.Status.{erase_failed_of}
use Rattle.spi_nand.specs.declared.status.Status.{Status}
use Rattle.spi_nand.specs.declared.answer.Answer.{Answer}
use Rattle.spi_nand.specs.Transfer.{filler_of}
use Rattle.spi_nand.specs.declared.phase.EnableFor.{EnableFor}
use Rattle.spi_nand.specs.declared.phase.EraseFor.{EraseFor}
use Rattle.spi_nand.specs.declared.phase.MarkerFor.{MarkerFor}
use Rattle.spi_nand.specs.declared.phase.Phase.{Phase}
use Rattle.spi_nand.specs.declared.phase.ProgramFor.{ProgramFor}
use Rattle.spi_nand.specs.declared.setup.Setup.{Setup}
use Rattle.nand_steps.specs.Cache.{within, load_program_then}
use Rattle.nand_steps.specs.Go.{end_with, done, enable}
use Rattle.nand_steps.specs.Page.{program_then}
use Rattle.nand_steps.specs.Then.{Then}

-- ---- erase_block

-- the block's number, then write_enable
unfoldable pub erase_then : Setup → ℕ → EraseFor → Then
erase_then setup block why = within (ltb block setup.geometry.block_count) (enable setup (EnableFor.Erase block why))

-- `Ok(())`; mark_bad_block goes on with write_enable
abbrev pub after_erase : Setup → EraseFor → Then
after_erase setup EraseFor.Call = done setup
after_erase setup (EraseFor.MarkBad block) = enable setup (EnableFor.MarkBad block)

-- `if self.read_status()?.erase_failed()`
unfoldable pub erased_then : Setup → EraseFor → Status → Then
erased_then setup why status = pick (erase_failed_of status) (Err FlashError.EraseFailed) (after_erase setup why)

-- ---- the marker

-- is_bad_block: `marker[0] != 0xFF`
abbrev pub GOOD-MARKER : ℕ
GOOD-MARKER = 0xFF

abbrev pub is_bad : ℕ → Bool
is_bad marker = not (eqb marker GOOD-MARKER)

-- mark_bad_block: `if self.is_bad_block(block)? { return Ok(()) }`
abbrev pub checked_then : Setup → ℕ → Bool → Then
checked_then setup block bad = pick bad (done setup) (erase_then setup block (EraseFor.MarkBad block))

-- mark_bad_block: `if !self.is_bad_block(block)?`
abbrev pub confirmed_then : Setup → Bool → Then
confirmed_then setup bad = pick bad (done setup) (Err FlashError.VerifyFailed)

unfoldable pub marker_then : Setup → MarkerFor → ℕ → Then
marker_then setup MarkerFor.Call marker = end_with setup (Answer.Flag (is_bad marker))
marker_then setup (MarkerFor.Check block) marker = checked_then setup block (is_bad marker)
marker_then setup MarkerFor.Confirm marker = confirmed_then setup (is_bad marker)

-- ---- mark_bad_block, behind its second write_enable

-- `while column < page_size`: filler; then the marker, in the first spare byte
unfoldable pub fill_from : Setup → ℕ → ℕ → Then
fill_from setup block column =
    pick (ltb column setup.geometry.page_size)
    (load_program_then setup column (Payload.Filler (filler_of setup.geometry column)) (Phase.LoadingFiller block column))
    (load_program_then setup setup.geometry.page_size Payload.Marker (Phase.LoadingMarker block))

-- `column += step`
abbrev pub filled_then : Setup → ℕ → ℕ → Then
filled_then setup block column = fill_from setup block (column + filler_of setup.geometry column)

-- `self.program_execute(block * self.geometry.pages_per_block)`
abbrev pub mark_then : Setup → ℕ → Then
mark_then setup block = program_then setup (first_page_of setup.geometry block) (ProgramFor.MarkBad block)

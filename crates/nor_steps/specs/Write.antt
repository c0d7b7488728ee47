-- write and page_program (nor/driver.rs), cut where they use the bus.
use Rattle.std.specs.Prelude.{ℕ, ◌+◌, ltb, eqb, Err}
use Rattle.qspi.specs.Choice.{pick}
use Rattle.qspi.specs.declared.transfer.Sink.{Sink}
use Rattle.spi_flash.specs.Range.{range_in_bounds, span}
use Rattle.spi_flash.specs.declared.error.FlashError.{FlashError}
use Rattle.spi_nor.specs.Transfer.{place_of, page_of, read_transfer, multiple_of}
use Rattle.spi_nor.specs.declared.phase.Phase.{Phase}
use Rattle.spi_nor.specs.declared.phase.Task.{Task}
use Rattle.spi_nor.specs.declared.answer.Answer.{Answer}
use Rattle.spi_nor.specs.declared.setup.Setup.{Setup}
use Rattle.nor_steps.specs.Then.{Then}
use Rattle.nor_steps.specs.Go.{go_to, end_with, enabled_then}

-- write: `for .. in bytes.chunks(page_size)`; page_program: `self.write_enable()?`
unfoldable pub program_from : Setup → ℕ → ℕ → ℕ → Then
program_from setup offset len done =
    pick (ltb done len) (enabled_then setup (Task.PageProgram (span offset len done))) (end_with setup Answer.Done)

-- page_program: `self.read(offset, &mut verify.0[..data.len()])?`
unfoldable pub verify_then : Setup → ℕ → ℕ → ℕ → Then
verify_then setup offset len done =
    pick (range_in_bounds setup.device.capacity (place_of offset done) (page_of setup.device len done))
    (go_to setup (read_transfer setup (place_of offset done) (page_of setup.device len done) (Sink.Compare done))
    (Phase.Verifying (span offset len done)))
    (Err FlashError.OutOfBounds)

-- page_program: `if &verify.0[..data.len()] != data`
unfoldable pub verified_then : Setup → ℕ → ℕ → ℕ → ℕ → Then
verified_then setup offset len done same =
    pick (eqb same 0) (Err FlashError.VerifyFailed) (program_from setup offset len (done + page_of setup.device len done))

-- write: range before alignment
unfoldable pub write_then : Setup → ℕ → ℕ → Then
write_then setup offset len =
    pick (range_in_bounds setup.device.capacity offset len)
    (pick (multiple_of offset setup.device.page_size)
    (pick (multiple_of len setup.device.page_size) (program_from setup offset len 0) (Err FlashError.NotAligned))
    (Err FlashError.NotAligned))
    (Err FlashError.OutOfBounds)

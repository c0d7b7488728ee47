-- read (nor/driver.rs), cut where it uses the bus.
use Rattle.std.specs.Prelude.{ℕ, ltb, Err}
use Rattle.qspi.specs.Choice.{pick}
use Rattle.qspi.specs.declared.transfer.Sink.{Sink}
use Rattle.spi_flash.specs.Range.{range_in_bounds, span}
use Rattle.spi_flash.specs.declared.error.FlashError.{FlashError}
use Rattle.spi_nor.specs.Transfer.{place_of, chunk_of, read_transfer}
use Rattle.spi_nor.specs.declared.phase.Phase.{Phase}
use Rattle.spi_nor.specs.declared.answer.Answer.{Answer}
use Rattle.spi_nor.specs.declared.setup.Setup.{Setup}
use Rattle.nor_steps.specs.Then.{Then}
use Rattle.nor_steps.specs.Go.{go_to, end_with}

-- read: `while done < bytes.len()`
unfoldable pub read_from : Setup → ℕ → ℕ → ℕ → Then
read_from setup offset len done =
    pick (ltb done len)
    (go_to setup (read_transfer setup (place_of offset done) (chunk_of len done) (Sink.Buffer done)) (Phase.Reading (span offset len done)))
    (end_with setup Answer.Done)

-- read: range_in_bounds, then the pieces
unfoldable pub read_then : Setup → ℕ → ℕ → Then
read_then setup offset len = pick (range_in_bounds setup.device.capacity offset len) (read_from setup offset len 0) (Err FlashError.OutOfBounds)

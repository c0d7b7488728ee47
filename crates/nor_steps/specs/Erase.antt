-- erase, erase_sector, erase_block (nor/driver.rs), cut where they use the bus.
use Rattle.std.specs.Prelude.{ℕ, ltb, Err}
use Rattle.qspi.specs.Choice.{pick}
use Rattle.spi_flash.specs.Range.{range_in_bounds}
use Rattle.spi_flash.specs.declared.error.FlashError.{FlashError}
use Rattle.spi_nor.specs.Transfer.{multiple_of, unit_size, step_kind, after_unit}
use Rattle.spi_nor.specs.declared.phase.EraseKind.{EraseKind}
use Rattle.spi_nor.specs.declared.phase.Task.{Task}
use Rattle.spi_nor.specs.declared.answer.Answer.{Answer}
use Rattle.spi_nor.specs.declared.setup.Setup.{Setup}
use Rattle.nor_steps.specs.Then.{Then}
use Rattle.nor_steps.specs.Go.{end_with, enabled_then}

-- erase_sector, erase_block: range before alignment
unfoldable pub erase_unit : Setup → EraseKind → ℕ → ℕ → Then
erase_unit setup kind address end =
    pick (range_in_bounds setup.device.capacity address (unit_size setup.device kind))
    (pick (multiple_of address (unit_size setup.device kind)) (enabled_then setup (Task.Erase kind address end)) (Err FlashError.NotAligned))
    (Err FlashError.OutOfBounds)

-- erase: `while address < to`
unfoldable pub erase_from : Setup → ℕ → ℕ → Then
erase_from setup address end =
    pick (ltb address end) (erase_unit setup (step_kind setup.device address end) address end) (end_with setup Answer.Done)

-- erase: range before alignment
unfoldable pub erase_then : Setup → ℕ → ℕ → Then
erase_then setup from to =
    pick (ltb to from) (Err FlashError.OutOfBounds)
    (pick (ltb setup.device.capacity to) (Err FlashError.OutOfBounds)
    (pick (multiple_of from setup.device.sector_size)
    (pick (multiple_of to setup.device.sector_size) (erase_from setup from to) (Err FlashError.NotAligned))
    (Err FlashError.NotAligned)))

-- erase_sector, erase_block as calls
abbrev pub erase_one : Setup → EraseKind → ℕ → Then
erase_one setup kind offset = erase_unit setup kind offset (after_unit setup.device kind offset)

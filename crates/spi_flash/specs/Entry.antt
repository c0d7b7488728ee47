-- Whether a call that uses the bus may begin (docs/SPECIFICATION.md, "Refusals and numbers").
use Rattle.std.specs.Prelude.{ℕ, Bool, ltb, Result, Ok, Err}
use Rattle.qspi.specs.Choice.{pick}
use Rattle.qspi.specs.Command.{scratch_least}
use Rattle.spi_flash.specs.declared.error.FlashError.{FlashError}

-- 13 where the driver is not built, 14 for a scratch under 264, 12 for a device outside the bounds
unfoldable pub entry_of : Bool → ℕ → Bool → Result (Unit {0}) FlashError
entry_of built scratch in_bounds =
    pick built
    (pick (ltb scratch scratch_least) (Err FlashError.Misfit) (pick in_bounds (Ok tt) (Err FlashError.InvalidGeometry)))
    (Err FlashError.OutOfTurn)

-- The loop of a wait after a look, for any status command and timings.
use Prim.Native.Nat.{ℕ, ◌+◌, ◌-◌, ◌^◌, ◌<◌}
use native.Mathlib.Omega.{arith}
use mathlib.Core.Bool.{Bool, false, not}
use mathlib.Core.Path.{◌≡◌}
use lib.Dec.{leb}
use borrow.Author.Tests.{leb-false, le-leb}
use Rattle.qspi.specs.declared.command.Command.{Command}
use Rattle.qspi.specs.declared.transfer.Transfer.{Transfer}
use Rattle.std.specs.Prelude.{if◌then◌else◌}
use Rattle.spi_flash.specs.Prog.{Prog, ret, fail, ◌>>◌, transfer}
use Rattle.spi_flash.specs.Wait.{u32_max, saturating_add}
use Rattle.spi_flash.specs.WaitLaw.{waiting}
use Rattle.spi_flash.specs.declared.error.FlashError.{FlashError}
use Rattle.spi_flash.specs.declared.wait.Timings.{Timings}

-- the look found v, with so much asked before
unfoldable pub looked : Command → (ℕ → Bool) → Timings → ℕ → ℕ → Prog (Unit {0})
looked status busy t waited v =
    if not (busy v)
    then ret tt
    else if leb t.timeout_us waited
    then fail FlashError.Timeout
    else (transfer (Transfer.Pause t.poll_us) >> waiting status busy t (waited + t.poll_us))

-- the sum asked stays below the end of 32 bits
pub no_wrap : (t : Timings) (waited : ℕ) → t.timeout_us + t.poll_us < 2 ^ 32 → leb t.timeout_us waited ≡ false → saturating_add waited t.poll_us ≡ waited + t.poll_us
no_wrap t waited fits e =
    let below = leb-false t.timeout_us waited e in rw (le-leb t.poll_us (u32_max - waited) (omega (arith, fits)))

-- unprotect (nor/driver.rs), cut where it uses the bus.
use Rattle.std.specs.Prelude.{ℕ, eqb}
use Rattle.qspi.specs.Choice.{pick}
use Rattle.spi_nor.specs.Status.{unprotected1_of, unprotected2_of}
use Rattle.spi_nor.specs.declared.phase.Phase.{Phase}
use Rattle.spi_nor.specs.declared.phase.Task.{Task}
use Rattle.spi_nor.specs.declared.setup.Setup.{Setup}
use Rattle.nor_steps.specs.Then.{Then}
use Rattle.nor_steps.specs.Go.{read1_then, enabled_then}

-- unprotect: `if wanted_sr2 != sr2`
unfoldable pub unprotect_second : Setup → ℕ → ℕ → Then
unprotect_second setup before status2 =
    pick (eqb (unprotected2_of status2) status2) (read1_then setup (Phase.UnprotectAfter before)) (enabled_then setup (Task.Unprotect2 before status2))

-- unprotect: `if wanted_sr1 != before`
unfoldable pub unprotect_first : Setup → ℕ → ℕ → Then
unprotect_first setup before status2 =
    pick (eqb (unprotected1_of before) before) (unprotect_second setup before status2) (enabled_then setup (Task.Unprotect1 before status2))

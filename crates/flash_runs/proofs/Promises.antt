-- A driver that is the general one, and supplies what its calls' programs come to, keeps every promise.
-- Assumes nothing.
use Prim.Native.Nat.{ℕ}
use Rattle.spi_flash.specs.Prog.{Prog}
use Rattle.flash_runs.specs.Driver.{Left, Driver}
use Rattle.flash_runs.specs.Promises.{Promises}
use Rattle.flash_runs.proofs.General.{Parts, Place}
use Rattle.flash_runs.proofs.Supplies.{Is, Supplies, Known}
use Rattle.flash_runs.proofs.Refusals.{refusals-keep}
use Rattle.flash_runs.proofs.Judged.{told-by-history, refuses-just}
use Rattle.flash_runs.proofs.SameAsRust.{same_as_rust}
use Rattle.flash_runs.proofs.WithinBound.{within_bound}
use Rattle.flash_runs.proofs.Lent.{lent_bytes}

pub promises : {F C S P A : Type 0} (driver : Driver F C S A) (parts : Parts S P A C) (Valid : Place S P → Type 0) (Built : P → Type 0) (meaning : Place S P → ℕ → Prog (Left S A)) →
    Supplies driver parts Valid Built meaning → Is driver parts → Promises driver
promises driver parts Valid Built meaning supplies is =
    let known : Known driver = record { P = _; parts = parts; Valid = Valid; Built = Built; meaning = meaning; supplies = supplies; is = is } in
    record { history = told-by-history known; refuses = refuses-just known; refusals = refusals-keep driver parts is; lent_bytes = lent_bytes known; same_as_rust = same_as_rust known; within_bound = within_bound known }

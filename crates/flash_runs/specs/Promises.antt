-- The promises of a driver over every run: over every state, call, lent bytes and list of events, refused replies and calls begun
-- meanwhile among them, every event with lent bytes of its own.
use Rattle.flash_runs.specs.Driver.{Driver}
use Rattle.flash_runs.specs.LentBytes.{LentBytes}
use Rattle.flash_runs.specs.Refusals.{ToldByHistory, RefusesJust, RefusalsKeep}
use Rattle.flash_runs.specs.SameAsRust.{SameAsRust}
use Rattle.flash_runs.specs.WithinBound.{WithinBound}

module _ {F C S A : Type 0} (driver : Driver F C S A) where
  -- all of them
  pub record Promises : Type 0 where
    pub history : ToldByHistory driver
    pub refuses : RefusesJust driver
    pub refusals : RefusalsKeep driver
    pub lent_bytes : LentBytes driver
    pub same_as_rust : SameAsRust driver
    pub within_bound : WithinBound driver

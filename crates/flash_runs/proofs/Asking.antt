-- A program that uses the bus has passed the tests before it.
use mathlib.Core.Bool.{Bool, true, false, not}
use mathlib.Core.Path.{◌≡◌, refl}
use Rattle.spi_flash.specs.Prog.{Prog, ◌>>=◌, ◌>>◌, refuse}
use Rattle.spi_flash.specs.declared.error.FlashError.{FlashError}
use Rattle.flash_runs.proofs.Supplies.{Asks}

-- a test that refuses, in front of a program: it has refused nothing, and the rest asks
module _ {A B : Type 0} (e : FlashError) (p : Prog A) (f : A → Prog B) where
  pub not-refused : (test : Bool) → Asks ((refuse test e >> p) >>= f) → (test ≡ false) × Asks (p >>= f)
  unfolding refuse ◌>>=◌ ◌>>◌
  not-refused true h = absurd h
  not-refused false h = (refl, h)

  pub passed : (test : Bool) → Asks ((refuse (not test) e >> p) >>= f) → (test ≡ true) × Asks (p >>= f)
  unfolding refuse ◌>>=◌ ◌>>◌
  passed true h = (refl, h)
  passed false h = absurd h

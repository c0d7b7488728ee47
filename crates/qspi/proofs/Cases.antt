-- A proof by the two cases of a test.
use Prim.Native.Nat.{ℕ, ◌≤◌, ◌<◌}
use mathlib.Core.Path.{◌≡◌, refl}
use mathlib.Core.Bool.{Bool, true, false}
use lib.Dec.{leb}
use borrow.Author.Tests.{leb-true, leb-false}
use Rattle.qspi.specs.Choice.{pick}

pub by_cases : {G : Type 0} (b : Bool) → (b ≡ true → G) → (b ≡ false → G) → G
by_cases true f h = f refl
by_cases false f h = h refl

pub by_order : {G : Type 0} (m n : ℕ) → (m ≤ n → G) → (n < m → G) → G
by_order m n f h = by_cases (leb m n) (λ e. f (leb-true m n e)) (λ e. h (leb-false m n e))

-- what holds of both sides of a choice holds of the choice
pub keeps-pick : {A : Type 0} (R : A → Type 0) (b : Bool) (x y : A) → R x → R y → R (pick b x y)
keeps-pick R true x y h k = h
keeps-pick R false x y h k = k

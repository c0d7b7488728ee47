-- A rule of a table, proved at all of its rows by one test that computes.
use Prim.Native.Nat.{ℕ, zero, suc, ◌<◌}
use mathlib.Core.Path.{◌≡◌, refl}
use mathlib.Core.Bool.{Bool, true, false, ◌&&◌}
use mathlib.Core.List.{List, [], ◌∷◌}
use native.Mathlib.Nat.{le_of_suc-le-suc, not-suc-le-zero}
use lib.ListN.{length, get_or}
use Rattle.std.specs.Option.{unwrap_or}
use Rattle.qspi.proofs.Cases.{by_cases}
use Rattle.spi_flash.specs.Rows.{known_in}

pub both : (a b : Bool) → (a && b) ≡ true → (a ≡ true) × (b ≡ true)
both true b t = (refl, t)
both false b t = (t, cc)

abbrev pub every : {A : Type 0} → (A → Bool) → List A → Bool
every f [] = true
every f (x ∷ xs) = f x && every f xs

pub at : {A : Type 0} (f : A → Bool) (xs : List A) (d : A) → every f xs ≡ true → (k : ℕ) → k < length xs → f (get_or xs k d) ≡ true
at f [] d t k h = absurd (not-suc-le-zero h)
at f (x ∷ xs) d t zero h = (both (f x) (every f xs) t).0
at f (x ∷ xs) d t (suc k) h = at f xs d (both (f x) (every f xs) t).1 k (le_of_suc-le-suc h)

-- what holds of each element
abbrev pub Every : {A : Type 0} → (A → Type 0) → List A → Type 0
Every P [] = Unit {0}
Every P (x ∷ xs) = P x × Every P xs

-- what holds of each row's value and of the other holds of what a search of the rows gives, or else the other
pub found : {K V : Type 0} (P : V → Type 0) (same : K → K → Bool) (rows : List (K × V)) (key : K) (other : V) → Every (λ row. P row.1) rows → P other → P (unwrap_or (known_in same rows key) other)
found P same [] key other h o = o
found P same (row ∷ rows) key other h o =
    by_cases (same row.0 key)
    (λ e. rw e h.0)
    (λ e. rw e (found P same rows key other h.1 o))

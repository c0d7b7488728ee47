-- The line of an answer's values.
use Rattle.std.proofs.Common.{ℕ, ◌≡◌, List, [], ◌∷◌, ◌++◌, length, refl, arith}
use Rattle.trace_words.specs.Print.{fields_of, values_line}

pub no_values : (vs : List ℕ) → length vs ≡ 0 → values_line vs ≡ []
unfolding values_line
no_values [] h = refl
no_values (v ∷ vs) h = absurd (omega arith)

pub some_values : (vs : List ℕ) → (length vs ≡ 0 → ⊥) → values_line vs ≡ (86 ∷ fields_of vs) ++ 10 ∷ []
unfolding values_line
some_values [] h = absurd (h refl)
some_values (v ∷ vs) h = refl

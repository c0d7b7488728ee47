-- The name of a word, by the first entry that is written so.
use Prim.Native.Nat.{ℕ}
use mathlib.Core.Path.{◌≡◌, refl}
use mathlib.Core.List.{List, [], ◌∷◌}
use Rattle.std.specs.Borrow.{Bor}
use Rattle.std.specs.List.{find}
use Rattle.std.specs.Option.{option_map}
use Rattle.std.specs.Str.{bytes_eq}
use Rattle.qspi.proofs.Cases.{by_cases}
use Rattle.flash_words.specs.Words.{named_in}

pub first : {N : Type 0} (names : List (Bor (List ℕ) × N)) (word : List ℕ) → named_in names word ≡ option_map (λ entry. entry.1) (find (λ entry. bytes_eq entry.0.now word) names)
first [] word = refl
first (entry ∷ rest) word = by_cases (bytes_eq entry.0.now word) (λ e. rw e) (λ e. rw e (first rest word))

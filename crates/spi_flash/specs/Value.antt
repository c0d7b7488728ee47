-- Values of an answer, as a trace prints them.
use Rattle.std.specs.Prelude.{ℕ, Bool, true, false, List, [], ◌∷◌, Option, Some, None}

abbrev pub flag_value : Bool → ℕ
flag_value true = 1
flag_value false = 0

-- 0 for none, or 1 and then its numbers
abbrev pub setting_values : Option (List ℕ) → List ℕ
setting_values None = 0 ∷ []
setting_values (Some numbers) = 1 ∷ numbers

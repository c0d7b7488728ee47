-- A table of keys and what they stand for.
use Rattle.std.specs.Prelude.{Bool, List, Option}
use Rattle.std.specs.List.{find}
use Rattle.std.specs.Option.{option_map}

-- what the first row with this key holds
abbrev pub known_in : {K V : Type 0} → (K → K → Bool) → List (K × V) → K → Option V
known_in same rows key = option_map (λ row. row.1) (find (λ row. same row.0 key) rows)

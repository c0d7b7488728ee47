-- How many turns a whole case takes at most.
use Rattle.std.specs.Prelude.{ℕ, ◌+◌, ◌*◌, ◌/◌, min}

-- more turns than a text of this length can take with a room of this length
unfoldable pub budget_of : ℕ → ℕ → ℕ
budget_of text room = (min 4194304 text + 2) * (min 16777216 room / 16384 + 16)

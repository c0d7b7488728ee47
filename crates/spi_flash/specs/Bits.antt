-- A register's byte: the mask expressions of both drivers' Rust, and its bits by division, as datasheets number them.
-- `bit_and` is what the language's `&` computes.
use Rattle.std.specs.Prelude.{ℕ, ◌-◌, ◌/◌, ◌%◌, ◌^◌, Bool, not, eqb}
use Rattle.std.specs.Int.Bits.{bit_and}

-- `byte & mask != 0`
abbrev pub any_of : ℕ → ℕ → Bool
any_of mask byte = not (eqb (bit_and byte mask) 0)

-- `!byte` of eight bits
abbrev pub bit_not : ℕ → ℕ
bit_not byte = 255 - byte

-- bit k of a byte
abbrev pub bit : ℕ → ℕ → ℕ
bit k byte = byte / 2 ^ k % 2

abbrev pub is_set : ℕ → ℕ → Bool
is_set k byte = eqb (bit k byte) 1

abbrev pub is_clear : ℕ → ℕ → Bool
is_clear k byte = eqb (bit k byte) 0

-- The lines of a trace: a letter for each action with what belongs to it, and E with the number of the call's end.
use Rattle.std.specs.Prelude.{ℕ, List, [], ◌∷◌, ◌++◌}
use Rattle.qspi.specs.Shown.{Shown, low, high, write, read, quad_read, quad_write, delay}
use Rattle.lines.specs.Text.{hex_of, decimal_of}

-- a blank and a number
unfoldable pub field_of : ℕ → List ℕ
field_of n = 32 ∷ decimal_of n

-- Q, the command's bytes, a colon, then the timing, the margin and the length
unfoldable pub quad_read_line : List ℕ → ℕ → ℕ → ℕ → List ℕ
quad_read_line command tclqv margin n = (81 ∷ hex_of command) ++ 32 ∷ 58 ∷ [] ++ field_of tclqv ++ field_of margin ++ field_of n ++ 10 ∷ []

-- P, the command's bytes, a colon, then the data
unfoldable pub quad_write_line : List ℕ → List ℕ → List ℕ
quad_write_line command payload = (80 ∷ hex_of command) ++ 32 ∷ 58 ∷ [] ++ hex_of payload ++ 10 ∷ []

-- the line of an action: select L or H, W with its bytes in hexadecimal, R with its count, D with its microseconds
unfoldable pub line_of : Shown → List ℕ
line_of low = 76 ∷ 10 ∷ []
line_of high = 72 ∷ 10 ∷ []
line_of (write bytes) = (87 ∷ hex_of bytes) ++ 10 ∷ []
line_of (read n) = (82 ∷ field_of n) ++ 10 ∷ []
line_of (quad_read command tclqv margin n) = quad_read_line command tclqv margin n
line_of (quad_write command payload) = quad_write_line command payload
line_of (delay us) = (68 ∷ field_of us) ++ 10 ∷ []

-- "then E and the number"
unfoldable pub end_line : ℕ → List ℕ
end_line number = (69 ∷ field_of number) ++ 10 ∷ []

-- Lines of a trace beside those of actions and of a call's number ("Out").
use Rattle.std.specs.Prelude.{ℕ, ◌+◌, List, [], ◌∷◌, ◌++◌, length, take, drop, eqb, ltb}
use Rattle.std.specs.List.{flat_map}
use Rattle.qspi.specs.Choice.{pick}
use Rattle.lines.specs.Text.{two_digits}
use Rattle.lines.specs.Line.{field_of}
use Rattle.spi_flash.specs.declared.loan.Takes.{Takes}

-- "call and its name"
unfoldable pub call_line : List ℕ → List ℕ
call_line name = (99 ∷ 97 ∷ 108 ∷ 108 ∷ 32 ∷ []) ++ name ++ 10 ∷ []

-- "the line bad case N"
unfoldable pub bad_line : ℕ → List ℕ
bad_line n = (98 ∷ 97 ∷ 100 ∷ 32 ∷ 99 ∷ 97 ∷ 115 ∷ 101 ∷ []) ++ field_of n ++ 10 ∷ []

-- "G and the number of bytes delivered"
unfoldable pub delivered_line : ℕ → List ℕ
delivered_line n = (71 ∷ field_of n) ++ 10 ∷ []

-- "for a call with a buffer"
abbrev pub count_line : Takes → ℕ → List ℕ
count_line Takes.Nothing n = []
count_line (Takes.Buffer k) n = delivered_line n
count_line (Takes.Data k) n = []

abbrev pub fields_of : List ℕ → List ℕ
fields_of = flat_map field_of

-- "V and the values of the answer in decimal, where it has some"
unfoldable pub values_line : List ℕ → List ℕ
values_line [] = []
values_line (v ∷ vs) = (86 ∷ fields_of (v ∷ vs)) ++ 10 ∷ []

-- bytes in hexadecimal, "without spaces"
abbrev pub solid_of : List ℕ → List ℕ
solid_of = flat_map two_digits

-- "B" before the first byte; nothing follows it where the buffer is empty
unfoldable pub head_of : ℕ → ℕ → List ℕ
head_of from n = pick (eqb from 0) (pick (eqb n 0) (66 ∷ []) (66 ∷ 32 ∷ [])) []

-- "B and the whole buffer", 16,384 bytes a turn: the part from a place on
unfoldable pub piece_of : List ℕ → ℕ → List ℕ
piece_of buffer from =
    head_of from (length buffer) ++ solid_of (take 16384 (drop from buffer)) ++
    pick (ltb (from + 16384) (length buffer)) [] (10 ∷ [])

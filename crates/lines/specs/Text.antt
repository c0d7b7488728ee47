-- Text in a slice: characters one behind the other, cut where there is no room.
use Rattle.std.specs.Prelude.{ℕ, zero, suc, ◌+◌, ◌/◌, ◌%◌, List, [], ◌∷◌, ◌++◌, length, set, ltb}
use Rattle.std.specs.List.{flat_map}
use Rattle.qspi.specs.Choice.{pick}

-- the slice, and the place behind the text in it
pub record Text : Type 0 where
  pub out : List ℕ
  pub at : ℕ

abbrev pub text_of : List ℕ → ℕ → Text
text_of out at = record { out = out; at = at }

unfoldable pub put_of : ℕ → Text → Text
put_of b t = pick (ltb t.at (length t.out)) (text_of (set t.out t.at b) (t.at + 1)) t

unfoldable pub appended : List ℕ → Text → Text
appended [] t = t
appended (b ∷ bs) t = appended bs (put_of b t)

-- "W and the bytes in hexadecimal": a blank before each byte, upper-case digits
unfoldable pub digit_of : ℕ → ℕ
digit_of n = pick (ltb (n % 16) 10) (48 + n % 16) (55 + n % 16)

unfoldable pub two_digits : ℕ → List ℕ
two_digits b = digit_of (b / 16) ∷ digit_of b ∷ []

abbrev pub hex_byte : ℕ → List ℕ
hex_byte b = 32 ∷ two_digits b

abbrev pub hex_of : List ℕ → List ℕ
hex_of = flat_map hex_byte

-- "R and n in decimal": the last digit behind those of a tenth; 20 digits hold a number of 64 bits
unfoldable pub digits_of : ℕ → ℕ → List ℕ
digits_of zero n = []
digits_of (suc more) n = pick (ltb n 10) ((48 + n) ∷ []) (digits_of more (n / 10) ++ (48 + n % 10) ∷ [])

unfoldable pub decimal_of : ℕ → List ℕ
decimal_of n = digits_of 20 n

-- Numbers and bytes as the text writes them.
use Rattle.std.specs.Prelude.{ℕ, ◌+◌, ◌*◌, ◌%◌, Bool, false, List, [], ◌∷◌, ◌++◌, length, drop, get_or, eqb, leb, ltb, Option, Some, None}
use Rattle.std.specs.Char.{digit_value, is_ascii_hexdigit}
use Rattle.std.specs.List.{list_all}
use Rattle.std.specs.Str.Parse.{digits_value}
use Rattle.qspi.specs.Choice.{pick}

-- digits of the radix alone
unfoldable pub digits_in : ℕ → List ℕ → Bool
digits_in radix digits = list_all (λ c. ltb (digit_value c) radix) digits

-- a number of 64 bits
abbrev pub number_to : Bool → ℕ → Option ℕ
number_to good value = pick good (pick (leb value 18446744073709551615) (Some value) None) None

-- one digit at least
unfoldable pub number_in : ℕ → List ℕ → Option ℕ
number_in radix digits = pick (eqb (length digits) 0) None (number_to (digits_in radix digits) (digits_value radix digits))

-- "Numbers are decimal, or hexadecimal after 0x"
unfoldable pub number_of : List ℕ → Option ℕ
number_of s =
    pick (ltb (length s) 2) (number_in 10 s)
    (pick (eqb (get_or s 0 0) 48) (pick (eqb (get_or s 1 0) 120) (number_in 16 (drop 2 s)) (number_in 10 s)) (number_in 10 s))

-- "HEX is an even number of hexadecimal digits in either case, possibly none"
unfoldable pub is_hex_of : List ℕ → Bool
is_hex_of s = pick (eqb (length s % 2) 0) (list_all is_ascii_hexdigit s) false

-- "hexadecimal digits in either case"; what is none counts as 0
unfoldable pub digit_or_zero : ℕ → ℕ
digit_or_zero c = pick (ltb (digit_value c) 16) (digit_value c) 0

unfoldable pub byte_of : ℕ → ℕ → ℕ
byte_of high low = digit_or_zero high * 16 + digit_or_zero low

-- the bytes that digits write
unfoldable pub bytes_of : List ℕ → List ℕ
bytes_of [] = []
bytes_of (a ∷ []) = []
bytes_of (a ∷ b ∷ cs) = byte_of a b ∷ bytes_of cs

-- the room with those bytes at its beginning
unfoldable pub pairs_over : List ℕ → List ℕ → List ℕ
pairs_over s room = bytes_of s ++ drop (length (bytes_of s)) room

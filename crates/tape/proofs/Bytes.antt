-- Three bytes and the number that they are, and the header of a record.
use Prim.Native.Nat.{ℕ, zero, suc, ◌+◌, ◌*◌, ◌/◌, ◌%◌, ◌≤◌, ◌<◌}
use mathlib.Core.Path.{◌≡◌, refl}
use mathlib.Core.List.{List, [], ◌∷◌}
use native.Mathlib.Omega.{arith}
use lib.ListN.{length, get_or, take, drop}
use Rattle.qspi.specs.Address.{big_endian}
use Rattle.qspi.specs.Bytes.{AllBytes, number_of}
use Rattle.qspi.proofs.Numbers.{numbers}
use Rattle.tape.specs.Tape.{length_width, header_length}
use Rattle.tape.specs.Record.{length_in}

digits : (n x y z : ℕ) → n ≡ x * 65536 + y * 256 + z → x < 256 → y < 256 → z < 256 → big_endian 3 n ≡ x ∷ y ∷ z ∷ []
digits n x y z e hx hy hz =
    let high : n / 65536 % 256 ≡ x = omega arith in
    let middle : n / 256 % 256 ≡ y = omega arith in
    let low : n / 1 % 256 ≡ z = omega arith in
    rw (high, middle, low)

-- three bytes are those of their number
pub three : (s : List ℕ) → AllBytes s → length s ≡ 3 → big_endian 3 (number_of s) ≡ s
three [] a e = absurd (omega arith)
three (x ∷ []) a e = absurd (omega arith)
three (x ∷ y ∷ []) a e = absurd (omega arith)
three (x ∷ y ∷ z ∷ []) a e =
    let read = numbers.reads (x ∷ y ∷ z ∷ []) (omega arith) a in
    digits (number_of (x ∷ y ∷ z ∷ [])) x y z (omega arith) a.0 a.1.0 a.1.1.0
three (x ∷ y ∷ z ∷ w ∷ s) a e = absurd (omega arith)

-- a header is its kind and the bytes of its length
pub header : (s : List ℕ) (kind : ℕ) → AllBytes s → header_length ≤ length s → get_or s 0 0 ≡ kind
    → take header_length s ≡ kind ∷ big_endian length_width (length_in s)
header [] kind a h e = absurd (omega arith)
header (k ∷ []) kind a h e = absurd (omega arith)
header (k ∷ x ∷ []) kind a h e = absurd (omega arith)
header (k ∷ x ∷ y ∷ []) kind a h e = absurd (omega arith)
header (k ∷ x ∷ y ∷ z ∷ s) kind a h e = rw (e, three (x ∷ y ∷ z ∷ []) (a.1.0, (a.1.1.0, (a.1.1.1.0, tt))) refl)

pub all_take : (n : ℕ) (s : List ℕ) → AllBytes s → AllBytes (take n s)
all_take zero s a = tt
all_take (suc n) [] a = tt
all_take (suc n) (b ∷ bs) a = (a.0, all_take n bs a.1)

pub all_drop : (n : ℕ) (s : List ℕ) → AllBytes s → AllBytes (drop n s)
all_drop zero s a = a
all_drop (suc n) [] a = tt
all_drop (suc n) (b ∷ bs) a = all_drop n bs a.1

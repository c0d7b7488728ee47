-- The number of up to eight bytes is the number that they are, highest first.
use Prim.Native.Nat.{ℕ, zero, suc, ◌+◌, ◌*◌, ◌/◌, ◌^◌, ◌≤◌, ◌<◌}
use native.Mathlib.Nat.{mod-lt, mod-eq_of_lt, pow-le-pow_right}
use native.Mathlib.Omega.{arith}
use mathlib.Core.Path.{◌≡◌, refl, ap, ◌∙◌}
use mathlib.Core.List.{List, [], ◌∷◌}
use lib.ListN.{length}
use lib.Dec.{lit<}
use Rattle.qspi.specs.Address.{big_endian, read_from}
use Rattle.qspi.specs.Bytes.{AllBytes, number_from}
use Rattle.qspi.specs.Numbers.{Numbers}
use Rattle.qspi.proofs.Addresses.{address-bytes}

-- with k bytes read, and no more than eight in all, the top byte of 64 bits is still free
from : (k value : ℕ) (bytes : List ℕ) → value < 256 ^ k → k + length bytes ≤ 8 → AllBytes bytes → number_from value bytes ≡ read_from value bytes
from k value [] h e a = refl
from k value (b ∷ bs) h e a =
    let most : 256 ^ k ≤ 256 ^ 7 = pow-le-pow_right (lit< tt) {i = k} {j = 7} (omega arith) in
    let room : value < 72057594037927936 = omega arith in
    let b-small : b < 256 = a.0 in
    rw (mod-eq_of_lt room) (from (suc k) (value * 256 + b) bs (omega arith) (omega arith) a.1)

size : (n v : ℕ) → length (big_endian n v) ≡ n
size zero v = refl
size (suc n) v = ap suc (size n v)

small : (n v : ℕ) → AllBytes (big_endian n v)
small zero v = tt
small (suc n) v = (mod-lt (v / 256 ^ n) (lit< tt), small n v)

pub numbers : Numbers
numbers = record {
  reads = λ bytes h a. from 0 0 bytes (lit< tt) (omega arith) a;
  back = λ n v h l. from 0 0 (big_endian n v) (lit< tt) (omega (arith, size n v)) (small n v) ∙ (address-bytes.whole n v l).back;
  size = size;
  small = small;
}

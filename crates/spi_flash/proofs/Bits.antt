-- A mask and the bits that it stands for: `&` and `|` against division and remainder.
use Prim.Native.Nat.{ℕ, zero, suc, ◌+◌, ◌-◌, ◌*◌, ◌/◌, ◌%◌, ◌^◌, ◌<◌, min}
use mathlib.Core.Path.{◌≡◌, refl, sym, ap, ap₂, ◌∙◌}
use mathlib.Core.Bool.{not}
use native.Mathlib.Omega.{arith}
use native.Mathlib.Nat.{mul-div_cancel}
use lib.Bits.{bit_and, bit_or, and_le_l, and_step, or_add_and, and_high, and_shr, and_mod, or_shr, or_mod}
use lib.Pow.{pow_pos, pow-add}
use lib.Dec.{eqb}
use borrow.Author.Tests.{eq-eqb, ne_eqb}
use Rattle.qspi.specs.Choice.{pick}
use Rattle.spi_flash.specs.Bits.{any_of, bit_not, bit, is_set}

-- j bits from bit k on
pub field : (j k n : ℕ) → bit_and n (2 ^ (j + k) - 2 ^ k) / 2 ^ k ≡ n / 2 ^ k % 2 ^ j
field j k n = ap (λ (x : ℕ). x / 2 ^ k) (and_high n j k) ∙ mul-div_cancel (n / 2 ^ k % 2 ^ j) (pow_pos k)

pub bit_below : (k n : ℕ) → bit k n < 2
bit_below k n = omega arith

mask-bit : (k n : ℕ) → bit_and n (2 ^ k) ≡ bit k n * 2 ^ k
mask-bit k n =
    let one : 2 ^ k ≡ 2 ^ (1 + k) - 2 ^ k = omega (arith, pow-add 2 1 k) in
    ap (bit_and n) one ∙ and_high n 1 k

flag : (x m : ℕ) → x < 2 → 0 < m → not (eqb (x * m) 0) ≡ eqb x 1
flag zero m h pos = ap not (eq-eqb (0 * m) 0 (omega arith))
flag (suc zero) m h pos = ap not (ne_eqb (1 * m) 0 (λ e. omega arith))
flag (suc (suc x)) m h pos = absurd (omega arith)

-- `byte & (1 << k) != 0`
pub any-bit : (k n : ℕ) → any_of (2 ^ k) n ≡ is_set k n
any-bit k n = ap (λ (x : ℕ). not (eqb x 0)) (mask-bit k n) ∙ flag (bit k n) (2 ^ k) (bit_below k n) (pow_pos k)

-- `byte | (1 << k)`
pub set-bit : (k n : ℕ) → bit_or n (2 ^ k) ≡ n + (1 - bit k n) * 2 ^ k
set-bit k n = added (bit k n) (2 ^ k) (bit_below k n) (ap (λ (x : ℕ). bit_or n (2 ^ k) + x) (sym (mask-bit k n)) ∙ or_add_and n (2 ^ k))
  where
    added : (x m : ℕ) → x < 2 → bit_or n m + x * m ≡ n + m → bit_or n m ≡ n + (1 - x) * m
    added zero m h e = omega arith
    added (suc zero) m h e = omega arith
    added (suc (suc x)) m h e = absurd (omega arith)

lowest : (x y : ℕ) → y < 2 → x < 2 → min x (1 - y) + min x y ≡ x
lowest x y h k = omega arith

digits : (n a b p q u v : ℕ) → a ≡ p * 2 + u → b ≡ q * 2 + v → p + q ≡ n / 2 → u + v ≡ n % 2 → a + b ≡ n
digits n a b p q u v ea eb eh el = omega arith

-- a mask and its complement part a number of so many bits
parted : (k n mask : ℕ) → n < 2 ^ k → mask < 2 ^ k → bit_and n (2 ^ k - 1 - mask) + bit_and n mask ≡ n
parted zero n mask h m = omega (arith, and_le_l n (2 ^ 0 - 1 - mask), and_le_l n mask)
parted (suc k) n mask h m =
    let rest = 2 ^ suc k - 1 - mask in
    let half : rest / 2 ≡ 2 ^ k - 1 - mask / 2 = omega arith in
    let low : rest % 2 ≡ 1 - mask % 2 = omega arith in
    let kept : bit_and n rest ≡ bit_and (n / 2) (2 ^ k - 1 - mask / 2) * 2 + min (n % 2) (1 - mask % 2) =
    and_step n rest ∙ ap₂ (λ (x y : ℕ). bit_and (n / 2) x * 2 + min (n % 2) y) half low in
    digits n _ _ _ _ _ _ kept (and_step n mask) (parted k (n / 2) (mask / 2) (omega arith) (omega arith))
    (lowest (n % 2) (mask % 2) (omega arith) (omega arith))

-- `byte & !mask`
cleared : (n mask : ℕ) → n < 256 → mask < 256 → bit_and n (bit_not mask) ≡ n - bit_and n mask
cleared n mask h m = omega (arith, parted 8 n mask h m)

-- `byte & !(1 << k)`
pub clear-bit : (k n : ℕ) → 2 ^ k < 256 → n < 256 → bit_and n (bit_not (2 ^ k)) ≡ n - bit k n * 2 ^ k
clear-bit k n m h = cleared n (2 ^ k) h m ∙ ap (λ (x : ℕ). n - x) (mask-bit k n)

pub bit-and : (k a b : ℕ) → bit k (bit_and a b) ≡ bit_and (bit k a) (bit k b)
bit-and k a b = ap (λ (x : ℕ). x % 2) (and_shr a b k) ∙ and_mod (a / 2 ^ k) (b / 2 ^ k) 1

pub bit-or : (k a b : ℕ) → bit k (bit_or a b) ≡ bit_or (bit k a) (bit k b)
bit-or k a b = ap (λ (x : ℕ). x % 2) (or_shr a b k) ∙ or_mod (a / 2 ^ k) (b / 2 ^ k) 1

pub bit-not : (k mask : ℕ) → k < 8 → mask < 256 → bit k (bit_not mask) ≡ 1 - bit k mask
bit-not zero mask h m = omega arith
bit-not (suc zero) mask h m = omega arith
bit-not (suc (suc zero)) mask h m = omega arith
bit-not (suc (suc (suc zero))) mask h m = omega arith
bit-not (suc (suc (suc (suc zero)))) mask h m = omega arith
bit-not (suc (suc (suc (suc (suc zero))))) mask h m = omega arith
bit-not (suc (suc (suc (suc (suc (suc zero)))))) mask h m = omega arith
bit-not (suc (suc (suc (suc (suc (suc (suc zero))))))) mask h m = omega arith
bit-not (suc (suc (suc (suc (suc (suc (suc (suc k)))))))) mask h m = absurd (omega arith)

-- one bit of `(byte & !mask) | (mask & value)`
one_bit : (b m v : ℕ) → b < 2 → m < 2 → v < 2 → bit_or (bit_and b (1 - m)) (bit_and m v) ≡ pick (eqb m 1) v b
one_bit zero zero zero hb hm hv = refl
one_bit zero zero (suc zero) hb hm hv = refl
one_bit zero (suc zero) zero hb hm hv = refl
one_bit zero (suc zero) (suc zero) hb hm hv = refl
one_bit (suc zero) zero zero hb hm hv = refl
one_bit (suc zero) zero (suc zero) hb hm hv = refl
one_bit (suc zero) (suc zero) zero hb hm hv = refl
one_bit (suc zero) (suc zero) (suc zero) hb hm hv = refl
one_bit (suc (suc b)) m v hb hm hv = absurd (omega arith)
one_bit zero (suc (suc m)) v hb hm hv = absurd (omega arith)
one_bit (suc zero) (suc (suc m)) v hb hm hv = absurd (omega arith)
one_bit zero zero (suc (suc v)) hb hm hv = absurd (omega arith)
one_bit zero (suc zero) (suc (suc v)) hb hm hv = absurd (omega arith)
one_bit (suc zero) zero (suc (suc v)) hb hm hv = absurd (omega arith)
one_bit (suc zero) (suc zero) (suc (suc v)) hb hm hv = absurd (omega arith)

pub replaced-bit : (k : ℕ) → k < 8 → (b mask value : ℕ) → mask < 256
    → bit k (bit_or (bit_and b (bit_not mask)) (bit_and mask value)) ≡ pick (is_set k mask) (bit k value) (bit k b)
replaced-bit k h b mask value m =
    bit-or k (bit_and b (bit_not mask)) (bit_and mask value)
    ∙ ap₂ bit_or (bit-and k b (bit_not mask) ∙ ap (bit_and (bit k b)) (bit-not k mask h m)) (bit-and k mask value)
    ∙ one_bit (bit k b) (bit k mask) (bit k value) (bit_below k b) (bit_below k mask) (bit_below k value)

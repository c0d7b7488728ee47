-- Digits one by one, and the bytes that pairs of them write.
use Rattle.std.proofs.Common.{ℕ, zero, suc, Bool, true, false, Some, None, take, ◌+◌, ◌-◌, ◌*◌, ◌/◌, ◌≤◌, ◌<◌, ◌≡◌, refl, ap₂, sym, ◌∙◌, List, [], ◌∷◌, arith, zero-add, length, set, get_or, ltb, eqb}
use Rattle.std.proofs.Math.Bool.{and-false}
use Rattle.std.proofs.Math.Seq.{paste, paste-suc, take-length}
use Rattle.std.proofs.lemmas.Int.Digits.{digits_value_more}
use Rattle.std.proofs.lemmas.List.Folds.{list_all_at, list_all_more}
use Rattle.std.proofs.lemmas.Str.Parse.{digits_value-take-le}
use Rattle.std.specs.Bool.{MatchBool}
use Rattle.std.specs.Char.{digit_value, is_ascii}
use Rattle.std.specs.List.{list_all}
use Rattle.std.specs.Str.{IsAscii, IsNotAscii}
use Rattle.std.specs.Str.Parse.{digits_value}
use borrow.Author.Tests.{lt-ltb, le-ltb, le-leb, lt-leb, ne_eqb}
use Rattle.qspi.specs.Bytes.{delivered_of}
use Rattle.case_text.specs.Number.{digits_in, number_to, number_in, byte_of, bytes_of, pairs_over}

-- ---- digits one by one

reach : (m a b n : ℕ) → b ≡ a → b ≤ n → m < a → m < n
reach m a b n e l h = omega arith

past : (good : Bool) (value : ℕ) → 18446744073709551615 < value → None ≡ number_to good value
past true value m = rw (lt-leb _ _ m) refl
past false value m = refl

module _ (radix : ℕ) (s : List ℕ) where
  pub all-digits : eqb (length s) 0 ≡ false → digits_in radix s ≡ true → (value : ℕ) → value ≡ digits_value radix s → value ≤ 18446744073709551615 →
      Some value ≡ number_in radix s
  unfolding number_in
  all-digits h e value is l = rw (h, e, ← is, le-leb _ _ l) refl

  module _ (i : ℕ) (h : i < length s) where
    some : length s ≡ 0 → ⊥
    some e = omega arith

    pub digits-more : digits_in radix (take i s) ≡ true → digit_value (get_or s i 0) < radix → digits_in radix (take (i + 1) s) ≡ true
    unfolding digits_in
    digits-more e l = rw (list_all_more (λ c. ltb (digit_value c) radix) s i 0 h, e, lt-ltb _ _ l) refl

    pub no-digit : radix ≤ digit_value (get_or s i 0) → None ≡ number_in radix s
    unfolding number_in digits_in
    no-digit l = rw (ne_eqb _ _ some, list_all_at (λ c. ltb (digit_value c) radix) s i 0 h (le-ltb _ _ l)) refl

    module _ (value r d : ℕ) (v : value ≡ digits_value radix (take i s)) (q : r ≡ radix) (e : d ≡ digit_value (get_or s i 0)) where
      pub value-more : value * r + d ≡ digits_value radix (take (i + 1) s)
      value-more = rw (digits_value_more radix s i h, v, q, e) refl

      -- no digit makes a value smaller
      pub too_large : 1 ≤ radix → 18446744073709551615 < value * r + d → None ≡ number_in radix s
      unfolding number_in
      too_large one l =
          rw (ne_eqb _ _ some)
          (past (digits_in radix s) (digits_value radix s)
          (reach 18446744073709551615 (value * r + d) (digits_value radix (take (i + 1) s)) (digits_value radix s) (sym value-more) (digits_value-take-le radix s (i + 1) one) l))

-- ---- ASCII

all-ascii : (s : List ℕ) → IsAscii s → true ≡ list_all is_ascii s
all-ascii [] h = refl
all-ascii (c ∷ cs) h = rw (lt-ltb c 128 (h 0)) (all-ascii cs (λ i. h (suc i)))

not-ascii : (s : List ℕ) (i : ℕ) → 128 ≤ get_or s i 0 → false ≡ list_all is_ascii s
not-ascii [] i h = absurd (omega arith)
not-ascii (c ∷ cs) zero h = rw (le-ltb c 128 h) refl
not-ascii (c ∷ cs) (suc i) h = rw (← not-ascii cs i h) (sym (and-false (is_ascii c)))

pub ascii_is : (r : Bool) (s : List ℕ) → MatchBool r (IsAscii s) (IsNotAscii s) → r ≡ list_all is_ascii s
ascii_is true s h = all-ascii s h
ascii_is false s h = not-ascii s h.0 h.1

-- ---- pairs of digits

pub length-bytes : (s : List ℕ) → length (bytes_of s) ≡ length s / 2
unfolding bytes_of
length-bytes [] = omega arith
length-bytes (a ∷ []) = omega arith
length-bytes (a ∷ b ∷ cs) = omega (arith, length-bytes cs)

pub byte_at : (s : List ℕ) (i : ℕ) → 2 * i + 1 < length s → get_or (bytes_of s) i 0 ≡ byte_of (get_or s (2 * i) 0) (get_or s (2 * i + 1) 0)
unfolding bytes_of
byte_at [] i h = absurd (omega arith)
byte_at (a ∷ []) i h = absurd (omega arith)
byte_at (a ∷ b ∷ cs) zero h = refl
byte_at (a ∷ b ∷ cs) (suc i) h =
    let e : 2 * suc i ≡ suc (suc (2 * i)) = omega arith in
    let d : 2 * suc i + 1 ≡ suc (suc (2 * i + 1)) = omega arith in
    byte_at cs i (omega arith) ∙ rw (d, e) refl

-- one more pair
pub pair-written : (s room : List ℕ) (i : ℕ) → i < length s / 2 → i < length room →
    set (paste room 0 (bytes_of s) i) i (byte_of (get_or s (2 * i) 0) (get_or s (2 * i + 1) 0)) ≡ paste room 0 (bytes_of s) (suc i)
pair-written s room i h l =
    ap₂ (set (paste room 0 (bytes_of s) i)) (sym (zero-add i)) (sym (byte_at s i (omega arith)))
    ∙ paste-suc room 0 (bytes_of s) i 0 (omega arith) (rw length-bytes h)

-- all of them
pub pasted-pairs : (s room : List ℕ) → paste room 0 (bytes_of s) (length (bytes_of s)) ≡ pairs_over s room
unfolding pairs_over
pasted-pairs s room = rw (take-length (bytes_of s), zero-add) refl

module _ (s room : List ℕ) where
  pub delivered : length s / 2 ≤ length room → pairs_over s room ≡ delivered_of room 0 (bytes_of s)
  delivered h =
      let n = length-bytes s in
      rw (le-leb (length (bytes_of s)) (length room) (omega arith), le-leb 0 (length room - length (bytes_of s)) (omega arith))
      (sym (pasted-pairs s room))

  pub too_many : length room < length s / 2 → room ≡ delivered_of room 0 (bytes_of s)
  too_many h = let n = length-bytes s in rw (lt-leb (length (bytes_of s)) (length room) (omega arith)) refl

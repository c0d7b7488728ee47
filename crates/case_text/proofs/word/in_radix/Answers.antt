use Rattle.std.proofs.Common.{◌≡◌, refl, sym, ◌∙◌, ap, ap₂, ◌+◌, ◌<◌, ◌≤◌, ℕ, take, arith}
use Rattle.std.proofs.Math.Seq.{take_all}
use Rattle.std.specs.Char.{digit_value}
use Rattle.case_text.specs.Number.{digits_in}
use Rattle.case_text.proofs.Numbers.{all-digits, digits-more, no-digit, value-more, too_large}
use Rattle.case_text.proofs.word.in_radix.Goals as goal

-- what a test that failed says of numbers
not-below : (a b : ℕ) → (a < b → ⊥) → b ≤ a
not-below a b h = omega arith

product-over : (a d : ℕ) → (a < 18446744073709551616 → ⊥) → 18446744073709551615 < a + d
product-over a d h = omega arith

sum-over : (a b m d : ℕ) → a ≡ m → b ≡ d → (a + b < 18446744073709551616 → ⊥) → 18446744073709551615 < m + d
sum-over a b m d p q h = omega arith

pub loop-c-init : goal.loop-c-init
unfolding digits_in
loop-c-init c = record { good = refl; value = refl; fits = omega arith }

pub returns-in_err-digit : goal.returns-in_err-digit
returns-in_err-digit c =
    c.from_residual.ensures
    ∙ no-digit c.args.radix c.args.digits.now c.loop-c.c-index c.loop-c-test.true (rw (← c.from.ensures) (not-below _ _ c.in_err-digit.ensures.value))

pub returns-in_err-checked_mul : goal.returns-in_err-checked_mul
returns-in_err-checked_mul c =
    let l = c.loop-c in
    let digit = c.in_ok-digit.ensures.value.1 ∙ ap digit_value c.from.ensures in
    let one : 1 ≤ c.args.radix = omega arith in
    c.from_residual-in_err-checked_mul.ensures
    ∙ too_large c.args.radix c.args.digits.now l.c-index c.loop-c-test.true l.value c.from-in-loop-c.result c.in_ok-digit.digit
    l.invariant.value c.from-in-loop-c.ensures digit one (product-over _ _ c.in_err-checked_mul.ensures)

pub returns-in_err-value : goal.returns-in_err-value
returns-in_err-value c =
    let l = c.loop-c in
    let digit = c.in_ok-digit.ensures.value.1 ∙ ap digit_value c.from.ensures in
    let one : 1 ≤ c.args.radix = omega arith in
    c.from_residual-in_err-value.ensures
    ∙ too_large c.args.radix c.args.digits.now l.c-index c.loop-c-test.true l.value c.from-in-loop-c.result c.in_ok-digit.digit
    l.invariant.value c.from-in-loop-c.ensures digit one
    (sum-over _ _ _ _ c.in_ok-checked_mul.ensures.1 c.from-in-loop-c-2.ensures c.in_err-value.ensures)

pub loop-c-preserved : goal.loop-c-preserved
loop-c-preserved c =
    let l = c.loop-c in
    let s = c.args.digits.now in
    let digit = c.in_ok-digit.ensures.value.1 ∙ ap digit_value c.from.ensures in
    let more = value-more c.args.radix s l.c-index c.loop-c-test.true l.value c.from-in-loop-c.result c.in_ok-digit.digit
    l.invariant.value c.from-in-loop-c.ensures digit in
    record {
      good = digits-more c.args.radix s l.c-index c.loop-c-test.true l.invariant.good (rw (← c.from.ensures) c.in_ok-digit.ensures.value.0);
      value = c.in_ok-value.ensures.1 ∙ ap₂ (λ (a b : ℕ). a + b) c.in_ok-checked_mul.ensures.1 c.from-in-loop-c-2.ensures ∙ more;
      fits = omega (arith, c.in_ok-value.ensures.0, c.in_ok-value.ensures.1);
    }

pub returns : goal.returns
returns c =
    let whole : take c.loop-c.c-index c.args.digits.now ≡ c.args.digits.now = take_all _ _ c.loop-c-test.false in
    all-digits c.args.radix c.args.digits.now (sym c.is_empty.ensures ∙ c.if-is_empty.false) (rw whole at c.loop-c.invariant.good) c.loop-c.value
    (rw whole at c.loop-c.invariant.value) c.loop-c.invariant.fits

-- Products that stop at the largest usize.
use Prim.Native.Nat.{ℕ, zero, suc, ◌*◌, ◌≤◌, ◌<◌}
use mathlib.Core.Path.{◌≡◌, sym, ◌∙◌}
use native.Mathlib.Omega.{arith}
use native.Mathlib.Nat.{mul-le-mul_right, le-mul_of_pos_right}
use lib.Dec.{leb}
use borrow.Author.Tests.{le-leb, lt-leb}
use Rattle.qspi.proofs.Cases.{by_order}
use Rattle.spi_nand.specs.Config.{usize_max, saturating}

pub exact : (n : ℕ) → n ≤ usize_max → saturating n ≡ n
exact n h = omega arith

pub stops : (n : ℕ) → usize_max < n → saturating n ≡ usize_max
stops n h = omega arith

-- with a factor of at least 1, what was over stays over
stopped : (n k : ℕ) → usize_max < n → saturating (usize_max * k) ≡ saturating (n * k)
stopped n zero h = omega arith
stopped n (suc k) h = omega (arith, mul-le-mul_right (suc k) h, le-mul_of_pos_right {m = suc k} usize_max (omega arith))

-- a product of three that stops in between comes to the same number
pub twice : (n k : ℕ) → saturating (saturating n * k) ≡ saturating (n * k)
twice n k = by_order n usize_max (λ h. rw (exact n h)) (λ h. rw (stops n h) (stopped n k h))

-- below its stop it compares as the product itself
pub below : (n k : ℕ) → k < usize_max → leb (saturating n) k ≡ leb n k
below n k h =
    by_order n k (λ le. le-leb (saturating n) k (omega arith) ∙ sym (le-leb n k le))
    (λ lt. lt-leb (saturating n) k (omega arith) ∙ sym (lt-leb n k lt))

-- Each mask expression by division and remainder, from the laws of bits.
-- Assumes nothing.
use Prim.Native.Nat.{ℕ, ◌%◌}
use mathlib.Core.Path.{ap, ◌∙◌}
use native.Mathlib.Nat.{div-one}
use lib.Bits.{and_mask}
use lib.Dec.{eqb, lit<}
use Rattle.spi_flash.proofs.Bits.{any-bit, set-bit, clear-bit}
use Rattle.spi_nor.specs.StatusBits.{StatusBits}

pub status_bits : StatusBits
status_bits = record {
  busy = λ b h. any-bit 0 b ∙ ap (λ (n : ℕ). eqb (n % 2) 1) (div-one b);
  write_enabled = λ b h. any-bit 1 b;
  quad_enabled1 = λ b h. any-bit 6 b;
  quad_enabled2 = λ b h. any-bit 1 b;
  with_quad1 = λ b h. set-bit 6 b;
  with_quad2 = λ b h. set-bit 1 b;
  without_quad1 = λ b h. clear-bit 6 b (lit< tt) h;
  without_quad2 = λ b h. clear-bit 1 b (lit< tt) h;
  unprotected1 = λ b h. and_mask b 2;
  unprotected2 = λ b h. and_mask b 5;
}

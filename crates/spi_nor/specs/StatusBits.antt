-- The mask expressions by division and remainder, for every byte.
use Rattle.std.specs.Prelude.{ℕ, ◌+◌, ◌-◌, ◌*◌, ◌/◌, ◌%◌, ◌<◌, ◌≡◌, eqb}
use Rattle.spi_nor.specs.Status.{busy_of, write_enabled_of, quad_enabled1_of, quad_enabled2_of, with_quad1_of, with_quad2_of, without_quad1_of, without_quad2_of, unprotected1_of, unprotected2_of}

pub record StatusBits : Type 0 where
  pub busy : (b : ℕ) → b < 256 → busy_of b ≡ eqb (b % 2) 1
  pub write_enabled : (b : ℕ) → b < 256 → write_enabled_of b ≡ eqb (b / 2 % 2) 1
  pub quad_enabled1 : (b : ℕ) → b < 256 → quad_enabled1_of b ≡ eqb (b / 64 % 2) 1
  pub quad_enabled2 : (b : ℕ) → b < 256 → quad_enabled2_of b ≡ eqb (b / 2 % 2) 1
  pub with_quad1 : (b : ℕ) → b < 256 → with_quad1_of b ≡ b + (1 - b / 64 % 2) * 64
  pub with_quad2 : (b : ℕ) → b < 256 → with_quad2_of b ≡ b + (1 - b / 2 % 2) * 2
  pub without_quad1 : (b : ℕ) → b < 256 → without_quad1_of b ≡ b - b / 64 % 2 * 64
  pub without_quad2 : (b : ℕ) → b < 256 → without_quad2_of b ≡ b - b / 2 % 2 * 2
  pub unprotected1 : (b : ℕ) → b < 256 → unprotected1_of b ≡ b % 4
  pub unprotected2 : (b : ℕ) → b < 256 → unprotected2_of b ≡ b % 32

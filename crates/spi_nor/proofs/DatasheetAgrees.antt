-- The driver against the datasheets: address bytes by the laws of `qspi`, bits by those of `spi_flash`.
-- Assumes nothing.
use Prim.Native.Nat.{ℕ, zero, suc, ◌-◌, ◌/◌, ◌%◌, ◌≤◌, ◌<◌}
use mathlib.Core.Path.{◌≡◌, refl, sym, ap, ◌∙◌}
use mathlib.Core.Bool.{Bool, true, false}
use native.Mathlib.Omega.{arith}
use Rattle.qspi.proofs.Addresses.{address-bytes}
use Rattle.std.specs.Prelude.{◌==◌, if◌then◌else◌}
use lib.Bits.{bit_and, bit_or}
use Rattle.spi_flash.specs.Bits.{bit, is_set, bit_not}
use Rattle.spi_flash.proofs.Bits.{any-bit, bit_below, bit-and, bit-or, bit-not}
use Rattle.spi_nor.specs.Opcode.{PAGE-PROGRAM, SECTOR-ERASE, BLOCK-ERASE, READ, timings_of}
use Rattle.spi_nor.specs.Status.{unprotected1_of, unprotected2_of}
use Rattle.spi_nor.specs.Config.{quad_w25q128jv, capacity_bytes_of, from_jedec}
use Rattle.spi_nor.specs.Datasheet as sheet
use Rattle.spi_nor.specs.DatasheetAgrees.{Instructions, Addresses, StatusRegisters, Parts, RustDeparts, DatasheetAgrees}
use Rattle.spi_nor.specs.declared.opcode.Operation.{Operation}
use Rattle.spi_nor.proofs.StatusBits.{status_bits}

instructions : Instructions
instructions = record {
  write_enable = refl;
  read_status1 = refl;
  read_status2 = refl;
  write_status1 = λ value. refl;
  write_status2 = λ value. refl;
  read_id = refl;
  read_unique_id = refl;
  read = λ offset. address-bytes.three READ offset;
  page_program = λ offset. address-bytes.three PAGE-PROGRAM offset;
  sector_erase = λ offset. address-bytes.three SECTOR-ERASE offset;
  block_erase = λ offset. address-bytes.three BLOCK-ERASE offset;
  quad_read = λ offset. address-bytes.three quad_w25q128jv.read_opcode offset;
  quad_page_program = λ offset. address-bytes.three quad_w25q128jv.page_program_opcode offset;
}

addresses : Addresses
addresses = record {
  w25q64jv = λ offset h. address-bytes.whole 3 offset (omega arith);
  w25q128jv = λ offset h. address-bytes.whole 3 offset h;
}

-- bits below a mask's lowest are kept
kept : (b : ℕ) → b < 256 → is_set sheet.qe_bit (unprotected2_of b) ≡ is_set sheet.qe_bit b
kept b h = let low : b % 32 / 2 % 2 ≡ b / 2 % 2 = omega arith in rw (status_bits.unprotected2 b h, low)

-- ---- one bit set or cleared

abbrev as_bit : Bool → ℕ
as_bit true = 1
as_bit false = 0

one-bit1 : (k : ℕ) → k < 8 → bit k 2 ≡ as_bit (k == 1)
one-bit1 zero h = refl
one-bit1 (suc zero) h = refl
one-bit1 (suc (suc zero)) h = refl
one-bit1 (suc (suc (suc zero))) h = refl
one-bit1 (suc (suc (suc (suc zero)))) h = refl
one-bit1 (suc (suc (suc (suc (suc zero))))) h = refl
one-bit1 (suc (suc (suc (suc (suc (suc zero)))))) h = refl
one-bit1 (suc (suc (suc (suc (suc (suc (suc zero))))))) h = refl
one-bit1 (suc (suc (suc (suc (suc (suc (suc (suc k)))))))) h = absurd (omega arith)

one-bit6 : (k : ℕ) → k < 8 → bit k 64 ≡ as_bit (k == 6)
one-bit6 zero h = refl
one-bit6 (suc zero) h = refl
one-bit6 (suc (suc zero)) h = refl
one-bit6 (suc (suc (suc zero))) h = refl
one-bit6 (suc (suc (suc (suc zero)))) h = refl
one-bit6 (suc (suc (suc (suc (suc zero))))) h = refl
one-bit6 (suc (suc (suc (suc (suc (suc zero)))))) h = refl
one-bit6 (suc (suc (suc (suc (suc (suc (suc zero))))))) h = refl
one-bit6 (suc (suc (suc (suc (suc (suc (suc (suc k)))))))) h = absurd (omega arith)

or-one : (x : ℕ) (this : Bool) → x < 2 → bit_or x (as_bit this) ≡ (if this then 1 else x)
or-one zero true h = refl
or-one zero false h = refl
or-one (suc zero) true h = refl
or-one (suc zero) false h = refl
or-one (suc (suc x)) this h = absurd (omega arith)

and-not-one : (x : ℕ) (this : Bool) → x < 2 → bit_and x (1 - as_bit this) ≡ (if this then 0 else x)
and-not-one zero true h = refl
and-not-one zero false h = refl
and-not-one (suc zero) true h = refl
and-not-one (suc zero) false h = refl
and-not-one (suc (suc x)) this h = absurd (omega arith)

-- `byte | mask`, where `this` says whether the mask has bit k
set : (k mask : ℕ) (this : Bool) → bit k mask ≡ as_bit this → (b : ℕ) → bit k (bit_or b mask) ≡ (if this then 1 else bit k b)
set k mask this e b = bit-or k b mask ∙ ap (bit_or (bit k b)) e ∙ or-one (bit k b) this (bit_below k b)

-- `byte & !mask`
cleared : (k mask : ℕ) (this : Bool) → k < 8 → mask < 256 → bit k mask ≡ as_bit this → (b : ℕ)
    → bit k (bit_and b (bit_not mask)) ≡ (if this then 0 else bit k b)
cleared k mask this h m e b =
    bit-and k b (bit_not mask)
    ∙ ap (bit_and (bit k b)) (bit-not k mask h m ∙ ap (λ (x : ℕ). 1 - x) e)
    ∙ and-not-one (bit k b) this (bit_below k b)

unprotects : (b1 b2 : ℕ) → b1 < 256 → b2 < 256 → sheet.none_protected (unprotected1_of b1) (unprotected2_of b2) ≡ true
unprotects b1 b2 h1 h2 =
    let bp2 : b1 % 4 / 16 % 2 ≡ 0 = omega arith in
    let bp1 : b1 % 4 / 8 % 2 ≡ 0 = omega arith in
    let bp0 : b1 % 4 / 4 % 2 ≡ 0 = omega arith in
    let cmp : b2 % 32 / 64 % 2 ≡ 0 = omega arith in
    rw (status_bits.unprotected1 b1 h1, status_bits.unprotected2 b2 h2, bp2, bp1, bp0, cmp)

status_registers : StatusRegisters
status_registers = record {
  busy = λ b h. any-bit sheet.busy_bit b;
  write_enabled = λ b h. any-bit sheet.wel_bit b;
  quad_enabled2 = λ b h. any-bit sheet.qe_bit b;
  busy_mask = refl;
  write_enable_mask = refl;
  quad_mask2 = refl;
  protect_mask1 = refl;
  quad_set2 = λ k h b. set k 2 (k == sheet.qe_bit) (one-bit1 k h) b;
  quad_cleared2 = λ k h b. cleared k 2 (k == sheet.qe_bit) h (omega arith) (one-bit1 k h) b;
  unprotected = unprotects;
  quad_kept2 = λ b h. any-bit sheet.qe_bit (unprotected2_of b) ∙ kept b h ∙ sym (any-bit sheet.qe_bit b);
}

parts : Parts
unfolding from_jedec capacity_bytes_of
parts = record { w25q64jv = refl; w25q128jv = refl; w25q64jv_m = refl; w25q128jv_m = refl }

enough : (operation : Operation) → sheet.longest_time operation ≤ (timings_of operation).timeout_us
unfolding timings_of
enough Operation.PageProgram = omega arith
enough Operation.SectorErase = omega arith
enough Operation.BlockErase = omega arith
enough Operation.StatusWrite = omega arith

lost : (b : ℕ) → b < 256 → is_set sheet.sec_bit (unprotected1_of b) ≡ false
lost b h = let none : b % 4 / 64 % 2 ≡ 0 = omega arith in rw (status_bits.unprotected1 b h, none)

lock-kept : (b : ℕ) → b < 256 → bit sheet.srl_bit (unprotected2_of b) ≡ bit sheet.srl_bit b
lock-kept b h = rw (status_bits.unprotected2 b h) (omega arith)

pub datasheet_agrees : DatasheetAgrees
datasheet_agrees = record {
  instructions = instructions;
  addresses = addresses;
  status_registers = status_registers;
  parts = parts;
  limits = record { enough = enough };
}

-- ---- departures

pub rust_departs : RustDeparts
rust_departs = record {
  quad_mask1 = refl;
  quad_set1 = λ k h b. set k 64 (k == sheet.sec_bit) (one-bit6 k h) b;
  quad_cleared1 = λ k h b. cleared k 64 (k == sheet.sec_bit) h (omega arith) (one-bit6 k h) b;
  quad_enabled1 = λ b h. any-bit sheet.sec_bit b;
  quad_lost1 = λ b h. any-bit sheet.sec_bit (unprotected1_of b) ∙ lost b h;
  protect_mask2 = refl;
  lock_kept2 = lock-kept;
}

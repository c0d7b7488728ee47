-- Status register bits (nor/status.rs; docs/SPECIFICATION.md, "Registers"). `bit_and` and `bit_or` are what the language's `&` and `|` compute.
use Rattle.std.specs.Prelude.{ℕ, ◌%◌, Bool}
use Rattle.std.specs.Int.Bits.{bit_and, bit_or}
use Rattle.spi_flash.specs.Bits.{any_of, bit_not}

-- ---- the Rust's masks, of status register 1 (SR1) and 2 (SR2)

abbrev pub BUSY : ℕ
BUSY = 0x01

abbrev pub WRITE-ENABLE-LATCH : ℕ
WRITE-ENABLE-LATCH = 0x02

-- departs from Winbond's datasheets, where bit 6 of status register-1 is SEC
abbrev pub QE-SR1 : ℕ
QE-SR1 = 0x40

abbrev pub QE-SR2 : ℕ
QE-SR2 = 0x02

abbrev pub SR1-PROTECT-MASK : ℕ
SR1-PROTECT-MASK = 0xFC

-- departs from its own comment in nor/status.rs: on Winbond's parts E0 is SUS, CMP and LB3, without SRP1
abbrev pub SR2-PROTECT-MASK : ℕ
SR2-PROTECT-MASK = 0xE0

-- `status | mask`
abbrev pub with_of : ℕ → ℕ → ℕ
with_of mask status = bit_or status mask

-- `status & !mask`
abbrev pub without_of : ℕ → ℕ → ℕ
without_of mask status = bit_and status (bit_not mask)

-- read_status1()? & status::BUSY != 0
abbrev pub busy_of : ℕ → Bool
busy_of status1 = any_of BUSY status1

-- of a number that a read of one byte came to
abbrev pub busy_value : ℕ → Bool
busy_value v = busy_of (v % 256)

-- write_enable: read_status1()? & status::WRITE_ENABLE_LATCH
abbrev pub write_enabled_of : ℕ → Bool
write_enabled_of status1 = any_of WRITE-ENABLE-LATCH status1

-- quad_enabled, enable_quad, disable_quad: & status::QE_SR1 != 0
abbrev pub quad_enabled1_of : ℕ → Bool
quad_enabled1_of status1 = any_of QE-SR1 status1

-- the same: & status::QE_SR2 != 0
abbrev pub quad_enabled2_of : ℕ → Bool
quad_enabled2_of status2 = any_of QE-SR2 status2

-- enable_quad: status1 | status::QE_SR1
abbrev pub with_quad1_of : ℕ → ℕ
with_quad1_of status1 = with_of QE-SR1 status1

-- enable_quad: status2 | status::QE_SR2
abbrev pub with_quad2_of : ℕ → ℕ
with_quad2_of status2 = with_of QE-SR2 status2

-- disable_quad: status1 & !status::QE_SR1
abbrev pub without_quad1_of : ℕ → ℕ
without_quad1_of status1 = without_of QE-SR1 status1

-- disable_quad: status2 & !status::QE_SR2
abbrev pub without_quad2_of : ℕ → ℕ
without_quad2_of status2 = without_of QE-SR2 status2

-- unprotect: before & !status::SR1_PROTECT_MASK
abbrev pub unprotected1_of : ℕ → ℕ
unprotected1_of status1 = without_of SR1-PROTECT-MASK status1

-- unprotect: sr2 & !status::SR2_PROTECT_MASK
abbrev pub unprotected2_of : ℕ → ℕ
unprotected2_of status2 = without_of SR2-PROTECT-MASK status2

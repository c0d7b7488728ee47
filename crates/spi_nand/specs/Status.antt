-- The feature registers C0, B0 and A0 (nand/status.rs; docs/SPECIFICATION.md, "Registers"), in the Rust's masks.
-- `bit_and` and `bit_or` are what the language's `&` and `|` compute.
use Rattle.std.specs.Prelude.{ℕ, ◌*◌, ◌/◌, ◌%◌, ◌^◌, Bool, List, codes, eqb}
use Rattle.std.specs.Int.Bits.{bit_and, bit_or}
use Rattle.qspi.specs.Choice.{pick}
use Rattle.spi_flash.specs.Bits.{any_of, bit_not}
use Rattle.spi_nand.specs.declared.status.Status.{Status}
use Rattle.spi_nand.specs.declared.status.EccVerdict.{EccVerdict}
use Rattle.spi_nand.specs.declared.status.Configuration.{Configuration}
use Rattle.spi_nand.specs.declared.status.Protection.{Protection}

-- ---- the status register, C0

abbrev pub status_of : ℕ → Status
status_of byte = record { 0 = byte }

abbrev pub status_byte : Status → ℕ
status_byte s = s.0

-- the Rust's masks
abbrev pub BUSY : ℕ
BUSY = 2 ^ 0

abbrev pub WRITE-ENABLED : ℕ
WRITE-ENABLED = 2 ^ 1

abbrev pub ERASE-FAILED : ℕ
ERASE-FAILED = 2 ^ 2

abbrev pub PROGRAM-FAILED : ℕ
PROGRAM-FAILED = 2 ^ 3

abbrev pub ECC-MASK : ℕ
ECC-MASK = 3 * 2 ^ 4

unfoldable pub busy_of : Status → Bool
busy_of s = any_of BUSY s.0

-- of a number that a read of one byte came to
abbrev pub busy_value : ℕ → Bool
busy_value v = busy_of (status_of (v % 256))

unfoldable pub write_enabled_of : Status → Bool
write_enabled_of s = any_of WRITE-ENABLED s.0

unfoldable pub erase_failed_of : Status → Bool
erase_failed_of s = any_of ERASE-FAILED s.0

unfoldable pub program_failed_of : Status → Bool
program_failed_of s = any_of PROGRAM-FAILED s.0

-- the bits of a verdict, as ecc_verdict matches them. Departs from the datasheets: 3 is, on the W25N01GV, errors beyond correction in several
-- pages of a continuous read, and on the W25N02KV corrected
abbrev pub verdict_number : EccVerdict → ℕ
verdict_number EccVerdict.NoBitFlips = 0
verdict_number EccVerdict.Corrected = 1
verdict_number EccVerdict.Uncorrectable = 2
verdict_number EccVerdict.Reserved = 3

-- the arms of the Rust's `match`
abbrev pub verdict_at : ℕ → EccVerdict
verdict_at n =
    pick (eqb n 0) EccVerdict.NoBitFlips
    (pick (eqb n 1) EccVerdict.Corrected (pick (eqb n 2) EccVerdict.Uncorrectable EccVerdict.Reserved))

unfoldable pub verdict_of : Status → EccVerdict
verdict_of s = verdict_at (bit_and s.0 ECC-MASK / 2 ^ 4)

-- EccVerdict::label, in character codes
abbrev pub label_of : EccVerdict → List ℕ
label_of EccVerdict.NoBitFlips = codes "no bit flips"
label_of EccVerdict.Corrected = codes "corrected"
label_of EccVerdict.Uncorrectable = codes "uncorrectable"
label_of EccVerdict.Reserved = codes "reserved"

-- ---- the configuration register, B0

abbrev pub configuration_of : ℕ → Configuration
configuration_of byte = record { 0 = byte }

abbrev pub configuration_byte : Configuration → ℕ
configuration_byte c = c.0

-- the Rust's masks. Departs from the datasheets: bit 0 is reserved on the W25N01GV, H-DIS on the W25N02KV
abbrev pub QUAD-ENABLE : ℕ
QUAD-ENABLE = 2 ^ 0

abbrev pub BUFFER-READ : ℕ
BUFFER-READ = 2 ^ 3

abbrev pub ECC-ENABLE : ℕ
ECC-ENABLE = 2 ^ 4

abbrev pub OTP-ENABLE : ℕ
OTP-ENABLE = 2 ^ 6

abbrev pub OPERATIONAL : Configuration
OPERATIONAL = configuration_of (bit_or ECC-ENABLE BUFFER-READ)

unfoldable pub ecc_enabled_of : Configuration → Bool
ecc_enabled_of c = any_of ECC-ENABLE c.0

unfoldable pub buffer_read_of : Configuration → Bool
buffer_read_of c = any_of BUFFER-READ c.0

unfoldable pub otp_enabled_of : Configuration → Bool
otp_enabled_of c = any_of OTP-ENABLE c.0

unfoldable pub quad_enabled_of : Configuration → Bool
quad_enabled_of c = any_of QUAD-ENABLE c.0

-- `(self.0 & !mask) | (mask & value)`
unfoldable pub with_bits : Configuration → ℕ → ℕ → Configuration
with_bits c mask value = configuration_of (bit_or (bit_and c.0 (bit_not mask)) (bit_and mask value))

-- the Rust's `==`
unfoldable pub same_configuration : Configuration → Configuration → Bool
same_configuration a b = eqb a.0 b.0

-- ---- the block-protection register, A0

abbrev pub protection_of : ℕ → Protection
protection_of byte = record { 0 = byte }

abbrev pub protection_byte : Protection → ℕ
protection_byte p = p.0

abbrev pub BLOCK-PROTECT-MASK : ℕ
BLOCK-PROTECT-MASK = 15 * 2 ^ 3

-- what unprotect writes
abbrev pub UNPROTECTED : ℕ
UNPROTECTED = 0x00

unfoldable pub block_protect_bits : Protection → ℕ
block_protect_bits p = bit_and p.0 BLOCK-PROTECT-MASK / 2 ^ 3

-- the Rust's is_unlocked
unfoldable pub is_unlocked : Protection → Bool
is_unlocked p = eqb (block_protect_bits p) 0

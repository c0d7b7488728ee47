-- Winbond's datasheets of the W25N01GV and the W25N02KV, each fact with what it rests on there; none speaks of the driver. No sheet was
-- at hand: all of this is written from memory, and `unsure` marks where that is weak. What names no part is of both.
use Rattle.std.specs.Prelude.{ℕ, ◌+◌, ◌*◌, ◌%◌, ◌^◌, Bool, true, false, ◌&&◌, List, [], ◌∷◌, ◌++◌}
use Rattle.qspi.specs.Address.{big_endian}
use Rattle.spi_flash.specs.Bits.{is_set, is_clear}
use Rattle.spi_nand.specs.declared.opcode.Operation.{Operation}

pub data Part : Type 0 where
  w25n01gv w25n02kv : Part

-- ---- sizes: "Features", and the figure "Flash Memory Architecture and Addressing"

abbrev pub page_bytes : Part → ℕ
page_bytes w25n01gv = 2048
page_bytes w25n02kv = 2048

abbrev pub spare_bytes : Part → ℕ
spare_bytes w25n01gv = 64
spare_bytes w25n02kv = 128

abbrev pub pages_per_block : Part → ℕ
pages_per_block w25n01gv = 64
pages_per_block w25n02kv = 64

abbrev pub block_count : Part → ℕ
block_count w25n01gv = 1024
block_count w25n02kv = 2048

abbrev pub page_count : Part → ℕ
page_count part = pages_per_block part * block_count part

-- a page with its spare
abbrev pub column_count : Part → ℕ
column_count part = page_bytes part + spare_bytes part

-- ---- addresses: the same figure, and the Instruction Set Tables

-- the page address: PA15-0 behind 8 dummy bits; PA16-0 behind 7
abbrev pub page_bits : Part → ℕ
page_bits w25n01gv = 16
page_bits w25n02kv = 17

-- three bytes; the dummy bits are sent as 0
abbrev pub page_address : Part → ℕ → List ℕ
page_address part page = big_endian 3 (page % 2 ^ page_bits part)

-- the column address: CA15-0, of which CA11-0 are used, in two bytes
abbrev pub column_bits : ℕ
column_bits = 12

abbrev pub column_address : ℕ → List ℕ
column_address column = big_endian 2 (column % 2 ^ column_bits)

-- ---- instructions: Instruction Set Table 2 (Buffer Read, BUF = 1)

-- sent where the table says Dummy
abbrev pub dummy : ℕ
dummy = 0x00

abbrev pub device_reset : List ℕ
device_reset = 0xFF ∷ []

abbrev pub jedec_id : List ℕ
jedec_id = 0x9F ∷ dummy ∷ []

abbrev pub read_status_register : ℕ → List ℕ
read_status_register register = 0x0F ∷ register ∷ []

abbrev pub write_status_register : ℕ → ℕ → List ℕ
write_status_register register value = 0x1F ∷ register ∷ value ∷ []

abbrev pub write_enable : List ℕ
write_enable = 0x06 ∷ []

abbrev pub block_erase : Part → ℕ → List ℕ
block_erase part page = 0xD8 ∷ page_address part page

abbrev pub program_data_load : ℕ → List ℕ
program_data_load column = 0x02 ∷ column_address column

abbrev pub quad_program_data_load : ℕ → List ℕ
quad_program_data_load column = 0x32 ∷ column_address column

abbrev pub program_execute : Part → ℕ → List ℕ
program_execute part page = 0x10 ∷ page_address part page

abbrev pub page_data_read : Part → ℕ → List ℕ
page_data_read part page = 0x13 ∷ page_address part page

abbrev pub read_data : ℕ → List ℕ
read_data column = 0x03 ∷ column_address column ++ dummy ∷ []

-- up to its dummy clocks
abbrev pub fast_read_quad_output : ℕ → List ℕ
fast_read_quad_output column = 0x6B ∷ column_address column

-- ---- the answer to 9F: "Manufacturer and Device Identification"

abbrev pub identification : Part → List ℕ
identification w25n01gv = 0xEF ∷ 0xAA ∷ 0x21 ∷ []
identification w25n02kv = 0xEF ∷ 0xAA ∷ 0x22 ∷ []

-- the same table of the W25M02GV's datasheet: two stacked dies, no W25N02KV
abbrev pub w25m02gv_identification : List ℕ
w25m02gv_identification = 0xEF ∷ 0xAB ∷ 0x21 ∷ []

-- ---- registers, and each of their bits by its number

-- "Protection Register / Status Register-1", A0
abbrev pub protection_register : ℕ
protection_register = 0xA0

abbrev pub SRP0 : ℕ
SRP0 = 7

abbrev pub BP3 : ℕ
BP3 = 6

abbrev pub BP2 : ℕ
BP2 = 5

abbrev pub BP1 : ℕ
BP1 = 4

abbrev pub BP0 : ℕ
BP0 = 3

abbrev pub TB : ℕ
TB = 2

abbrev pub WP-E : ℕ
WP-E = 1

abbrev pub SRP1 : ℕ
SRP1 = 0

-- "Status Register Memory Protection": no block is protected where BP3 to BP0 are 0, whatever TB is
abbrev pub none_protected : ℕ → Bool
none_protected byte = is_clear BP3 byte && is_clear BP2 byte && is_clear BP1 byte && is_clear BP0 byte

-- "Write Protection Enable (WP-E)": /WP and /HOLD are the data lines IO2 and IO3, as quad instructions need, only while WP-E is 0
abbrev pub quad_allowed : ℕ → Bool
quad_allowed byte = is_clear WP-E byte

-- "Configuration Register / Status Register-2", B0
abbrev pub configuration_register : ℕ
configuration_register = 0xB0

abbrev pub OTP-L : ℕ
OTP-L = 7

abbrev pub OTP-E : ℕ
OTP-E = 6

abbrev pub SR1-L : ℕ
SR1-L = 5

abbrev pub ECC-E : ℕ
ECC-E = 4

abbrev pub BUF : ℕ
BUF = 3

-- reserved on the W25N01GV, H-DIS on the W25N02KV (unsure); a quad enable on neither
abbrev pub RESERVED-OR-H-DIS : ℕ
RESERVED-OR-H-DIS = 0

-- "Status Register-3 (Status Only)", C0
abbrev pub status_register : ℕ
status_register = 0xC0

abbrev pub LUT-F : ℕ
LUT-F = 6

abbrev pub ECC-1 : ℕ
ECC-1 = 5

abbrev pub ECC-0 : ℕ
ECC-0 = 4

abbrev pub P-FAIL : ℕ
P-FAIL = 3

abbrev pub E-FAIL : ℕ
E-FAIL = 2

abbrev pub WEL : ℕ
WEL = 1

abbrev pub BUSY : ℕ
BUSY = 0

-- "Cumulative ECC Status (ECC-1, ECC-0)"; the last is of a continuous read (BUF = 0)
pub data EccStatus : Type 0 where
  clean corrected failed_in_one_page failed_in_several_pages : EccStatus

-- the same table, by ECC-1 and ECC-0
abbrev pub ecc_of_bits : Part → Bool → Bool → EccStatus
ecc_of_bits part false false = clean
ecc_of_bits part false true = corrected
ecc_of_bits part true false = failed_in_one_page
ecc_of_bits w25n01gv true true = failed_in_several_pages
-- corrected, with more flips than 01 tells (unsure; Linux's driver of the part has it so)
ecc_of_bits w25n02kv true true = corrected

abbrev pub ecc_status : Part → ℕ → EccStatus
ecc_status part byte = ecc_of_bits part (is_set ECC-1 byte) (is_set ECC-0 byte)

-- whether the page is as it was programmed
abbrev pub data_good : EccStatus → Bool
data_good clean = true
data_good corrected = true
data_good failed_in_one_page = false
data_good failed_in_several_pages = false

-- ---- "AC Electrical Characteristics": the longest time of each operation, in microseconds (unsure of the W25N02KV)

-- tRST during an erase, tRD with ECC, tPP, tBE; tW of a register is 50 ns
abbrev pub longest_time : Operation → ℕ
longest_time Operation.Reset = 500
longest_time Operation.PageRead = 60
longest_time Operation.Program = 700
longest_time Operation.Erase = 10000
longest_time Operation.WriteRegister = 1

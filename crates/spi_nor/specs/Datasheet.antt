-- Winbond's W25Q128JV and W25Q64JV, as their datasheets say, each fact with its table. No sheet was at hand: all of this is written
-- from memory, and `unsure` marks where that is weak. Bytes are hexadecimal.
use Rattle.std.specs.Prelude.{ℕ, ◌+◌, ◌*◌, ◌^◌, Bool, ◌&&◌, List, [], ◌∷◌}
use Rattle.qspi.specs.Address.{big_endian}
use Rattle.spi_flash.specs.Bits.{is_clear}
use Rattle.spi_nor.specs.declared.opcode.Operation.{Operation}

-- ---- "Instruction Set Table 1 (Standard SPI Instructions)": what goes in on DI, byte by byte

-- A23-A16, A15-A8, A7-A0
abbrev pub address_bytes : ℕ → List ℕ
address_bytes address = big_endian 3 address

abbrev pub write_enable : List ℕ
write_enable = 0x06 ∷ []

abbrev pub read_status_register1 : List ℕ
read_status_register1 = 0x05 ∷ []

abbrev pub read_status_register2 : List ℕ
read_status_register2 = 0x35 ∷ []

-- 01, (S7-S0)
abbrev pub write_status_register1 : ℕ → List ℕ
write_status_register1 value = 0x01 ∷ value ∷ []

-- 31, (S15-S8)
abbrev pub write_status_register2 : ℕ → List ℕ
write_status_register2 value = 0x31 ∷ value ∷ []

abbrev pub jedec_id : List ℕ
jedec_id = 0x9F ∷ []

-- 4B and four dummies, which may be any bytes
abbrev pub read_unique_id : ℕ → ℕ → ℕ → ℕ → List ℕ
read_unique_id a b c d = 0x4B ∷ a ∷ b ∷ c ∷ d ∷ []

abbrev pub read_data : ℕ → List ℕ
read_data address = 0x03 ∷ address_bytes address

abbrev pub page_program : ℕ → List ℕ
page_program address = 0x02 ∷ address_bytes address

-- 4 KB
abbrev pub sector_erase : ℕ → List ℕ
sector_erase address = 0x20 ∷ address_bytes address

-- 64 KB
abbrev pub block_erase : ℕ → List ℕ
block_erase address = 0xD8 ∷ address_bytes address

-- ---- "Instruction Set Table 2 (Dual/Quad SPI Instructions)"

-- before its dummy clocks
abbrev pub fast_read_quad_output : ℕ → List ℕ
fast_read_quad_output address = 0x6B ∷ address_bytes address

abbrev pub quad_input_page_program : ℕ → List ℕ
quad_input_page_program address = 0x32 ∷ address_bytes address

-- ---- "Status Register-1" (S7-S0) and "Status Register-2" (S15-S8): each bit by its number in its register

-- the mask of some bits
abbrev pub mask_of : List ℕ → ℕ
mask_of [] = 0
mask_of (k ∷ ks) = 2 ^ k + mask_of ks

-- S0
abbrev pub busy_bit : ℕ
busy_bit = 0

-- S1: write enable latch
abbrev pub wel_bit : ℕ
wel_bit = 1

-- S2 to S4: block protect
abbrev pub bp0_bit : ℕ
bp0_bit = 2

abbrev pub bp1_bit : ℕ
bp1_bit = 3

abbrev pub bp2_bit : ℕ
bp2_bit = 4

-- S5: top or bottom protect
abbrev pub tb_bit : ℕ
tb_bit = 5

-- S6: sector or block protect
abbrev pub sec_bit : ℕ
sec_bit = 6

-- S7: status register protect (SRP, or SRP0)
abbrev pub srp_bit : ℕ
srp_bit = 7

-- S8: status register lock (SRL, or SRP1)
abbrev pub srl_bit : ℕ
srl_bit = 0

-- S9: quad enable; on -IQ and -JQ parts it is always 1 (unsure)
abbrev pub qe_bit : ℕ
qe_bit = 1

-- S11 to S13: security register locks, one-time
abbrev pub lb1_bit : ℕ
lb1_bit = 3

abbrev pub lb2_bit : ℕ
lb2_bit = 4

abbrev pub lb3_bit : ℕ
lb3_bit = 5

-- S14: complement protect
abbrev pub cmp_bit : ℕ
cmp_bit = 6

-- S15: suspend status, read only
abbrev pub sus_bit : ℕ
sus_bit = 7

-- "Status Register Memory Protection", WPS = 0: no byte is protected where BP2 to BP0 and CMP are 0, whatever TB and SEC are
abbrev pub none_protected : (register1 register2 : ℕ) → Bool
none_protected register1 register2 =
    is_clear bp2_bit register1 && is_clear bp1_bit register1 && is_clear bp0_bit register1 && is_clear cmp_bit register2

-- ---- "Manufacturer and Device Identification"

-- MF7-MF0
abbrev pub winbond : ℕ
winbond = 0xEF

-- ID15-ID8 of the -IQ and -JQ parts
abbrev pub memory_type : ℕ
memory_type = 0x40

-- ID15-ID8 of the -IM and -JM parts (unsure)
abbrev pub memory_type_m : ℕ
memory_type_m = 0x70

-- ID7-ID0
abbrev pub w25q64jv_code : ℕ
w25q64jv_code = 0x17

abbrev pub w25q128jv_code : ℕ
w25q128jv_code = 0x18

-- ---- "General Descriptions": programmable pages of 256 bytes, erased in groups of 16 (4 KB sector) and of 256 (64 KB block)

abbrev pub page_bytes : ℕ
page_bytes = 256

abbrev pub sector_bytes : ℕ
sector_bytes = 16 * page_bytes

abbrev pub block_bytes : ℕ
block_bytes = 256 * page_bytes

-- 32,768 pages
abbrev pub w25q64jv_bytes : ℕ
w25q64jv_bytes = 32768 * page_bytes

-- 65,536 pages
abbrev pub w25q128jv_bytes : ℕ
w25q128jv_bytes = 65536 * page_bytes

-- ---- "AC Electrical Characteristics": the longest time of each operation, in microseconds (tPP, tSE, tBE2, tW)

abbrev pub longest_time : Operation → ℕ
longest_time Operation.PageProgram = 3000
longest_time Operation.SectorErase = 400000
longest_time Operation.BlockErase = 2000000
longest_time Operation.StatusWrite = 15000

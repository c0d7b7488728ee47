-- Opcodes, register addresses and wait limits (nand/opcode.rs; docs/SPECIFICATION.md, "Waits and bounds").
use Rattle.std.specs.Prelude.{ℕ, List, [], ◌∷◌, get_or}
use Rattle.spi_flash.specs.declared.wait.Timings.{Timings}
use Rattle.spi_nand.specs.declared.opcode.Operation.{Operation}

-- ---- the Rust's constants

abbrev pub RESET : ℕ
RESET = 0xFF

abbrev pub READ-ID : ℕ
READ-ID = 0x9F

abbrev pub GET-FEATURE : ℕ
GET-FEATURE = 0x0F

abbrev pub SET-FEATURE : ℕ
SET-FEATURE = 0x1F

abbrev pub WRITE-ENABLE : ℕ
WRITE-ENABLE = 0x06

abbrev pub PAGE-READ : ℕ
PAGE-READ = 0x13

abbrev pub READ-CACHE : ℕ
READ-CACHE = 0x03

abbrev pub BLOCK-ERASE : ℕ
BLOCK-ERASE = 0xD8

abbrev pub LOAD-PROGRAM-DATA : ℕ
LOAD-PROGRAM-DATA = 0x02

abbrev pub PROGRAM-EXECUTE : ℕ
PROGRAM-EXECUTE = 0x10

-- those of the Rust's NandQuadConfig::W25N01GV
abbrev pub QUAD-READ-CACHE : ℕ
QUAD-READ-CACHE = 0x6B

abbrev pub QUAD-LOAD-PROGRAM-DATA : ℕ
QUAD-LOAD-PROGRAM-DATA = 0x32

abbrev pub REG-BLOCK-PROTECTION : ℕ
REG-BLOCK-PROTECTION = 0xA0

abbrev pub REG-CONFIGURATION : ℕ
REG-CONFIGURATION = 0xB0

abbrev pub REG-STATUS : ℕ
REG-STATUS = 0xC0

-- ---- the wait limits

-- in microseconds
abbrev pub limits : (first poll limit : ℕ) → Timings
limits first poll limit = record { initial_us = first; poll_us = poll; timeout_us = limit }

-- a row for each operation
abbrev pub wait_limits : List Timings
wait_limits =
    limits 10 10 500000
    ∷ limits 10 10 400000
    ∷ limits 75 15 400000
    ∷ limits 250 50 400000
    ∷ limits 10 10 10000
    ∷ []

abbrev pub row_of : Operation → ℕ
row_of Operation.Reset = 0
row_of Operation.PageRead = 1
row_of Operation.Program = 2
row_of Operation.Erase = 3
row_of Operation.WriteRegister = 4

abbrev pub row_at : ℕ → Timings
row_at row = get_or wait_limits row (limits 0 0 0)

unfoldable pub timings_of : Operation → Timings
timings_of operation = row_at (row_of operation)

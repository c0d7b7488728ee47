-- Opcodes and the wait table (nor/opcode.rs; docs/SPECIFICATION.md, "Waits and bounds").
use Rattle.std.specs.Prelude.{ℕ, List, [], ◌∷◌, get_or}
use Rattle.spi_flash.specs.declared.wait.Timings.{Timings}
use Rattle.spi_nor.specs.declared.opcode.Operation.{Operation}

abbrev pub WRITE-ENABLE : ℕ
WRITE-ENABLE = 0x06

abbrev pub READ-STATUS1 : ℕ
READ-STATUS1 = 0x05

abbrev pub READ-STATUS2 : ℕ
READ-STATUS2 = 0x35

abbrev pub WRITE-STATUS1 : ℕ
WRITE-STATUS1 = 0x01

abbrev pub WRITE-STATUS2 : ℕ
WRITE-STATUS2 = 0x31

abbrev pub PAGE-PROGRAM : ℕ
PAGE-PROGRAM = 0x02

abbrev pub SECTOR-ERASE : ℕ
SECTOR-ERASE = 0x20

abbrev pub BLOCK-ERASE : ℕ
BLOCK-ERASE = 0xD8

abbrev pub READ : ℕ
READ = 0x03

abbrev pub READ-ID : ℕ
READ-ID = 0x9F

abbrev pub READ-UNIQUE-ID : ℕ
READ-UNIQUE-ID = 0x4B

-- those of the Rust's NorQuadConfig::W25Q128JV
abbrev pub QUAD-READ : ℕ
QUAD-READ = 0x6B

abbrev pub QUAD-PAGE-PROGRAM : ℕ
QUAD-PAGE-PROGRAM = 0x32

abbrev pub POLL-INTERVAL-US : ℕ
POLL-INTERVAL-US = 100

abbrev pub PAGE-PROGRAM-TIMEOUT-US : ℕ
PAGE-PROGRAM-TIMEOUT-US = 20000

abbrev pub SECTOR-ERASE-TIMEOUT-US : ℕ
SECTOR-ERASE-TIMEOUT-US = 1000000

abbrev pub BLOCK-ERASE-TIMEOUT-US : ℕ
BLOCK-ERASE-TIMEOUT-US = 5000000

abbrev pub STATUS-WRITE-TIMEOUT-US : ℕ
STATUS-WRITE-TIMEOUT-US = 100000

abbrev pub MAX-BULK-LEN : ℕ
MAX-BULK-LEN = 65536

abbrev pub wait_row : ℕ → ℕ → ℕ → Timings
wait_row first poll limit = record { initial_us = first; poll_us = poll; timeout_us = limit }

-- a row for each operation: no first delay, the poll delay, the limit
abbrev pub wait_table : List Timings
wait_table =
    wait_row 0 POLL-INTERVAL-US PAGE-PROGRAM-TIMEOUT-US
    ∷ wait_row 0 POLL-INTERVAL-US SECTOR-ERASE-TIMEOUT-US
    ∷ wait_row 0 POLL-INTERVAL-US BLOCK-ERASE-TIMEOUT-US
    ∷ wait_row 0 POLL-INTERVAL-US STATUS-WRITE-TIMEOUT-US
    ∷ []

abbrev pub row_of : Operation → ℕ
row_of Operation.PageProgram = 0
row_of Operation.SectorErase = 1
row_of Operation.BlockErase = 2
row_of Operation.StatusWrite = 3

abbrev pub row_at : ℕ → Timings
row_at row = get_or wait_table row (wait_row 0 0 0)

unfoldable pub timings_of : Operation → Timings
timings_of operation = row_at (row_of operation)

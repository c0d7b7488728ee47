-- Figures of the parts, each evaluated on the definitions that the contracts cite (docs/SPECIFICATION.md, "Readings").
use Rattle.std.specs.Prelude.{ℕ, ◌≡◌, Bool, true, false, List, [], ◌∷◌, ◌++◌, map, None}
use Rattle.qspi.specs.Command.{command_bytes}
use Rattle.spi_flash.specs.WaitLaw.{largest_sum, looks}
use Rattle.spi_nor.specs.Command.{read_command}
use Rattle.spi_nor.specs.Config.{jedec_id, w25q128jv, from_jedec, single_config}
use Rattle.spi_nor.specs.declared.config.NorDeviceInfo.{NorDeviceInfo}
use Rattle.spi_nor.specs.Transfer.{step_kind, after_unit}
use Rattle.nor_driver.specs.Call.{fresh_setup}
use Rattle.nor_runs.specs.Bound.{delay_bound}
use Rattle.spi_nor.specs.declared.phase.EraseKind.{EraseKind}
use Rattle.spi_nor.specs.declared.call.Call.{Call}
use Rattle.spi_nand.specs.Opcode.{timings_of}
use Rattle.spi_nand.specs.Command.{page_read_command}
use Rattle.spi_nand.specs.Status.{status_of, verdict_number, verdict_of, configuration_of, configuration_byte, protection_of, is_unlocked}
use Rattle.spi_nand.specs.Config.{W25N01GV, QUAD-W25N01GV, single_config as single_nand, quad_config, wanted_for}
use Rattle.spi_nand.specs.declared.config.SpiNandConfig.{SpiNandConfig}
use Rattle.spi_nand.specs.declared.opcode.Operation.{Operation}
use Rattle.spi_nand.specs.Transfer.{place_of, page_at, column_at, chunk_of}
use Rattle.spi_nand.specs.declared.call.Call.{Call as NandCall}
use Rattle.nand_driver.specs.Call.{fresh_setup as fresh_nand, begin_of}
use Rattle.nand_driver.specs.Settle.{SpiNandFlash, flash_of}
use Rattle.spi_nand.specs.declared.answer.Answer.{Answer}
use Rattle.machine.specs.Number.{number_of}
use Rattle.machine.specs.declared.state.Given.{Given}

-- the numbers that the definitions give, and those that are told of the part
pub record Reading : Type 0 where
  pub found : List ℕ
  pub told : List ℕ

abbrev pub reading : List ℕ → List ℕ → Reading
reading found told = record { found = found; told = told }

-- ---- as numbers

abbrev pub verdict : ℕ → ℕ
verdict byte = verdict_number (verdict_of (status_of byte))

-- 1 yes, 0 no
abbrev pub truth : Bool → ℕ
truth true = 1
truth false = 0

abbrev pub unlocked : ℕ → ℕ
unlocked byte = truth (is_unlocked (protection_of byte))

-- what the register has once it is made sure of, where it had this before
abbrev pub configured : SpiNandConfig → ℕ → ℕ
configured config before = configuration_byte (wanted_for config (configuration_of before))

-- of a maker that is in no row of KNOWN_NOR_DEVICES
abbrev pub unknown_nor : ℕ → NorDeviceInfo
unknown_nor code = from_jedec (jedec_id 0xC2 0x20 code)

abbrev pub device_numbers : NorDeviceInfo → List ℕ
device_numbers d = d.capacity ∷ d.sector_size ∷ d.block_size ∷ d.page_size ∷ []

-- ---- the list

-- the last page's address, behind the opcode
abbrev pub page_address : Reading
page_address = reading (command_bytes (page_read_command 65535)) (0x13 ∷ 0x00 ∷ 0xFF ∷ 0xFF ∷ [])

-- a NOR read, its address highest byte first
abbrev pub nor_read : Reading
nor_read = reading (command_bytes (read_command 0x123456)) (0x03 ∷ 0x12 ∷ 0x34 ∷ 0x56 ∷ [])

-- one status of each verdict
abbrev pub verdicts : Reading
verdicts = reading (verdict 0x00 ∷ verdict 0x10 ∷ verdict 0x20 ∷ verdict 0x30 ∷ []) (0 ∷ 1 ∷ 2 ∷ 3 ∷ [])

-- a protection that locks, and one that does not
abbrev pub protection : Reading
protection = reading (unlocked 0x7C ∷ unlocked 0x04 ∷ []) (0 ∷ 1 ∷ [])

-- a configuration with no bit set, without quad and with it
abbrev pub configuration : Reading
configuration = reading (configured single_nand 0x00 ∷ configured (quad_config QUAD-W25N01GV) 0x00 ∷ []) (0x18 ∷ 0x19 ∷ [])

-- a read of two bytes over the end of a page: of the piece behind so many bytes its page, its column and its length
abbrev pub piece_behind : ℕ → List ℕ
piece_behind done =
    page_at W25N01GV (place_of 2047 done) ∷ column_at W25N01GV (place_of 2047 done) ∷ chunk_of W25N01GV 2047 2 done ∷ []

abbrev pub nand_read : Reading
nand_read = reading (piece_behind 0 ++ piece_behind 1) (0 ∷ 2047 ∷ 1 ∷ 1 ∷ 0 ∷ 1 ∷ [])

-- a read at the end of a W25N01GV that is built, of no byte and of one: what is given at once (0 an action, 1 success, 2 a failure,
-- 3 a refusal) and its number
abbrev pub built_nand : SpiNandFlash
built_nand = flash_of (fresh_nand single_nand) true 0 None

abbrev pub kind_given : Given Answer → ℕ
kind_given (Given.Act action) = 0
kind_given (Given.Ended answer) = 1
kind_given (Given.Failed error) = 2
kind_given (Given.Refused error) = 3

abbrev pub read_at_end : ℕ → Given Answer
read_at_end n = (begin_of built_nand (NandCall.Read 134217728) 264 n 0).given

abbrev pub nand_end : Reading
nand_end =
    reading
    (kind_given (read_at_end 0) ∷ number_of (read_at_end 0) ∷ kind_given (read_at_end 1) ∷ number_of (read_at_end 1) ∷ [])
    (1 ∷ 0 ∷ 3 ∷ 5 ∷ [])

-- the smallest capacity that a code tells
abbrev pub nor_code : Reading
nor_code = reading ((unknown_nor 0x10).capacity ∷ []) (65536 ∷ [])

-- a code that tells none
abbrev pub nor_fallback : Reading
nor_fallback = reading (device_numbers (unknown_nor 0x19)) (device_numbers w25q128jv)

-- an erase over a whole block and a sector on either side: the kinds of its steps (0 sector, 1 block), where the last one ends, and
-- the bound on its delay
abbrev pub kind_number : EraseKind → ℕ
kind_number EraseKind.Sector = 0
kind_number EraseKind.Block = 1

abbrev pub step_from : ℕ → ℕ
step_from address = after_unit w25q128jv (step_kind w25q128jv address 0x21000) address

abbrev pub kind_from : ℕ → ℕ
kind_from address = kind_number (step_kind w25q128jv address 0x21000)

abbrev pub nor_erase : Reading
nor_erase =
    reading
    (kind_from 0xF000
    ∷ kind_from (step_from 0xF000)
    ∷ kind_from (step_from (step_from 0xF000))
    ∷ step_from (step_from (step_from 0xF000))
    ∷ delay_bound (fresh_setup single_config) (Call.Erase 0xF000 0x21000) 0
    ∷ [])
    (0 ∷ 1 ∷ 0 ∷ 0x21000 ∷ 7000000 ∷ [])

-- the looks of a program's wait, and the sum that it asks
abbrev pub program_wait : Reading
program_wait =
    reading (looks (timings_of Operation.Program) ∷ largest_sum (timings_of Operation.Program) ∷ []) (26663 ∷ 400005 ∷ [])

-- the looks of a page load's wait
abbrev pub load_wait : Reading
load_wait = reading (looks (timings_of Operation.PageRead) ∷ []) (40000 ∷ [])

abbrev pub readings : List Reading
readings =
    page_address
    ∷ nor_read
    ∷ verdicts
    ∷ protection
    ∷ configuration
    ∷ nand_read
    ∷ nand_end
    ∷ nor_code
    ∷ nor_fallback
    ∷ nor_erase
    ∷ program_wait
    ∷ load_wait
    ∷ []

-- each is as told
pub record ReadingsHold : Type 0 where
  pub all : map (λ r. r.found) readings ≡ map (λ r. r.told) readings

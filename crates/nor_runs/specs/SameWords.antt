-- The driver and the transcription of the Rust name the same sums, pieces, tests and transfers twice, each in its own words. Inside the
-- bounds (docs/SPECIFICATION.md, "Geometry") the driver's come to the Rust's.
use Rattle.std.specs.Prelude.{ℕ, ◌+◌, ◌-◌, ◌*◌, ◌≤◌, ◌<◌, ◌≡◌, min, true, [], ◌∷◌}
use Rattle.qspi.specs.Bytes.{byte_of, number_of}
use Rattle.qspi.specs.Transfer.{command_only}
use Rattle.qspi.specs.declared.command.Command.{Command}
use Rattle.qspi.specs.declared.transfer.Body.{Body}
use Rattle.qspi.specs.declared.transfer.Sink.{Sink}
use Rattle.qspi.specs.declared.transfer.Transfer.{Transfer}
use Rattle.spi_flash.specs.Number.{number_transfer}
use Rattle.spi_flash.specs.Range as Range
use Rattle.spi_nor.specs.Command.{quad_read_command, quad_page_program_command, sector_erase_command, block_erase_command}
use Rattle.spi_nor.specs.Config as Config
use Rattle.spi_nor.specs.Config.{in_bounds_of, w25q64jv, w25q128jv, quad_w25q128jv, single_config, quad_config}
use Rattle.spi_nor.specs.Datasheet as sheet
use Rattle.spi_nor.specs.Opcode as Opcode
use Rattle.spi_nor.specs.Transfer.{place_of, chunk_of, page_of, read_transfer, program_transfer, erase_transfer, erase_operation, multiple_of, unit_size, step_kind, after_unit}
use Rattle.spi_nor.specs.declared.config.NorDeviceInfo.{NorDeviceInfo}
use Rattle.spi_nor.specs.declared.config.NorJedecId.{NorJedecId}
use Rattle.spi_nor.specs.declared.config.NorQuadConfig.{NorQuadConfig}
use Rattle.spi_nor.specs.declared.config.SpiNorConfig.{SpiNorConfig}
use Rattle.spi_nor.specs.declared.opcode.Operation.{Operation}
use Rattle.spi_nor.specs.declared.phase.EraseKind.{EraseKind}
use Rattle.spi_nor.specs.declared.setup.Setup.{Setup}
use Rattle.nor_steps.specs.Opening.{fresh_setup}
use Rattle.nor_steps.specs.Register as Register
use Rattle.nor_steps.specs.Register.{id_of, known_as}
use Rattle.nor_runs.specs.RustConfig.{W25Q64JV, W25Q128JV, from_jedec, quad_default, single, quad}
use Rattle.nor_runs.specs.Rust.{MAX-VERIFY-PAGE-SIZE, MAX-BULK-LEN, is_multiple_of, range_in_bounds, erase_step, id-of, read-piece, program-piece, chunk_len, constructed}

pub record SameWords : Type 0 where
  -- fn command and fn command_then_read: their frames
  pub commands : (command : Command) → command_only command ≡ Transfer.Framed command Body.None
  pub numbers : (command : Command) (n : ℕ) → number_transfer command n ≡ Transfer.Framed command (Body.Read n Sink.Number)
  -- fn range_in_bounds, and is_multiple_of
  pub ranges : (capacity offset n : ℕ) → Range.range_in_bounds capacity offset n ≡ range_in_bounds capacity offset n
  pub multiples : (n unit : ℕ) → multiple_of n unit ≡ is_multiple_of n unit
  -- fn read: the place and the length of a piece, and its frame
  pub most : Opcode.MAX-BULK-LEN ≡ MAX-BULK-LEN
  pub places : (offset done : ℕ) → offset + done ≤ 16777216 → place_of offset done ≡ offset + done
  pub pieces : (len done : ℕ) → chunk_of len done ≡ min (len - done) MAX-BULK-LEN
  pub reads : (flash : Setup) (offset n : ℕ) (sink : Sink) → read_transfer flash offset n sink ≡ read-piece flash.config.quad offset n sink
  -- fn write and fn page_program: a chunk, and its frame
  pub pages : (device : NorDeviceInfo) (len index : ℕ) → page_of device len (index * device.page_size) ≡ chunk_len len device.page_size index
  pub programs : (flash : Setup) (offset from n : ℕ) → program_transfer flash offset from n ≡ program-piece flash.config.quad offset from n
  -- fn erase_step, fn erase_sector, fn erase_block
  pub steps : (device : NorDeviceInfo) → in_bounds_of device ≡ true → (address to : ℕ) → address < to → to ≤ device.capacity →
      erase_step address to device.sector_size device.block_size ≡ (step_kind device address to, after_unit device (step_kind device address to) address)
  pub sector_size : (device : NorDeviceInfo) → unit_size device EraseKind.Sector ≡ device.sector_size
  pub block_size : (device : NorDeviceInfo) → unit_size device EraseKind.Block ≡ device.block_size
  pub sector_command : (offset : ℕ) → erase_transfer EraseKind.Sector offset ≡ command_only (sector_erase_command offset)
  pub block_command : (offset : ℕ) → erase_transfer EraseKind.Block offset ≡ command_only (block_erase_command offset)
  pub sector_wait : erase_operation EraseKind.Sector ≡ Operation.SectorErase
  pub block_wait : erase_operation EraseKind.Block ≡ Operation.BlockErase
  -- fn read, fn page_program: with any quad config, its own opcodes
  pub quad_reads : (q : NorQuadConfig) (offset : ℕ) → quad_read_command q offset ≡ Command.Address q.read_opcode offset
  pub quad_programs : (q : NorQuadConfig) (offset : ℕ) → quad_page_program_command q offset ≡ Command.Address q.page_program_opcode offset
  -- fn read_status1, fn read_status2: buffer[0]
  pub register_byte : (b : ℕ) → b < 256 → byte_of b ≡ b
  -- fn jedec_id: buffer[0], buffer[1], buffer[2]
  pub bytes : (a b c : ℕ) → a < 256 → b < 256 → c < 256 → id-of (number_of (a ∷ b ∷ c ∷ [])) ≡ record { manufacturer = a; memory_type = b; capacity = c }
  pub ids : (v : ℕ) → id_of v ≡ id-of v
  -- NorDeviceInfo::from_jedec
  pub devices : (id : NorJedecId) → Config.from_jedec id ≡ from_jedec id
  pub w25q64jv : w25q64jv ≡ W25Q64JV
  pub w25q128jv : w25q128jv ≡ W25Q128JV
  -- the three bytes of either part's id give its device
  pub w25q64jv_known : from_jedec (id-of (number_of (sheet.winbond ∷ sheet.memory_type ∷ sheet.w25q64jv_code ∷ []))) ≡ W25Q64JV
  pub w25q128jv_known : from_jedec (id-of (number_of (sheet.winbond ∷ sheet.memory_type ∷ sheet.w25q128jv_code ∷ []))) ≡ W25Q128JV
  -- fn with_config: the limit of a page, and the struct once the id is read
  pub page_limit : Register.MAX-VERIFY-PAGE-SIZE ≡ MAX-VERIFY-PAGE-SIZE
  pub built : (config : SpiNorConfig) (v : ℕ) → known_as (fresh_setup config) v ≡ constructed config (id-of v)
  -- NorQuadConfig::default, SpiNorConfig::single, SpiNorConfig::quad
  pub quad_numbers : quad_w25q128jv ≡ quad_default
  pub single_line : single_config ≡ single
  pub four_lines : (q : NorQuadConfig) → quad_config q ≡ quad q

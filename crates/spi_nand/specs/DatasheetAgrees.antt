-- The driver's commands, registers and geometries are those of the datasheets, for every page, column and byte; and where they are not.
use Rattle.std.specs.Prelude.{ℕ, ◌+◌, ◌*◌, ◌^◌, ◌≤◌, ◌<◌, ◌≡◌, true, false, not, ◌&&◌, ◌||◌, ◌==◌, if◌then◌else◌, is_some, ◌∷◌}
use Rattle.qspi.specs.Choice.{pick}
use Rattle.qspi.specs.Address.{big_endian, read_from}
use Rattle.qspi.specs.Command.{command_bytes}
use Rattle.spi_flash.specs.Bits.{bit, is_set}
use Rattle.spi_nand.specs.Opcode.{REG-BLOCK-PROTECTION, REG-CONFIGURATION, REG-STATUS, timings_of}
use Rattle.spi_nand.specs.Status.{status_of, busy_of, write_enabled_of, erase_failed_of, program_failed_of, verdict_number, verdict_of, configuration_of, configuration_byte, ecc_enabled_of, buffer_read_of, otp_enabled_of, quad_enabled_of, with_bits, protection_of, UNPROTECTED, block_protect_bits, is_unlocked}
use Rattle.spi_nand.specs.Verdict.{uncorrectable}
use Rattle.spi_nand.specs.Config.{jedec_id_of, geometry_of, W25N01GV, W25N02KV, from_jedec, QUAD-W25N01GV, wanted_for}
use Rattle.spi_nand.specs.Command.{reset_command, read_id_command, get_feature_command, set_feature_command, write_enable_command, page_read_command, read_cache_command, block_erase_command, load_program_data_command, program_execute_command, quad_read_cache_command, quad_load_program_data_command}
use Rattle.spi_nand.specs.Datasheet as sheet
use Rattle.spi_nand.specs.Datasheet.{Part, w25n01gv, w25n02kv}
use Rattle.spi_nand.specs.declared.config.NandGeometry.{NandGeometry}
use Rattle.spi_nand.specs.declared.config.SpiNandConfig.{SpiNandConfig}
use Rattle.spi_nand.specs.declared.opcode.Operation.{Operation}
use Rattle.spi_nand.specs.declared.status.EccVerdict.{EccVerdict}

-- every page of the part has an address of its own, sent whole
pub record PagesAgree (part : Part) : Type 0 where
  pub count : sheet.page_count part ≡ 2 ^ sheet.page_bits part
  pub back : (page : ℕ) → page < sheet.page_count part → read_from 0 (sheet.page_address part page) ≡ page
  pub page_read : (page : ℕ) → page < sheet.page_count part → command_bytes (page_read_command page) ≡ sheet.page_data_read part page
  pub block_erase : (page : ℕ) → page < sheet.page_count part → command_bytes (block_erase_command page) ≡ sheet.block_erase part page
  pub program_execute : (page : ℕ) → page < sheet.page_count part → command_bytes (program_execute_command page) ≡ sheet.program_execute part page

-- every column of a page with its spare
pub record ColumnsAgree (part : Part) : Type 0 where
  pub count : sheet.column_count part ≤ 2 ^ sheet.column_bits
  pub back : (column : ℕ) → column < sheet.column_count part → read_from 0 (sheet.column_address column) ≡ column
  pub read_cache : (column : ℕ) → column < sheet.column_count part → command_bytes (read_cache_command column) ≡ sheet.read_data column
  pub load_program_data : (column : ℕ) → column < sheet.column_count part
      → command_bytes (load_program_data_command column) ≡ sheet.program_data_load column
  pub quad_read_cache : (column : ℕ) → column < sheet.column_count part
      → command_bytes (quad_read_cache_command QUAD-W25N01GV column) ≡ sheet.fast_read_quad_output column
  pub quad_load_program_data : (column : ℕ) → column < sheet.column_count part
      → command_bytes (quad_load_program_data_command QUAD-W25N01GV column) ≡ sheet.quad_program_data_load column

pub record CommandsAgree : Type 0 where
  pub reset : command_bytes reset_command ≡ sheet.device_reset
  pub read_id : command_bytes read_id_command ≡ sheet.jedec_id
  pub get_feature : (register : ℕ) → command_bytes (get_feature_command register) ≡ sheet.read_status_register register
  pub set_feature : (register value : ℕ) → command_bytes (set_feature_command register value) ≡ sheet.write_status_register register value
  pub write_enable : command_bytes write_enable_command ≡ sheet.write_enable
  pub pages : (part : Part) → PagesAgree part
  pub columns : (part : Part) → ColumnsAgree part
  -- the dummy byte in front of the W25N01GV's page address
  pub first_byte : (page : ℕ) → sheet.page_address w25n01gv page ≡ 0x00 ∷ big_endian 2 page

abbrev pub geometry_of_part : Part → NandGeometry
geometry_of_part part =
    geometry_of (sheet.page_bytes part) (sheet.spare_bytes part) (sheet.pages_per_block part) (sheet.block_count part)

pub record GeometriesAgree : Type 0 where
  pub first : W25N01GV ≡ geometry_of_part w25n01gv
  pub second : W25N02KV ≡ geometry_of_part w25n02kv
  pub detected : from_jedec (jedec_id_of (sheet.identification w25n01gv)) ≡ geometry_of_part w25n01gv

-- of every number, and so of every byte
pub record RegistersAgree : Type 0 where
  pub protection : REG-BLOCK-PROTECTION ≡ sheet.protection_register
  pub configuration : REG-CONFIGURATION ≡ sheet.configuration_register
  pub status : REG-STATUS ≡ sheet.status_register
  pub busy : (b : ℕ) → busy_of (status_of b) ≡ is_set sheet.BUSY b
  pub write_enabled : (b : ℕ) → write_enabled_of (status_of b) ≡ is_set sheet.WEL b
  pub erase_failed : (b : ℕ) → erase_failed_of (status_of b) ≡ is_set sheet.E-FAIL b
  pub program_failed : (b : ℕ) → program_failed_of (status_of b) ≡ is_set sheet.P-FAIL b
  pub verdict : (b : ℕ) → verdict_number (verdict_of (status_of b)) ≡ bit sheet.ECC-1 b * 2 + bit sheet.ECC-0 b
  -- a W25N02KV's page is refused just where it could not be corrected
  pub refused : (b : ℕ) → uncorrectable (verdict_of (status_of b)) ≡ not (sheet.data_good (sheet.ecc_status w25n02kv b))
  pub ecc_enabled : (b : ℕ) → ecc_enabled_of (configuration_of b) ≡ is_set sheet.ECC-E b
  pub buffer_read : (b : ℕ) → buffer_read_of (configuration_of b) ≡ is_set sheet.BUF b
  pub otp_enabled : (b : ℕ) → otp_enabled_of (configuration_of b) ≡ is_set sheet.OTP-E b
  -- the bits of the mask come from the value, the others stay
  pub with_bits : (k : ℕ) → k < 8 → (b mask value : ℕ) → mask < 256
      → bit k (configuration_byte (with_bits (configuration_of b) mask value)) ≡ pick (is_set k mask) (bit k value) (bit k b)
  -- what `ensure_configuration` writes: ECC-E and BUF set, with quad bit 0 too, and the other bits as they were read
  pub configured : (config : SpiNandConfig) (k : ℕ) → k < 8 → (b : ℕ)
      → bit k (configuration_byte (wanted_for config (configuration_of b)))
      ≡ (if k == sheet.ECC-E || k == sheet.BUF || k == sheet.RESERVED-OR-H-DIS && is_some config.quad then 1 else bit k b)
  pub block_protect : (b : ℕ)
      → block_protect_bits (protection_of b) ≡ bit sheet.BP3 b * 8 + bit sheet.BP2 b * 4 + bit sheet.BP1 b * 2 + bit sheet.BP0 b
  pub unlocked : (b : ℕ) → is_unlocked (protection_of b) ≡ sheet.none_protected b
  -- what `unprotect` writes protects no block, and leaves quad instructions allowed
  pub unprotected : sheet.none_protected UNPROTECTED ≡ true
  pub quad_allowed : sheet.quad_allowed UNPROTECTED ≡ true

-- no wait gives up before the parts' longest time
pub record Limits : Type 0 where
  pub enough : (operation : Operation) → sheet.longest_time operation ≤ (timings_of operation).timeout_us

pub record DatasheetAgrees : Type 0 where
  pub commands : CommandsAgree
  pub geometries : GeometriesAgree
  pub registers : RegistersAgree
  pub limits : Limits

-- ---- where the Rust departs, and the port with it

-- what the Rust's verdicts are on each part
abbrev pub status_of_verdict : Part → EccVerdict → sheet.EccStatus
status_of_verdict part EccVerdict.NoBitFlips = sheet.clean
status_of_verdict part EccVerdict.Corrected = sheet.corrected
status_of_verdict part EccVerdict.Uncorrectable = sheet.failed_in_one_page
-- reserved to the Rust, and no failure: a failure of the W25N01GV, none of the W25N02KV
status_of_verdict w25n01gv EccVerdict.Reserved = sheet.failed_in_several_pages
status_of_verdict w25n02kv EccVerdict.Reserved = sheet.corrected

pub record RustDeparts : Type 0 where
  -- a W25N02KV answers an id that the Rust does not know, and is taken for a W25N01GV
  pub unknown : from_jedec (jedec_id_of (sheet.identification w25n02kv)) ≡ geometry_of_part w25n01gv
  -- the Rust's id of a W25N02KV is a W25M02GV's
  pub other_part : from_jedec (jedec_id_of sheet.w25m02gv_identification) ≡ geometry_of_part w25n02kv
  -- the Rust's quad-enable bit is none
  pub quad_enabled : (b : ℕ) → quad_enabled_of (configuration_of b) ≡ is_set sheet.RESERVED-OR-H-DIS b
  -- a part with A0 = 02 counts as unlocked, so nothing is written there and quad instructions stay off
  pub quad_left_off : (is_unlocked (protection_of 0x02) ≡ true) × (sheet.quad_allowed 0x02 ≡ false)
  -- of a W25N01GV so too, but for both ECC bits set, which the Rust takes for no failure
  pub refused : (b : ℕ) → (is_set sheet.ECC-1 b && is_set sheet.ECC-0 b) ≡ false
      → uncorrectable (verdict_of (status_of b)) ≡ not (sheet.data_good (sheet.ecc_status w25n01gv b))
  pub passed : (b : ℕ) → (is_set sheet.ECC-1 b && is_set sheet.ECC-0 b) ≡ true
      → (uncorrectable (verdict_of (status_of b)) ≡ false) × (sheet.ecc_status w25n01gv b ≡ sheet.failed_in_several_pages)
  pub verdict : (part : Part) (b : ℕ) → status_of_verdict part (verdict_of (status_of b)) ≡ sheet.ecc_status part b

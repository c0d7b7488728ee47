-- The driver's commands, bits, ids and sizes are the datasheets', and its limits no shorter than their longest times; and where they are not.
use Rattle.std.specs.Prelude.{ℕ, ◌≤◌, ◌<◌, ◌≡◌, true, false, ◌==◌, if◌then◌else◌, [], ◌∷◌}
use Rattle.qspi.specs.Address.{SentWhole}
use Rattle.qspi.specs.Command.{command_bytes}
use Rattle.spi_flash.specs.Bits.{bit, is_set}
use Rattle.spi_nor.specs.Opcode.{timings_of}
use Rattle.spi_nor.specs.Status.{BUSY, WRITE-ENABLE-LATCH, QE-SR1, QE-SR2, SR1-PROTECT-MASK, SR2-PROTECT-MASK, busy_of, write_enabled_of, quad_enabled1_of, quad_enabled2_of, with_quad1_of, with_quad2_of, without_quad1_of, without_quad2_of, unprotected1_of, unprotected2_of}
use Rattle.spi_nor.specs.Config.{quad_w25q128jv, jedec_id, from_jedec}
use Rattle.spi_nor.specs.Command.{write_enable_command, read_status1_command, read_status2_command, write_status1_command, write_status2_command, read_id_command, read_unique_id_command, read_command, page_program_command, sector_erase_command, block_erase_command, quad_read_command, quad_page_program_command}
use Rattle.spi_nor.specs.Datasheet as sheet
use Rattle.spi_nor.specs.declared.opcode.Operation.{Operation}
use Rattle.spi_nor.specs.declared.config.NorDeviceInfo.{NorDeviceInfo}

-- each command's bytes are the instruction's
pub record Instructions : Type 0 where
  pub write_enable : command_bytes write_enable_command ≡ sheet.write_enable
  pub read_status1 : command_bytes read_status1_command ≡ sheet.read_status_register1
  pub read_status2 : command_bytes read_status2_command ≡ sheet.read_status_register2
  pub write_status1 : (value : ℕ) → command_bytes (write_status1_command value) ≡ sheet.write_status_register1 value
  pub write_status2 : (value : ℕ) → command_bytes (write_status2_command value) ≡ sheet.write_status_register2 value
  pub read_id : command_bytes read_id_command ≡ sheet.jedec_id
  pub read_unique_id : command_bytes read_unique_id_command ≡ sheet.read_unique_id 0 0 0 0
  pub read : (offset : ℕ) → command_bytes (read_command offset) ≡ sheet.read_data offset
  pub page_program : (offset : ℕ) → command_bytes (page_program_command offset) ≡ sheet.page_program offset
  pub sector_erase : (offset : ℕ) → command_bytes (sector_erase_command offset) ≡ sheet.sector_erase offset
  pub block_erase : (offset : ℕ) → command_bytes (block_erase_command offset) ≡ sheet.block_erase offset
  pub quad_read : (offset : ℕ) → command_bytes (quad_read_command quad_w25q128jv offset) ≡ sheet.fast_read_quad_output offset
  pub quad_page_program : (offset : ℕ) → command_bytes (quad_page_program_command quad_w25q128jv offset) ≡ sheet.quad_input_page_program offset

-- every offset of each part goes out whole: its address bytes, read highest first, are the offset
pub record Addresses : Type 0 where
  pub w25q64jv : (offset : ℕ) → offset < sheet.w25q64jv_bytes → SentWhole 3 offset
  pub w25q128jv : (offset : ℕ) → offset < sheet.w25q128jv_bytes → SentWhole 3 offset

pub record StatusRegisters : Type 0 where
  pub busy : (b : ℕ) → b < 256 → busy_of b ≡ is_set sheet.busy_bit b
  pub write_enabled : (b : ℕ) → b < 256 → write_enabled_of b ≡ is_set sheet.wel_bit b
  pub quad_enabled2 : (b : ℕ) → b < 256 → quad_enabled2_of b ≡ is_set sheet.qe_bit b
  pub busy_mask : BUSY ≡ sheet.mask_of (sheet.busy_bit ∷ [])
  pub write_enable_mask : WRITE-ENABLE-LATCH ≡ sheet.mask_of (sheet.wel_bit ∷ [])
  pub quad_mask2 : QE-SR2 ≡ sheet.mask_of (sheet.qe_bit ∷ [])
  pub protect_mask1 :
      SR1-PROTECT-MASK ≡ sheet.mask_of (sheet.bp0_bit ∷ sheet.bp1_bit ∷ sheet.bp2_bit ∷ sheet.tb_bit ∷ sheet.sec_bit ∷ sheet.srp_bit ∷ [])
  -- `enable_quad` sets QE and `disable_quad` clears it in register-2, and the other bits stay
  pub quad_set2 : (k : ℕ) → k < 8 → (b : ℕ) → bit k (with_quad2_of b) ≡ (if k == sheet.qe_bit then 1 else bit k b)
  pub quad_cleared2 : (k : ℕ) → k < 8 → (b : ℕ) → bit k (without_quad2_of b) ≡ (if k == sheet.qe_bit then 0 else bit k b)
  -- what `unprotect` writes protects nothing
  pub unprotected : (b1 b2 : ℕ) → b1 < 256 → b2 < 256 → sheet.none_protected (unprotected1_of b1) (unprotected2_of b2) ≡ true
  -- and keeps the quad bit of register-2
  pub quad_kept2 : (b : ℕ) → b < 256 → quad_enabled2_of (unprotected2_of b) ≡ quad_enabled2_of b

-- the geometry of a part of so many bytes
abbrev pub geometry : ℕ → NorDeviceInfo
geometry bytes =
    record { capacity = bytes; sector_size = sheet.sector_bytes; block_size = sheet.block_bytes; page_size = sheet.page_bytes }

-- each part's id gives its sizes; those of the -IM and -JM parts are found by their capacity codes
pub record Parts : Type 0 where
  pub w25q64jv : from_jedec (jedec_id sheet.winbond sheet.memory_type sheet.w25q64jv_code) ≡ geometry sheet.w25q64jv_bytes
  pub w25q128jv : from_jedec (jedec_id sheet.winbond sheet.memory_type sheet.w25q128jv_code) ≡ geometry sheet.w25q128jv_bytes
  pub w25q64jv_m : from_jedec (jedec_id sheet.winbond sheet.memory_type_m sheet.w25q64jv_code) ≡ geometry sheet.w25q64jv_bytes
  pub w25q128jv_m : from_jedec (jedec_id sheet.winbond sheet.memory_type_m sheet.w25q128jv_code) ≡ geometry sheet.w25q128jv_bytes

-- no wait gives up before the part's longest time
pub record Limits : Type 0 where
  pub enough : (operation : Operation) → sheet.longest_time operation ≤ (timings_of operation).timeout_us

pub record DatasheetAgrees : Type 0 where
  pub instructions : Instructions
  pub addresses : Addresses
  pub status_registers : StatusRegisters
  pub parts : Parts
  pub limits : Limits

-- ---- where the Rust departs, and the port with it

pub record RustDeparts : Type 0 where
  -- QE_SR1: what the Rust takes for quad enable in register-1 is SEC
  pub quad_mask1 : QE-SR1 ≡ sheet.mask_of (sheet.sec_bit ∷ [])
  pub quad_enabled1 : (b : ℕ) → b < 256 → quad_enabled1_of b ≡ is_set sheet.sec_bit b
  -- so `enable_quad`, where QE did not set, sets SEC, and `disable_quad`, where QE is clear, clears it; the other bits stay
  pub quad_set1 : (k : ℕ) → k < 8 → (b : ℕ) → bit k (with_quad1_of b) ≡ (if k == sheet.sec_bit then 1 else bit k b)
  pub quad_cleared1 : (k : ℕ) → k < 8 → (b : ℕ) → bit k (without_quad1_of b) ≡ (if k == sheet.sec_bit then 0 else bit k b)
  -- and `unprotect` clears it
  pub quad_lost1 : (b : ℕ) → b < 256 → quad_enabled1_of (unprotected1_of b) ≡ false
  -- SR2_PROTECT_MASK covers LB3, CMP and SUS, and leaves SRL (SRP1), which the Rust's comment names
  pub protect_mask2 : SR2-PROTECT-MASK ≡ sheet.mask_of (sheet.lb3_bit ∷ sheet.cmp_bit ∷ sheet.sus_bit ∷ [])
  pub lock_kept2 : (b : ℕ) → b < 256 → bit sheet.srl_bit (unprotected2_of b) ≡ bit sheet.srl_bit b

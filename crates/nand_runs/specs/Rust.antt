-- nand/driver.rs, transcribed: a definition for each of its functions, under its names and in its order, but that one which uses
-- others stands behind them (with_config is last). info, config, geometry and free are in `Program.antt`, its config.rs in
-- `RustConfig.antt`; page_address is in the commands of spi_nand.
-- `transfer` is one select frame of the Rust (`command`, `command_then_read`, or a quad call between cs_low and cs_high) or one
-- delay; a bus error in it ends the call, as `?` does. Their bus calls are in `OnBus.antt` of spi_flash.
-- Sums and products are those of numbers without a largest; inside the bounds none of the Rust's wraps (`NothingWraps.antt`), and the
-- driver's own words for these sums, pieces and tests come to the same (`SameWords.antt`).
use Rattle.spi_nand.specs.declared.config.NandQuadConfig.{NandQuadConfig}
use Rattle.std.specs.Prelude.{ℕ, zero, suc, ◌+◌, ◌-◌, ◌*◌, ◌/◌, ◌%◌, ◌^◌, min, Bool, true, false, not, ltb, leb, eqb, if◌then◌else◌, Option, Some, None}
use Rattle.std.specs.Int.Bits.{bit_or}
use Rattle.qspi.specs.Transfer.{command_only}
use Rattle.qspi.specs.declared.transfer.Body.{Body}
use Rattle.qspi.specs.declared.transfer.Payload.{Payload}
use Rattle.qspi.specs.declared.transfer.Sink.{Sink}
use Rattle.qspi.specs.declared.transfer.Transfer.{Transfer}
use Rattle.spi_flash.specs.Number.{number_transfer}
use Rattle.spi_flash.specs.Prog.{Prog, ret, ◌>>=◌, ◌>>◌, refuse, transfer}
use Rattle.spi_flash.specs.WaitLaw.{delayed_wait}
use Rattle.spi_flash.specs.declared.error.FlashError.{FlashError}
use Rattle.spi_nand.specs.Opcode.{REG-STATUS, REG-CONFIGURATION, REG-BLOCK-PROTECTION, timings_of}
use Rattle.spi_nand.specs.Status.{busy_value, status_of, write_enabled_of, erase_failed_of, program_failed_of, verdict_of, ECC-ENABLE, BUFFER-READ, QUAD-ENABLE, OPERATIONAL, configuration_of, configuration_byte, quad_enabled_of, with_bits, protection_of, is_unlocked}
use Rattle.spi_nand.specs.Command.{reset_command, read_id_command, get_feature_command, set_feature_command, write_enable_command, page_read_command, program_execute_command, block_erase_command, read_cache_command, quad_read_cache_command, load_program_data_command, quad_load_program_data_command}
use Rattle.spi_nand.specs.declared.config.NandGeometry.{NandGeometry}
use Rattle.spi_nand.specs.declared.config.NandInit.{NandInit}
use Rattle.spi_nand.specs.declared.config.NandJedecId.{NandJedecId}
use Rattle.spi_nand.specs.declared.config.SpiNandConfig.{SpiNandConfig}
use Rattle.spi_nand.specs.declared.opcode.Operation.{Operation}
use Rattle.spi_nand.specs.declared.status.Configuration.{Configuration}
use Rattle.spi_nand.specs.declared.status.EccVerdict.{EccVerdict}
use Rattle.spi_nand.specs.declared.status.Protection.{Protection}
use Rattle.spi_nand.specs.declared.status.Status.{Status}
use Rattle.spi_nand.specs.declared.setup.Setup.{Setup}
use Rattle.nand_runs.specs.RustConfig.{page_count, capacity, from_jedec, single}

abbrev pub Nothing : Type 0
Nothing = Unit {0}

-- const MAX_VERIFY_PAGE_SIZE
abbrev pub MAX-VERIFY-PAGE-SIZE : ℕ
MAX-VERIFY-PAGE-SIZE = 4096

-- FF_CHUNK.len()
abbrev pub FF-CHUNK-LEN : ℕ
FF-CHUNK-LEN = 256

-- the Rust's usize::checked_add, of 64 bits
abbrev pub checked_add : ℕ → ℕ → Option ℕ
checked_add a b = if ltb (a + b) (2 ^ 64) then Some (a + b) else None

-- fn check_range, fn check_cache_range: `Some(end) if end <= most => Ok(())`, and no other
abbrev pub ends_within : ℕ → Option ℕ → Bool
ends_within most (Some end) = leb end most
ends_within most None = false

-- fn read_register
abbrev pub read-register : ℕ → Prog ℕ
read-register register = do
  v ← transfer (number_transfer (get_feature_command register) 1)
  ret (v % 256)

-- fn read_status
unfoldable pub read-status : Prog Status
read-status = do
  byte ← read-register REG-STATUS
  ret (status_of byte)

-- fn read_configuration
unfoldable pub read-configuration : Prog Configuration
read-configuration = do
  byte ← read-register REG-CONFIGURATION
  ret (configuration_of byte)

-- fn read_protection
unfoldable pub read-protection : Prog Protection
read-protection = do
  byte ← read-register REG-BLOCK-PROTECTION
  ret (protection_of byte)

-- fn wait_ready
unfoldable pub wait-ready : Operation → Prog Nothing
wait-ready operation = delayed_wait (get_feature_command REG-STATUS) busy_value (timings_of operation)

-- fn write_enable
unfoldable pub write-enable : Prog Nothing
write-enable = do
  transfer (command_only write_enable_command)
  status ← read-status
  refuse (not (write_enabled_of status)) FlashError.WriteEnableFailed

-- fn write_register
unfoldable pub write-register : ℕ → ℕ → Prog Nothing
write-register register value = do
  write-enable
  transfer (command_only (set_feature_command register value))
  wait-ready Operation.WriteRegister

-- fn disable_quad
unfoldable pub disable-quad : Prog Nothing
disable-quad = do
  configuration ← read-configuration
  if quad_enabled_of configuration
      then (do
        write-register REG-CONFIGURATION (configuration_byte (with_bits configuration QUAD-ENABLE 0))
        after ← read-configuration
        refuse (quad_enabled_of after) FlashError.NotSupported)
      else ret tt

-- fn reset
unfoldable pub reset : Prog Nothing
reset = do
  transfer (command_only reset_command)
  wait-ready Operation.Reset

-- fn jedec_id: from_bytes of the three bytes, which are a number here
abbrev pub id-of : ℕ → NandJedecId
id-of v = record { manufacturer = v / 65536 % 256; device = v % 65536 }

unfoldable pub jedec-id : Prog NandJedecId
jedec-id = do
  v ← transfer (number_transfer read_id_command 3)
  ret (id-of v)

-- fn reset_and_identify
unfoldable pub reset-and-identify : Prog NandJedecId
reset-and-identify = do
  reset
  jedec-id

-- fn ensure_configuration
abbrev pub quad-wanted : Option NandQuadConfig → Configuration → Configuration
quad-wanted None wanted = wanted
quad-wanted (Some q) wanted = with_bits wanted QUAD-ENABLE QUAD-ENABLE

abbrev pub wanted-of : SpiNandConfig → Configuration → Configuration
wanted-of config before = quad-wanted config.quad (with_bits before (bit_or ECC-ENABLE BUFFER-READ) (configuration_byte OPERATIONAL))

-- `==` of the struct, which has one field, the byte
unfoldable pub equals : Configuration → Configuration → Bool
equals a b = eqb a.0 b.0

unfoldable pub ensure-configuration : SpiNandConfig → Prog Configuration
ensure-configuration config = do
  before ← read-configuration
  let wanted = wanted-of config before
  if not (equals wanted before)
      then (do
        write-register REG-CONFIGURATION (configuration_byte wanted)
        after ← read-configuration
        refuse (not (equals after wanted)) FlashError.NotSupported)
      else ret tt
  ret before

-- fn unprotect
unfoldable pub unprotect : Prog Protection
unprotect = do
  before ← read-protection
  if not (is_unlocked before) then write-register REG-BLOCK-PROTECTION 0x00 else ret tt
  ret before

-- fn bring_up
unfoldable pub bring-up : SpiNandConfig → Prog NandInit
bring-up config = do
  id ← reset-and-identify
  before ← ensure-configuration config
  protection ← unprotect
  after ← read-configuration
  ret (record { id = id; configuration_before = before; configuration_after = after; protection_before = protection })

-- fn load_page
unfoldable pub load-page : ℕ → Prog Nothing
load-page page = do
  transfer (command_only (page_read_command page))
  wait-ready Operation.PageRead

-- `== EccVerdict::Uncorrectable`
abbrev pub uncorrectable : EccVerdict → Bool
uncorrectable EccVerdict.NoBitFlips = false
uncorrectable EccVerdict.Corrected = false
uncorrectable EccVerdict.Uncorrectable = true
uncorrectable EccVerdict.Reserved = false

-- fn read_cache: `if let Some(quad) = self.config.quad`
abbrev pub cache-read : Option NandQuadConfig → (column n : ℕ) → Sink → Transfer
cache-read (Some quad) column n sink = Transfer.Framed (quad_read_cache_command quad column) (Body.QuadRead quad.tclqv_ns quad.dummy_margin n sink)
cache-read None column n sink = Transfer.Framed (read_cache_command column) (Body.Read n sink)

-- fn load_program_data: `if let Some(quad) = self.config.quad`
abbrev pub cache-load : Option NandQuadConfig → (column : ℕ) → Payload → Transfer
cache-load (Some quad) column payload = Transfer.Framed (quad_load_program_data_command quad column) (Body.QuadWrite payload)
cache-load None column payload = Transfer.Framed (load_program_data_command column) (Body.Write payload)

module _ (flash : Setup) where
  abbrev pub geometry : NandGeometry
  geometry = flash.geometry

  -- fn check_page
  abbrev pub check-page : ℕ → Prog Nothing
  check-page page = refuse (not (ltb page (page_count geometry))) FlashError.OutOfBounds

  -- fn page_read
  unfoldable pub page-read : ℕ → Prog Nothing
  page-read page = do
    check-page page
    load-page page
    status ← read-status
    refuse (uncorrectable (verdict_of status)) FlashError.UncorrectableEcc

  -- fn check_cache_range
  abbrev pub check-cache-range : ℕ → ℕ → Prog Nothing
  check-cache-range column n = refuse (not (ends_within (geometry.page_size + geometry.oob_size) (checked_add column n))) FlashError.OutOfBounds

  -- fn read_cache, into what the Rust lends
  unfoldable pub read-cache : ℕ → ℕ → Sink → Prog ℕ
  read-cache column n sink = do
    check-cache-range column n
    transfer (cache-read flash.config.quad column n sink)

  -- fn load_program_data, of so many bytes
  unfoldable pub load-program-data : ℕ → ℕ → Payload → Prog Nothing
  load-program-data column n payload = do
    check-cache-range column n
    transfer (cache-load flash.config.quad column payload)
    ret tt

  -- fn program_execute
  unfoldable pub program-execute : ℕ → Prog Nothing
  program-execute page = do
    check-page page
    transfer (command_only (program_execute_command page))
    wait-ready Operation.Program
    status ← read-status
    refuse (program_failed_of status) FlashError.ProgramFailed

  -- fn read_page, into what the Rust lends
  unfoldable pub read-page : ℕ → ℕ → Sink → Prog ℕ
  read-page page n sink = do
    refuse (not (eqb n geometry.page_size)) FlashError.InvalidLength
    page-read page
    read-cache 0 n sink

  -- fn write_page
  unfoldable pub write-page : ℕ → ℕ → Prog Nothing
  write-page page n = do
    refuse (not (eqb n geometry.page_size)) FlashError.InvalidLength
    check-page page
    write-enable
    load-program-data 0 n (Payload.Data 0 n)
    program-execute page
    same ← read-page page geometry.page_size (Sink.Compare 0)
    refuse (eqb same 0) FlashError.VerifyFailed

  -- `if block >= self.geometry.block_count`
  abbrev pub check-block : ℕ → Prog Nothing
  check-block block = refuse (not (ltb block geometry.block_count)) FlashError.OutOfBounds

  -- fn erase_block
  unfoldable pub erase-block : ℕ → Prog Nothing
  erase-block block = do
    check-block block
    write-enable
    transfer (command_only (block_erase_command (block * geometry.pages_per_block)))
    wait-ready Operation.Erase
    status ← read-status
    refuse (erase_failed_of status) FlashError.EraseFailed

  -- fn check_range
  abbrev pub check-range : ℕ → ℕ → Prog Nothing
  check-range offset n = refuse (not (ends_within (capacity geometry) (checked_add offset n))) FlashError.OutOfBounds

  -- fn read: its loop, by fuel, for which the bytes that are left are enough (specs/Loops.antt)
  unfoldable pub read-loop : (fuel offset len done : ℕ) → Prog Nothing
  read-loop zero offset len done = ret tt
  read-loop (suc fuel) offset len done =
      let address = offset + done in
      let page = address / geometry.page_size in
      let column = address % geometry.page_size in
      let chunk = min (geometry.page_size - column) (len - done) in
      if ltb done len
      then (do
        page-read page
        read-cache column chunk (Sink.Buffer done)
        read-loop fuel offset len (done + chunk))
      else ret tt

  unfoldable pub reading : (offset len done : ℕ) → Prog Nothing
  reading offset len done = read-loop (len - done) offset len done

  unfoldable pub read : (offset len : ℕ) → Prog Nothing
  read offset len = do
    check-range offset len
    reading offset len 0

  -- fn is_bad_block
  unfoldable pub is-bad-block : ℕ → Prog Bool
  is-bad-block block = do
    check-block block
    load-page (block * geometry.pages_per_block)
    marker ← read-cache geometry.page_size 1 Sink.Number
    ret (not (eqb (marker % 256) 0xFF))

  -- fn mark_bad_block: its loop over FF_CHUNK, by fuel, for which the bytes that are left are enough (specs/Loops.antt)
  unfoldable pub fill-loop : (fuel column : ℕ) → Prog Nothing
  fill-loop zero column = ret tt
  fill-loop (suc fuel) column =
      let step = min (geometry.page_size - column) FF-CHUNK-LEN in
      if ltb column geometry.page_size
      then (do
        load-program-data column step (Payload.Filler step)
        fill-loop fuel (column + step))
      else ret tt

  unfoldable pub filling : ℕ → Prog Nothing
  filling column = fill-loop (geometry.page_size - column) column

  unfoldable pub mark-bad-block : ℕ → Prog Nothing
  mark-bad-block block = do
    check-block block
    bad ← is-bad-block block
    if bad then ret tt else do
      erase-block block
      write-enable
      filling 0
      load-program-data geometry.page_size 1 Payload.Marker
      program-execute (block * geometry.pages_per_block)
      marked ← is-bad-block block
      refuse (not marked) FlashError.VerifyFailed

-- fn with_config
abbrev pub resolved : Option NandGeometry → NandJedecId → NandGeometry
resolved None id = from_jedec id
resolved (Some own) id = own

abbrev pub constructed : SpiNandConfig → NandInit → Setup
constructed config init = record { config = config; geometry = resolved config.geometry init.id; init = init }

unfoldable pub with-config : SpiNandConfig → Prog Setup
with-config config = do
  transfer Transfer.Raise
  init ← bring-up config
  refuse (ltb MAX-VERIFY-PAGE-SIZE (constructed config init).geometry.page_size) FlashError.NotSupported
  ret (constructed config init)

-- fn new
abbrev pub new : Prog Setup
new = with-config single

-- nor/driver.rs, transcribed: a definition for each of its functions, under its names and in its order, but that one which uses
-- others stands behind them (with_config is last). config, device, id and free are in `Program.antt`, its config.rs in `RustConfig.antt`.
-- `transfer` is one select frame of the Rust (`command`, `command_then_read`, or a quad call between cs_low and cs_high) or one
-- delay; a bus error in it ends the call, as `?` does. Their bus calls are in `OnBus.antt` of spi_flash.
-- Sums and products are those of numbers without a largest; inside the bounds none of the Rust's wraps (`NothingWraps.antt`), and the
-- driver's own words for these sums, pieces and tests come to the same (`SameWords.antt`).
use Rattle.spi_nor.specs.declared.config.NorDeviceInfo.{NorDeviceInfo}
use Rattle.spi_nor.specs.declared.config.NorQuadConfig.{NorQuadConfig}
use Rattle.std.specs.Prelude.{ℕ, zero, suc, ◌+◌, ◌-◌, ◌*◌, ◌/◌, ◌%◌, min, Bool, true, not, ◌&&◌, ◌==◌, ltb, leb, eqb, if◌then◌else◌, Option, Some, None}
use Rattle.qspi.specs.Transfer.{command_only}
use Rattle.qspi.specs.declared.transfer.Body.{Body}
use Rattle.qspi.specs.declared.transfer.Payload.{Payload}
use Rattle.qspi.specs.declared.transfer.Sink.{Sink}
use Rattle.qspi.specs.declared.transfer.Transfer.{Transfer}
use Rattle.spi_flash.specs.Prog.{Prog, ret, fail, ◌>>=◌, ◌>>◌, refuse, transfer}
use Rattle.spi_flash.specs.WaitLaw.{prompt_wait}
use Rattle.spi_flash.specs.declared.error.FlashError.{FlashError}
use Rattle.spi_nor.specs.Opcode.{timings_of}
use Rattle.spi_nor.specs.Status.{busy_of, write_enabled_of, quad_enabled1_of, quad_enabled2_of, with_quad1_of, with_quad2_of, without_quad1_of, without_quad2_of, unprotected1_of, unprotected2_of}
use Rattle.spi_nor.specs.Command.{write_enable_command, read_status1_command, read_status2_command, write_status1_command, write_status2_command, read_id_command, read_unique_id_command, read_command, page_program_command, sector_erase_command, block_erase_command, quad_read_command, quad_page_program_command}
use Rattle.spi_flash.specs.Number.{number_transfer}
use Rattle.qspi.specs.Bytes.{byte_of}
use Rattle.nor_runs.specs.RustConfig.{from_jedec, single}
use Rattle.spi_nor.specs.declared.config.NorJedecId.{NorJedecId}
use Rattle.spi_nor.specs.declared.config.SpiNorConfig.{SpiNorConfig}
use Rattle.spi_nor.specs.declared.phase.EraseKind.{EraseKind}
use Rattle.spi_nor.specs.declared.setup.Setup.{Setup}
use Rattle.spi_nor.specs.declared.opcode.Operation.{Operation}

abbrev pub Nothing : Type 0
Nothing = Unit {0}

-- const MAX_VERIFY_PAGE_SIZE
abbrev pub MAX-VERIFY-PAGE-SIZE : ℕ
MAX-VERIFY-PAGE-SIZE = 512

-- opcode::MAX_BULK_LEN
abbrev pub MAX-BULK-LEN : ℕ
MAX-BULK-LEN = 64 * 1024

-- n.is_multiple_of(unit): of 0 there is no multiple but 0
abbrev pub is_multiple_of : ℕ → ℕ → Bool
is_multiple_of n zero = n == 0
is_multiple_of n unit = n % unit == 0

-- fn range_in_bounds
abbrev pub range_in_bounds : (capacity offset length : ℕ) → Bool
range_in_bounds capacity offset length = leb offset capacity && leb length (capacity - offset)

-- fn erase_step
abbrev pub erase_step : (address end sector block : ℕ) → EraseKind × ℕ
erase_step address end sector block =
    if is_multiple_of address block && leb block (end - address)
    then (EraseKind.Block, address + block)
    else (EraseKind.Sector, address + sector)

-- fn read_status1
abbrev pub read-status1 : Prog ℕ
read-status1 = do
  v ← transfer (number_transfer read_status1_command 1)
  ret (byte_of v)

-- fn read_status2
abbrev pub read-status2 : Prog ℕ
read-status2 = do
  v ← transfer (number_transfer read_status2_command 1)
  ret (byte_of v)

-- fn is_busy
unfoldable pub is-busy : Prog Bool
is-busy = do
  status1 ← read-status1
  ret (busy_of status1)

-- the busy bit of a status value
abbrev pub busy_value : ℕ → Bool
busy_value v = busy_of (byte_of v)

-- fn wait_ready
unfoldable pub wait-ready : Operation → Prog Nothing
wait-ready operation = prompt_wait read_status1_command busy_value (timings_of operation)

-- fn write_enable
unfoldable pub write-enable : Prog Nothing
write-enable = do
  transfer (command_only write_enable_command)
  status1 ← read-status1
  refuse (not (write_enabled_of status1)) FlashError.WriteEnableFailed

-- fn write_status1
unfoldable pub write-status1 : ℕ → Prog Nothing
write-status1 value = do
  write-enable
  transfer (command_only (write_status1_command value))
  wait-ready Operation.StatusWrite

-- fn write_status2
unfoldable pub write-status2 : ℕ → Prog Nothing
write-status2 value = do
  write-enable
  transfer (command_only (write_status2_command value))
  wait-ready Operation.StatusWrite

-- fn jedec_id: buffer[0], buffer[1] and buffer[2], which are a number here
abbrev pub id-of : ℕ → NorJedecId
id-of v = record { manufacturer = v / 65536 % 256; memory_type = v / 256 % 256; capacity = v % 256 }

unfoldable pub jedec-id : Prog NorJedecId
jedec-id = do
  v ← transfer (number_transfer read_id_command 3)
  ret (id-of v)

-- fn unique_id
unfoldable pub unique-id : Prog ℕ
unique-id = transfer (number_transfer read_unique_id_command 8)

-- fn quad_enabled
unfoldable pub quad-enabled : Prog Bool
quad-enabled = do
  status2 ← read-status2
  if quad_enabled2_of status2 then ret true else do
    status1 ← read-status1
    ret (quad_enabled1_of status1)

-- fn enable_quad
unfoldable pub enable-quad : Prog Nothing
enable-quad = do
  enabled ← quad-enabled
  if enabled then ret tt else do
    status2 ← read-status2
    write-status2 (with_quad2_of status2)
    after2 ← read-status2
    if quad_enabled2_of after2 then ret tt else do
      status1 ← read-status1
      write-status1 (with_quad1_of status1)
      after1 ← read-status1
      if quad_enabled1_of after1 then ret tt else fail FlashError.NotSupported

-- fn disable_quad
unfoldable pub disable-quad : Prog Nothing
disable-quad = do
  status2 ← read-status2
  if quad_enabled2_of status2
      then (do
        write-status2 (without_quad2_of status2)
        after2 ← read-status2
        if quad_enabled2_of after2 then fail FlashError.NotSupported else ret tt)
      else do
        status1 ← read-status1
        if not (quad_enabled1_of status1) then ret tt else do
          write-status1 (without_quad1_of status1)
          after1 ← read-status1
          if quad_enabled1_of after1 then fail FlashError.NotSupported else ret tt

-- fn read: one piece, `if let Some(quad) = self.config.quad`
abbrev pub read-piece : Option NorQuadConfig → (current length : ℕ) → Sink → Transfer
read-piece (Some quad) current length sink = Transfer.Framed (quad_read_command quad current) (Body.QuadRead quad.tclqv_ns quad.dummy_margin length sink)
read-piece None current length sink = Transfer.Framed (read_command current) (Body.Read length sink)

-- fn page_program: its bytes, which are the data from a place on, `if let Some(quad) = self.config.quad`
abbrev pub program-piece : Option NorQuadConfig → (offset from length : ℕ) → Transfer
program-piece (Some quad) offset from length = Transfer.Framed (quad_page_program_command quad offset) (Body.QuadWrite (Payload.Data from length))
program-piece None offset from length = Transfer.Framed (page_program_command offset) (Body.Write (Payload.Data from length))

-- bytes.chunks(page_size): how many there are, and how long the index-th is
abbrev pub chunks : (len size : ℕ) → ℕ
chunks len size = (len + (size - 1)) / size

abbrev pub chunk_len : (len size index : ℕ) → ℕ
chunk_len len size index = min (len - index * size) size

module _ (flash : Setup) where
  -- fn read: its loop, by fuel, for which the bytes that are left are enough (specs/Loops.antt). The piece behind `done` goes `into done`:
  -- to a place of the caller's buffer, or, for the page that page_program reads back, into a comparison with the data; at its end, whether
  -- all that was compared was the same.
  unfoldable pub read-loop : (ℕ → Sink) → (fuel offset len done : ℕ) → Bool → Prog Bool
  read-loop into zero offset len done same = ret same
  read-loop into (suc fuel) offset len done same =
      if ltb done len
      then (do
        v ← transfer (read-piece flash.config.quad (offset + done) (min (len - done) MAX-BULK-LEN) (into done))
        read-loop into fuel offset len (done + min (len - done) MAX-BULK-LEN) (same && not (v == 0)))
      else ret same

  unfoldable pub reading : (ℕ → Sink) → (offset len done : ℕ) → Bool → Prog Bool
  reading into offset len done same = read-loop into (len - done) offset len done same

  unfoldable pub read : (ℕ → Sink) → (offset len : ℕ) → Prog Bool
  read into offset len = do
    refuse (not (range_in_bounds flash.device.capacity offset len)) FlashError.OutOfBounds
    reading into offset len 0 true

  -- fn page_program, of the n bytes of data from a place; `self.read` and the comparison behind it
  unfoldable pub page-program : (offset from n : ℕ) → Prog Nothing
  page-program offset from n = do
    write-enable
    transfer (program-piece flash.config.quad offset from n)
    wait-ready Operation.PageProgram
    same ← read (λ done. Sink.Compare (from + done)) offset n
    refuse (not same) FlashError.VerifyFailed

  -- fn write: its `for` over the chunks, of which so many are left
  unfoldable pub write-loop : (left offset len index : ℕ) → Prog Nothing
  write-loop zero offset len index = ret tt
  write-loop (suc left) offset len index = do
    page-program (offset + index * flash.device.page_size) (index * flash.device.page_size) (chunk_len len flash.device.page_size index)
    write-loop left offset len (index + 1)

  unfoldable pub writing : (offset len index : ℕ) → Prog Nothing
  writing offset len index = write-loop (chunks len flash.device.page_size - index) offset len index

  unfoldable pub write : (offset len : ℕ) → Prog Nothing
  write offset len = do
    refuse (not (range_in_bounds flash.device.capacity offset len)) FlashError.OutOfBounds
    refuse (not (is_multiple_of offset flash.device.page_size)) FlashError.NotAligned
    refuse (not (is_multiple_of len flash.device.page_size)) FlashError.NotAligned
    writing offset len 0

  -- fn erase_sector
  unfoldable pub erase-sector : ℕ → Prog Nothing
  erase-sector offset = do
    refuse (not (range_in_bounds flash.device.capacity offset flash.device.sector_size)) FlashError.OutOfBounds
    refuse (not (is_multiple_of offset flash.device.sector_size)) FlashError.NotAligned
    write-enable
    transfer (command_only (sector_erase_command offset))
    wait-ready Operation.SectorErase

  -- fn erase_block
  unfoldable pub erase-block : ℕ → Prog Nothing
  erase-block offset = do
    refuse (not (range_in_bounds flash.device.capacity offset flash.device.block_size)) FlashError.OutOfBounds
    refuse (not (is_multiple_of offset flash.device.block_size)) FlashError.NotAligned
    write-enable
    transfer (command_only (block_erase_command offset))
    wait-ready Operation.BlockErase

  -- fn erase: its `match kind`
  abbrev pub erase-unit : EraseKind → ℕ → Prog Nothing
  erase-unit EraseKind.Block address = erase-block address
  erase-unit EraseKind.Sector address = erase-sector address

  -- its loop, by fuel, for which the bytes that are left are enough (specs/Loops.antt)
  unfoldable pub erase-loop : (fuel address to : ℕ) → Prog Nothing
  erase-loop zero address to = ret tt
  erase-loop (suc fuel) address to =
      let step = erase_step address to flash.device.sector_size flash.device.block_size in
      if ltb address to
      then (do
        erase-unit step.0 address
        erase-loop fuel step.1 to)
      else ret tt

  unfoldable pub erasing : (address to : ℕ) → Prog Nothing
  erasing address to = erase-loop (to - address) address to

  unfoldable pub erase : (from to : ℕ) → Prog Nothing
  erase from to = do
    refuse (ltb to from) FlashError.OutOfBounds
    refuse (ltb flash.device.capacity to) FlashError.OutOfBounds
    refuse (not (is_multiple_of from flash.device.sector_size)) FlashError.NotAligned
    refuse (not (is_multiple_of to flash.device.sector_size)) FlashError.NotAligned
    erasing from to

-- fn unprotect: the registers before and after
pub record Unprotected : Type 0 where
  pub before : ℕ
  pub after : ℕ

unfoldable pub unprotect : Prog Unprotected
unprotect = do
  before ← read-status1
  sr2 ← read-status2
  if not (eqb (unprotected1_of before) before) then write-status1 (unprotected1_of before) else ret tt
  if not (eqb (unprotected2_of sr2) sr2) then write-status2 (unprotected2_of sr2) else ret tt
  after ← read-status1
  ret (record { before = before; after = after })

-- fn with_config: the caller's own device, or that of the id
abbrev pub resolved : Option NorDeviceInfo → NorJedecId → NorDeviceInfo
resolved None id = from_jedec id
resolved (Some own) id = own

-- `if config.quad.is_some() { flash.enable_quad()?; }`
abbrev pub quad-if : Option NorQuadConfig → Prog Nothing
quad-if None = ret tt
quad-if (Some q) = enable-quad

-- what the struct holds once the id is read
abbrev pub constructed : SpiNorConfig → NorJedecId → Setup
constructed config id = record { config = config; device = resolved config.device id; id = id }

unfoldable pub with-config : SpiNorConfig → Prog Setup
with-config config = do
  transfer Transfer.Raise
  id ← jedec-id
  refuse (ltb MAX-VERIFY-PAGE-SIZE (constructed config id).device.page_size) FlashError.NotSupported
  quad-if config.quad
  ret (constructed config id)

-- fn new
abbrev pub new : Prog Setup
new = with-config single

-- The calls with loops, and the construction, in the driver's own words (`place_of`, `chunk_of`, `step_kind` ..), of which its machine is made.
-- Inside the bounds the Rust's come to them (`Agrees.antt`).
use Rattle.std.specs.Prelude.{ℕ, zero, suc, ◌+◌, ◌-◌, not, ltb, eqb, if◌then◌else◌}
use Rattle.qspi.specs.Choice.{pick}
use Rattle.qspi.specs.declared.transfer.Sink.{Sink}
use Rattle.qspi.specs.declared.transfer.Transfer.{Transfer}
use Rattle.spi_flash.specs.Number.{number_transfer}
use Rattle.spi_flash.specs.Prog.{Prog, ret, ◌>>=◌, ◌>>◌, refuse, transfer}
use Rattle.spi_flash.specs.Range.{range_in_bounds}
use Rattle.spi_flash.specs.declared.error.FlashError.{FlashError}
use Rattle.spi_nor.specs.Command.{read_id_command}
use Rattle.spi_nor.specs.Config.{single_config}
use Rattle.spi_nor.specs.Transfer.{place_of, chunk_of, page_of, read_transfer, program_transfer, erase_transfer, erase_operation, multiple_of, unit_size, step_kind, after_unit}
use Rattle.spi_nor.specs.declared.config.NorDeviceInfo.{NorDeviceInfo}
use Rattle.spi_nor.specs.declared.config.SpiNorConfig.{SpiNorConfig}
use Rattle.spi_nor.specs.declared.opcode.Operation.{Operation}
use Rattle.spi_nor.specs.declared.phase.EraseKind.{EraseKind}
use Rattle.spi_nor.specs.declared.setup.Setup.{Setup}
use Rattle.nor_steps.specs.Opening.{fresh_setup}
use Rattle.nor_steps.specs.Register.{MAX-VERIFY-PAGE-SIZE, known_as}
use Rattle.spi_nor.specs.declared.answer.Answer.{Answer}
use Rattle.spi_nor.specs.declared.call.Call.{Call}
use Rattle.nor_runs.specs.Program.{Left, leaving, program_of}
use Rattle.nor_runs.specs.Rust.{Nothing, write-enable, wait-ready, quad-if}

module _ (flash : Setup) where
  -- fn read: its loop, by fuel; a piece is never empty, so the bytes that are left are fuel enough
  unfoldable pub read-loop : ℕ → ℕ → ℕ → ℕ → Prog Nothing
  read-loop zero offset len done = ret tt
  read-loop (suc fuel) offset len done =
      if ltb done len
      then (do
        transfer (read_transfer flash (place_of offset done) (chunk_of len done) (Sink.Buffer done))
        read-loop fuel offset len (done + chunk_of len done))
      else ret tt

  unfoldable pub reading : ℕ → ℕ → ℕ → Prog Nothing
  reading offset len done = read-loop (len - done) offset len done

  unfoldable pub read : ℕ → ℕ → Prog Nothing
  read offset len = do
    refuse (not (range_in_bounds flash.device.capacity offset len)) FlashError.OutOfBounds
    reading offset len 0

  -- `self.read` of a page, whose bytes are compared with the caller's data: a page is at most one piece
  unfoldable pub read_back : ℕ → ℕ → ℕ → Prog ℕ
  read_back offset len from = do
    refuse (not (range_in_bounds flash.device.capacity offset len)) FlashError.OutOfBounds
    transfer (read_transfer flash offset len (Sink.Compare from))

  -- fn page_program, of the n bytes of data from a place
  unfoldable pub page-program : ℕ → ℕ → ℕ → Prog Nothing
  page-program offset from n = do
    write-enable
    transfer (program_transfer flash offset from n)
    wait-ready Operation.PageProgram
    same ← read_back offset n from
    refuse (eqb same 0) FlashError.VerifyFailed

  -- fn write: its loop over bytes.chunks(page_size), by fuel
  unfoldable pub write-loop : ℕ → ℕ → ℕ → ℕ → Prog Nothing
  write-loop zero offset len done = ret tt
  write-loop (suc fuel) offset len done =
      if ltb done len
      then (do
        page-program (place_of offset done) done (page_of flash.device len done)
        write-loop fuel offset len (done + page_of flash.device len done))
      else ret tt

  unfoldable pub writing : ℕ → ℕ → ℕ → Prog Nothing
  writing offset len done = write-loop (len - done) offset len done

  unfoldable pub write : ℕ → ℕ → Prog Nothing
  write offset len = do
    refuse (not (range_in_bounds flash.device.capacity offset len)) FlashError.OutOfBounds
    refuse (not (multiple_of offset flash.device.page_size)) FlashError.NotAligned
    refuse (not (multiple_of len flash.device.page_size)) FlashError.NotAligned
    writing offset len 0

  -- fn erase_sector and fn erase_block
  unfoldable pub erase-unit : EraseKind → ℕ → Prog Nothing
  erase-unit kind offset = do
    refuse (not (range_in_bounds flash.device.capacity offset (unit_size flash.device kind))) FlashError.OutOfBounds
    refuse (not (multiple_of offset (unit_size flash.device kind))) FlashError.NotAligned
    write-enable
    transfer (erase_transfer kind offset)
    wait-ready (erase_operation kind)

  abbrev pub erase-sector : ℕ → Prog Nothing
  erase-sector offset = erase-unit EraseKind.Sector offset

  abbrev pub erase-block : ℕ → Prog Nothing
  erase-block offset = erase-unit EraseKind.Block offset

  -- fn erase: its loop over erase_step, by fuel; a unit is never empty
  unfoldable pub erase-loop : ℕ → ℕ → ℕ → Prog Nothing
  erase-loop zero address to = ret tt
  erase-loop (suc fuel) address to =
      if ltb address to
      then (do
        erase-unit (step_kind flash.device address to) address
        erase-loop fuel (after_unit flash.device (step_kind flash.device address to) address) to)
      else ret tt

  unfoldable pub erasing : ℕ → ℕ → Prog Nothing
  erasing address to = erase-loop (to - address) address to

  unfoldable pub erase : ℕ → ℕ → Prog Nothing
  erase from to = do
    refuse (ltb to from) FlashError.OutOfBounds
    refuse (ltb flash.device.capacity to) FlashError.OutOfBounds
    refuse (not (multiple_of from flash.device.sector_size)) FlashError.NotAligned
    refuse (not (multiple_of to flash.device.sector_size)) FlashError.NotAligned
    erasing from to

unfoldable pub with-config : SpiNorConfig → Prog Setup
with-config config = do
  transfer Transfer.Raise
  v ← transfer (number_transfer read_id_command 3)
  let flash = known_as (fresh_setup config) v
  refuse (ltb MAX-VERIFY-PAGE-SIZE flash.device.page_size) FlashError.NotSupported
  quad-if config.quad
  ret flash

-- the sum over erase's steps, of a figure for each kind of step
abbrev pub coded_sum : (EraseKind → ℕ) → NorDeviceInfo → (fuel address to : ℕ) → ℕ
coded_sum figure device zero address to = 0
coded_sum figure device (suc fuel) address to =
    pick (ltb address to)
    (figure (step_kind device address to) + coded_sum figure device fuel (after_unit device (step_kind device address to) address) to)
    0

-- the program of each call, of which the driver is made
unfoldable pub coded : Setup → Call → ℕ → ℕ → Prog Left
coded flash Call.New b d = with-config single_config >>= (λ built. ret (leaving built Answer.Done))
coded flash (Call.WithConfig config) b d = with-config config >>= (λ built. ret (leaving built Answer.Done))
coded flash (Call.Read offset) b d = read flash offset b >> ret (leaving flash Answer.Done)
coded flash (Call.Write offset) b d = write flash offset d >> ret (leaving flash Answer.Done)
coded flash (Call.Erase from to) b d = erase flash from to >> ret (leaving flash Answer.Done)
coded flash (Call.EraseSector offset) b d = erase-unit flash EraseKind.Sector offset >> ret (leaving flash Answer.Done)
coded flash (Call.EraseBlock offset) b d = erase-unit flash EraseKind.Block offset >> ret (leaving flash Answer.Done)
coded flash call b d = program_of flash call b d

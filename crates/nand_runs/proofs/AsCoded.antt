-- The calls that look at the geometry, and the construction, in the driver's own words (`place_of`, `chunk_of`, `in_range` ..), of which
-- its machine is made. Inside the bounds the Rust's come to them (`Agrees.antt`).
use Rattle.std.specs.Prelude.{ℕ, zero, suc, ◌+◌, ◌-◌, ◌%◌, Bool, not, ltb, eqb, if◌then◌else◌, Option, Some, None}
use Rattle.qspi.specs.Choice.{pick}
use Rattle.qspi.specs.Transfer.{command_only}
use Rattle.qspi.specs.declared.transfer.Payload.{Payload}
use Rattle.qspi.specs.declared.transfer.Sink.{Sink}
use Rattle.qspi.specs.declared.transfer.Transfer.{Transfer}
use Rattle.spi_flash.specs.Prog.{Prog, ret, ◌>>=◌, ◌>>◌, refuse, transfer}
use Rattle.spi_flash.specs.declared.error.FlashError.{FlashError}
use Rattle.spi_nand.specs.Command.{program_execute_command, block_erase_command}
use Rattle.spi_nand.specs.Config.{page_count_of, first_page_of, single_config, from_jedec}
use Rattle.spi_nand.specs.Setup.{setup_of}
use Rattle.spi_nand.specs.Status.{erase_failed_of, program_failed_of, verdict_of}
use Rattle.spi_nand.specs.Transfer.{cache_read_transfer, cache_load_transfer, in_cache, in_range, place_of, page_at, column_at, chunk_of, filler_of}
use Rattle.spi_nand.specs.declared.answer.Answer.{Answer}
use Rattle.spi_nand.specs.declared.call.Call.{Call}
use Rattle.spi_nand.specs.declared.config.NandGeometry.{NandGeometry}
use Rattle.spi_nand.specs.declared.config.NandInit.{NandInit}
use Rattle.spi_nand.specs.declared.config.NandJedecId.{NandJedecId}
use Rattle.spi_nand.specs.declared.config.SpiNandConfig.{SpiNandConfig}
use Rattle.spi_nand.specs.declared.opcode.Operation.{Operation}
use Rattle.spi_nand.specs.declared.setup.Setup.{Setup}
use Rattle.flash_runs.specs.Driver.{leaving}
use Rattle.nand_runs.specs.Program.{Left, large_page, refused-page, rust_program}
use Rattle.nand_runs.specs.Rust.{Nothing, MAX-VERIFY-PAGE-SIZE, uncorrectable, read-status, load-page, write-enable, wait-ready, bring-up}

module _ (flash : Setup) where
  abbrev pub geometry : NandGeometry
  geometry = flash.geometry

  -- fn check_page
  abbrev pub check-page : ℕ → Prog Nothing
  check-page page = refuse (not (ltb page (page_count_of geometry))) FlashError.OutOfBounds

  -- fn page_read
  unfoldable pub page-read : ℕ → Prog Nothing
  page-read page = do
    check-page page
    load-page page
    status ← read-status
    refuse (uncorrectable (verdict_of status)) FlashError.UncorrectableEcc

  -- fn check_cache_range
  abbrev pub check-cache-range : ℕ → ℕ → Prog Nothing
  check-cache-range column n = refuse (not (in_cache geometry column n)) FlashError.OutOfBounds

  -- fn read_cache, into what the Rust lends
  unfoldable pub read-cache : ℕ → ℕ → Sink → Prog ℕ
  read-cache column n sink = do
    check-cache-range column n
    transfer (cache_read_transfer flash.config column n sink)

  -- fn load_program_data, of so many bytes
  unfoldable pub load-program-data : ℕ → ℕ → Payload → Prog Nothing
  load-program-data column n payload = do
    check-cache-range column n
    transfer (cache_load_transfer flash.config column payload)
    ret tt

  -- fn program_execute
  unfoldable pub program-execute : ℕ → Prog Nothing
  program-execute page = do
    check-page page
    transfer (command_only (program_execute_command page))
    wait-ready Operation.Program
    status ← read-status
    refuse (program_failed_of status) FlashError.ProgramFailed

  -- fn read_page, into what the Rust lends
  unfoldable pub read-page : ℕ → ℕ → Sink → Prog ℕ
  read-page page n sink = do
    refuse (not (eqb n geometry.page_size)) FlashError.InvalidLength
    page-read page
    read-cache 0 n sink

  -- fn write_page
  unfoldable pub write-page : ℕ → ℕ → Prog Nothing
  write-page page n = do
    refuse (not (eqb n geometry.page_size)) FlashError.InvalidLength
    check-page page
    write-enable
    load-program-data 0 n (Payload.Data 0 n)
    program-execute page
    same ← read-page page geometry.page_size (Sink.Compare 0)
    refuse (eqb same 0) FlashError.VerifyFailed

  -- `if block >= self.geometry.block_count`; behind it `block * pages_per_block` is exact (`first_page_of`)
  abbrev pub check-block : ℕ → Prog Nothing
  check-block block = refuse (not (ltb block geometry.block_count)) FlashError.OutOfBounds

  -- fn erase_block
  unfoldable pub erase-block : ℕ → Prog Nothing
  erase-block block = do
    check-block block
    write-enable
    transfer (command_only (block_erase_command (first_page_of geometry block)))
    wait-ready Operation.Erase
    status ← read-status
    refuse (erase_failed_of status) FlashError.EraseFailed

  -- fn read: its loop, by fuel; a piece is never empty, so the bytes that are left are fuel enough
  unfoldable pub read-loop : ℕ → ℕ → ℕ → ℕ → Prog Nothing
  read-loop zero offset len done = ret tt
  read-loop (suc fuel) offset len done =
      if ltb done len
      then (do
        page-read (page_at geometry (place_of offset done))
        read-cache (column_at geometry (place_of offset done)) (chunk_of geometry offset len done) (Sink.Buffer done)
        read-loop fuel offset len (done + chunk_of geometry offset len done))
      else ret tt

  unfoldable pub reading : ℕ → ℕ → ℕ → Prog Nothing
  reading offset len done = read-loop (len - done) offset len done

  unfoldable pub read : ℕ → ℕ → Prog Nothing
  read offset len = do
    refuse (not (in_range geometry offset len)) FlashError.OutOfBounds
    reading offset len 0

  -- fn is_bad_block
  unfoldable pub is-bad-block : ℕ → Prog Bool
  is-bad-block block = do
    check-block block
    load-page (first_page_of geometry block)
    marker ← read-cache geometry.page_size 1 Sink.Number
    ret (not (eqb (marker % 256) 0xFF))

  -- fn mark_bad_block: its loop over the filler, by fuel; a piece is never empty
  unfoldable pub fill-loop : ℕ → ℕ → Prog Nothing
  fill-loop zero column = ret tt
  fill-loop (suc fuel) column =
      if ltb column geometry.page_size
      then (do
        load-program-data column (filler_of geometry column) (Payload.Filler (filler_of geometry column))
        fill-loop fuel (column + filler_of geometry column))
      else ret tt

  unfoldable pub filling : ℕ → Prog Nothing
  filling column = fill-loop (geometry.page_size - column) column

  unfoldable pub mark-bad-block : ℕ → Prog Nothing
  mark-bad-block block = do
    check-block block
    bad ← is-bad-block block
    if bad then ret tt else do
      erase-block block
      write-enable
      filling 0
      load-program-data geometry.page_size 1 Payload.Marker
      program-execute (first_page_of geometry block)
      marked ← is-bad-block block
      refuse (not marked) FlashError.VerifyFailed

-- fn with_config
abbrev pub resolved : Option NandGeometry → NandJedecId → NandGeometry
resolved None id = from_jedec id
resolved (Some own) id = own

abbrev pub constructed : SpiNandConfig → NandInit → Setup
constructed config init = setup_of config (resolved config.geometry init.id) init

unfoldable pub with-config : SpiNandConfig → Prog Setup
with-config config = do
  transfer Transfer.Raise
  init ← bring-up config
  refuse (ltb MAX-VERIFY-PAGE-SIZE (constructed config init).geometry.page_size) FlashError.NotSupported
  ret (constructed config init)

-- the program of each call, of which the driver is made
unfoldable pub coded_rust : Setup → Call → ℕ → ℕ → Prog Left
coded_rust flash Call.New b d = with-config single_config >>= (λ built. ret (leaving built Answer.Done))
coded_rust flash (Call.WithConfig config) b d = with-config config >>= (λ built. ret (leaving built Answer.Done))
coded_rust flash (Call.PageRead page) b d = page-read flash page >> ret (leaving flash Answer.Done)
coded_rust flash (Call.ReadCache column) b d = read-cache flash column b (Sink.Buffer 0) >> ret (leaving flash Answer.Done)
coded_rust flash (Call.LoadProgramData column) b d = load-program-data flash column d (Payload.Data 0 d) >> ret (leaving flash Answer.Done)
coded_rust flash (Call.ProgramExecute page) b d = program-execute flash page >> ret (leaving flash Answer.Done)
coded_rust flash (Call.ReadPage page) b d = read-page flash page b (Sink.Buffer 0) >> ret (leaving flash Answer.Done)
coded_rust flash (Call.WritePage page) b d = write-page flash page d >> ret (leaving flash Answer.Done)
coded_rust flash (Call.EraseBlock block) b d = erase-block flash block >> ret (leaving flash Answer.Done)
coded_rust flash (Call.Read offset) b d = read flash offset b >> ret (leaving flash Answer.Done)
coded_rust flash (Call.IsBadBlock block) b d = is-bad-block flash block >>= (λ bad. ret (leaving flash (Answer.Flag bad)))
coded_rust flash (Call.MarkBadBlock block) b d = mark-bad-block flash block >> ret (leaving flash Answer.Done)
coded_rust flash call b d = rust_program flash call b d

abbrev pub coded : Setup → Call → ℕ → ℕ → Prog Left
coded flash call b d = pick (large_page call) refused-page (coded_rust flash call b d)

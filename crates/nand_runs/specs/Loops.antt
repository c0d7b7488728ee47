-- The loops of nand/driver.rs as its source has them, without fuel: `while done < buffer.len()` of read, and `while column < page_size`
-- of mark_bad_block. That of wait_ready is `WaitLoop` of spi_flash. A piece and a chunk of filler are never empty.
use Rattle.std.specs.Prelude.{ℕ, ◌+◌, ◌-◌, ◌/◌, ◌%◌, ◌≡◌, min, true, ltb, if◌then◌else◌}
use Rattle.qspi.specs.declared.transfer.Payload.{Payload}
use Rattle.qspi.specs.declared.transfer.Sink.{Sink}
use Rattle.spi_flash.specs.Prog.{ret, ◌>>◌}
use Rattle.spi_nand.specs.Config.{in_bounds}
use Rattle.spi_nand.specs.declared.setup.Setup.{Setup}
use Rattle.nand_runs.specs.Rust.{FF-CHUNK-LEN, page-read, read-cache, load-program-data, reading, filling}

module _ (flash : Setup) where
  -- fn read
  abbrev pub ReadLoop : (offset len done : ℕ) → Type 0
  ReadLoop offset len done =
      let address = offset + done in
      let page = address / flash.geometry.page_size in
      let column = address % flash.geometry.page_size in
      let chunk = min (flash.geometry.page_size - column) (len - done) in
      reading flash offset len done ≡
      (if ltb done len
      then (do
        page-read flash page
        read-cache flash column chunk (Sink.Buffer done)
        reading flash offset len (done + chunk))
      else ret tt)

  -- fn mark_bad_block
  abbrev pub FillLoop : (column : ℕ) → Type 0
  FillLoop column =
      let step = min (flash.geometry.page_size - column) FF-CHUNK-LEN in
      filling flash column ≡
      (if ltb column flash.geometry.page_size
      then (do
        load-program-data flash column step (Payload.Filler step)
        filling flash (column + step))
      else ret tt)

pub record NandLoops : Type 0 where
  pub reads : (flash : Setup) → in_bounds flash.geometry ≡ true → (offset len done : ℕ) → ReadLoop flash offset len done
  pub fills : (flash : Setup) (column : ℕ) → FillLoop flash column

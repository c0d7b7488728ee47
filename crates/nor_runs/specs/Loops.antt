-- The loops of nor/driver.rs as its source has them, without fuel: `while done < bytes.len()`, `for .. in bytes.chunks(page_size)`,
-- `while address < to`. That of wait_ready is `WaitLoop` of spi_flash.
use Rattle.std.specs.Prelude.{ℕ, ◌+◌, ◌-◌, ◌*◌, ◌≤◌, ◌≡◌, min, Bool, true, not, ◌&&◌, ◌==◌, ltb, if◌then◌else◌}
use Rattle.qspi.specs.declared.transfer.Sink.{Sink}
use Rattle.spi_flash.specs.Prog.{ret, ◌>>=◌, ◌>>◌, refuse, transfer}
use Rattle.spi_flash.specs.declared.error.FlashError.{FlashError}
use Rattle.spi_nor.specs.Config.{in_bounds_of}
use Rattle.spi_nor.specs.declared.setup.Setup.{Setup}
use Rattle.nor_runs.specs.Rust.{MAX-BULK-LEN, range_in_bounds, erase_step, read-piece, reading, read, page-program, writing, erase-unit, erasing}

module _ (flash : Setup) where
  -- fn read, wherever its pieces go
  abbrev pub ReadLoop : (ℕ → Sink) → (offset len done : ℕ) → Bool → Type 0
  ReadLoop into offset len done same =
      reading flash into offset len done same ≡
      (if ltb done len
      then (do
        v ← transfer (read-piece flash.config.quad (offset + done) (min (len - done) MAX-BULK-LEN) (into done))
        reading flash into offset len (done + min (len - done) MAX-BULK-LEN) (same && not (v == 0)))
      else ret same)

  -- fn page_program: its `self.read` of a page is the loop running once
  abbrev pub ReadOnce : (ℕ → Sink) → (offset n : ℕ) → Type 0
  ReadOnce into offset n =
      read flash into offset n ≡ (do
        refuse (not (range_in_bounds flash.device.capacity offset n)) FlashError.OutOfBounds
        v ← transfer (read-piece flash.config.quad offset n (into 0))
        ret (not (v == 0)))

  -- fn write, from the index-th chunk on
  abbrev pub WriteLoop : (offset len index : ℕ) → Type 0
  WriteLoop offset len index =
      writing flash offset len index ≡
      (if ltb (index * flash.device.page_size) len
      then (do
        page-program flash (offset + index * flash.device.page_size) (index * flash.device.page_size) (min (len - index * flash.device.page_size) flash.device.page_size)
        writing flash offset len (index + 1))
      else ret tt)

  -- fn erase
  abbrev pub EraseLoop : (address to : ℕ) → Type 0
  EraseLoop address to =
      let step = erase_step address to flash.device.sector_size flash.device.block_size in
      erasing flash address to ≡
      (if ltb address to
      then (do
        erase-unit flash step.0 address
        erasing flash step.1 to)
      else ret tt)

-- a piece, a page and a unit are never empty
pub record NorLoops : Type 0 where
  pub reads : (flash : Setup) (into : ℕ → Sink) (offset len done : ℕ) (same : Bool) → ReadLoop flash into offset len done same
  pub reads_once : (flash : Setup) (into : ℕ → Sink) (offset n : ℕ) → 1 ≤ n → n ≤ MAX-BULK-LEN → ReadOnce flash into offset n
  pub writes : (flash : Setup) → in_bounds_of flash.device ≡ true → (offset len index : ℕ) → WriteLoop flash offset len index
  pub erases : (flash : Setup) → in_bounds_of flash.device ≡ true → (address to : ℕ) → EraseLoop flash address to

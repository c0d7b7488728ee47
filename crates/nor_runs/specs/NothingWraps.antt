-- Inside the bounds (docs/SPECIFICATION.md, "Geometry") no operation of nor/driver.rs wraps, goes below 0, divides by 0 or slices past an
-- end, so that its numbers are those of the transcription. In the order of its functions; a function that is not here computes nothing.
use Rattle.std.specs.Prelude.{ℕ, ◌+◌, ◌-◌, ◌*◌, ◌^◌, ◌≤◌, ◌<◌, ◌≡◌, min, true, List}
use Rattle.flash_runs.specs.Built.{after_turns}
use Rattle.flash_runs.specs.SameAsRust.{Turn}
use Rattle.spi_nor.specs.declared.call.Call.{Call}
use Rattle.nor_runs.specs.Run.{nor_driver}
use Rattle.spi_nor.specs.Config.{in_bounds_of}
use Rattle.spi_nor.specs.Opcode.{timings_of}
use Rattle.spi_nor.specs.declared.config.NorDeviceInfo.{NorDeviceInfo}
use Rattle.spi_nor.specs.declared.config.NorJedecId.{NorJedecId}
use Rattle.spi_nor.specs.declared.opcode.Operation.{Operation}
use Rattle.nor_runs.specs.Rust.{MAX-VERIFY-PAGE-SIZE, MAX-BULK-LEN, range_in_bounds, chunks, chunk_len}

-- what a driver holds: a device within the bounds, with a page that its construction takes
pub record Held (device : NorDeviceInfo) : Type 0 where
  pub in_bounds : in_bounds_of device ≡ true
  pub page : device.page_size ≤ MAX-VERIFY-PAGE-SIZE

-- a turn of fn read, behind `done` bytes
pub record ReadTurn (offset len done : ℕ) : Type 0 where
  -- bytes.len() - done
  pub left : done ≤ len
  -- done as u32, offset + done as u32
  pub cast : done < 2 ^ 32
  pub current : offset + done < 2 ^ 32
  -- address_bytes(current): three bytes hold it
  pub three_bytes : offset + done < 2 ^ 24
  -- &mut bytes[done..done + length], and done += length
  pub piece : done + min (len - done) MAX-BULK-LEN ≤ len
  pub next : done + min (len - done) MAX-BULK-LEN < 2 ^ 64

-- a turn of fn write, at the index-th chunk, and its fn page_program
pub record WriteTurn (device : NorDeviceInfo) (offset len index : ℕ) : Type 0 where
  -- index * page_size, and that as u32
  pub product : index * device.page_size < 2 ^ 32
  -- offset + ..; address_bytes(offset)
  pub current : offset + index * device.page_size < 2 ^ 32
  pub three_bytes : offset + index * device.page_size < 2 ^ 24
  -- the chunk is a part of the bytes, and not an empty one
  pub chunk : index * device.page_size + chunk_len len device.page_size index ≤ len
  pub some : 1 ≤ chunk_len len device.page_size index
  -- verify.0[..data.len()]
  pub verify : chunk_len len device.page_size index ≤ MAX-VERIFY-PAGE-SIZE

-- a turn of fn erase, with its erase_step
pub record EraseTurn (device : NorDeviceInfo) (address to : ℕ) : Type 0 where
  -- sector as u32, block as u32
  pub sector : device.sector_size < 2 ^ 32
  pub block : device.block_size < 2 ^ 32
  -- end - address
  pub left : address ≤ to
  -- address + block, address + sector
  pub next_block : address + device.block_size < 2 ^ 32
  pub next_sector : address + device.sector_size < 2 ^ 32
  -- address_bytes(address)
  pub three_bytes : address < 2 ^ 24

pub record NothingWraps : Type 0 where
  -- every driver that is built holds it, whatever calls came before
  pub held : (turns : List (Turn Call)) → nor_driver.built (after_turns nor_driver nor_driver.fresh turns) ≡ true → Held (nor_driver.setup (after_turns nor_driver nor_driver.fresh turns)).device
  -- fn wait_ready: waited.saturating_add(opcode::POLL_INTERVAL_US) is the sum
  pub waits : (operation : Operation) (waited : ℕ) → waited < (timings_of operation).timeout_us → waited + (timings_of operation).poll_us < 2 ^ 32
  -- fn range_in_bounds: capacity - offset, which is computed behind `offset <= capacity` alone
  pub ranges : (capacity offset length : ℕ) → range_in_bounds capacity offset length ≡ true → offset ≤ capacity
  -- fn read
  pub reads : (device : NorDeviceInfo) → Held device → (offset len done : ℕ) → range_in_bounds device.capacity offset len ≡ true → done < len → ReadTurn offset len done
  -- fn write: bytes.chunks(page_size), is_multiple_of(page_size)
  pub page : (device : NorDeviceInfo) → Held device → 1 ≤ device.page_size
  pub writes : (device : NorDeviceInfo) → Held device → (offset len index : ℕ) → range_in_bounds device.capacity offset len ≡ true → index < chunks len device.page_size →
      WriteTurn device offset len index
  -- fn erase: is_multiple_of(sector), is_multiple_of(block)
  pub sector : (device : NorDeviceInfo) → Held device → 1 ≤ device.sector_size
  pub block : (device : NorDeviceInfo) → Held device → 1 ≤ device.block_size
  pub erases : (device : NorDeviceInfo) → Held device → (address to : ℕ) → address < to → to ≤ device.capacity → EraseTurn device address to
  -- fn erase_sector, fn erase_block: address_bytes(offset)
  pub units : (device : NorDeviceInfo) → Held device → (offset unit : ℕ) → 1 ≤ unit → range_in_bounds device.capacity offset unit ≡ true → offset < 2 ^ 24
  -- NorJedecId::capacity_bytes: 1usize << self.capacity
  pub codes : (id : NorJedecId) → id.capacity ≤ 24 → 2 ^ id.capacity < 2 ^ 64

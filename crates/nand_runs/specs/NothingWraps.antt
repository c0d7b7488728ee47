-- Inside the bounds (docs/SPECIFICATION.md, "Geometry") no operation of nand/driver.rs wraps, goes below 0, divides by 0 or slices past an
-- end, so that its numbers are those of the transcription. In the order of its functions; a function that is not here computes nothing.
use Rattle.std.specs.Prelude.{ℕ, ◌+◌, ◌-◌, ◌*◌, ◌/◌, ◌%◌, ◌^◌, ◌≤◌, ◌<◌, ◌≡◌, min, true, List}
use Rattle.flash_runs.specs.Built.{after_turns}
use Rattle.flash_runs.specs.SameAsRust.{Turn}
use Rattle.spi_nand.specs.declared.call.Call.{Call}
use Rattle.nand_runs.specs.Run.{nand_driver}
use Rattle.spi_nand.specs.Config.{in_bounds}
use Rattle.spi_nand.specs.Opcode.{timings_of}
use Rattle.spi_nand.specs.declared.config.NandGeometry.{NandGeometry}
use Rattle.spi_nand.specs.declared.opcode.Operation.{Operation}
use Rattle.nand_runs.specs.RustConfig.{block_size, page_count, capacity}
use Rattle.nand_runs.specs.Rust.{MAX-VERIFY-PAGE-SIZE, FF-CHUNK-LEN, checked_add, ends_within}

-- what a driver holds: a geometry within the bounds, with a page that its construction takes
pub record Held (g : NandGeometry) : Type 0 where
  pub in_bounds : in_bounds g ≡ true
  pub page : g.page_size ≤ MAX-VERIFY-PAGE-SIZE

-- a turn of fn read, behind `done` bytes
pub record ReadTurn (g : NandGeometry) (offset len done : ℕ) : Type 0 where
  -- offset + done
  pub address : offset + done < 2 ^ 64
  -- page_address(page), and the check that page_read makes of it
  pub page : (offset + done) / g.page_size < page_count g
  pub three_bytes : (offset + done) / g.page_size < 2 ^ 24
  -- page_size - column, buffer.len() - done
  pub column : (offset + done) % g.page_size ≤ g.page_size
  pub left : done ≤ len
  -- &mut buffer[done..done + chunk], and done += chunk
  pub piece : done + min (g.page_size - (offset + done) % g.page_size) (len - done) ≤ len
  pub next : done + min (g.page_size - (offset + done) % g.page_size) (len - done) < 2 ^ 64

-- a turn of fn mark_bad_block's loop
pub record FillTurn (g : NandGeometry) (column : ℕ) : Type 0 where
  -- page_size - column
  pub left : column ≤ g.page_size
  -- &FF_CHUNK[..step]
  pub chunk : min (g.page_size - column) FF-CHUNK-LEN ≤ FF-CHUNK-LEN
  -- column += step
  pub next : column + min (g.page_size - column) FF-CHUNK-LEN ≤ g.page_size

pub record NothingWraps : Type 0 where
  -- every driver that is built holds it, whatever calls came before
  pub held : (turns : List (Turn Call)) → nand_driver.built (after_turns nand_driver nand_driver.fresh turns) ≡ true → Held (nand_driver.setup (after_turns nand_driver nand_driver.fresh turns)).geometry
  -- fn wait_ready: waited += timings.poll_us, from timings.initial_us on
  pub first : (operation : Operation) → (timings_of operation).initial_us < 2 ^ 32
  pub waits : (operation : Operation) (waited : ℕ) → waited < (timings_of operation).timeout_us → waited + (timings_of operation).poll_us < 2 ^ 32
  -- NandGeometry::page_count, block_size and capacity; fn check_cache_range: page_size + oob_size
  pub all_pages : (g : NandGeometry) → Held g → page_count g < 2 ^ 64
  pub block_bytes : (g : NandGeometry) → Held g → block_size g < 2 ^ 64
  pub all_bytes : (g : NandGeometry) → Held g → capacity g < 2 ^ 64
  pub cache_bytes : (g : NandGeometry) → Held g → g.page_size + g.oob_size < 2 ^ 64
  -- fn load_page, fn program_execute: page_address(page) of a page that is checked
  pub page_address : (g : NandGeometry) → Held g → (page : ℕ) → page < page_count g → page < 2 ^ 24
  -- fn read_cache, fn load_program_data: column as u16
  pub column : (g : NandGeometry) → Held g → (column n : ℕ) → ends_within (g.page_size + g.oob_size) (checked_add column n) ≡ true → column < 2 ^ 16
  -- fn write_page: &mut verify.0[..page_size]
  pub verify : (g : NandGeometry) → Held g → g.page_size ≤ MAX-VERIFY-PAGE-SIZE
  -- fn erase_block, fn is_bad_block, fn mark_bad_block: block * pages_per_block, a page of the part, and page_address of it
  pub first_page : (g : NandGeometry) → Held g → (block : ℕ) → block < g.block_count → block * g.pages_per_block < page_count g
  -- fn read: address / page_size, address % page_size
  pub divisor : (g : NandGeometry) → Held g → 1 ≤ g.page_size
  pub reads : (g : NandGeometry) → Held g → (offset len done : ℕ) → ends_within (capacity g) (checked_add offset len) ≡ true → done < len → ReadTurn g offset len done
  -- fn mark_bad_block
  pub fills : (g : NandGeometry) → Held g → (column : ℕ) → column < g.page_size → FillTurn g column

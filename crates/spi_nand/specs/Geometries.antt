-- What holds of the geometries of Config.
use Rattle.std.specs.Prelude.{◌+◌, ◌*◌, ◌≤◌, ◌≡◌, true}
use Rattle.spi_nand.specs.Config.{block_size_of, page_count_of, capacity_of, in_bounds, from_jedec}
use Rattle.spi_nand.specs.declared.config.NandJedecId.{NandJedecId}
use Rattle.spi_nand.specs.declared.config.NandGeometry.{NandGeometry}

-- the bounds of a caller's own NAND, one fact each (docs/SPECIFICATION.md, "Geometry")
pub record Bounded (g : NandGeometry) : Type 0 where
  pub page : 1 ≤ g.page_size
  pub per_block : 1 ≤ g.pages_per_block
  pub blocks : 1 ≤ g.block_count
  pub whole : g.page_size + g.oob_size ≤ 65535
  pub pages : g.pages_per_block * g.block_count ≤ 16777216

-- no product is cut short
pub record Exact (g : NandGeometry) : Type 0 where
  pub block_size : block_size_of g ≡ g.page_size * g.pages_per_block
  pub page_count : page_count_of g ≡ g.pages_per_block * g.block_count
  pub capacity : capacity_of g ≡ g.page_size * g.pages_per_block * g.block_count

-- a geometry that an id gives: within the bounds, and with a page that a construction takes
pub record Supported (g : NandGeometry) : Type 0 where
  pub bounds : in_bounds g ≡ true
  pub page : g.page_size ≤ 4096

pub record GeometriesHold : Type 0 where
  pub bounded : (g : NandGeometry) → in_bounds g ≡ true → Bounded g
  pub accepted : (g : NandGeometry) → Bounded g → in_bounds g ≡ true
  pub exact : (g : NandGeometry) → in_bounds g ≡ true → Exact g
  pub known : (id : NandJedecId) → Supported (from_jedec id)

-- What the bounds test and detection come to.
use Rattle.std.specs.Prelude.{ℕ, ◌*◌, ◌^◌, ◌≤◌, ◌<◌, ◌≡◌, true, Some, None}
use Rattle.spi_nor.specs.Config.{capacity_bytes_of, from_jedec, in_bounds_of}
use Rattle.spi_nor.specs.declared.config.NorJedecId.{NorJedecId}
use Rattle.spi_nor.specs.declared.config.NorDeviceInfo.{NorDeviceInfo}

-- the bounds of a caller's own NOR, one fact each (docs/SPECIFICATION.md, "Geometry")
pub record InBounds (d : NorDeviceInfo) : Type 0 where
  pub capacity : d.capacity ≤ 16777216
  pub least_page : 1 ≤ d.page_size
  pub most_page : d.page_size ≤ 65536
  pub sector : 1 ≤ d.sector_size
  pub sectors : ℕ
  pub positive : 1 ≤ sectors
  pub multiple : d.block_size ≡ sectors * d.sector_size
  pub most_block : d.block_size ≤ 16777216

pub record DeviceBounds : Type 0 where
  -- the test says yes to the geometries within the bounds, and to no other
  pub accepted : (d : NorDeviceInfo) → in_bounds_of d ≡ true → InBounds d
  pub accepts : (d : NorDeviceInfo) → InBounds d → in_bounds_of d ≡ true
  -- every device that detection gives is within them, with a page that the driver takes
  pub detected : (id : NorJedecId) → InBounds (from_jedec id)
  pub detected_page : (id : NorJedecId) → (from_jedec id).page_size ≤ 512
  -- a capacity code is read for what it is from 16 to 24, and nowhere else
  pub code : (id : NorJedecId) → 16 ≤ id.capacity → id.capacity ≤ 24 → capacity_bytes_of id ≡ Some (2 ^ id.capacity)
  pub low_code : (id : NorJedecId) → id.capacity < 16 → capacity_bytes_of id ≡ None
  pub high_code : (id : NorJedecId) → 24 < id.capacity → capacity_bytes_of id ≡ None

-- The bounds test, detection and capacity codes.
-- Assumes nothing.
use Rattle.std.specs.Prelude.{Some, None}
use Prim.Native.Nat.{ℕ, zero, suc, ◌*◌, ◌/◌, ◌%◌, ◌^◌, ◌≤◌, ◌<◌}
use mathlib.Core.Path.{◌≡◌, refl}
use mathlib.Core.Bool.{Bool, true, false}
use native.Mathlib.Omega.{arith}
use native.Mathlib.Nat.{div-add-mod', mul-mod_left, mul-pos}
use lib.Dec.{eqb, leb}
use lib.Pow.{pow_mono}
use borrow.Author.Tests.{eqb-true, leb-true, leb-false}
use Rattle.qspi.specs.Choice.{pick}
use Rattle.qspi.proofs.Tests.{tests}
use Rattle.qspi.proofs.Cases.{by_cases}
use Rattle.spi_flash.proofs.Table as table
use Rattle.spi_nor.specs.Config.{largest_capacity, largest_page, standard_device, known_nor_devices, same_id, unknown_device, capacity_bytes_of, from_jedec, in_bounds_of}
use Rattle.spi_nor.specs.DeviceBounds.{InBounds, DeviceBounds}
use Rattle.spi_nor.specs.declared.config.NorJedecId.{NorJedecId}
use Rattle.spi_nor.specs.declared.config.NorDeviceInfo.{NorDeviceInfo}

-- ---- the test

-- a chain of tests that says yes has each test say yes
passed : (a b : Bool) → pick a b false ≡ true → a ≡ true
passed true b e = refl
passed false b e = e

later : (a b : Bool) → pick a b false ≡ true → b ≡ true
later true b e = e
later false b e = cc

positive_of : (k m n : ℕ) → n ≡ k * m → 1 ≤ n → 1 ≤ k
positive_of zero m n e h = omega arith
positive_of (suc k) m n e h = omega arith

accepted : (d : NorDeviceInfo) → in_bounds_of d ≡ true → InBounds d
unfolding in_bounds_of
accepted d e =
    let page = d.page_size in
    let sector = d.sector_size in
    let block = d.block_size in
    let rest6 = pick (leb block largest_capacity) (eqb (block % sector) 0) false in
    let rest5 = pick (leb 1 block) rest6 false in
    let rest4 = pick (leb 1 sector) rest5 false in
    let rest3 = pick (leb page largest_page) rest4 false in
    let rest2 = pick (leb 1 page) rest3 false in
    let e2 = later (leb d.capacity largest_capacity) rest2 e in
    let e3 = later (leb 1 page) rest3 e2 in
    let e4 = later (leb page largest_page) rest4 e3 in
    let e5 = later (leb 1 sector) rest5 e4 in
    let e6 = later (leb 1 block) rest6 e5 in
    let none = eqb-true (block % sector) 0 (later (leb block largest_capacity) (eqb (block % sector) 0) e6) in
    let whole : block ≡ block / sector * sector = omega (arith, div-add-mod' block sector) in
    let some = leb-true 1 block (passed (leb 1 block) rest6 e5) in record {
      capacity = leb-true d.capacity largest_capacity (passed (leb d.capacity largest_capacity) rest2 e);
      least_page = leb-true 1 page (passed (leb 1 page) rest3 e2);
      most_page = leb-true page largest_page (passed (leb page largest_page) rest4 e3);
      sector = leb-true 1 sector (passed (leb 1 sector) rest5 e4);
      sectors = block / sector;
      positive = positive_of (block / sector) sector block whole some;
      multiple = whole;
      most_block = leb-true block largest_capacity (passed (leb block largest_capacity) (eqb (block % sector) 0) e6);
    }

accepts : (d : NorDeviceInfo) → InBounds d → in_bounds_of d ≡ true
unfolding in_bounds_of
accepts d h =
    let some : 1 ≤ d.block_size = rw h.multiple (mul-pos h.positive h.sector) in
    let whole : d.block_size % d.sector_size ≡ 0 = rw h.multiple (mul-mod_left h.sectors d.sector_size) in
    let a = h.capacity in
    let b = h.least_page in
    let c = h.most_page in
    let s = h.sector in
    let m = h.most_block in
    simp tests

-- ---- capacity codes

code : (id : NorJedecId) → 16 ≤ id.capacity → id.capacity ≤ 24 → capacity_bytes_of id ≡ Some (2 ^ id.capacity)
unfolding capacity_bytes_of
code id low high = simp tests

low-code : (id : NorJedecId) → id.capacity < 16 → capacity_bytes_of id ≡ None
unfolding capacity_bytes_of
low-code id h = simp tests

high-code : (id : NorJedecId) → 24 < id.capacity → capacity_bytes_of id ≡ None
unfolding capacity_bytes_of
high-code id h = let low : 16 ≤ id.capacity = omega arith in simp tests

-- ---- detection

-- every device of nor/config.rs: standard sizes, and a capacity within the bounds
pub record Standard (d : NorDeviceInfo) : Type 0 where
  pub device : ℕ
  pub small : device ≤ 16777216
  pub is : d ≡ standard_device device

standard : (n : ℕ) → n ≤ 16777216 → Standard (standard_device n)
standard n h = record { device = n; small = h; is = refl }

other : (id : NorJedecId) → Standard (unknown_device (capacity_bytes_of id))
other id =
    by_cases (leb 16 id.capacity)
    (λ low. by_cases (leb id.capacity 24)
    (λ high. rw (code id (leb-true _ _ low) (leb-true _ _ high)) (standard (2 ^ id.capacity) (pow_mono {j = 24} (leb-true _ _ high))))
    (λ high. rw (high-code id (leb-false _ _ high)) (standard 16777216 (omega arith))))
    (λ low. rw (low-code id (leb-false _ _ low)) (standard 16777216 (omega arith)))

found : (id : NorJedecId) → Standard (from_jedec id)
unfolding from_jedec
found id =
    let large = standard 16777216 (omega arith) in
    table.found Standard same_id known_nor_devices id (unknown_device (capacity_bytes_of id)) (standard 8388608 (omega arith), (large, (large, tt))) (other id)

detected : (id : NorJedecId) → InBounds (from_jedec id)
detected id = rw (found id).is record {
  capacity = (found id).small;
  least_page = omega arith;
  most_page = omega arith;
  sector = omega arith;
  sectors = 16;
  positive = omega arith;
  multiple = refl;
  most_block = omega arith;
}

detected-page : (id : NorJedecId) → (from_jedec id).page_size ≤ 512
detected-page id = rw (found id).is (omega arith)

pub device_bounds : DeviceBounds
device_bounds = record {
  accepted = accepted;
  accepts = accepts;
  detected = detected;
  detected_page = detected-page;
  code = code;
  low_code = low-code;
  high_code = high-code;
}

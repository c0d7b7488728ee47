-- The bounds, the products inside them, and the geometries that an id gives.
use Prim.Native.Nat.{◌*◌, ◌≤◌}
use mathlib.Core.Path.{◌≡◌, refl}
use mathlib.Core.Bool.{Bool, true, ◌&&◌}
use native.Mathlib.Omega.{arith}
use native.Mathlib.Nat.{mul_assoc, mul-le-mul, le-mul_of_pos_right}
use lib.Dec.{leb}
use borrow.Author.Tests.{leb-true}
use Rattle.qspi.proofs.Tests.{tests}
use Rattle.spi_flash.proofs.Table.{both, found}
use Rattle.spi_nand.specs.Config.{block_size_of, page_count_of, capacity_of, in_bounds, W25N01GV, known_nand_devices, same_id, from_jedec}
use Rattle.spi_nand.specs.Geometries.{Bounded, Exact, Supported, GeometriesHold}
use Rattle.spi_nand.specs.declared.config.NandJedecId.{NandJedecId}
use Rattle.spi_nand.specs.declared.config.NandGeometry.{NandGeometry}
use Rattle.spi_nand.proofs.Saturating as products

five : (a b c d e : Bool) → (a && b && c && d && e) ≡ true → (a ≡ true) × (b ≡ true) × (c ≡ true) × (d ≡ true) × (e ≡ true)
five a b c d e h =
    let abcd = both (a && b && c && d) e h in
    let abc = both (a && b && c) d abcd.0 in
    let ab = both (a && b) c abc.0 in
    let first = both a b ab.0 in
    (first.0, first.1, ab.1, abc.1, abcd.1)

bounded : (g : NandGeometry) → in_bounds g ≡ true → Bounded g
unfolding in_bounds
bounded g h =
    let told = five _ _ _ _ _ h in
    record {
      page = leb-true _ _ told.0;
      per_block = leb-true _ _ told.1;
      blocks = leb-true _ _ told.2;
      whole = leb-true _ _ told.3;
      pages = leb-true _ _ told.4;
    }

accepted : (g : NandGeometry) → Bounded g → in_bounds g ≡ true
unfolding in_bounds
accepted g b =
    let page = b.page in
    let per_block = b.per_block in
    let blocks = b.blocks in
    let whole = b.whole in
    let pages = b.pages in
    simp tests

exact : (g : NandGeometry) → in_bounds g ≡ true → Exact g
unfolding block_size_of page_count_of capacity_of
exact g h =
    let b = bounded g h in
    let page = g.page_size in
    let per_block = g.pages_per_block in
    let blocks = g.block_count in
    let page_most : page ≤ 65535 = omega arith in
    let most : page * (per_block * blocks) ≤ 65535 * 16777216 = mul-le-mul page_most b.pages in
    let all : page * per_block * blocks ≡ page * (per_block * blocks) = mul_assoc page per_block blocks in
    let block : page * per_block ≤ page * per_block * blocks = le-mul_of_pos_right (page * per_block) b.blocks in
    record {
      block_size = products.exact (page * per_block) (omega arith);
      page_count = products.exact (per_block * blocks) (omega arith);
      capacity = products.exact (page * per_block * blocks) (omega arith);
    }

-- one test of a geometry, which computes at every row
abbrev supported : NandGeometry → Bool
supported g = in_bounds g && leb g.page_size 4096

known : (id : NandJedecId) → Supported (from_jedec id)
unfolding from_jedec in_bounds
known id =
    let g = from_jedec id in
    let told = both (in_bounds g) (leb g.page_size 4096) (found (λ g. supported g ≡ true) same_id known_nand_devices id W25N01GV (refl, (refl, (refl, (refl, tt)))) refl) in
    record { bounds = told.0; page = leb-true g.page_size 4096 told.1 }

pub geometries-hold : GeometriesHold
geometries-hold = record { bounded = bounded; accepted = accepted; exact = exact; known = known }

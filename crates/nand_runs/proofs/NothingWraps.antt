-- No operation of the Rust wraps inside the bounds.
-- Assumes nothing.
use Prim.Native.Nat.{ℕ, suc, ◌+◌, ◌*◌, ◌/◌, ◌≤◌, ◌<◌}
use native.Mathlib.Omega.{arith}
use native.Mathlib.Nat.{mod-lt, mul_comm, mul_assoc, mul-le-mul_right, div-lt_iff_lt-mul}
use mathlib.Core.Bool.{true}
use mathlib.Core.Path.{◌≡◌, sym, ◌∙◌}
use Rattle.spi_flash.proofs.Pieces.{range-told}
use Rattle.spi_nand.specs.Config.{capacity_of, cache_size_of}
use Rattle.spi_nand.specs.Transfer.{in_cache, in_range}
use Rattle.spi_nand.specs.declared.config.NandGeometry.{NandGeometry}
use Rattle.spi_nand.proofs.Geometries.{geometries-hold}
use Rattle.spi_nand.proofs.WaitTable.{wait-table}
use Rattle.nand_runs.proofs.Built.{nand-built}
use Rattle.nand_runs.specs.RustConfig.{block_size, page_count, capacity}
use Rattle.nand_runs.specs.Rust.{checked_add, ends_within}
use Rattle.nand_runs.specs.NothingWraps.{Held, ReadTurn, NothingWraps}
use Rattle.nand_runs.proofs.Agrees.{capacity-same, cache-size-same, small-capacity, in-cache-same, in-range-same}

module _ (g : NandGeometry) (h : Held g) where
  in-cache-told : (column n : ℕ) → in_cache g column n ≡ true → column + n ≤ cache_size_of g
  unfolding in_cache
  in-cache-told column n e = range-told (cache_size_of g) column n e

  in-range-told : (offset n : ℕ) → in_range g offset n ≡ true → offset + n ≤ capacity_of g
  unfolding in_range
  in-range-told offset n e = range-told (capacity_of g) offset n e

  -- a block is no larger than the part
  block : block_size g < 18446744073709551616
  block =
      let b = geometries-hold.bounded g h.in_bounds in
      let l = mul-le-mul_right (block_size g) b.blocks in
      omega (arith, small-capacity g h.in_bounds, mul_comm (block_size g) g.block_count)

  first-page : (n : ℕ) → n < g.block_count → n * g.pages_per_block < page_count g
  first-page n below =
      let b = geometries-hold.bounded g h.in_bounds in
      let l : suc n * g.pages_per_block ≤ g.block_count * g.pages_per_block = mul-le-mul_right g.pages_per_block below in
      omega (arith, mul_comm g.pages_per_block g.block_count)

  reads : (offset len done : ℕ) → ends_within (capacity g) (checked_add offset len) ≡ true → done < len → ReadTurn g offset len done
  reads offset len done r below =
      let b = geometries-hold.bounded g h.in_bounds in
      let l = in-range-told offset len (sym (in-range-same g h.in_bounds offset len) ∙ r) in
      let c = capacity-same g h.in_bounds in
      let s = small-capacity g h.in_bounds in
      let whole : capacity g ≡ page_count g * g.page_size = mul_assoc g.page_size g.pages_per_block g.block_count ∙ mul_comm g.page_size (page_count g) in
      let page : (offset + done) / g.page_size < page_count g = (div-lt_iff_lt-mul b.page).1 (omega arith) in
      let column = mod-lt (offset + done) b.page in
      record { address = omega arith; page = page; three_bytes = omega (arith, b.pages); column = omega arith; left = omega arith; piece = omega arith; next = omega arith }

pub nothing-wraps : NothingWraps
nothing-wraps = record {
  held = λ turns built. record { in_bounds = nand-built.inside turns built; page = nand-built.page turns built };
  first = λ operation. omega (arith, (wait-table.rule operation).below, (wait-table.rule operation).fits);
  waits = λ operation waited below. omega (arith, (wait-table.rule operation).fits);
  all_pages = λ g h. omega (arith, (geometries-hold.bounded g h.in_bounds).pages);
  block_bytes = block;
  all_bytes = λ g h. omega (arith, small-capacity g h.in_bounds);
  cache_bytes = λ g h. omega (arith, (geometries-hold.bounded g h.in_bounds).whole);
  page_address = λ g h page below. omega (arith, (geometries-hold.bounded g h.in_bounds).pages);
  column = λ g h column n e. omega (arith, in-cache-told g h column n (sym (in-cache-same g h.in_bounds column n) ∙ e), cache-size-same g h.in_bounds, (geometries-hold.bounded g h.in_bounds).whole);
  verify = λ g h. h.page;
  first_page = first-page;
  divisor = λ g h. (geometries-hold.bounded g h.in_bounds).page;
  reads = reads;
  fills = λ g h column below. record { left = omega arith; chunk = omega arith; next = omega arith };
}

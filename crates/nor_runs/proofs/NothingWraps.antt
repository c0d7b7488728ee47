-- No operation of the Rust wraps inside the bounds.
-- Assumes nothing.
use Prim.Native.Nat.{ℕ, suc, ◌+◌, ◌-◌, ◌*◌, ◌≤◌, ◌<◌}
use native.Mathlib.Omega.{arith}
use native.Mathlib.Nat.{le-div_iff_mul-le}
use mathlib.Core.Bool.{true}
use mathlib.Core.Path.{◌≡◌, sym, ◌∙◌}
use lib.Pow.{pow_mono}
use Rattle.spi_flash.proofs.Pieces.{range-told}
use Rattle.spi_nor.specs.declared.config.NorDeviceInfo.{NorDeviceInfo}
use Rattle.spi_nor.proofs.DeviceBounds.{device_bounds}
use Rattle.spi_nor.proofs.WaitTable.{wait-table}
use Rattle.nor_runs.proofs.Built.{nor-built}
use Rattle.nor_runs.specs.Rust.{range_in_bounds, chunks}
use Rattle.nor_runs.specs.NothingWraps.{Held, ReadTurn, WriteTurn, EraseTurn, NothingWraps}
use Rattle.nor_runs.proofs.Agrees.{range-same, some-block, most-sector}

told : (capacity offset n : ℕ) → range_in_bounds capacity offset n ≡ true → offset + n ≤ capacity
told capacity offset n r = range-told capacity offset n (sym (range-same capacity offset n) ∙ r)

reads : (device : NorDeviceInfo) → Held device → (offset len done : ℕ) → range_in_bounds device.capacity offset len ≡ true → done < len → ReadTurn offset len done
reads device h offset len done r below =
    let c = (device_bounds.accepted device h.in_bounds).capacity in
    let l = told device.capacity offset len r in
    record { left = omega arith; cast = omega arith; current = omega arith; three_bytes = omega arith; piece = omega arith; next = omega arith }

writes : (device : NorDeviceInfo) → Held device → (offset len index : ℕ) → range_in_bounds device.capacity offset len ≡ true → index < chunks len device.page_size → WriteTurn device offset len index
writes device h offset len index r below =
    let b = device_bounds.accepted device h.in_bounds in
    let some = b.least_page in
    let c = b.capacity in
    let p = h.page in
    let l = told device.capacity offset len r in
    let there : suc index * device.page_size ≤ len + (device.page_size - 1) = (le-div_iff_mul-le {x = suc index} some).0 below in
    record { product = omega arith; current = omega arith; three_bytes = omega arith; chunk = omega arith; some = omega arith; verify = omega arith }

erases : (device : NorDeviceInfo) → Held device → (address to : ℕ) → address < to → to ≤ device.capacity → EraseTurn device address to
erases device h address to below most =
    let b = device_bounds.accepted device h.in_bounds in
    let c = b.capacity in
    let m = b.most_block in
    let s = most-sector device h.in_bounds in
    record { sector = omega arith; block = omega arith; left = omega arith; next_block = omega arith; next_sector = omega arith; three_bytes = omega arith }

pub nothing-wraps : NothingWraps
nothing-wraps = record {
  held = λ turns built. record { in_bounds = nor-built.inside turns built; page = nor-built.page turns built };
  waits = λ operation waited below. omega (arith, (wait-table.rule operation).fits);
  ranges = λ capacity offset n r. omega (arith, told capacity offset n r);
  reads = reads;
  page = λ device h. (device_bounds.accepted device h.in_bounds).least_page;
  writes = writes;
  sector = λ device h. (device_bounds.accepted device h.in_bounds).sector;
  block = λ device h. some-block device h.in_bounds;
  erases = erases;
  units = λ device h offset unit some r. omega (arith, told device.capacity offset unit r, (device_bounds.accepted device h.in_bounds).capacity);
  codes = λ id small. let p = pow_mono {j = 24} small in omega arith;
}

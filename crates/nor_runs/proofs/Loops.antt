-- The loops of read, write and erase satisfy the Rust's equations, without fuel: each turn goes on by at least 1.
use Prim.Native.Nat.{ℕ, ◌+◌, ◌-◌, ◌*◌, ◌%◌, ◌≤◌, ◌<◌}
use native.Mathlib.Omega.{arith}
use native.Mathlib.Nat.{mod-eq_of_lt, mul-pos}
use mathlib.Core.Bool.{Bool, true, false}
use mathlib.Core.Path.{◌≡◌, refl}
use lib.Dec.{ltb}
use Rattle.qspi.specs.declared.transfer.Sink.{Sink}
use Rattle.std.specs.Prelude.{if◌then◌else◌}
use Rattle.spi_flash.specs.Prog.{Prog, ret, ◌>>=◌, ◌>>◌, refuse, transfer}
use Rattle.spi_nor.specs.Opcode.{MAX-BULK-LEN}
use Rattle.spi_nor.specs.Config.{in_bounds_of}
use Rattle.spi_flash.specs.Range.{range_in_bounds}
use Rattle.spi_nor.specs.Transfer.{place_of, chunk_of, page_of, read_transfer, unit_size, step_kind, after_unit}
use Rattle.nor_runs.specs.Rust.{Nothing}
use Rattle.nor_runs.proofs.AsCoded.{read-loop, reading, page-program, write-loop, writing, erase-unit, erase-loop, erasing}
use Rattle.spi_nor.specs.declared.config.NorDeviceInfo.{NorDeviceInfo}
use Rattle.spi_nor.specs.declared.phase.EraseKind.{EraseKind}
use Rattle.spi_nor.specs.declared.setup.Setup.{Setup}
use Rattle.spi_flash.proofs.Pieces.{range-told}
use Rattle.spi_flash.proofs.Loops.{Counts, without-fuel}
use Rattle.spi_nor.proofs.DeviceBounds.{device_bounds}
use Rattle.spi_nor.proofs.Pieces.{chunk-left, page-whole}

-- ---- a turn goes on

pub chunk-some : (len done : ℕ) → done < len → 1 ≤ chunk_of len done
unfolding chunk_of
chunk-some len done h = omega arith

pub page-some : (device : NorDeviceInfo) (len done : ℕ) → 1 ≤ device.page_size → done < len → 1 ≤ page_of device len done
unfolding page_of
page-some device len done m h = omega arith

-- ---- read and write

pub reading-loop : (flash : Setup) (offset len done : ℕ) → reading flash offset len done ≡
    (if ltb done len
    then (transfer (read_transfer flash (place_of offset done) (chunk_of len done) (Sink.Buffer done)) >> reading flash offset len (done + chunk_of len done))
    else ret tt)
unfolding reading read-loop
reading-loop flash offset len done =
    without-fuel len (λ d. transfer (read_transfer flash (place_of offset d) (chunk_of len d) (Sink.Buffer d))) (λ d. d + chunk_of len d) (λ n d. read-loop flash n offset len d)
    record { stops = λ d. refl; turns = λ n d. refl; goes = λ d h p q f. let some = chunk-some len d h in rw (f (omega arith)) }
    done

pub writing-loop : (flash : Setup) → 1 ≤ flash.device.page_size → (offset len done : ℕ) → writing flash offset len done ≡
    (if ltb done len
    then (page-program flash (place_of offset done) done (page_of flash.device len done) >> writing flash offset len (done + page_of flash.device len done))
    else ret tt)
unfolding writing write-loop
writing-loop flash least offset len done =
    without-fuel len (λ d. page-program flash (place_of offset d) d (page_of flash.device len d)) (λ d. d + page_of flash.device len d) (λ n d. write-loop flash n offset len d)
    record { stops = λ d. refl; turns = λ n d. refl; goes = λ d h p q f. let some = page-some flash.device len d least h in rw (f (omega arith)) }
    done

-- ---- how many turns there are

pub chunk-turns : (len : ℕ) → Counts len (λ done. done + chunk_of len done) (λ k done. len - done ≤ k * MAX-BULK-LEN)
chunk-turns len = record { none = λ done t. omega arith; fewer = λ k done below t. omega (arith, chunk-left len done) }

pub page-turns : (device : NorDeviceInfo) (len : ℕ) → 1 ≤ device.page_size → Counts len (λ done. done + page_of device len done) (λ k done. len - done ≡ k * device.page_size)
page-turns device len some = record { none = λ done t. omega arith; fewer = λ k done below t. omega (arith, page-whole device len done some (omega arith)) }

-- ---- erase

pub unit-some : (device : NorDeviceInfo) → in_bounds_of device ≡ true → (kind : EraseKind) → 1 ≤ unit_size device kind
unit-some device h EraseKind.Sector = (device_bounds.accepted device h).sector
unit-some device h EraseKind.Block =
    let b = device_bounds.accepted device h in
    rw b.multiple (mul-pos b.positive b.sector)

-- and there the u32 sum does not wrap
pub after-unit : (device : NorDeviceInfo) → in_bounds_of device ≡ true → (kind : EraseKind) (address : ℕ) →
    range_in_bounds device.capacity address (unit_size device kind) ≡ true → after_unit device kind address ≡ address + unit_size device kind
unfolding after_unit
after-unit device h kind address r =
    let l = range-told device.capacity address (unit_size device kind) r in
    let c = (device_bounds.accepted device h).capacity in
    let small : unit_size device kind % 4294967296 ≡ unit_size device kind = mod-eq_of_lt (omega arith) in
    rw small (mod-eq_of_lt (omega arith))

module _ (flash : Setup) (bounds : in_bounds_of flash.device ≡ true) (to : ℕ) where
  -- what stands behind a unit that is out of range counts for nothing
  out_of_range : {A : Type 0} (kind : EraseKind) (address : ℕ) (p q : Prog A) → range_in_bounds flash.device.capacity address (unit_size flash.device kind) ≡ false →
      (erase-unit flash kind address >> p) ≡ (erase-unit flash kind address >> q)
  unfolding erase-unit refuse ◌>>◌ ◌>>=◌
  out_of_range kind address p q e = rw e

  -- two ways on that agree behind a unit in range
  unit-then : (kind : EraseKind) (address : ℕ) (p q : Prog Nothing) → (after_unit flash.device kind address ≡ address + unit_size flash.device kind → p ≡ q) →
      (erase-unit flash kind address >> p) ≡ (erase-unit flash kind address >> q)
  unit-then kind address p q f = by (range_in_bounds flash.device.capacity address (unit_size flash.device kind)) refl
    where
      by : (b : Bool) → range_in_bounds flash.device.capacity address (unit_size flash.device kind) ≡ b → (erase-unit flash kind address >> p) ≡ (erase-unit flash kind address >> q)
      by true e = rw (f (after-unit flash.device bounds kind address e))
      by false e = out_of_range kind address p q e

pub erasing-loop : (flash : Setup) → in_bounds_of flash.device ≡ true → (address to : ℕ) → erasing flash address to ≡
    (if ltb address to
    then (erase-unit flash (step_kind flash.device address to) address >> erasing flash (after_unit flash.device (step_kind flash.device address to) address) to)
    else ret tt)
unfolding erasing erase-loop
erasing-loop flash bounds address to =
    without-fuel to (λ a. erase-unit flash (step_kind flash.device a to) a) (λ a. after_unit flash.device (step_kind flash.device a to) a) (λ n a. erase-loop flash n a to)
    record {
      stops = λ a. refl;
      turns = λ n a. refl;
      goes = λ a h p q f.
          let kind = step_kind flash.device a to in
          let some = unit-some flash.device bounds kind in
          unit-then flash bounds to kind a p q (λ z. f (omega arith));
    }
    address

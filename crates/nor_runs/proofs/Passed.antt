-- A program that uses the bus has passed the Rust's tests.
use Prim.Native.Nat.{ℕ}
use mathlib.Core.Bool.{true, false}
use mathlib.Core.Path.{◌≡◌}
use lib.Dec.{ltb}
use Rattle.spi_flash.specs.Prog.{ret, ◌>>◌}
use Rattle.flash_runs.proofs.Asking.{not-refused, passed}
use Rattle.flash_runs.proofs.Supplies.{Asks}
use Rattle.spi_flash.specs.Range.{range_in_bounds}
use Rattle.spi_nor.specs.Transfer.{multiple_of, unit_size}
use Rattle.spi_nor.specs.declared.phase.EraseKind.{EraseKind}
use Rattle.spi_nor.specs.declared.setup.Setup.{Setup}
use Rattle.nor_runs.proofs.AsCoded.{read, write, erase-unit, erase}
use Rattle.nor_runs.specs.Program.{Left}

module _ (flash : Setup) (left : Left) where
  pub read-passed : (offset len : ℕ) → Asks (read flash offset len >> ret left) → range_in_bounds flash.device.capacity offset len ≡ true
  unfolding read ◌>>◌
  read-passed offset len h = (passed _ _ _ _ h).0

  pub write-passed : (offset len : ℕ) → Asks (write flash offset len >> ret left) →
      (range_in_bounds flash.device.capacity offset len ≡ true) × (multiple_of offset flash.device.page_size ≡ true) × (multiple_of len flash.device.page_size ≡ true)
  unfolding write ◌>>◌
  write-passed offset len h =
      let a = passed _ _ _ _ h in
      let b = passed _ _ _ _ a.1 in
      (a.0, b.0, (passed _ _ _ _ b.1).0)

  pub erase-passed : (from to : ℕ) → Asks (erase flash from to >> ret left) →
      (ltb to from ≡ false) × (ltb flash.device.capacity to ≡ false) × (multiple_of from flash.device.sector_size ≡ true) × (multiple_of to flash.device.sector_size ≡ true)
  unfolding erase ◌>>◌
  erase-passed from to h =
      let a = not-refused _ _ _ _ h in
      let b = not-refused _ _ _ _ a.1 in
      let c = passed _ _ _ _ b.1 in
      (a.0, b.0, c.0, (passed _ _ _ _ c.1).0)

  pub unit-passed : (kind : EraseKind) (offset : ℕ) → Asks (erase-unit flash kind offset >> ret left) →
      (range_in_bounds flash.device.capacity offset (unit_size flash.device kind) ≡ true) × (multiple_of offset (unit_size flash.device kind) ≡ true)
  unfolding erase-unit ◌>>◌
  unit-passed kind offset h =
      let a = passed _ _ _ _ h in
      (a.0, (passed _ _ _ _ a.1).0)

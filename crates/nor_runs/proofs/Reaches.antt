-- Replies on which each call's program comes to its bound, and to a good end.
use Rattle.spi_nor.specs.declared.config.NorQuadConfig.{NorQuadConfig}
use Rattle.spi_nor.specs.declared.config.NorDeviceInfo.{NorDeviceInfo}
use Prim.Native.Nat.{ℕ, zero, suc, ◌+◌, ◌-◌, ◌*◌, ◌/◌, ◌%◌, ◌≤◌, ◌<◌}
use native.Mathlib.Omega.{arith}
use native.Mathlib.Nat.{div-add-mod', mod-eq_of_lt}
use mathlib.Core.Bool.{Bool, true, false, not, true≢false}
use mathlib.Core.Path.{◌≡◌, refl, ap}
use mathlib.Core.List.{List}
use lib.Dec.{ltb, lit<}
use lib.ListN.{length}
use borrow.Author.Tests.{leb-true, leb-false, ltb-true, ltb-false, eqb-true, lt-ltb, le-ltb}
use Rattle.qspi.specs.Choice.{pick}
use Rattle.qspi.specs.declared.transfer.Sink.{Sink}
use Rattle.std.specs.Prelude.{if◌then◌else◌, Option, Some, None}
use Rattle.spi_flash.specs.Prog.{Prog, ret, ◌>>=◌, ◌>>◌, refuse, transfer}
use Rattle.qspi.specs.Bytes.{AllBytes, byte_of}
use Rattle.spi_flash.specs.Path.{Answers, delays, Ends}
use Rattle.spi_flash.proofs.Paths.{Reaches, Never}
use Rattle.qspi.proofs.Cases.{by_cases}
use Rattle.spi_flash.proofs.Laws.{ends-ret, ends-bind, ends-then, ends-eq, ends-transfer, ends-refuse, ends-guard, ends-reaches, never-left, never-right, never-then, never-refused}
use Rattle.spi_flash.proofs.Loops.{ends-loop}
use Rattle.spi_flash.proofs.Replies.{byte, zeros, delivery, same_bytes}
use Rattle.flash_runs.proofs.Supplies.{Asks, Bounds}
use Rattle.spi_nor.specs.Opcode.{MAX-BULK-LEN}
use Rattle.spi_nor.specs.Config.{from_jedec, single_config, in_bounds_of}
use Rattle.spi_nor.specs.Transfer.{place_of, page_of, read_at, read_transfer, program_at, program_transfer, multiple_of, unit_size, step_kind, after_unit}
use Rattle.spi_flash.specs.Range.{range_in_bounds}
use Rattle.nor_steps.specs.Register.{device_at, device_for, id_of, known_as}
use Rattle.nor_driver.specs.Call.{given_at, fresh_setup}
use Rattle.nor_runs.specs.Rust.{read-status1, read-status2, is-busy, write-enable, write-status1, write-status2, jedec-id, unique-id, quad-enabled, enable-quad, disable-quad, unprotect, quad-if}
use Rattle.nor_runs.proofs.AsCoded.{reading, read, read_back, page-program, writing, write, erase-unit, erase-loop, erasing, erase, with-config}
use Rattle.nor_runs.specs.Program.{Left, program_of}
use Rattle.nor_runs.proofs.AsCoded.{coded}
use Rattle.nor_runs.specs.Bound.{page_taken, quad_bound, construction_bound, unit_bound, erase_sum, delay_bound}
use Rattle.nor_runs.specs.Run.{sort_of, can_end, nor_driver}
use Rattle.spi_nor.specs.declared.config.SpiNorConfig.{SpiNorConfig}
use Rattle.spi_nor.specs.declared.phase.EraseKind.{EraseKind}
use Rattle.spi_nor.specs.declared.call.Call.{Call}
use Rattle.spi_nor.specs.declared.setup.Setup.{Setup}
use Rattle.spi_nor.specs.declared.opcode.Operation.{Operation}
use Rattle.spi_nor.proofs.DeviceBounds.{device_bounds}
use Rattle.spi_nor.proofs.Pieces.{page-whole}
use Rattle.spi_flash.proofs.Pieces.{range-told, range-in}
use Rattle.nor_runs.proofs.Loops.{reading-loop, writing-loop, chunk-turns, page-turns, after-unit}
use Rattle.nor_runs.proofs.Waits.{wait-ends}
use Rattle.nor_runs.proofs.AsCoded.{coded_sum}
use Rattle.nor_runs.proofs.Agrees.{sum-same}
use Rattle.nor_runs.proofs.Passed.{read-passed, write-passed, erase-passed, unit-passed}
use Rattle.nor_runs.proofs.EraseSteps.{step_fits}

module _ (given : List ℕ) where
  -- ---- registers

  ends-status1 : (b : ℕ) → b < 256 → Ends given delays 0 (byte_of b) read-status1
  ends-status1 b h = ends-bind _ (ends-transfer b (byte given b h)) ends-ret

  ends-status2 : (b : ℕ) → b < 256 → Ends given delays 0 (byte_of b) read-status2
  ends-status2 b h = ends-bind _ (ends-transfer b (byte given b h)) ends-ret

  ends-is-busy : Ends given delays 0 false is-busy
  unfolding is-busy
  ends-is-busy = ends-bind _ (ends-status1 0 (lit< tt)) ends-ret

  ends-jedec-id : Ends given delays 0 (id_of 0) jedec-id
  unfolding jedec-id
  ends-jedec-id = ends-bind _ (ends-transfer 0 (zeros given 3)) ends-ret

  ends-unique-id : Ends given delays 0 0 unique-id
  unfolding unique-id
  ends-unique-id = ends-transfer 0 (zeros given 8)

  ends-enable : Ends given delays 0 tt write-enable
  unfolding write-enable
  ends-enable = ends-then (ends-transfer 0 refl) (ends-bind _ (ends-status1 0x02 (lit< tt)) (ends-refuse _ _ refl))

  ends-write1 : (value : ℕ) → Ends given delays 100000 tt (write-status1 value)
  unfolding write-status1
  ends-write1 value = ends-then ends-enable (ends-then (ends-transfer 0 refl) (wait-ends given Operation.StatusWrite))

  ends-write2 : (value : ℕ) → Ends given delays 100000 tt (write-status2 value)
  unfolding write-status2
  ends-write2 value = ends-then ends-enable (ends-then (ends-transfer 0 refl) (wait-ends given Operation.StatusWrite))

  -- quad mode is off by both registers
  ends-quad-enabled : Ends given delays 0 false quad-enabled
  unfolding quad-enabled
  ends-quad-enabled = ends-bind _ (ends-status2 0 (lit< tt)) (ends-bind _ (ends-status1 0 (lit< tt)) ends-ret)

  -- the bit of register 2 does not take, that of register 1 does
  ends-enable-quad : Ends given delays 200000 tt enable-quad
  unfolding enable-quad
  ends-enable-quad =
      ends-bind _ ends-quad-enabled
      (ends-bind _ (ends-status2 0 (lit< tt))
      (ends-then (ends-write2 _)
      (ends-bind _ (ends-status2 0 (lit< tt))
      (ends-bind _ (ends-status1 0 (lit< tt))
      (ends-then (ends-write1 _) (ends-bind _ (ends-status1 0x40 (lit< tt)) ends-ret))))))

  ends-disable-quad : Ends given delays 100000 tt disable-quad
  unfolding disable-quad
  ends-disable-quad = ends-bind _ (ends-status2 0x02 (lit< tt)) (ends-then (ends-write2 _) (ends-bind _ (ends-status2 0 (lit< tt)) ends-ret))

  -- both registers are protected
  ends-unprotect : Ends given delays 200000 (record { before = 0x04; after = 0 }) unprotect
  unfolding unprotect
  ends-unprotect =
      ends-bind _ (ends-status1 0x04 (lit< tt))
      (ends-bind _ (ends-status2 0x80 (lit< tt))
      (ends-then (ends-write1 _) (ends-then (ends-write2 _) (ends-bind _ (ends-status1 0 (lit< tt)) ends-ret))))

  module _ (flash : Setup) (bounds : in_bounds_of flash.device ≡ true) where
    ends-take : (offset n v : ℕ) (sink : Sink) → Answers given n sink v → Ends given delays 0 v (transfer (read_transfer flash offset n sink))
    unfolding read_transfer
    ends-take offset n v sink h = by flash.config.quad
      where
        by : (q : Option NorQuadConfig) → Ends given delays 0 v (transfer (read_at q offset n sink))
        by None = ends-transfer v h
        by (Some q) = ends-transfer v h

    ends-give : (offset from n : ℕ) → Ends given delays 0 0 (transfer (program_transfer flash offset from n))
    unfolding program_transfer
    ends-give offset from n = by flash.config.quad
      where
        by : (q : Option NorQuadConfig) → Ends given delays 0 0 (transfer (program_at q offset from n))
        by None = ends-transfer 0 refl
        by (Some q) = ends-transfer 0 refl

    -- ---- read

    ends-reading : (offset len k done : ℕ) → len - done ≤ k * MAX-BULK-LEN → Ends given delays 0 tt (reading flash offset len done)
    ends-reading offset len k done h =
        ends-eq (omega arith)
        (ends-loop len _ _ (reading flash offset len) (reading-loop flash offset len) (chunk-turns len) (λ k d stop t. omega arith) (λ k d below t. (0, ends-take _ _ 0 _ (delivery given _ _))) k done h)

    ends_read : (offset len : ℕ) → range_in_bounds flash.device.capacity offset len ≡ true → Ends given delays 0 tt (read flash offset len)
    unfolding read
    ends_read offset len r = ends-guard _ _ (ap not r) (ends-reading offset len len 0 (omega arith))

    -- ---- write

    abbrev page : ℕ
    page = flash.device.page_size

    ends-program : (offset from n : ℕ) → AllBytes given → offset + n ≤ flash.device.capacity → from + n ≤ length given → Ends given delays 20000 tt (page-program flash offset from n)
    unfolding page-program read_back
    ends-program offset from n small r l =
        ends-then ends-enable
        (ends-then (ends-give _ _ _)
        (ends-then (wait-ends given Operation.PageProgram)
        (ends-bind _
        (ends-guard _ _ (ap not (range-in flash.device.capacity offset n r)) (ends-take offset n 1 (Sink.Compare from) (same_bytes given n from small l)))
        (ends-refuse _ _ refl))))

    -- within the bounds the u32 sum does not wrap
    place : (offset done : ℕ) → offset + done ≤ 16777216 → place_of offset done ≡ offset + done
    unfolding place_of
    place offset done h = let z : done % 4294967296 ≡ done = mod-eq_of_lt (omega arith) in rw z (mod-eq_of_lt (omega arith))

    module _ (some : 1 ≤ page) (small : AllBytes given) (offset len : ℕ) (whole : length given ≡ len) (r : offset + len ≤ flash.device.capacity) where
      ends-page : (k done : ℕ) → done < len → len - done ≡ suc k * page → Ends given delays 20000 tt (page-program flash (place_of offset done) done (page_of flash.device len done))
      ends-page k done below t =
          let c = (device_bounds.accepted flash.device bounds).capacity in
          rw (page-whole flash.device len done some (omega arith), place offset done (omega arith)) (ends-program (offset + done) done page small (omega arith) (omega arith))

      ends-writing : (k done : ℕ) → len - done ≡ k * page → Ends given delays (k * 20000) tt (writing flash offset len done)
      ends-writing k done h =
          ends-loop len _ _ (writing flash offset len) (writing-loop flash some offset len) (page-turns flash.device len some) exact (λ k d below t. (tt, ends-page k d below t)) k done h
        where
          exact : (k done : ℕ) → len ≤ done → len - done ≡ k * page → k * 20000 ≡ 0
          exact zero done stop t = refl
          exact (suc k) done stop t = absurd (omega arith)

      ends-write : multiple_of offset page ≡ true → multiple_of len page ≡ true → Ends given delays (len / page * 20000) tt (write flash offset len)
      unfolding write multiple_of
      ends-write a b =
          let z = eqb-true (len % page) 0 b in
          ends-guard _ _ (ap not (range-in flash.device.capacity offset len r))
          (ends-guard _ _ (ap not a)
          (ends-guard _ _ (ap not b) (ends-writing (len / page) 0 (omega (arith, div-add-mod' len page)))))

    -- ---- erase

    ends-unit : (kind : EraseKind) (offset : ℕ) → range_in_bounds flash.device.capacity offset (unit_size flash.device kind) ≡ true → multiple_of offset (unit_size flash.device kind) ≡ true →
        Ends given delays (unit_bound kind) tt (erase-unit flash kind offset)
    unfolding erase-unit
    ends-unit EraseKind.Sector offset r a =
        ends-guard _ _ (ap not r) (ends-guard _ _ (ap not a) (ends-then ends-enable (ends-then (ends-transfer 0 refl) (wait-ends given Operation.SectorErase))))
    ends-unit EraseKind.Block offset r a =
        ends-guard _ _ (ap not r) (ends-guard _ _ (ap not a) (ends-then ends-enable (ends-then (ends-transfer 0 refl) (wait-ends given Operation.BlockErase))))

    abbrev sector : ℕ
    sector = flash.device.sector_size

    module _ (to : ℕ) (most : to ≤ flash.device.capacity) (end : to % sector ≡ 0) where
      ends-erasing : (n address : ℕ) → address % sector ≡ 0 → Ends given delays (coded_sum unit_bound flash.device n address to) tt (erase-loop flash n address to)
      unfolding erase-loop
      ends-erasing zero address a = ends-ret
      ends-erasing (suc n) address a = turn (ltb address to) refl (λ h. ends-erasing n next h)
        where
          kind : EraseKind
          kind = step_kind flash.device address to

          next : ℕ
          next = after_unit flash.device kind address

          turn : (b : Bool) → ltb address to ≡ b → (next % sector ≡ 0 → Ends given delays (coded_sum unit_bound flash.device n next to) tt (erase-loop flash n next to)) →
              Ends given delays (pick b (unit_bound kind + coded_sum unit_bound flash.device n next to) 0) tt (if b then (erase-unit flash kind address >> erase-loop flash n next to) else ret (tt {0}))
          turn true e h =
              let s = step_fits flash.device address to bounds most a end (ltb-true address to e) in
              ends-then (ends-unit kind address s.fits s.aligned) (h (rw (after-unit flash.device bounds kind address s.fits) s.next))
          turn false e h = ends-ret

    ends-erase : (from to : ℕ) → ltb to from ≡ false → ltb flash.device.capacity to ≡ false → multiple_of from sector ≡ true → multiple_of to sector ≡ true →
        Ends given delays (erase_sum unit_bound flash.device (to - from) from to) tt (erase flash from to)
    unfolding erase erasing multiple_of
    ends-erase from to a b c d =
        let z = ltb-false flash.device.capacity to b in
        ends-guard _ _ a
        (ends-guard _ _ b
        (ends-guard _ _ (ap not c)
        (ends-guard _ _ (ap not d)
        (rw (sum-same flash.device bounds unit_bound (to - from) from to z) (ends-erasing to z (eqb-true (to % sector) 0 d) (to - from) from (eqb-true (from % sector) 0 c))))))

  -- ---- construction, on the id 0

  page-taken : (device : Option NorDeviceInfo) → page_taken device ≡ true → ltb 512 (device_at device (given_at device) (id_of 0)).page_size ≡ false
  page-taken None h = le-ltb 512 (from_jedec (id_of 0)).page_size (device_bounds.detected_page (id_of 0))
  page-taken (Some device) h = le-ltb 512 device.page_size (leb-true device.page_size 512 h)

  page-refused : (device : Option NorDeviceInfo) → page_taken device ≡ false → ltb 512 (device_at device (given_at device) (id_of 0)).page_size ≡ true
  page-refused None h = cc
  page-refused (Some device) h = lt-ltb 512 device.page_size (leb-false device.page_size 512 h)

  ends-quad-if : (q : Option NorQuadConfig) → Ends given delays (quad_bound q) tt (quad-if q)
  ends-quad-if None = ends-ret
  ends-quad-if (Some q) = ends-enable-quad

  ends-with-config : (config : SpiNorConfig) → page_taken config.device ≡ true → Ends given delays (construction_bound config) (known_as (fresh_setup config) 0) (with-config config)
  unfolding with-config device_for
  ends-with-config config h =
      rw h
      (ends-eq (omega arith)
      (ends-then (ends-transfer 0 refl)
      (ends-bind _ (ends-transfer 0 (zeros given 3))
      (ends-guard _ _ (page-taken config.device h) (ends-then (ends-quad-if config.quad) ends-ret)))))

  -- a page above 512 is refused once the id is read
  refused-with-config : (config : SpiNorConfig) → page_taken config.device ≡ false → {B : Type 0} (f : Setup → Prog B) → Reaches given delays (construction_bound config) (with-config config >>= f)
  unfolding with-config device_for refuse ◌>>◌ ◌>>=◌
  refused-with-config config h f =
      rw h (record { reach = (0, refl, (0, zeros given 3, rw (page-refused config.device h) refl)) })

-- whatever the id
page-over : (device : Option NorDeviceInfo) (v : ℕ) → page_taken device ≡ false → ltb 512 (device_at device (given_at device) (id_of v)).page_size ≡ true
page-over None v h = cc
page-over (Some device) v h = lt-ltb 512 device.page_size (leb-false device.page_size 512 h)

never-with-config : (config : SpiNorConfig) → page_taken config.device ≡ false → Never (with-config config)
unfolding with-config device_for
never-with-config config h = never-then _ (never-right _ (λ v. never-refused _ _ _ (page-over config.device v h)))

-- that construction alone never ends well
pub never : (flash : Setup) (call : Call) (b d : ℕ) → can_end (sort_of call b d) ≡ false → Never (coded flash call b d)
unfolding coded
never flash (Call.WithConfig config) b d c = never-left _ (never-with-config config c)
never flash _ b d c = absurd (true≢false c)

-- every call that begins comes to its bound at a good end, but for a construction with too large a page
pub ends : (flash : Setup) (call : Call) (b : ℕ) (given : List ℕ) → Bounds nor_driver flash call b (length given) → AllBytes given → Asks (coded flash call b (length given)) →
    can_end (sort_of call b (length given)) ≡ true → (left : Left) × Ends given delays (delay_bound flash call (length given)) left (coded flash call b (length given))
unfolding coded program_of delay_bound
ends flash Call.New b given bounds s h c = (_, ends-bind _ (ends-with-config given single_config refl) ends-ret)
ends flash (Call.WithConfig config) b given bounds s h c = (_, ends-eq (omega arith) (ends-bind _ (ends-with-config given config c) ends-ret))
ends flash Call.Config b given bounds s h c = (_, ends-ret)
ends flash Call.Device b given bounds s h c = (_, ends-ret)
ends flash Call.Id b given bounds s h c = (_, ends-ret)
ends flash Call.Free b given bounds s h c = (_, ends-ret)
ends flash Call.ReadStatus1 b given bounds s h c = (_, ends-bind _ (ends-status1 given 0 (lit< tt)) ends-ret)
ends flash Call.ReadStatus2 b given bounds s h c = (_, ends-bind _ (ends-status2 given 0 (lit< tt)) ends-ret)
ends flash Call.IsBusy b given bounds s h c = (_, ends-bind _ (ends-is-busy given) ends-ret)
ends flash Call.JedecId b given bounds s h c = (_, ends-bind _ (ends-jedec-id given) ends-ret)
ends flash Call.UniqueId b given bounds s h c = (_, ends-bind _ (ends-unique-id given) ends-ret)
ends flash Call.QuadEnabled b given bounds s h c = (_, ends-bind _ (ends-quad-enabled given) ends-ret)
ends flash Call.EnableQuad b given bounds s h c = (_, ends-then (ends-enable-quad given) ends-ret)
ends flash Call.DisableQuad b given bounds s h c = (_, ends-then (ends-disable-quad given) ends-ret)
ends flash (Call.Read offset) b given bounds s h c = (_, ends-then (ends_read given flash bounds offset b (read-passed flash _ offset b h)) ends-ret)
ends flash (Call.Write offset) b given bounds s h c =
    let some = (device_bounds.accepted flash.device bounds).least_page in
    let p = write-passed flash _ offset (length given) h in
    let r = range-told flash.device.capacity offset (length given) p.0 in
    (_, ends-eq (omega arith) (ends-then (ends-write given flash bounds some s offset (length given) refl r p.1 p.2) ends-ret))
ends flash Call.Unprotect b given bounds s h c = (_, ends-bind _ (ends-unprotect given) ends-ret)
ends flash (Call.Erase from to) b given bounds s h c =
    let p = erase-passed flash _ from to h in
    (_, ends-eq (omega arith) (ends-then (ends-erase given flash bounds from to p.0 p.1 p.2 p.3) ends-ret))
ends flash (Call.EraseSector offset) b given bounds s h c =
    let p = unit-passed flash _ EraseKind.Sector offset h in
    (_, ends-then (ends-unit given flash bounds EraseKind.Sector offset p.0 p.1) ends-ret)
ends flash (Call.EraseBlock offset) b given bounds s h c =
    let p = unit-passed flash _ EraseKind.Block offset h in
    (_, ends-then (ends-unit given flash bounds EraseKind.Block offset p.0 p.1) ends-ret)

pub reached : (flash : Setup) (call : Call) (b : ℕ) (given : List ℕ) → Bounds nor_driver flash call b (length given) → AllBytes given → Asks (coded flash call b (length given)) →
    Reaches given delays (delay_bound flash call (length given)) (coded flash call b (length given))
unfolding coded program_of delay_bound
reached flash Call.New b given bounds s h = ends-reaches (ends flash Call.New b given bounds s h refl).1
reached flash (Call.WithConfig config) b given bounds s h =
    by_cases (page_taken config.device) (λ c. ends-reaches (ends flash (Call.WithConfig config) b given bounds s h c).1) (λ c. refused-with-config given config c _)
reached flash Call.Config b given bounds s h = ends-reaches (ends flash Call.Config b given bounds s h refl).1
reached flash Call.Device b given bounds s h = ends-reaches (ends flash Call.Device b given bounds s h refl).1
reached flash Call.Id b given bounds s h = ends-reaches (ends flash Call.Id b given bounds s h refl).1
reached flash Call.Free b given bounds s h = ends-reaches (ends flash Call.Free b given bounds s h refl).1
reached flash Call.ReadStatus1 b given bounds s h = ends-reaches (ends flash Call.ReadStatus1 b given bounds s h refl).1
reached flash Call.ReadStatus2 b given bounds s h = ends-reaches (ends flash Call.ReadStatus2 b given bounds s h refl).1
reached flash Call.IsBusy b given bounds s h = ends-reaches (ends flash Call.IsBusy b given bounds s h refl).1
reached flash Call.JedecId b given bounds s h = ends-reaches (ends flash Call.JedecId b given bounds s h refl).1
reached flash Call.UniqueId b given bounds s h = ends-reaches (ends flash Call.UniqueId b given bounds s h refl).1
reached flash Call.QuadEnabled b given bounds s h = ends-reaches (ends flash Call.QuadEnabled b given bounds s h refl).1
reached flash Call.EnableQuad b given bounds s h = ends-reaches (ends flash Call.EnableQuad b given bounds s h refl).1
reached flash Call.DisableQuad b given bounds s h = ends-reaches (ends flash Call.DisableQuad b given bounds s h refl).1
reached flash (Call.Read offset) b given bounds s h = ends-reaches (ends flash (Call.Read offset) b given bounds s h refl).1
reached flash (Call.Write offset) b given bounds s h = ends-reaches (ends flash (Call.Write offset) b given bounds s h refl).1
reached flash Call.Unprotect b given bounds s h = ends-reaches (ends flash Call.Unprotect b given bounds s h refl).1
reached flash (Call.Erase from to) b given bounds s h = ends-reaches (ends flash (Call.Erase from to) b given bounds s h refl).1
reached flash (Call.EraseSector offset) b given bounds s h = ends-reaches (ends flash (Call.EraseSector offset) b given bounds s h refl).1
reached flash (Call.EraseBlock offset) b given bounds s h = ends-reaches (ends flash (Call.EraseBlock offset) b given bounds s h refl).1

-- Upper bounds on the Rust's programs, by any weight of the transfers.
use Rattle.spi_nor.specs.declared.config.NorQuadConfig.{NorQuadConfig}
use Rattle.spi_nor.specs.declared.config.NorDeviceInfo.{NorDeviceInfo}
use Prim.Native.Nat.{ℕ, zero, suc, ◌+◌, ◌-◌, ◌*◌, ◌/◌, ◌%◌, ◌≤◌, ◌<◌}
use native.Mathlib.Omega.{arith}
use native.Mathlib.Nat.{div-add-mod', mod-lt}
use mathlib.Core.Bool.{Bool, true, false, not}
use mathlib.Core.Path.{◌≡◌, refl}
use lib.Dec.{ltb, eqb}
use borrow.Author.Tests.{ltb-false, eqb-true, not-false, le-leb}
use Rattle.qspi.specs.Choice.{pick}
use Rattle.qspi.specs.declared.command.Command.{Command}
use Rattle.qspi.specs.declared.transfer.Sink.{Sink}
use Rattle.qspi.specs.declared.transfer.Body.{Body}
use Rattle.qspi.specs.declared.transfer.Transfer.{Transfer}
use Rattle.std.specs.Prelude.{if◌then◌else◌, Option, Some, None}
use Rattle.spi_flash.specs.Prog.{ret, ◌>>◌, transfer}
use Rattle.spi_flash.specs.Path.{Bounded}
use Rattle.spi_flash.proofs.Laws.{bounded-more, bounded-ret, bounded-fail, bounded-bind, bounded-then, bounded-refuse, bounded-if, bounded-transfer, bounded-guard, answered, ended}
use Rattle.spi_flash.proofs.Loops.{bounded-loop}
use Rattle.spi_nor.specs.Status.{quad_enabled1_of, quad_enabled2_of, unprotected1_of, unprotected2_of}
use Rattle.spi_nor.specs.Opcode.{MAX-BULK-LEN}
use Rattle.spi_flash.specs.Number.{number_transfer}
use Rattle.spi_nor.specs.Transfer.{read_at, read_transfer, program_at, program_transfer, erase_transfer, erase_operation, multiple_of, step_kind, after_unit}
use Rattle.flash_runs.specs.Weight.{Figures}
use Rattle.flash_runs.proofs.Supplies.{Bounds}
use Rattle.flash_runs.proofs.Weighing.{sunk, Weighs}
use Rattle.spi_nor.specs.Config.{single_config}
use Rattle.spi_nor.proofs.DeviceBounds.{device_bounds}
use Rattle.spi_nor.specs.declared.call.Call.{Call}
use Rattle.nor_driver.specs.Call.{given_at}
use Rattle.nor_steps.specs.Register.{device_at, device_for, id_of}
use Rattle.nor_runs.specs.Rust.{read-status1, read-status2, is-busy, wait-ready, write-enable, write-status1, write-status2, jedec-id, unique-id, quad-enabled, enable-quad, disable-quad, unprotect, quad-if}
use Rattle.nor_runs.proofs.AsCoded.{reading, read, read_back, page-program, writing, write, erase-unit, erase-loop, erasing, erase, with-config}
use Rattle.nor_runs.specs.Bound.{page_taken, erase_sum, pieces, task, unit, paged, enabling_quad, quad_weight, constructing, weight_of}
use Rattle.nor_runs.specs.Program.{program_of}
use Rattle.spi_nor.specs.Config.{in_bounds_of}
use Rattle.nor_runs.proofs.AsCoded.{coded, coded_sum}
use Rattle.nor_runs.proofs.Agrees.{sum-same}
use Rattle.nor_runs.specs.Run.{nor_driver}
use Rattle.spi_nor.specs.declared.config.NorJedecId.{NorJedecId}
use Rattle.spi_nor.specs.declared.config.SpiNorConfig.{SpiNorConfig}
use Rattle.spi_nor.specs.declared.phase.EraseKind.{EraseKind}
use Rattle.spi_nor.specs.declared.setup.Setup.{Setup}
use Rattle.spi_nor.specs.declared.opcode.Operation.{Operation}
use Rattle.nor_runs.proofs.Loops.{reading-loop, writing-loop, chunk-turns, page-turns}

module _ {w : Transfer → ℕ} {x : Figures Operation} (figures : Weighs w x wait-ready) where
  -- single-line or quad
  taken : (q : Option NorQuadConfig) (offset n : ℕ) (sink : Sink) → w (read_at q offset n sink) ≤ sunk x sink
  taken None offset n sink = figures.framed _ _
  taken (Some q) offset n sink = figures.framed _ _

  given : (q : Option NorQuadConfig) (offset from n : ℕ) → w (program_at q offset from n) ≤ x.given
  given None offset from n = figures.framed _ _
  given (Some q) offset from n = figures.framed _ _

  bounded-number : (c : Command) (n : ℕ) → Bounded w x.moved (transfer (number_transfer c n))
  bounded-number c n = bounded-more (figures.framed c (Body.Read n Sink.Number)) bounded-transfer

  bounded-send : (c : Command) → Bounded w x.send (transfer (Transfer.Framed c Body.None))
  bounded-send c = bounded-more (figures.framed c Body.None) bounded-transfer

  pub bounded-status1 : Bounded w x.moved read-status1
  bounded-status1 = bounded-more (omega arith) (bounded-bind {c = 0} (bounded-number _ _) (λ v. bounded-ret))

  pub bounded-status2 : Bounded w x.moved read-status2
  bounded-status2 = bounded-more (omega arith) (bounded-bind {c = 0} (bounded-number _ _) (λ v. bounded-ret))

  pub bounded-is-busy : Bounded w x.moved is-busy
  unfolding is-busy
  bounded-is-busy = bounded-more (omega arith) (bounded-bind {c = 0} bounded-status1 (λ v. bounded-ret))

  pub bounded-jedec-id : Bounded w x.moved jedec-id
  unfolding jedec-id
  bounded-jedec-id = bounded-more (omega arith) (bounded-bind {c = 0} (bounded-number _ _) (λ v. bounded-ret))

  pub bounded-unique-id : Bounded w x.moved unique-id
  unfolding unique-id
  bounded-unique-id = bounded-number _ _

  -- write_enable
  bounded-enable : Bounded w (x.send + x.moved) write-enable
  unfolding write-enable
  bounded-enable = bounded-more (omega arith) (bounded-then (bounded-send _) (bounded-bind bounded-status1 (λ s. bounded-refuse _ _)))

  bounded-write1 : (value : ℕ) → Bounded w (task x Operation.StatusWrite) (write-status1 value)
  unfolding write-status1
  bounded-write1 value = bounded-more (omega arith) (bounded-then bounded-enable (bounded-then (bounded-send _) (figures.waited Operation.StatusWrite)))

  bounded-write2 : (value : ℕ) → Bounded w (task x Operation.StatusWrite) (write-status2 value)
  unfolding write-status2
  bounded-write2 value = bounded-more (omega arith) (bounded-then bounded-enable (bounded-then (bounded-send _) (figures.waited Operation.StatusWrite)))

  pub bounded-quad-enabled : Bounded w (2 * x.moved) quad-enabled
  unfolding quad-enabled
  bounded-quad-enabled =
      bounded-more (omega arith)
      (bounded-bind bounded-status2
      (λ status2. bounded-if (quad_enabled2_of status2) bounded-ret (bounded-bind {c = 0} bounded-status1 (λ status1. bounded-ret))))

  pub bounded-enable-quad : Bounded w (enabling_quad x) enable-quad
  unfolding enable-quad
  bounded-enable-quad =
      bounded-more (omega arith)
      (bounded-bind bounded-quad-enabled
      (λ enabled. bounded-if enabled bounded-ret
      (bounded-bind bounded-status2
      (λ status2. bounded-then (bounded-write2 _)
      (bounded-bind bounded-status2
      (λ after2. bounded-if (quad_enabled2_of after2) bounded-ret
      (bounded-bind bounded-status1
      (λ status1. bounded-then (bounded-write1 _)
      (bounded-bind {c = 0} bounded-status1 (λ after1. bounded-if (quad_enabled1_of after1) bounded-ret bounded-fail))))))))))

  pub bounded-disable-quad : Bounded w (3 * x.moved + task x Operation.StatusWrite) disable-quad
  unfolding disable-quad
  bounded-disable-quad =
      bounded-more (omega arith)
      (bounded-bind {c = task x Operation.StatusWrite + x.moved + x.moved} bounded-status2
      (λ status2. bounded-if (quad_enabled2_of status2)
      (bounded-more (omega arith)
      (bounded-then (bounded-write2 _) (bounded-bind {c = 0} bounded-status2 (λ after2. bounded-if (quad_enabled2_of after2) bounded-fail bounded-ret))))
      (bounded-more (omega arith)
      (bounded-bind bounded-status1
      (λ status1. bounded-if (not (quad_enabled1_of status1)) bounded-ret
      (bounded-then (bounded-write1 _) (bounded-bind {c = 0} bounded-status1 (λ after1. bounded-if (quad_enabled1_of after1) bounded-fail bounded-ret))))))))

  pub bounded-unprotect : Bounded w (3 * x.moved + 2 * task x Operation.StatusWrite) unprotect
  unfolding unprotect
  bounded-unprotect =
      bounded-more (omega arith)
      (bounded-bind bounded-status1
      (λ before. bounded-bind bounded-status2
      (λ sr2. bounded-then (bounded-if (not (eqb (unprotected1_of before) before)) (bounded-write1 _) bounded-ret)
      (bounded-then (bounded-if (not (eqb (unprotected2_of sr2) sr2)) (bounded-write2 _) bounded-ret)
      (bounded-bind {c = 0} bounded-status1 (λ after. bounded-ret))))))

  module _ (flash : Setup) where
    bounded-fill : (offset n at : ℕ) → Bounded w x.fill (transfer (read_transfer flash offset n (Sink.Buffer at)))
    unfolding read_transfer
    bounded-fill offset n at = bounded-more (taken flash.config.quad offset n (Sink.Buffer at)) bounded-transfer

    bounded-compare : (offset n from : ℕ) → Bounded w x.given (transfer (read_transfer flash offset n (Sink.Compare from)))
    unfolding read_transfer
    bounded-compare offset n from = bounded-more (taken flash.config.quad offset n (Sink.Compare from)) bounded-transfer

    bounded-give : (offset from n : ℕ) → Bounded w x.given (transfer (program_transfer flash offset from n))
    unfolding program_transfer
    bounded-give offset from n = bounded-more (given flash.config.quad offset from n) bounded-transfer

    -- ---- read: so much a piece

    bounded-reading : (offset len k done : ℕ) → len - done ≤ k * MAX-BULK-LEN → Bounded w (k * x.fill) (reading flash offset len done)
    bounded-reading offset len k done h =
        bounded-loop len _ _ (reading flash offset len) (reading-loop flash offset len) (chunk-turns len) (λ d. bounded-fill _ _ _) k done h

    pub bounded-read : (offset len : ℕ) → Bounded w (pieces len * x.fill) (read flash offset len)
    unfolding read
    bounded-read offset len =
        let x = len + (MAX-BULK-LEN - 1) in
        let r : x % MAX-BULK-LEN < MAX-BULK-LEN = mod-lt x (omega arith) in
        bounded-guard _ _ (λ e. bounded-reading offset len (pieces len) 0 (omega (arith, div-add-mod' x MAX-BULK-LEN)))

    -- ---- write: so much a page

    abbrev pub page : ℕ
    page = flash.device.page_size

    bounded-program : (offset from n : ℕ) → Bounded w (paged x) (page-program flash offset from n)
    unfolding page-program read_back
    bounded-program offset from n =
        bounded-more (omega arith)
        (bounded-then bounded-enable
        (bounded-then (bounded-give _ _ _)
        (bounded-then (figures.waited Operation.PageProgram)
        (bounded-bind (bounded-then (bounded-refuse _ _) (bounded-compare _ _ _)) (λ same. bounded-refuse _ _)))))

    bounded-writing : 1 ≤ page → (offset len k done : ℕ) → len - done ≡ k * page → Bounded w (k * paged x) (writing flash offset len done)
    bounded-writing some offset len k done h =
        bounded-loop len _ _ (writing flash offset len) (writing-loop flash some offset len) (page-turns flash.device len some) (λ d. bounded-program _ _ _) k done h

    pub bounded-write : 1 ≤ page → (offset len : ℕ) → Bounded w (len / page * paged x) (write flash offset len)
    unfolding write multiple_of
    bounded-write some offset len =
        bounded-guard _ _
        (λ r. bounded-guard _ _
        (λ a. bounded-guard _ _
        (λ e. let z = eqb-true (len % page) 0 (not-false _ e) in
        bounded-writing some offset len (len / page) 0 (omega (arith, div-add-mod' len page)))))

    -- ---- erase: so much a step

    pub bounded-unit : (kind : EraseKind) (offset : ℕ) → Bounded w (unit x kind) (erase-unit flash kind offset)
    unfolding erase-unit
    bounded-unit kind offset =
        bounded-more (omega arith)
        (bounded-then (bounded-refuse _ _)
        (bounded-then (bounded-refuse _ _)
        (bounded-then bounded-enable
        (bounded-then (sent kind) (figures.waited (erase_operation kind))))))
      where
        sent : (kind : EraseKind) → Bounded w x.send (transfer (erase_transfer kind offset))
        sent EraseKind.Sector = bounded-send _
        sent EraseKind.Block = bounded-send _

    module _ (figure : EraseKind → ℕ) (enough : (kind : EraseKind) → unit x kind ≤ figure kind) where
      bounded-erasing : (n address to : ℕ) → Bounded w (coded_sum figure flash.device n address to) (erase-loop flash n address to)
      unfolding erase-loop
      bounded-erasing zero address to = bounded-ret
      bounded-erasing (suc n) address to = turn (ltb address to) (bounded-erasing n next to)
        where
          kind : EraseKind
          kind = step_kind flash.device address to

          next : ℕ
          next = after_unit flash.device kind address

          turn : (b : Bool) → Bounded w (coded_sum figure flash.device n next to) (erase-loop flash n next to) →
              Bounded w (pick b (figure kind + coded_sum figure flash.device n next to) 0) (if b then (erase-unit flash kind address >> erase-loop flash n next to) else ret (tt {0}))
          turn true h = bounded-then (bounded-more (enough kind) (bounded-unit kind address)) h
          turn false h = bounded-ret

      pub bounded-erase : in_bounds_of flash.device ≡ true → (from to : ℕ) → Bounded w (erase_sum figure flash.device (to - from) from to) (erase flash from to)
      unfolding erase erasing
      bounded-erase inside from to =
          bounded-guard _ _
          (λ a. bounded-guard _ _
          (λ b. bounded-guard _ _
          (λ c. bounded-guard _ _
          (λ d. rw (sum-same flash.device inside figure (to - from) from to (ltb-false flash.device.capacity to b)) (bounded-erasing (to - from) from to)))))

  -- ---- construction: quad mode is enabled only where the page is taken

  bounded-quad-if : (q : Option NorQuadConfig) → Bounded w (quad_weight x q) (quad-if q)
  bounded-quad-if None = bounded-ret
  bounded-quad-if (Some q) = bounded-enable-quad

  bounded-with-config : (config : SpiNorConfig) → Bounded w (constructing x config) (with-config config)
  unfolding with-config device_for
  bounded-with-config config =
      bounded-more (omega arith)
      (bounded-then (bounded-more figures.raised bounded-transfer)
      (bounded-bind {c = pick (page_taken config.device) (quad_weight x config.quad) 0} (bounded-number _ _)
      (λ v. bounded-guard _ _
      (λ e. rw (taken config.device (id_of v) e) (bounded-more (omega arith) (bounded-then {c = 0} (bounded-quad-if config.quad) bounded-ret))))))
    where
      taken : (device : Option NorDeviceInfo) (id : NorJedecId) → ltb 512 (device_at device (given_at device) id).page_size ≡ false → page_taken device ≡ true
      taken None id e = refl
      taken (Some device) id e = le-leb device.page_size 512 (ltb-false 512 device.page_size e)

  -- ---- every call

  pub weighed : (flash : Setup) (call : Call) (b d : ℕ) → Bounds nor_driver flash call b d → Bounded w (weight_of x flash call b d) (coded flash call b d)
  unfolding coded program_of weight_of
  weighed flash Call.New b d h = answered _ (omega arith) (bounded-with-config single_config)
  weighed flash (Call.WithConfig config) b d h = answered _ (omega arith) (bounded-with-config config)
  weighed flash Call.Config b d h = bounded-ret
  weighed flash Call.Device b d h = bounded-ret
  weighed flash Call.Id b d h = bounded-ret
  weighed flash Call.Free b d h = bounded-ret
  weighed flash Call.ReadStatus1 b d h = answered _ (omega arith) bounded-status1
  weighed flash Call.ReadStatus2 b d h = answered _ (omega arith) bounded-status2
  weighed flash Call.IsBusy b d h = answered _ (omega arith) bounded-is-busy
  weighed flash Call.JedecId b d h = answered _ (omega arith) bounded-jedec-id
  weighed flash Call.UniqueId b d h = answered _ (omega arith) bounded-unique-id
  weighed flash Call.QuadEnabled b d h = answered _ (omega arith) bounded-quad-enabled
  weighed flash Call.EnableQuad b d h = ended _ (omega arith) bounded-enable-quad
  weighed flash Call.DisableQuad b d h = ended _ (omega arith) bounded-disable-quad
  weighed flash (Call.Read offset) b d h = ended _ (omega arith) (bounded-read flash offset b)
  weighed flash (Call.Write offset) b d h = ended _ (omega arith) (bounded-write flash (device_bounds.accepted flash.device h).least_page offset d)
  weighed flash Call.Unprotect b d h = answered _ (omega arith) bounded-unprotect
  weighed flash (Call.Erase from to) b d h = ended _ (omega arith) (bounded-erase flash (unit x) (λ kind. omega arith) h from to)
  weighed flash (Call.EraseSector offset) b d h = ended _ (omega arith) (bounded-unit flash EraseKind.Sector offset)
  weighed flash (Call.EraseBlock offset) b d h = ended _ (omega arith) (bounded-unit flash EraseKind.Block offset)

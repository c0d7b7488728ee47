-- Upper bounds on the Rust's programs, by any weight of the transfers.
use Rattle.std.specs.Prelude.{Option, Some, None}
use Rattle.spi_nand.specs.declared.config.NandQuadConfig.{NandQuadConfig}
use Prim.Native.Nat.{ℕ, ◌+◌, ◌*◌, ◌≤◌}
use native.Mathlib.Omega.{arith}
use mathlib.Core.Bool.{true, not}
use mathlib.Core.Path.{◌≡◌}
use borrow.Author.Tests.{not-false}
use Rattle.qspi.specs.declared.command.Command.{Command}
use Rattle.qspi.specs.declared.transfer.Payload.{Payload}
use Rattle.qspi.specs.declared.transfer.Sink.{Sink}
use Rattle.qspi.specs.declared.transfer.Body.{Body}
use Rattle.qspi.specs.declared.transfer.Transfer.{Transfer}
use Rattle.spi_flash.specs.Prog.{transfer}
use Rattle.spi_flash.specs.Path.{Bounded}
use Rattle.spi_flash.proofs.Laws.{bounded-more, bounded-ret, bounded-fail, bounded-bind, bounded-then, bounded-refuse, bounded-if, bounded-transfer, bounded-guard, answered, ended}
use Rattle.spi_flash.proofs.Loops.{bounded-loop}
use Rattle.flash_runs.specs.Weight.{Figures}
use Rattle.flash_runs.proofs.Weighing.{sunk, paid, Weighs}
use Rattle.qspi.proofs.Cases.{by_cases}
use Rattle.spi_nand.specs.Config.{single_config, in_bounds}
use Rattle.spi_nand.specs.Status.{quad_enabled_of, is_unlocked}
use Rattle.spi_nand.specs.declared.config.SpiNandConfig.{SpiNandConfig}
use Rattle.spi_nand.specs.declared.opcode.Operation.{Operation}
use Rattle.spi_nand.specs.Transfer.{cache_read_at, cache_read_transfer, cache_load_at, cache_load_transfer}
use Rattle.spi_nand.specs.declared.call.Call.{Call}
use Rattle.spi_nand.specs.declared.setup.Setup.{Setup}
use Rattle.nand_runs.specs.Bound.{pages_touched, fillers, task, enabling, writing, identifying, configuring, unprotecting, constructing, loading, programming, erasing, marking, weight_of}
use Rattle.nand_runs.specs.Program.{refused-page, page_taken, rust_program}
use Rattle.nand_runs.proofs.AsCoded.{coded_rust, coded}
use Rattle.nand_runs.specs.Rust.{equals, read-register, read-status, read-configuration, read-protection, wait-ready, write-enable, write-register, disable-quad, reset, jedec-id, reset-and-identify, wanted-of, ensure-configuration, unprotect, bring-up, load-page}
use Rattle.nand_runs.proofs.AsCoded.{page-read, read-cache, load-program-data, program-execute, read-page, write-page, erase-block, reading, read, is-bad-block, filling, mark-bad-block, with-config}
use Rattle.nand_runs.proofs.Pages.{some-page, in-range, page-turns, pages-first, filler-turns, fillers-enough}
use Rattle.nand_runs.proofs.ReadLoop.{reading-pieces}
use Rattle.nand_runs.proofs.FillLoop.{filling-loop}

module _ {w : Transfer → ℕ} {x : Figures Operation} (figures : Weighs w x wait-ready) where
  -- the cache, single-line or quad
  taken : (q : Option NandQuadConfig) (column n : ℕ) (sink : Sink) → w (cache_read_at q column n sink) ≤ sunk x sink
  taken None column n sink = figures.framed _ _
  taken (Some q) column n sink = figures.framed _ _

  loaded : (q : Option NandQuadConfig) (column : ℕ) (payload : Payload) → w (cache_load_at q column payload) ≤ paid x payload
  loaded None column payload = figures.framed _ _
  loaded (Some q) column payload = figures.framed _ _

  -- ---- registers

  bounded-send : (c : Command) → Bounded w x.send (transfer (Transfer.Framed c Body.None))
  bounded-send c = bounded-more (figures.framed c Body.None) bounded-transfer

  bounded-number : (c : Command) (n : ℕ) → Bounded w x.moved (transfer (Transfer.Framed c (Body.Read n Sink.Number)))
  bounded-number c n = bounded-more (figures.framed c (Body.Read n Sink.Number)) bounded-transfer

  bounded-register : (register : ℕ) → Bounded w x.moved (read-register register)
  bounded-register register = answered _ (omega arith) (bounded-number _ _)

  pub bounded-status : Bounded w x.moved read-status
  unfolding read-status
  bounded-status = answered _ (omega arith) (bounded-register _)

  pub bounded-configuration : Bounded w x.moved read-configuration
  unfolding read-configuration
  bounded-configuration = answered _ (omega arith) (bounded-register _)

  pub bounded-protection : Bounded w x.moved read-protection
  unfolding read-protection
  bounded-protection = answered _ (omega arith) (bounded-register _)

  pub bounded-enable : Bounded w (enabling x) write-enable
  unfolding write-enable
  bounded-enable = bounded-more (omega arith) (bounded-then (bounded-send _) (bounded-bind bounded-status (λ s. bounded-refuse _ _)))

  pub bounded-write-register : (register value : ℕ) → Bounded w (writing x) (write-register register value)
  unfolding write-register
  bounded-write-register register value = bounded-then bounded-enable (bounded-then (bounded-send _) (figures.waited Operation.WriteRegister))

  pub bounded-disable-quad : Bounded w (configuring x) disable-quad
  unfolding disable-quad
  bounded-disable-quad =
      bounded-more (omega arith)
      (bounded-bind bounded-configuration
      (λ c. bounded-if (quad_enabled_of c)
      (bounded-then (bounded-write-register _ _) (bounded-bind bounded-configuration (λ after. bounded-refuse _ _)))
      bounded-ret))

  pub bounded-reset : Bounded w (task x Operation.Reset) reset
  unfolding reset
  bounded-reset = bounded-then (bounded-send _) (figures.waited Operation.Reset)

  pub bounded-jedec-id : Bounded w x.moved jedec-id
  unfolding jedec-id
  bounded-jedec-id = answered _ (omega arith) (bounded-number _ _)

  pub bounded-identify : Bounded w (identifying x) reset-and-identify
  unfolding reset-and-identify
  bounded-identify = bounded-then bounded-reset bounded-jedec-id

  pub bounded-ensure : (config : SpiNandConfig) → Bounded w (configuring x) (ensure-configuration config)
  unfolding ensure-configuration
  bounded-ensure config =
      bounded-more (omega arith)
      (bounded-bind bounded-configuration
      (λ before. bounded-then {c = 0}
      (bounded-if (not (equals (wanted-of config before) before))
      (bounded-then (bounded-write-register _ _) (bounded-bind bounded-configuration (λ after. bounded-refuse _ _)))
      bounded-ret)
      bounded-ret))

  pub bounded-unprotect : Bounded w (unprotecting x) unprotect
  unfolding unprotect
  bounded-unprotect =
      bounded-more (omega arith)
      (bounded-bind bounded-protection
      (λ before. bounded-then {c = 0} (bounded-if (not (is_unlocked before)) (bounded-write-register _ _) bounded-ret) bounded-ret))

  -- ---- construction

  bounded-bring-up : (config : SpiNandConfig) → Bounded w (identifying x + configuring x + unprotecting x + x.moved) (bring-up config)
  unfolding bring-up
  bounded-bring-up config =
      bounded-more (omega arith)
      (bounded-bind bounded-identify
      (λ id. bounded-bind (bounded-ensure config)
      (λ before. bounded-bind bounded-unprotect (λ protection. answered {n = x.moved} {m = x.moved} _ (omega arith) bounded-configuration))))

  pub bounded-with-config : (config : SpiNandConfig) → Bounded w (constructing x) (with-config config)
  unfolding with-config
  bounded-with-config config =
      bounded-more (omega arith)
      (bounded-then (bounded-more figures.raised bounded-transfer)
      (bounded-bind {c = 0} (bounded-bring-up config) (λ init. bounded-guard _ _ (λ e. bounded-ret))))

  pub bounded-refused-page : Bounded w (x.raise + identifying x) refused-page
  unfolding refused-page
  bounded-refused-page =
      bounded-more (omega arith) (bounded-then (bounded-more figures.raised bounded-transfer) (bounded-then {c = 0} bounded-identify bounded-fail))

  -- ---- pages

  bounded-load-page : (page : ℕ) → Bounded w (task x Operation.PageRead) (load-page page)
  unfolding load-page
  bounded-load-page page = bounded-then (bounded-send _) (figures.waited Operation.PageRead)

  module _ (flash : Setup) where
    pub bounded-page-read : (page : ℕ) → Bounded w (loading x) (page-read flash page)
    unfolding page-read
    bounded-page-read page =
        bounded-guard _ _ (λ e. bounded-more (omega arith) (bounded-then (bounded-load-page page) (bounded-bind bounded-status (λ s. bounded-refuse _ _))))

    pub bounded-read-cache : (column n : ℕ) (sink : Sink) → Bounded w (sunk x sink) (read-cache flash column n sink)
    unfolding read-cache cache_read_transfer
    bounded-read-cache column n sink = bounded-guard _ _ (λ e. bounded-more (taken flash.config.quad column n sink) bounded-transfer)

    pub bounded-load-data : (column n : ℕ) (payload : Payload) → Bounded w (paid x payload) (load-program-data flash column n payload)
    unfolding load-program-data cache_load_transfer
    bounded-load-data column n payload =
        bounded-guard _ _ (λ e. ended _ (omega arith) (bounded-more (loaded flash.config.quad column payload) bounded-transfer))

    pub bounded-execute : (page : ℕ) → Bounded w (programming x) (program-execute flash page)
    unfolding program-execute
    bounded-execute page =
        bounded-guard _ _
        (λ e. bounded-more (omega arith)
        (bounded-then (bounded-send _) (bounded-then (figures.waited Operation.Program) (bounded-bind bounded-status (λ s. bounded-refuse _ _)))))

    pub bounded-read-page : (page n : ℕ) (sink : Sink) → Bounded w (loading x + sunk x sink) (read-page flash page n sink)
    unfolding read-page
    bounded-read-page page n sink = bounded-guard _ _ (λ e. bounded-then (bounded-page-read page) (bounded-read-cache 0 n sink))

    pub bounded-write-page : (page n : ℕ) → Bounded w (enabling x + x.given + programming x + (loading x + x.given)) (write-page flash page n)
    unfolding write-page
    bounded-write-page page n =
        bounded-guard _ _
        (λ e. bounded-guard _ _
        (λ d. bounded-more (omega arith)
        (bounded-then bounded-enable
        (bounded-then (bounded-load-data _ _ _)
        (bounded-then (bounded-execute page) (bounded-bind (bounded-read-page page _ (Sink.Compare 0)) (λ same. bounded-refuse _ _)))))))

    pub bounded-erase : (block : ℕ) → Bounded w (erasing x) (erase-block flash block)
    unfolding erase-block
    bounded-erase block =
        bounded-guard _ _
        (λ e. bounded-more (omega arith)
        (bounded-then bounded-enable
        (bounded-then (bounded-send _) (bounded-then (figures.waited Operation.Erase) (bounded-bind bounded-status (λ s. bounded-refuse _ _))))))

    -- a load and the marker
    pub bounded-is-bad : (block : ℕ) → Bounded w (loading x) (is-bad-block flash block)
    unfolding is-bad-block
    bounded-is-bad block =
        bounded-guard _ _ (λ e. bounded-then (bounded-load-page _) (answered _ (omega arith) (bounded-read-cache flash.geometry.page_size 1 Sink.Number)))

    module _ (bounds : in_bounds flash.geometry ≡ true) where
      -- ---- read: so much a page

      pub bounded-read : (offset len : ℕ) → Bounded w (pages_touched flash.geometry offset len * (loading x + x.fill)) (read flash offset len)
      unfolding read
      bounded-read offset len =
          bounded-guard _ _
          (λ e. let within = in-range flash.geometry bounds offset len (not-false _ e) in
          bounded-loop len _ _ (reading flash offset len) (reading-pieces flash (some-page flash.geometry bounds) offset len) (page-turns flash.geometry bounds offset len within)
          (λ d. bounded-then (bounded-page-read _) (bounded-read-cache _ _ (Sink.Buffer d))) (pages_touched flash.geometry offset len) 0 (pages-first flash.geometry bounds offset len within))

      -- ---- mark_bad_block

      bounded-filling : Bounded w (fillers flash.geometry * x.stamp) (filling flash 0)
      bounded-filling =
          bounded-loop flash.geometry.page_size _ _ (filling flash) (filling-loop flash) (filler-turns flash.geometry bounds)
          (λ c. bounded-load-data _ _ _) (fillers flash.geometry) 0 (fillers-enough flash.geometry bounds)

      pub bounded-mark : (block : ℕ) →
          Bounded w (marking x flash.geometry) (mark-bad-block flash block)
      unfolding mark-bad-block
      bounded-mark block =
          bounded-guard _ _
          (λ e. bounded-more (omega arith)
          (bounded-bind (bounded-is-bad block)
          (λ bad. bounded-if bad bounded-ret
          (bounded-then (bounded-erase block)
          (bounded-then bounded-enable
          (bounded-then bounded-filling
          (bounded-then (bounded-load-data _ _ _)
          (bounded-then (bounded-execute _) (bounded-bind (bounded-is-bad block) (λ marked. bounded-refuse _ _))))))))))

  -- ---- every call

  -- a page that is too large is refused once the id is read
  pub weighed-construction : (flash : Setup) (config : SpiNandConfig) (b d : ℕ) → Bounded w (constructing x) (coded flash (Call.WithConfig config) b d)
  unfolding coded_rust rust_program
  weighed-construction flash config b d =
      by_cases (page_taken config.geometry)
      (λ e. rw e (answered _ (omega arith) (bounded-with-config config)))
      (λ e. rw e (bounded-more (omega arith) bounded-refused-page))

  pub weighed : (flash : Setup) → in_bounds flash.geometry ≡ true → (call : Call) (b d : ℕ) → Bounded w (weight_of x flash call b) (coded flash call b d)
  unfolding coded_rust rust_program weight_of
  weighed flash h Call.New b d = answered _ (omega arith) (bounded-with-config single_config)
  weighed flash h (Call.WithConfig config) b d = weighed-construction flash config b d
  weighed flash h Call.Info b d = bounded-ret
  weighed flash h Call.Config b d = bounded-ret
  weighed flash h Call.Geometry b d = bounded-ret
  weighed flash h Call.Free b d = bounded-ret
  weighed flash h Call.DisableQuad b d = ended _ (omega arith) bounded-disable-quad
  weighed flash h (Call.WriteRegister register value) b d = ended _ (omega arith) (bounded-write-register register value)
  weighed flash h Call.WriteEnable b d = ended _ (omega arith) bounded-enable
  weighed flash h Call.ReadStatus b d = answered _ (omega arith) bounded-status
  weighed flash h Call.ReadConfiguration b d = answered _ (omega arith) bounded-configuration
  weighed flash h Call.ReadProtection b d = answered _ (omega arith) bounded-protection
  weighed flash h Call.Reset b d = ended _ (omega arith) bounded-reset
  weighed flash h Call.JedecId b d = answered _ (omega arith) bounded-jedec-id
  weighed flash h Call.ResetAndIdentify b d = answered _ (omega arith) bounded-identify
  weighed flash h Call.EnsureConfiguration b d = answered _ (omega arith) (bounded-ensure flash.config)
  weighed flash h Call.Unprotect b d = answered _ (omega arith) bounded-unprotect
  weighed flash h (Call.PageRead page) b d = ended _ (omega arith) (bounded-page-read flash page)
  weighed flash h (Call.ReadCache column) b d = ended _ (omega arith) (bounded-read-cache flash column b (Sink.Buffer 0))
  weighed flash h (Call.LoadProgramData column) b d = ended _ (omega arith) (bounded-load-data flash column d (Payload.Data 0 d))
  weighed flash h (Call.ProgramExecute page) b d = ended _ (omega arith) (bounded-execute flash page)
  weighed flash h (Call.ReadPage page) b d = ended _ (omega arith) (bounded-read-page flash page b (Sink.Buffer 0))
  weighed flash h (Call.WritePage page) b d = ended _ (omega arith) (bounded-write-page flash page d)
  weighed flash h (Call.EraseBlock block) b d = ended _ (omega arith) (bounded-erase flash block)
  weighed flash h (Call.Read offset) b d = ended _ (omega arith) (bounded-read flash h offset b)
  weighed flash h (Call.IsBadBlock block) b d = answered _ (omega arith) (bounded-is-bad flash block)
  weighed flash h (Call.MarkBadBlock block) b d = ended _ (omega arith) (bounded-mark flash h block)

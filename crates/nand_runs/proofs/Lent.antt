-- What each call does with the caller's buffer: read, read_page and read_cache fill it place after place, no other call reads into it.
use Rattle.std.specs.Prelude.{Option, Some, None}
use Rattle.spi_nand.specs.declared.config.NandQuadConfig.{NandQuadConfig}
use Prim.Native.Nat.{ℕ, zero, suc, ◌+◌, ◌-◌, ◌≤◌}
use native.Mathlib.Omega.{arith}
use mathlib.Core.Bool.{true, not}
use mathlib.Core.Path.{◌≡◌, refl}
use lib.Dec.{ltb, eqb}
use borrow.Author.Tests.{ltb-true, le-ltb}
use Rattle.qspi.specs.declared.transfer.Sink.{Sink}
use Rattle.qspi.proofs.Cases.{by_cases}
use Rattle.spi_flash.specs.Path.{Bounded}
use Rattle.spi_flash.specs.Prog.{Prog, ret, ◌>>=◌, ◌>>◌, refuse, transfer}
use Rattle.spi_flash.specs.declared.error.FlashError.{FlashError}
use Rattle.spi_flash.proofs.Laws.{bind_assoc, bounded-more}
use Rattle.spi_flash.proofs.Dataless.{data_uses}
use Rattle.spi_flash.proofs.Unread.{buffer_reads, none-delayed, unread-delayed}
use Rattle.flash_runs.specs.Driver.{takes_of}
use Rattle.flash_runs.proofs.Filling.{Fills}
use Rattle.flash_runs.proofs.Quiet.{Quiet, quiet_bind, quiet_then, quiet-refuse, quiet-ret, quiet-transfer, quiet-wait, fills-after}
use Rattle.flash_runs.proofs.Supplies.{Bounds, LendsAs, LooksAs}
use Rattle.flash_runs.proofs.Weighing.{Weighs, read_figures, data_figures, reads-weigh, data-weigh}
use Rattle.spi_nand.specs.Command.{get_feature_command}
use Rattle.spi_nand.specs.Config.{in_bounds, page_count_of, single_config}
use Rattle.spi_nand.specs.Opcode.{REG-STATUS, timings_of}
use Rattle.spi_nand.specs.Status.{busy_value, verdict_of}
use Rattle.spi_nand.specs.declared.opcode.Operation.{Operation}
use Rattle.spi_nand.proofs.Geometries.{geometries-hold}
use Rattle.spi_nand.specs.Transfer.{cache_read_at, cache_read_transfer, in_cache, in_range, place_of, page_at, column_at, chunk_of}
use Rattle.spi_nand.proofs.Pieces.{chunk-within}
use Rattle.spi_nand.specs.declared.call.Call.{Call}
use Rattle.spi_nand.specs.declared.setup.Setup.{Setup}
use Rattle.nand_runs.specs.Rust.{uncorrectable, read-status, wait-ready, load-page}
use Rattle.nand_runs.proofs.AsCoded.{page-read, read-cache, read-page, reading, read}
use Rattle.nand_runs.specs.Observer.{reads_cache}
use Rattle.nand_runs.proofs.AsCoded.{coded_rust}
use Rattle.nand_runs.proofs.Agrees.{same, same-construction}
use Rattle.nand_runs.specs.Program.{Left, rust_program, program_of}
use Rattle.nand_runs.proofs.ReadLoop.{chunk-some, reading-loop}
use Rattle.nand_runs.specs.Bound.{weight_of}
use Rattle.nand_runs.proofs.Weights.{weighed-construction, weighed}
use Rattle.nand_runs.specs.Run.{sort_of, nand_driver}
use Rattle.nand_runs.proofs.Meaning.{DONE}

-- ---- no other call reads into the buffer

unread-figures : Weighs buffer_reads read_figures wait-ready
unfolding wait-ready
unread-figures = reads-weigh wait-ready (λ operation. unread-delayed (get_feature_command REG-STATUS) busy_value (timings_of operation))

unread : (s : Setup) → in_bounds s.geometry ≡ true → (c : Call) (b d : ℕ) → weight_of read_figures s c b ≤ 0 → Bounded buffer_reads 0 (program_of s c b d)
unread s h c b d none = rw (same s h c b d) (bounded-more none (weighed unread-figures s h c b d))

-- ---- a load asks for registers alone

pub quiet-status : Quiet reads_cache read-status
unfolding read-status
quiet-status = quiet_bind reads_cache (quiet_bind reads_cache (quiet-transfer reads_cache refl) (λ v. quiet-ret reads_cache)) (λ byte. quiet-ret reads_cache)

module _ (s : Setup) where
  pub quiet-page-read : (page : ℕ) → Quiet reads_cache (page-read s page)
  unfolding page-read load-page wait-ready
  quiet-page-read page =
      quiet_then reads_cache (quiet-refuse reads_cache (not (ltb page (page_count_of s.geometry))) FlashError.OutOfBounds)
      (quiet_then reads_cache
      (quiet_then reads_cache (quiet-transfer reads_cache tt) (quiet-wait reads_cache (get_feature_command REG-STATUS) busy_value (timings_of Operation.PageRead) refl))
      (quiet_bind reads_cache quiet-status (λ status. quiet-refuse reads_cache (uncorrectable (verdict_of status)) FlashError.UncorrectableEcc)))

  -- ---- the cache into the buffer

  module _ (len n : ℕ) where
    fills-at : (q : Option NandQuadConfig) (column m : ℕ) (f : ℕ → Prog Left) → n + m ≤ len → ((v : ℕ) → Fills reads_cache len (n + m) (f v)) →
        Fills reads_cache len n (transfer (cache_read_at q column m (Sink.Buffer n)) >>= f)
    unfolding ◌>>=◌
    fills-at None column m f room later = (refl, refl, room, later)
    fills-at (Some q) column m f room later = (refl, refl, room, later)

    fills-read-cache : (column m : ℕ) (f : ℕ → Prog Left) → n + m ≤ len → ((v : ℕ) → Fills reads_cache len (n + m) (f v)) →
        Fills reads_cache len n (read-cache s column m (Sink.Buffer n) >>= f)
    unfolding read-cache refuse cache_read_transfer ◌>>=◌ ◌>>◌
    fills-read-cache column m f room later =
        by_cases (in_cache s.geometry column m) (λ e. rw e (fills-at s.config.quad column m f room later)) (λ e. rw e tt)

  fills-cache : (column b : ℕ) → Fills reads_cache b 0 (read-cache s column b (Sink.Buffer 0) >> DONE s)
  unfolding ◌>>◌
  fills-cache column b = fills-read-cache b 0 column b (λ v. DONE s) (omega arith) (λ v. tt)

  fills-page : (page b : ℕ) → Fills reads_cache b 0 (read-page s page b (Sink.Buffer 0) >> DONE s)
  unfolding read-page refuse ◌>>=◌ ◌>>◌
  fills-page page b =
      by_cases (eqb b s.geometry.page_size)
      (λ e. rw e (paged page b))
      (λ e. rw e tt)
    where
      paged : (page b : ℕ) → Fills reads_cache b 0 ((page-read s page >>= (λ u. read-cache s 0 b (Sink.Buffer 0))) >>= (λ v. DONE s))
      paged page b = rw (bind_assoc (page-read s page) (λ u. read-cache s 0 b (Sink.Buffer 0)) (λ v. DONE s))
          (fills-after reads_cache b 0 (page-read s page) (λ u. read-cache s 0 b (Sink.Buffer 0) >>= (λ v. DONE s)) (quiet-page-read page)
          (λ u. fills-read-cache b 0 0 b (λ v. DONE s) (omega arith) (λ v. tt)))

  module _ (valid : in_bounds s.geometry ≡ true) (offset len : ℕ) where
    some : 1 ≤ s.geometry.page_size
    some = (geometries-hold.bounded s.geometry valid).page

    abbrev next : ℕ → ℕ
    next done = done + chunk_of s.geometry offset len done

    fills-piece : (done : ℕ) → next done ≤ len → Fills reads_cache len (next done) (reading s offset len (next done) >> DONE s) →
        Fills reads_cache len done
        ((page-read s (page_at s.geometry (place_of offset done))
        >> (read-cache s (column_at s.geometry (place_of offset done)) (chunk_of s.geometry offset len done) (Sink.Buffer done) >> reading s offset len (next done)))
        >> DONE s)
    unfolding ◌>>◌
    fills-piece done room later =
        let page = page_at s.geometry (place_of offset done) in
        let piece = read-cache s (column_at s.geometry (place_of offset done)) (chunk_of s.geometry offset len done) (Sink.Buffer done) in
        rw (bind_assoc (page-read s page) (λ u. piece >>= (λ v. reading s offset len (next done))) (λ u. DONE s), bind_assoc piece (λ v. reading s offset len (next done)) (λ u. DONE s))
        (fills-after reads_cache len done (page-read s page) (λ u. piece >>= (λ v. reading s offset len (next done) >>= (λ w. DONE s))) (quiet-page-read page)
        (λ u. fills-read-cache len done (column_at s.geometry (place_of offset done)) (chunk_of s.geometry offset len done) (λ v. reading s offset len (next done) >>= (λ w. DONE s)) room (λ v. later)))

    finished : (done : ℕ) → Fills reads_cache len done (ret (tt {0}) >> DONE s)
    unfolding ◌>>=◌ ◌>>◌
    finished done = tt

    fills-reading : (k done : ℕ) → len - done ≤ k → Fills reads_cache len done (reading s offset len done >> DONE s)
    fills-reading zero done h = rw (reading-loop s some offset len done, le-ltb done len (omega arith)) (finished done)
    fills-reading (suc k) done h =
        rw (reading-loop s some offset len done)
        (by_cases (ltb done len)
        (λ e. let below = ltb-true done len e in
        let room = chunk-within s.geometry offset len done (suc len) (omega arith) (omega arith) in
        let on = chunk-some s.geometry offset len done some below in
        rw e (fills-piece done (omega arith) (fills-reading k (next done) (omega arith))))
        (λ e. rw e (finished done)))

    fills-read : Fills reads_cache len 0 (read s offset len >> DONE s)
    unfolding read refuse ◌>>=◌ ◌>>◌
    fills-read = by_cases (in_range s.geometry offset len) (λ e. rw e (fills-reading len 0 (omega arith))) (λ e. rw e tt)

-- ---- every call

pub lent : (s : Setup) (c : Call) (b d : ℕ) → Bounds nand_driver s c b d → LendsAs nand_driver s c b d (takes_of (sort_of c b d))
unfolding sort_of coded_rust rust_program weight_of
lent s Call.New b d h = rw (same-construction s single_config b d) (bounded-more (omega arith) (weighed-construction unread-figures s single_config b d))
lent s (Call.WithConfig config) b d h = rw (same-construction s config b d) (bounded-more (omega arith) (weighed-construction unread-figures s config b d))
lent s Call.Info b d h = unread s h Call.Info b d (omega arith)
lent s Call.Config b d h = unread s h Call.Config b d (omega arith)
lent s Call.Geometry b d h = unread s h Call.Geometry b d (omega arith)
lent s Call.Free b d h = unread s h Call.Free b d (omega arith)
lent s Call.DisableQuad b d h = unread s h Call.DisableQuad b d (omega arith)
lent s (Call.WriteRegister register value) b d h = unread s h (Call.WriteRegister register value) b d (omega arith)
lent s Call.WriteEnable b d h = unread s h Call.WriteEnable b d (omega arith)
lent s Call.ReadStatus b d h = unread s h Call.ReadStatus b d (omega arith)
lent s Call.ReadConfiguration b d h = unread s h Call.ReadConfiguration b d (omega arith)
lent s Call.ReadProtection b d h = unread s h Call.ReadProtection b d (omega arith)
lent s Call.Reset b d h = unread s h Call.Reset b d (omega arith)
lent s Call.JedecId b d h = unread s h Call.JedecId b d (omega arith)
lent s Call.ResetAndIdentify b d h = unread s h Call.ResetAndIdentify b d (omega arith)
lent s Call.EnsureConfiguration b d h = unread s h Call.EnsureConfiguration b d (omega arith)
lent s Call.Unprotect b d h = unread s h Call.Unprotect b d (omega arith)
lent s (Call.PageRead page) b d h = unread s h (Call.PageRead page) b d (omega arith)
lent s (Call.ReadCache column) b d h = (refl, rw (same s h (Call.ReadCache column) b d) (fills-cache s column b))
lent s (Call.LoadProgramData column) b d h = unread s h (Call.LoadProgramData column) b d (omega arith)
lent s (Call.ProgramExecute page) b d h = unread s h (Call.ProgramExecute page) b d (omega arith)
lent s (Call.ReadPage page) b d h = (refl, rw (same s h (Call.ReadPage page) b d) (fills-page s page b))
lent s (Call.WritePage page) b d h = unread s h (Call.WritePage page) b d (omega arith)
lent s (Call.EraseBlock block) b d h = unread s h (Call.EraseBlock block) b d (omega arith)
lent s (Call.Read offset) b d h = (refl, rw (same s h (Call.Read offset) b d) (fills-read s h offset b))
lent s (Call.IsBadBlock block) b d h = unread s h (Call.IsBadBlock block) b d (omega arith)
lent s (Call.MarkBadBlock block) b d h = unread s h (Call.MarkBadBlock block) b d (omega arith)

-- ---- no call but load_program_data and write_page looks at the caller's data

dataless-figures : Weighs data_uses data_figures wait-ready
unfolding wait-ready
dataless-figures = data-weigh wait-ready (λ operation. none-delayed data_uses (λ c. omega arith) (λ us. omega arith) (get_feature_command REG-STATUS) busy_value (timings_of operation))

unlooked : (s : Setup) → in_bounds s.geometry ≡ true → (c : Call) (b d : ℕ) → weight_of data_figures s c b ≤ 0 → Bounded data_uses 0 (program_of s c b d)
unlooked s h c b d none = rw (same s h c b d) (bounded-more none (weighed dataless-figures s h c b d))

pub dataless : (s : Setup) (c : Call) (b d : ℕ) → Bounds nand_driver s c b d → LooksAs nand_driver s c b d (takes_of (sort_of c b d))
unfolding sort_of coded_rust rust_program weight_of
dataless s Call.New b d h = rw (same-construction s single_config b d) (bounded-more (omega arith) (weighed-construction dataless-figures s single_config b d))
dataless s (Call.WithConfig config) b d h = rw (same-construction s config b d) (bounded-more (omega arith) (weighed-construction dataless-figures s config b d))
dataless s Call.Info b d h = unlooked s h Call.Info b d (omega arith)
dataless s Call.Config b d h = unlooked s h Call.Config b d (omega arith)
dataless s Call.Geometry b d h = unlooked s h Call.Geometry b d (omega arith)
dataless s Call.Free b d h = unlooked s h Call.Free b d (omega arith)
dataless s Call.DisableQuad b d h = unlooked s h Call.DisableQuad b d (omega arith)
dataless s (Call.WriteRegister register value) b d h = unlooked s h (Call.WriteRegister register value) b d (omega arith)
dataless s Call.WriteEnable b d h = unlooked s h Call.WriteEnable b d (omega arith)
dataless s Call.ReadStatus b d h = unlooked s h Call.ReadStatus b d (omega arith)
dataless s Call.ReadConfiguration b d h = unlooked s h Call.ReadConfiguration b d (omega arith)
dataless s Call.ReadProtection b d h = unlooked s h Call.ReadProtection b d (omega arith)
dataless s Call.Reset b d h = unlooked s h Call.Reset b d (omega arith)
dataless s Call.JedecId b d h = unlooked s h Call.JedecId b d (omega arith)
dataless s Call.ResetAndIdentify b d h = unlooked s h Call.ResetAndIdentify b d (omega arith)
dataless s Call.EnsureConfiguration b d h = unlooked s h Call.EnsureConfiguration b d (omega arith)
dataless s Call.Unprotect b d h = unlooked s h Call.Unprotect b d (omega arith)
dataless s (Call.PageRead page) b d h = unlooked s h (Call.PageRead page) b d (omega arith)
dataless s (Call.ReadCache column) b d h = unlooked s h (Call.ReadCache column) b d (omega arith)
dataless s (Call.LoadProgramData column) b d h = tt
dataless s (Call.ProgramExecute page) b d h = unlooked s h (Call.ProgramExecute page) b d (omega arith)
dataless s (Call.ReadPage page) b d h = unlooked s h (Call.ReadPage page) b d (omega arith)
dataless s (Call.WritePage page) b d h = tt
dataless s (Call.EraseBlock block) b d h = unlooked s h (Call.EraseBlock block) b d (omega arith)
dataless s (Call.Read offset) b d h = unlooked s h (Call.Read offset) b d (omega arith)
dataless s (Call.IsBadBlock block) b d h = unlooked s h (Call.IsBadBlock block) b d (omega arith)
dataless s (Call.MarkBadBlock block) b d h = unlooked s h (Call.MarkBadBlock block) b d (omega arith)

-- What each call gives out behind its commands: the caller's data where it takes them, filler and marker in mark_bad_block, else nothing.
use Prim.Native.Nat.{ℕ, zero, suc, ◌+◌, ◌-◌, ◌/◌, ◌%◌, ◌≤◌, ◌<◌}
use native.Mathlib.Omega.{arith}
use mathlib.Core.Bool.{Bool, true, false}
use mathlib.Core.List.{List, [], ◌∷◌, ◌++◌}
use mathlib.Core.Path.{◌≡◌, refl, ap, sym}
use lib.Dec.{ltb}
use borrow.Author.Tests.{ltb-true, ltb-false, le-ltb, le-leb, ne_eqb}
use Rattle.std.specs.Prelude.{min, Option, Some, None, if◌then◌else◌}
use Rattle.qspi.specs.Bytes.{filler_length}
use Rattle.qspi.specs.declared.transfer.Payload.{Payload}
use Rattle.qspi.proofs.Cases.{by_cases}
use Rattle.spi_flash.specs.Prog.{Prog, ret, ◌>>=◌, ◌>>◌, refuse, transfer}
use Rattle.spi_flash.proofs.Laws.{bounded-more, bounded-then, bounded-bind, bounded-refuse}
use Rattle.spi_flash.proofs.Unread.{none-delayed}
use Rattle.flash_runs.specs.Driver.{takes_of}
use Rattle.flash_runs.specs.Scratch.{Stamp, filler, marker, Payloads, callers, stamps, payloads_of}
use Rattle.flash_runs.proofs.Payloads.{PaysBy, Pays, payload_weight, stamp_weight, none-given, pays-none, pays-bind, pays-then, pays-callers, pays-ended, Spends, pays-spent, spends-then}
use Rattle.flash_runs.proofs.Supplies.{Bounds}
use Rattle.flash_runs.proofs.Weighing.{Weighs, payload_figures, stamp_figures, payloads-weigh, stamps-weigh}
use Rattle.spi_nand.specs.Command.{get_feature_command}
use Rattle.spi_nand.specs.Config.{in_bounds, single_config, first_page_of}
use Rattle.spi_nand.specs.Opcode.{REG-STATUS, timings_of}
use Rattle.spi_nand.specs.Status.{busy_value}
use Rattle.spi_nand.specs.Transfer.{cache_load_at, cache_load_transfer, in_cache, filler_of}
use Rattle.spi_nand.specs.declared.call.Call.{Call}
use Rattle.spi_nand.specs.declared.config.NandQuadConfig.{NandQuadConfig}
use Rattle.spi_nand.specs.declared.setup.Setup.{Setup}
use Rattle.nand_runs.specs.Bound.{weight_of}
use Rattle.nand_runs.specs.Program.{rust_program, program_of}
use Rattle.nand_runs.specs.Run.{chunks, stamps_of, sort_of, nand_driver}
use Rattle.nand_runs.specs.Rust.{Nothing, wait-ready, write-enable}
use Rattle.nand_runs.proofs.AsCoded.{check-block, load-program-data, erase-block, is-bad-block, filling, mark-bad-block, coded_rust}
use Rattle.nand_runs.proofs.Agrees.{same, same-construction}
use Rattle.nand_runs.proofs.FillLoop.{filling-loop}
use Rattle.nand_runs.proofs.Weights.{bounded-enable, bounded-execute, bounded-erase, bounded-is-bad, weighed-construction, weighed}

unpaid-figures : Weighs payload_weight payload_figures wait-ready
unfolding wait-ready
unpaid-figures = payloads-weigh wait-ready (λ operation. none-delayed payload_weight (λ c. omega arith) (λ us. omega arith) (get_feature_command REG-STATUS) busy_value (timings_of operation))

unstamped-figures : Weighs stamp_weight stamp_figures wait-ready
unfolding wait-ready
unstamped-figures = stamps-weigh wait-ready (λ operation. none-delayed stamp_weight (λ c. omega arith) (λ us. omega arith) (get_feature_command REG-STATUS) busy_value (timings_of operation))

-- ---- mark_bad_block

-- the first chunk of what is left of a page
chunks-first : (n : ℕ) → 1 ≤ n → chunks n ≡ filler (min n 256) ∷ chunks (n - min n 256)
chunks-first n some = by_cases (ltb n 256) (λ e. last (ltb-true n 256 e)) (λ e. whole (ltb-false n 256 e))
  where
    last : n < 256 → chunks n ≡ filler (min n 256) ∷ chunks (n - min n 256)
    last below =
        let m : min n 256 ≡ n = omega arith in
        let q : n / 256 ≡ 0 = omega arith in
        let r : n % 256 ≡ n = omega arith in
        let z : n - n ≡ 0 = omega arith in
        rw (m, z, q, r, ne_eqb n 0 (λ e. omega arith)) refl

    whole : 256 ≤ n → chunks n ≡ filler (min n 256) ∷ chunks (n - min n 256)
    whole above =
        let m : min n 256 ≡ 256 = omega arith in
        let q : n / 256 ≡ suc ((n - 256) / 256) = omega arith in
        let r : n % 256 ≡ (n - 256) % 256 = omega arith in
        rw (m, q, r) refl

module _ (s : Setup) where
  spends-load : (column n : ℕ) (payload : Payload) (p q : Payloads) → PaysBy p payload (λ r. (v : ℕ) → r ≡ q) → Spends p q (load-program-data s column n payload)
  unfolding load-program-data refuse cache_load_transfer ◌>>=◌ ◌>>◌
  spends-load column n payload p q h = by_cases (in_cache s.geometry column n) (λ e. rw e (at s.config.quad)) (λ e. rw e tt)
    where
      at : (quad : Option NandQuadConfig) → Spends p q (transfer (cache_load_at quad column payload) >> ret (tt {0}))
      at None = h
      at (Some x) = h

  abbrev page : ℕ
  page = s.geometry.page_size

  -- the loop's filler, from a column on
  module _ (tail : List Stamp) where
    abbrev Fills : ℕ → ℕ → Type 0
    Fills column left = Spends (stamps (chunks left ++ tail)) (stamps tail) (filling s column)

    fills-page : (k column left : ℕ) → left ≡ page - column → left ≤ k → Fills column left
    unfolding filler_of
    fills-page zero column left is h =
        let none : left ≡ 0 = omega arith in
        rw (none, filling-loop s column, le-ltb column page (omega arith)) refl
    fills-page (suc k) column left is h =
        rw (filling-loop s column)
        (by_cases (ltb column page)
        (λ e.
        let below = ltb-true column page e in
        let m = min left 256 in
        let size : filler_of s.geometry column ≡ m = ap (λ n. min n 256) (sym is) in
        let first = chunks-first left (omega arith) in
        let room : filler_length m ≡ m = rw (le-leb m 256 (omega arith)) refl in
        rw (e, size, first)
        (spends-then (stamps (filler m ∷ (chunks (left - m) ++ tail))) (stamps (chunks (left - m) ++ tail)) (stamps tail) (load-program-data s column m (Payload.Filler m)) (filling s (column + m))
        (spends-load column m (Payload.Filler m) _ _ (room, λ v. refl))
        (fills-page k (column + m) (left - m) (omega arith) (omega arith))))
        (λ e. let none : left ≡ 0 = omega (arith, ltb-false column page e) in rw (e, none) refl))

  pays-if : (all p : Payloads) (b : Bool) (x y : Prog Nothing) → Pays all p x → Pays all p y → Pays all p (if b then x else y)
  pays-if all p true x y h k = h
  pays-if all p false x y h k = k

  pays-mark : (block : ℕ) → let all = stamps (chunks page ++ marker ∷ []) in Pays all all (mark-bad-block s block)
  unfolding mark-bad-block
  pays-mark block =
      let p : Payloads = stamps (chunks page ++ marker ∷ []) in
      let mark : Payloads = stamps (marker ∷ []) in
      pays-then p p (check-block s block) _ (bounded-refuse _ _)
      (pays-bind p p (is-bad-block s block) _ (bounded-more (omega arith) (bounded-is-bad unpaid-figures s block))
      (λ bad. pays-if p p bad (ret tt) _ (none-given p)
      (pays-then p p (erase-block s block) _ (bounded-more (omega arith) (bounded-erase unpaid-figures s block))
      (pays-then p p write-enable _ (bounded-more (omega arith) (bounded-enable unpaid-figures))
      (pays-spent p p mark (filling s 0) _ (fills-page (marker ∷ []) page 0 page (omega arith) (omega arith))
      (pays-spent p mark (stamps []) (load-program-data s page 1 Payload.Marker) _ (spends-load page 1 Payload.Marker mark (stamps []) (λ v. refl))
      (pays-none p (stamps []) _ tt
      (bounded-more (omega arith)
      (bounded-then (bounded-execute unpaid-figures s (first_page_of s.geometry block))
      (bounded-bind {c = 0} (bounded-is-bad unpaid-figures s block) (λ marked. bounded-refuse _ _)))))))))))

-- ---- every call

unpaid : (s : Setup) → in_bounds s.geometry ≡ true → (c : Call) (b d : ℕ) → weight_of payload_figures s c b ≤ 0 → Pays (stamps []) (stamps []) (program_of s c b d)
unpaid s h c b d none = pays-none (stamps []) (stamps []) (program_of s c b d) tt (rw (same s h c b d) (bounded-more none (weighed unpaid-figures s h c b d)))

paid : (s : Setup) → in_bounds s.geometry ≡ true → (c : Call) (b d : ℕ) → weight_of stamp_figures s c b ≤ 0 → Pays callers callers (program_of s c b d)
paid s h c b d none = pays-callers (program_of s c b d) (rw (same s h c b d) (bounded-more none (weighed unstamped-figures s h c b d)))

pub pays : (s : Setup) (c : Call) (b d : ℕ) → Bounds nand_driver s c b d → let all = payloads_of (takes_of (sort_of c b d)) (stamps_of s c) in Pays all all (program_of s c b d)
unfolding sort_of coded_rust rust_program weight_of
pays s Call.New b d h = pays-none (stamps []) (stamps []) _ tt (rw (same-construction s single_config b d) (bounded-more (omega arith) (weighed-construction unpaid-figures s single_config b d)))
pays s (Call.WithConfig config) b d h = pays-none (stamps []) (stamps []) _ tt (rw (same-construction s config b d) (bounded-more (omega arith) (weighed-construction unpaid-figures s config b d)))
pays s Call.Info b d h = unpaid s h Call.Info b d (omega arith)
pays s Call.Config b d h = unpaid s h Call.Config b d (omega arith)
pays s Call.Geometry b d h = unpaid s h Call.Geometry b d (omega arith)
pays s Call.Free b d h = unpaid s h Call.Free b d (omega arith)
pays s Call.DisableQuad b d h = unpaid s h Call.DisableQuad b d (omega arith)
pays s (Call.WriteRegister register value) b d h = unpaid s h (Call.WriteRegister register value) b d (omega arith)
pays s Call.WriteEnable b d h = unpaid s h Call.WriteEnable b d (omega arith)
pays s Call.ReadStatus b d h = unpaid s h Call.ReadStatus b d (omega arith)
pays s Call.ReadConfiguration b d h = unpaid s h Call.ReadConfiguration b d (omega arith)
pays s Call.ReadProtection b d h = unpaid s h Call.ReadProtection b d (omega arith)
pays s Call.Reset b d h = unpaid s h Call.Reset b d (omega arith)
pays s Call.JedecId b d h = unpaid s h Call.JedecId b d (omega arith)
pays s Call.ResetAndIdentify b d h = unpaid s h Call.ResetAndIdentify b d (omega arith)
pays s Call.EnsureConfiguration b d h = unpaid s h Call.EnsureConfiguration b d (omega arith)
pays s Call.Unprotect b d h = unpaid s h Call.Unprotect b d (omega arith)
pays s (Call.PageRead page) b d h = unpaid s h (Call.PageRead page) b d (omega arith)
pays s (Call.ReadCache column) b d h = unpaid s h (Call.ReadCache column) b d (omega arith)
pays s (Call.LoadProgramData column) b d h = paid s h (Call.LoadProgramData column) b d (omega arith)
pays s (Call.ProgramExecute page) b d h = unpaid s h (Call.ProgramExecute page) b d (omega arith)
pays s (Call.ReadPage page) b d h = unpaid s h (Call.ReadPage page) b d (omega arith)
pays s (Call.WritePage page) b d h = paid s h (Call.WritePage page) b d (omega arith)
pays s (Call.EraseBlock block) b d h = unpaid s h (Call.EraseBlock block) b d (omega arith)
pays s (Call.Read offset) b d h = unpaid s h (Call.Read offset) b d (omega arith)
pays s (Call.IsBadBlock block) b d h = unpaid s h (Call.IsBadBlock block) b d (omega arith)
pays s (Call.MarkBadBlock block) b d h = rw (same s h (Call.MarkBadBlock block) b d) (pays-ended _ _ (mark-bad-block s block) _ (pays-mark s block))

-- Every call that begins comes to its bound on some replies, and to a good end but where it cannot.
use Prim.Native.Nat.{ℕ, zero, suc, ◌≤◌}
use native.Mathlib.Omega.{arith}
use mathlib.Core.Bool.{true, false, not, true≢false}
use mathlib.Core.Path.{◌≡◌, refl}
use mathlib.Core.List.{List}
use lib.Dec.{eqb, lit<}
use lib.ListN.{length}
use borrow.Author.Tests.{eqb-true, eqb-false, not-true, not-false}
use Rattle.qspi.specs.Bytes.{AllBytes}
use Rattle.qspi.specs.declared.transfer.Sink.{Sink}
use Rattle.qspi.proofs.Cases.{by_cases}
use Rattle.spi_flash.specs.Prog.{◌>>◌}
use Rattle.spi_flash.specs.Path.{delays, Ends}
use Rattle.spi_flash.proofs.Paths.{Reaches, Never}
use Rattle.spi_flash.proofs.Laws.{ends-ret, ends-bind, ends-then, ends-eq, ends-reaches, reaches-never, never-fail, never-left, never-then}
use Rattle.spi_flash.proofs.Replies.{delivery}
use Rattle.flash_runs.specs.Driver.{leaving}
use Rattle.spi_nand.specs.Config.{single_config, in_bounds}
use Rattle.spi_nand.specs.declared.answer.Answer.{Answer}
use Rattle.spi_nand.specs.declared.call.Call.{Call}
use Rattle.spi_nand.specs.declared.setup.Setup.{Setup}
use Rattle.nand_runs.proofs.AsCoded.{mark-bad-block, constructed}
use Rattle.nand_runs.specs.Program.{Left, rust_program, refused-page}
use Rattle.nand_runs.proofs.AsCoded.{coded_rust, coded}
use Rattle.nand_runs.specs.Bound.{delay_bound, can_end}
use Rattle.nand_runs.proofs.Begins.{Begins}
use Rattle.nand_runs.proofs.Bounds.{never-is-bad}
use Rattle.nand_runs.proofs.Ends.{ends-configuration, ends-disable-quad, ends-enable, ends-ensure, ends-erase, ends-execute, ends-identify, ends-is-bad, ends-jedec-id, ends-load-data, ends-mark, ends-page-read, ends-protection, ends_read, ends-read-cache, ends-read-page, ends-reset, ends-status, ends-unprotect, ends-with-config, ends-write-page, ends-write-register, found, reaches-is-bad, reaches-mark, reaches-refused-page}

module _ (flash : Setup) (bounds : in_bounds flash.geometry ≡ true) where
  spare-bytes : not (eqb flash.geometry.oob_size 0) ≡ true → 1 ≤ flash.geometry.oob_size
  spare-bytes c = let some = eqb-false flash.geometry.oob_size 0 (not-true _ c) in by flash.geometry.oob_size some
    where
      by : (n : ℕ) → (n ≡ 0 → ⊥) → 1 ≤ n
      by zero h = absurd (h refl)
      by (suc n) h = omega arith

  -- every call that begins comes to its bound at a good end, but those that cannot end well
  pub ends : (call : Call) (b : ℕ) (given : List ℕ) → AllBytes given → Begins flash call b (length given) → can_end flash call ≡ true →
      (left : Left) × Ends given delays (delay_bound flash call b) left (coded flash call b (length given))
  unfolding coded_rust rust_program delay_bound
  ends Call.New b given s h c = (_, ends-bind _ (ends-with-config given single_config refl) ends-ret)
  ends (Call.WithConfig config) b given s h c = (leaving (constructed config found) Answer.Done, rw c (ends-bind _ (ends-with-config given config c) ends-ret))
  ends Call.Info b given s h c = (_, ends-ret)
  ends Call.Config b given s h c = (_, ends-ret)
  ends Call.Geometry b given s h c = (_, ends-ret)
  ends Call.Free b given s h c = (_, ends-ret)
  ends Call.DisableQuad b given s h c = (_, ends-then (ends-disable-quad given) ends-ret)
  ends (Call.WriteRegister register value) b given s h c = (_, ends-then (ends-write-register given register value) ends-ret)
  ends Call.WriteEnable b given s h c = (_, ends-then (ends-enable given) ends-ret)
  ends Call.ReadStatus b given s h c = (_, ends-bind _ (ends-status given 0 (lit< tt)) ends-ret)
  ends Call.ReadConfiguration b given s h c = (_, ends-bind _ (ends-configuration given 0 (lit< tt)) ends-ret)
  ends Call.ReadProtection b given s h c = (_, ends-bind _ (ends-protection given 0 (lit< tt)) ends-ret)
  ends Call.Reset b given s h c = (_, ends-then (ends-reset given) ends-ret)
  ends Call.JedecId b given s h c = (_, ends-bind _ (ends-jedec-id given) ends-ret)
  ends Call.ResetAndIdentify b given s h c = (_, ends-bind _ (ends-identify given) ends-ret)
  ends Call.EnsureConfiguration b given s h c = (_, ends-bind _ (ends-ensure given flash.config) ends-ret)
  ends Call.Unprotect b given s h c = (_, ends-bind _ (ends-unprotect given) ends-ret)
  ends (Call.PageRead page) b given s h c = (_, ends-then (ends-page-read given flash page h) ends-ret)
  ends (Call.ReadCache column) b given s h c = (_, ends-then (ends-read-cache given flash column b 0 (Sink.Buffer 0) h (delivery given b 0)) ends-ret)
  ends (Call.LoadProgramData column) b given s h c = (_, ends-then (ends-load-data given flash column (length given) _ h) ends-ret)
  ends (Call.ProgramExecute page) b given s h c = (_, ends-then (ends-execute given flash page h) ends-ret)
  ends (Call.ReadPage page) b given s h c =
      (_, ends-then (ends-read-page given flash bounds page b 0 (Sink.Buffer 0) h.0 h.1 (delivery given b 0)) ends-ret)
  ends (Call.WritePage page) b given s h c = (_, ends-then (ends-write-page given flash bounds page s h.0 h.1) ends-ret)
  ends (Call.EraseBlock block) b given s h c = (_, ends-then (ends-erase given flash block h) ends-ret)
  ends (Call.Read offset) b given s h c = (_, ends-eq (omega arith) (ends-then (ends_read given flash bounds offset b h) ends-ret))
  ends (Call.IsBadBlock block) b given s h c = (_, ends-bind _ (ends-is-bad given flash bounds block h (spare-bytes c) 0 (lit< tt)) ends-ret)
  ends (Call.MarkBadBlock block) b given s h c =
      (leaving flash Answer.Done, rw (not-true (eqb flash.geometry.oob_size 0) c) (ends-then (ends-mark given flash bounds block h (spare-bytes c)) ends-ret))

  no-spare : not (eqb flash.geometry.oob_size 0) ≡ false → flash.geometry.oob_size ≡ 0
  no-spare c = eqb-true flash.geometry.oob_size 0 (not-false _ c)

  never-mark : (block : ℕ) → flash.geometry.oob_size ≡ 0 → Never (mark-bad-block flash block)
  unfolding mark-bad-block
  never-mark block none = never-then _ (never-left _ (never-is-bad flash bounds block none))

  never-refused-page : Never refused-page
  unfolding refused-page
  never-refused-page = never-then _ (never-then _ never-fail)

  pub never : (call : Call) (b d : ℕ) → can_end flash call ≡ false → Never (coded flash call b d)
  unfolding coded_rust rust_program ◌>>◌
  never (Call.WithConfig config) b d c = rw c never-refused-page
  never (Call.IsBadBlock block) b d c = never-left _ (never-is-bad flash bounds block (no-spare c))
  never (Call.MarkBadBlock block) b d c = never-left _ (never-mark block (no-spare c))
  never _ b d c = absurd (true≢false c)

  -- a call that cannot end well comes to its bound where it fails
  stopped : (call : Call) (b : ℕ) (given : List ℕ) → Begins flash call b (length given) → can_end flash call ≡ false →
      Reaches given delays (delay_bound flash call b) (coded flash call b (length given))
  unfolding coded_rust rust_program delay_bound ◌>>◌
  stopped Call.New b given h c = absurd (true≢false c)
  stopped (Call.WithConfig config) b given h c = rw c (reaches-refused-page given)
  stopped Call.Info b given h c = absurd (true≢false c)
  stopped Call.Config b given h c = absurd (true≢false c)
  stopped Call.Geometry b given h c = absurd (true≢false c)
  stopped Call.Free b given h c = absurd (true≢false c)
  stopped Call.DisableQuad b given h c = absurd (true≢false c)
  stopped (Call.WriteRegister register value) b given h c = absurd (true≢false c)
  stopped Call.WriteEnable b given h c = absurd (true≢false c)
  stopped Call.ReadStatus b given h c = absurd (true≢false c)
  stopped Call.ReadConfiguration b given h c = absurd (true≢false c)
  stopped Call.ReadProtection b given h c = absurd (true≢false c)
  stopped Call.Reset b given h c = absurd (true≢false c)
  stopped Call.JedecId b given h c = absurd (true≢false c)
  stopped Call.ResetAndIdentify b given h c = absurd (true≢false c)
  stopped Call.EnsureConfiguration b given h c = absurd (true≢false c)
  stopped Call.Unprotect b given h c = absurd (true≢false c)
  stopped (Call.PageRead page) b given h c = absurd (true≢false c)
  stopped (Call.ReadCache column) b given h c = absurd (true≢false c)
  stopped (Call.LoadProgramData column) b given h c = absurd (true≢false c)
  stopped (Call.ProgramExecute page) b given h c = absurd (true≢false c)
  stopped (Call.ReadPage page) b given h c = absurd (true≢false c)
  stopped (Call.WritePage page) b given h c = absurd (true≢false c)
  stopped (Call.EraseBlock block) b given h c = absurd (true≢false c)
  stopped (Call.Read offset) b given h c = absurd (true≢false c)
  stopped (Call.IsBadBlock block) b given h c = reaches-never _ (never-is-bad flash bounds block (no-spare c)) (reaches-is-bad given flash bounds block h (no-spare c))
  stopped (Call.MarkBadBlock block) b given h c = rw (not-false (eqb flash.geometry.oob_size 0) c) (reaches-never _ (never-mark block (no-spare c)) (reaches-mark given flash bounds block h (no-spare c)))

  pub reached : (call : Call) (b : ℕ) (given : List ℕ) → AllBytes given → Begins flash call b (length given) →
      Reaches given delays (delay_bound flash call b) (coded flash call b (length given))
  reached call b given s h = by_cases (can_end flash call) (λ c. ends-reaches (ends call b given s h c).1) (λ c. stopped call b given h c)

-- The delays and the actions of the Rust's programs stay within their bounds.
use Prim.Native.Nat.{ℕ, ◌≤◌}
use native.Mathlib.Omega.{arith}
use mathlib.Core.Bool.{true, not}
use mathlib.Core.Path.{◌≡◌, ap}
use lib.Dec.{eqb}
use borrow.Author.Tests.{eqb-true}
use Rattle.qspi.proofs.Cases.{by_cases}
use Rattle.qspi.specs.declared.transfer.Sink.{Sink}
use Rattle.spi_flash.specs.Path.{delays, Bounded}
use Rattle.spi_flash.proofs.Paths.{actions, Never}
use Rattle.spi_flash.proofs.Laws.{bounded-more, bounded-guard, bounded-never, never-left, never-then, never-refused, answered, ended}
use Rattle.flash_runs.specs.Weight.{Figures}
use Rattle.flash_runs.proofs.Weighing.{Weighs, delay_figures, delays-weigh, actions-weigh}
use Rattle.spi_nand.specs.Config.{in_bounds}
use Rattle.spi_nand.specs.declared.opcode.Operation.{Operation}
use Rattle.spi_nand.specs.WaitTable.{largest_of}
use Rattle.spi_nand.specs.declared.config.SpiNandConfig.{SpiNandConfig}
use Rattle.spi_nand.specs.declared.call.Call.{Call}
use Rattle.spi_nand.specs.declared.setup.Setup.{Setup}
use Rattle.nand_runs.specs.Rust.{wait-ready}
use Rattle.nand_runs.proofs.AsCoded.{read-cache, is-bad-block, mark-bad-block}
use Rattle.nand_runs.specs.Program.{page_taken, rust_program}
use Rattle.nand_runs.proofs.AsCoded.{coded_rust, coded}
use Rattle.nand_runs.specs.Bound.{construction_bound, mark_bound, delay_bound, weight_of, wait_actions, most_actions}
use Rattle.nand_runs.proofs.Pages.{no-marker}
use Rattle.nand_runs.proofs.Waits.{wait-delays, wait-actions}
use Rattle.nand_runs.proofs.Weights.{bounded-with-config, bounded-refused-page, bounded-is-bad, bounded-mark, weighed}

-- ---- the delays

abbrev asked : Figures Operation
asked = delay_figures largest_of

delay-figures : Weighs delays asked wait-ready
delay-figures = delays-weigh wait-ready largest_of wait-delays

module _ (flash : Setup) (bounds : in_bounds flash.geometry ≡ true) where
  -- without spare bytes there is no marker to read, so is_bad_block comes to no answer
  pub never-marker : flash.geometry.oob_size ≡ 0 → Never (read-cache flash flash.geometry.page_size 1 Sink.Number)
  unfolding read-cache
  never-marker z = never-refused _ _ _ (ap not (no-marker flash.geometry bounds z))

  pub never-is-bad : (block : ℕ) → flash.geometry.oob_size ≡ 0 → Never (is-bad-block flash block)
  unfolding is-bad-block
  never-is-bad block z = never-then _ (never-then _ (never-left _ (never-marker z)))

  bounded-marking : (block : ℕ) → Bounded delays (mark_bound flash.geometry) (mark-bad-block flash block)
  unfolding mark-bad-block
  bounded-marking block =
      by_cases (eqb flash.geometry.oob_size 0)
      (λ e. rw e (bounded-guard _ _ (λ d. bounded-never _ (never-is-bad block (eqb-true flash.geometry.oob_size 0 e)) (bounded-is-bad delay-figures flash block))))
      (λ e. rw e (bounded-more (omega arith) (bounded-mark delay-figures flash bounds block)))

-- a page that is too large is refused once the id is read
bounded-construction : (flash : Setup) → in_bounds flash.geometry ≡ true → (config : SpiNandConfig) (b d : ℕ) → Bounded delays (construction_bound config) (coded flash (Call.WithConfig config) b d)
unfolding coded_rust rust_program
bounded-construction flash h config b d =
    by_cases (page_taken config.geometry)
    (λ e. rw e (answered _ (omega arith) (bounded-with-config delay-figures config)))
    (λ e. rw e (bounded-more (omega arith) (bounded-refused-page delay-figures)))

within : (flash : Setup) → in_bounds flash.geometry ≡ true → (call : Call) (b d : ℕ) → weight_of asked flash call b ≤ delay_bound flash call b → Bounded delays (delay_bound flash call b) (coded flash call b d)
within flash h call b d e = bounded-more e (weighed delay-figures flash h call b d)

pub bounded : (flash : Setup) → in_bounds flash.geometry ≡ true → (call : Call) (b d : ℕ) → Bounded delays (delay_bound flash call b) (coded flash call b d)
unfolding coded_rust rust_program delay_bound weight_of
bounded flash h Call.New b d = within flash h Call.New b d (omega arith)
bounded flash h (Call.WithConfig config) b d = bounded-construction flash h config b d
bounded flash h Call.Info b d = within flash h Call.Info b d (omega arith)
bounded flash h Call.Config b d = within flash h Call.Config b d (omega arith)
bounded flash h Call.Geometry b d = within flash h Call.Geometry b d (omega arith)
bounded flash h Call.Free b d = within flash h Call.Free b d (omega arith)
bounded flash h Call.DisableQuad b d = within flash h Call.DisableQuad b d (omega arith)
bounded flash h (Call.WriteRegister register value) b d = within flash h (Call.WriteRegister register value) b d (omega arith)
bounded flash h Call.WriteEnable b d = within flash h Call.WriteEnable b d (omega arith)
bounded flash h Call.ReadStatus b d = within flash h Call.ReadStatus b d (omega arith)
bounded flash h Call.ReadConfiguration b d = within flash h Call.ReadConfiguration b d (omega arith)
bounded flash h Call.ReadProtection b d = within flash h Call.ReadProtection b d (omega arith)
bounded flash h Call.Reset b d = within flash h Call.Reset b d (omega arith)
bounded flash h Call.JedecId b d = within flash h Call.JedecId b d (omega arith)
bounded flash h Call.ResetAndIdentify b d = within flash h Call.ResetAndIdentify b d (omega arith)
bounded flash h Call.EnsureConfiguration b d = within flash h Call.EnsureConfiguration b d (omega arith)
bounded flash h Call.Unprotect b d = within flash h Call.Unprotect b d (omega arith)
bounded flash h (Call.PageRead page) b d = within flash h (Call.PageRead page) b d (omega arith)
bounded flash h (Call.ReadCache column) b d = within flash h (Call.ReadCache column) b d (omega arith)
bounded flash h (Call.LoadProgramData column) b d = within flash h (Call.LoadProgramData column) b d (omega arith)
bounded flash h (Call.ProgramExecute page) b d = within flash h (Call.ProgramExecute page) b d (omega arith)
bounded flash h (Call.ReadPage page) b d = within flash h (Call.ReadPage page) b d (omega arith)
bounded flash h (Call.WritePage page) b d = within flash h (Call.WritePage page) b d (omega arith)
bounded flash h (Call.EraseBlock block) b d = within flash h (Call.EraseBlock block) b d (omega arith)
bounded flash h (Call.Read offset) b d = within flash h (Call.Read offset) b d (omega arith)
bounded flash h (Call.IsBadBlock block) b d = within flash h (Call.IsBadBlock block) b d (omega arith)
bounded flash h (Call.MarkBadBlock block) b d = ended _ (omega arith) (bounded-marking flash h block)

-- ---- the actions

pub acts : (flash : Setup) → in_bounds flash.geometry ≡ true → (call : Call) (b d : ℕ) → Bounded actions (most_actions flash call b) (coded flash call b d)
acts = weighed (actions-weigh wait-ready wait_actions wait-actions)

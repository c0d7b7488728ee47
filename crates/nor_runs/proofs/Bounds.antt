-- The delays and the actions of the Rust's programs stay within their bounds.
use Rattle.std.specs.Prelude.{Option, Some, None}
use Rattle.spi_nor.specs.declared.config.NorQuadConfig.{NorQuadConfig}
use Prim.Native.Nat.{ℕ, ◌+◌, ◌≤◌}
use native.Mathlib.Omega.{arith}
use mathlib.Core.Bool.{Bool, true, false}
use Rattle.qspi.specs.Choice.{pick}
use Rattle.spi_flash.specs.Path.{delays, Bounded}
use Rattle.spi_flash.proofs.Paths.{actions}
use Rattle.spi_flash.proofs.Laws.{bounded-more, ended}
use Rattle.flash_runs.specs.Weight.{Figures}
use Rattle.flash_runs.proofs.Supplies.{Bounds}
use Rattle.flash_runs.proofs.Weighing.{Weighs, delay_figures, delays-weigh, actions-weigh}
use Rattle.spi_nor.specs.declared.opcode.Operation.{Operation}
use Rattle.nor_runs.specs.Rust.{wait-ready}
use Rattle.spi_nor.specs.Transfer.{erase_operation}
use Rattle.spi_nor.specs.WaitTable.{largest_of}
use Rattle.nor_runs.specs.Program.{program_of}
use Rattle.nor_runs.specs.Run.{nor_driver}
use Rattle.nor_runs.specs.Bound.{page_taken, quad_bound, unit_bound, delay_bound, quad_weight, weight_of, wait_actions, most_actions}
use Rattle.spi_nor.specs.declared.phase.EraseKind.{EraseKind}
use Rattle.spi_nor.specs.declared.call.Call.{Call}
use Rattle.spi_nor.specs.declared.setup.Setup.{Setup}
use Rattle.nor_runs.proofs.AsCoded.{coded}
use Rattle.nor_runs.proofs.Agrees.{same}
use Rattle.nor_runs.proofs.Waits.{wait-delays, wait-actions}
use Rattle.nor_runs.proofs.Weights.{bounded-erase, weighed}

-- ---- the delays

abbrev asked : Figures Operation
asked = delay_figures largest_of

delay-figures : Weighs delays asked wait-ready
delay-figures = delays-weigh wait-ready largest_of wait-delays

unit-delays : (kind : EraseKind) → largest_of (erase_operation kind) ≤ unit_bound kind
unit-delays EraseKind.Sector = omega arith
unit-delays EraseKind.Block = omega arith

construction-delays : (taken : Bool) (q : Option NorQuadConfig) → 0 + 0 + pick taken (quad_weight asked q) 0 ≤ pick taken (quad_bound q) 0
construction-delays true None = omega arith
construction-delays true (Some q) = omega arith
construction-delays false q = omega arith

within : (flash : Setup) (call : Call) (b d : ℕ) → Bounds nor_driver flash call b d → weight_of asked flash call b d ≤ delay_bound flash call d → Bounded delays (delay_bound flash call d) (program_of flash call b d)
within flash call b d h e = rw (same flash call b d h) (bounded-more e (weighed delay-figures flash call b d h))

pub bounded : (flash : Setup) (call : Call) (b d : ℕ) → Bounds nor_driver flash call b d → Bounded delays (delay_bound flash call d) (program_of flash call b d)
unfolding coded delay_bound weight_of
bounded flash Call.New b d h = within flash Call.New b d h (omega arith)
bounded flash (Call.WithConfig config) b d h = within flash (Call.WithConfig config) b d h (construction-delays (page_taken config.device) config.quad)
bounded flash Call.Config b d h = within flash Call.Config b d h (omega arith)
bounded flash Call.Device b d h = within flash Call.Device b d h (omega arith)
bounded flash Call.Id b d h = within flash Call.Id b d h (omega arith)
bounded flash Call.Free b d h = within flash Call.Free b d h (omega arith)
bounded flash Call.ReadStatus1 b d h = within flash Call.ReadStatus1 b d h (omega arith)
bounded flash Call.ReadStatus2 b d h = within flash Call.ReadStatus2 b d h (omega arith)
bounded flash Call.IsBusy b d h = within flash Call.IsBusy b d h (omega arith)
bounded flash Call.JedecId b d h = within flash Call.JedecId b d h (omega arith)
bounded flash Call.UniqueId b d h = within flash Call.UniqueId b d h (omega arith)
bounded flash Call.QuadEnabled b d h = within flash Call.QuadEnabled b d h (omega arith)
bounded flash Call.EnableQuad b d h = within flash Call.EnableQuad b d h (omega arith)
bounded flash Call.DisableQuad b d h = within flash Call.DisableQuad b d h (omega arith)
bounded flash (Call.Read offset) b d h = within flash (Call.Read offset) b d h (omega arith)
bounded flash (Call.Write offset) b d h = within flash (Call.Write offset) b d h (omega arith)
bounded flash Call.Unprotect b d h = within flash Call.Unprotect b d h (omega arith)
bounded flash (Call.Erase from to) b d h = rw (same flash (Call.Erase from to) b d h) (ended _ (omega arith) (bounded-erase delay-figures flash unit_bound (λ kind. omega (arith, unit-delays kind)) h from to))
bounded flash (Call.EraseSector offset) b d h = within flash (Call.EraseSector offset) b d h (omega arith)
bounded flash (Call.EraseBlock offset) b d h = within flash (Call.EraseBlock offset) b d h (omega arith)

-- ---- the actions

pub acts : (flash : Setup) (call : Call) (b d : ℕ) → Bounds nor_driver flash call b d → Bounded actions (most_actions flash call b d) (program_of flash call b d)
acts flash call b d h = rw (same flash call b d h) (weighed (actions-weigh wait-ready wait_actions wait-actions) flash call b d h)

-- The sums of a wait: its delays, its actions, and replies that bring it to the largest sum.
use Prim.Native.Nat.{ℕ, suc, ◌+◌, ◌-◌}
use native.Mathlib.Omega.{arith}
use mathlib.Core.List.{List}
use mathlib.Core.Path.{◌≡◌, refl}
use lib.Dec.{lit<}
use Rattle.spi_flash.specs.declared.wait.Timings.{Timings}
use Rattle.spi_flash.specs.WaitLaw.{wait_loop, waiting, delayed_wait}
use Rattle.spi_flash.specs.Path.{delays, Bounded, Ends}
use Rattle.spi_flash.proofs.Paths.{actions}
use Rattle.spi_flash.proofs.Laws.{bounded-more, ends-eq, ends-ret, ends-bind, ends-then, ends-transfer}
use Rattle.spi_flash.proofs.Replies.{byte}
use Rattle.spi_flash.proofs.WaitActions.{delayed-actions}
use Rattle.spi_nand.specs.Opcode.{REG-STATUS, timings_of}
use Rattle.spi_nand.specs.Command.{get_feature_command}
use Rattle.spi_nand.specs.Status.{busy_of, busy_value}
use Rattle.spi_nand.specs.WaitTable.{largest_of}
use Rattle.spi_nand.specs.declared.opcode.Operation.{Operation}
use Rattle.spi_nand.proofs.WaitTable.{wait-table}
use Rattle.nand_runs.specs.Bound.{wait_actions}
use Rattle.nand_runs.specs.Rust.{wait-ready}

pub wait-delays : (operation : Operation) → Bounded delays (largest_of operation) (wait-ready operation)
unfolding wait-ready
wait-delays operation = bounded-more (omega (arith, wait-table.largest operation)) (wait-table.law operation).bound

pub wait-ends : (given : List ℕ) (operation : Operation) → Ends given delays (largest_of operation) tt (wait-ready operation)
unfolding wait-ready
wait-ends given operation = ends-eq (wait-table.largest operation) ((wait-table.law operation).reached given)

pub wait-actions : (operation : Operation) → Bounded actions (wait_actions operation) (wait-ready operation)
unfolding wait-ready
wait-actions operation =
    bounded-more (omega (arith, wait-table.looked operation))
    (delayed-actions (get_feature_command REG-STATUS) busy_value (timings_of operation) (wait-table.law operation))

-- a page load whose first look finds the part ready
first-delay : (timings_of Operation.PageRead).initial_us + 0 ≡ 10
unfolding timings_of
first-delay = refl

ready-loop : (given : List ℕ) (timings : Timings) (fuel sum : ℕ) → Ends given delays 0 tt (wait_loop (get_feature_command REG-STATUS) busy_value (suc fuel) timings sum)
unfolding wait_loop busy_of
ready-loop given timings fuel sum = ends-bind _ (ends-transfer 0 (byte given 0 (lit< tt))) ends-ret

pub wait-soonest : (given : List ℕ) → Ends given delays 10 tt (wait-ready Operation.PageRead)
unfolding wait-ready delayed_wait waiting
wait-soonest given =
    let timings = timings_of Operation.PageRead in
    ends-eq first-delay (ends-then (ends-transfer 0 refl) (ready-loop given timings (timings.timeout_us - timings.initial_us) timings.initial_us))

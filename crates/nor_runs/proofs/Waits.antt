-- The sums of a wait: its delays, its actions, and replies that bring it to the largest sum.
use Prim.Native.Nat.{ℕ}
use native.Mathlib.Omega.{arith}
use mathlib.Core.List.{List}
use Rattle.spi_flash.specs.Path.{delays, Bounded, Ends}
use Rattle.spi_flash.proofs.Paths.{actions}
use Rattle.spi_flash.proofs.Laws.{bounded-more, ends-eq}
use Rattle.spi_flash.proofs.WaitActions.{prompt-actions}
use Rattle.spi_nor.specs.Opcode.{timings_of}
use Rattle.spi_nor.specs.Command.{read_status1_command}
use Rattle.spi_nor.specs.WaitTable.{largest_of}
use Rattle.nor_runs.specs.Bound.{wait_actions}
use Rattle.nor_runs.specs.Rust.{busy_value, wait-ready}
use Rattle.spi_nor.specs.declared.opcode.Operation.{Operation}
use Rattle.spi_nor.proofs.WaitTable.{wait-table}

pub wait-delays : (operation : Operation) → Bounded delays (largest_of operation) (wait-ready operation)
unfolding wait-ready
wait-delays operation = bounded-more (omega (arith, wait-table.largest operation)) (wait-table.law operation).bound

pub wait-ends : (given : List ℕ) (operation : Operation) → Ends given delays (largest_of operation) tt (wait-ready operation)
unfolding wait-ready
wait-ends given operation = ends-eq (wait-table.largest operation) ((wait-table.law operation).reached given)

pub wait-actions : (operation : Operation) → Bounded actions (wait_actions operation) (wait-ready operation)
unfolding wait-ready
wait-actions operation =
    bounded-more (omega (arith, wait-table.looked operation))
    (prompt-actions read_status1_command busy_value (timings_of operation) (wait-table.rule operation).first (wait-table.law operation))

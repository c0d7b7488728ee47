-- The rule of the wait table: one test over its rows, which computes. The wait law, and the figures, at each operation.
-- Assumes nothing.
use Prim.Native.Nat.{ℕ, ◌+◌, ◌^◌, ◌<◌}
use mathlib.Core.Path.{◌≡◌, refl}
use mathlib.Core.Bool.{Bool, true, ◌&&◌}
use lib.Dec.{eqb, leb, ltb, lit<}
use borrow.Author.Tests.{eqb-true, leb-true, ltb-true}
use Rattle.spi_flash.specs.WaitLaw.{WaitLaw, prompt_wait, largest_sum, looks}
use Rattle.spi_flash.specs.declared.wait.Timings.{Timings}
use Rattle.spi_flash.proofs.Table.{both, at}
use Rattle.spi_flash.proofs.Waiting.{wait-in-general}
use Rattle.spi_nor.specs.Opcode.{wait_row, wait_table, row_of, row_at, timings_of}
use Rattle.spi_nor.specs.Status.{busy_value}
use Rattle.spi_nor.specs.Command.{read_status1_command}
use Rattle.spi_nor.specs.WaitTable.{RowRule, largest_of, looks_of, WaitTable}
use Rattle.spi_nor.specs.declared.opcode.Operation.{Operation}

-- `RowRule` as a test
abbrev ruled : Timings → Bool
ruled t = eqb t.initial_us 0 && leb 1 t.poll_us && ltb (t.timeout_us + t.poll_us) (2 ^ 32)

told : (t : Timings) → ruled t ≡ true → RowRule t
told t h =
    let all = both _ _ h in
    let delays = both _ _ all.0 in
    record { first = eqb-true _ _ delays.0; poll = leb-true _ _ delays.1; fits = ltb-true _ _ all.1 }

row-rule : (row : ℕ) → row < 4 → RowRule (row_at row)
row-rule row h = told (row_at row) (at ruled wait_table (wait_row 0 0 0) refl row h)

row_below : (operation : Operation) → row_of operation < 4
row_below Operation.PageProgram = lit< tt
row_below Operation.SectorErase = lit< tt
row_below Operation.BlockErase = lit< tt
row_below Operation.StatusWrite = lit< tt

operation-rule : (operation : Operation) → RowRule (timings_of operation)
unfolding timings_of
operation-rule operation = row-rule (row_of operation) (row_below operation)

-- a status byte 0 is ready, 1 busy: the general law holds of the busy test
law : (operation : Operation) → WaitLaw read_status1_command busy_value (timings_of operation) (prompt_wait read_status1_command busy_value (timings_of operation))
law operation =
    let rule = operation-rule operation in
    wait-in-general.prompt read_status1_command busy_value refl refl (timings_of operation) rule.first rule.poll

largest : (operation : Operation) → largest_sum (timings_of operation) ≡ largest_of operation
unfolding timings_of
largest Operation.PageProgram = refl
largest Operation.SectorErase = refl
largest Operation.BlockErase = refl
largest Operation.StatusWrite = refl

looked : (operation : Operation) → looks (timings_of operation) ≡ looks_of operation
unfolding timings_of
looked Operation.PageProgram = refl
looked Operation.SectorErase = refl
looked Operation.BlockErase = refl
looked Operation.StatusWrite = refl

pub wait-table : WaitTable
wait-table = record { row = row-rule; rule = operation-rule; law = law; largest = largest; looked = looked }

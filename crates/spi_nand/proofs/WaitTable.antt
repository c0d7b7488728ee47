-- The rule of the wait table: one test over its rows, which computes. The wait law, and the figures, at each operation.
use Prim.Native.Nat.{ℕ, ◌+◌, ◌^◌, ◌<◌}
use mathlib.Core.Path.{◌≡◌, refl}
use mathlib.Core.Bool.{Bool, true, ◌&&◌}
use lib.Dec.{leb, ltb, lit<}
use borrow.Author.Tests.{leb-true, ltb-true}
use Rattle.spi_flash.specs.WaitLaw.{WaitLaw, delayed_wait, largest_sum, looks}
use Rattle.spi_flash.specs.declared.wait.Timings.{Timings}
use Rattle.spi_flash.proofs.Table.{both, at}
use Rattle.spi_flash.proofs.Waiting.{wait-in-general}
use Rattle.spi_nand.specs.Opcode.{REG-STATUS, limits, wait_limits, row_of, row_at, timings_of}
use Rattle.spi_nand.specs.Status.{busy_of, busy_value}
use Rattle.spi_nand.specs.Command.{get_feature_command}
use Rattle.spi_nand.specs.WaitTable.{RowRule, largest_of, looks_of, WaitTable}
use Rattle.spi_nand.specs.declared.opcode.Operation.{Operation}

-- `RowRule` as a test
abbrev ruled : Timings → Bool
ruled t =
    leb 1 t.initial_us && leb 1 t.poll_us && ltb t.initial_us t.timeout_us
    && ltb (t.timeout_us + t.poll_us) (2 ^ 32)

told : (t : Timings) → ruled t ≡ true → RowRule t
told t h =
    let all = both _ _ h in
    let three = both _ _ all.0 in
    let delays = both _ _ three.0 in record {
      first = leb-true _ _ delays.0;
      poll = leb-true _ _ delays.1;
      below = ltb-true _ _ three.1;
      fits = ltb-true _ _ all.1;
    }

row-rule : (row : ℕ) → row < 5 → RowRule (row_at row)
row-rule row h = told (row_at row) (at ruled wait_limits (limits 0 0 0) refl row h)

row_below : (operation : Operation) → row_of operation < 5
row_below Operation.Reset = lit< tt
row_below Operation.PageRead = lit< tt
row_below Operation.Program = lit< tt
row_below Operation.Erase = lit< tt
row_below Operation.WriteRegister = lit< tt

operation-rule : (operation : Operation) → RowRule (timings_of operation)
unfolding timings_of
operation-rule operation = row-rule (row_of operation) (row_below operation)

-- a status byte 0 is ready, 1 busy: the general law holds of the busy test
law : (operation : Operation) →
    WaitLaw (get_feature_command REG-STATUS) busy_value (timings_of operation) (delayed_wait (get_feature_command REG-STATUS) busy_value (timings_of operation))
unfolding busy_of
law operation = wait-in-general.delayed (get_feature_command REG-STATUS) busy_value refl refl (timings_of operation) (operation-rule operation).poll

largest : (operation : Operation) → largest_sum (timings_of operation) ≡ largest_of operation
unfolding timings_of
largest Operation.Reset = refl
largest Operation.PageRead = refl
largest Operation.Program = refl
largest Operation.Erase = refl
largest Operation.WriteRegister = refl

looked : (operation : Operation) → looks (timings_of operation) ≡ looks_of operation
unfolding timings_of
looked Operation.Reset = refl
looked Operation.PageRead = refl
looked Operation.Program = refl
looked Operation.Erase = refl
looked Operation.WriteRegister = refl

pub wait-table : WaitTable
wait-table = record { row = row-rule; rule = operation-rule; law = law; largest = largest; looked = looked }

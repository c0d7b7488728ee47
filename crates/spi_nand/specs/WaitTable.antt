-- What holds of the table of wait limits: the rule of its rows, the wait law at each operation, and the figures.
use Rattle.std.specs.Prelude.{ℕ, ◌+◌, ◌^◌, ◌≤◌, ◌<◌, ◌≡◌}
use Rattle.spi_flash.specs.WaitLaw.{WaitLaw, delayed_wait, largest_sum, looks}
use Rattle.spi_flash.specs.declared.wait.Timings.{Timings}
use Rattle.spi_nand.specs.Opcode.{REG-STATUS, row_at, timings_of}
use Rattle.spi_nand.specs.Status.{busy_value}
use Rattle.spi_nand.specs.Command.{get_feature_command}
use Rattle.spi_nand.specs.declared.opcode.Operation.{Operation}

-- a wait asks a delay before each look, its first delay alone is no timeout, and no sum leaves 32 bits
pub record RowRule (t : Timings) : Type 0 where
  pub first : 1 ≤ t.initial_us
  pub poll : 1 ≤ t.poll_us
  pub below : t.initial_us < t.timeout_us
  pub fits : t.timeout_us + t.poll_us < 2 ^ 32

-- the most delay that a wait asks (docs/SPECIFICATION.md, "Waits and bounds"); the polls of a program do not end on its limit
abbrev pub largest_of : Operation → ℕ
largest_of Operation.Reset = 500000
largest_of Operation.PageRead = 400000
largest_of Operation.Program = 400005
largest_of Operation.Erase = 400000
largest_of Operation.WriteRegister = 10000

-- and the most looks that it makes, each behind a delay
abbrev pub looks_of : Operation → ℕ
looks_of Operation.Reset = 50000
looks_of Operation.PageRead = 40000
looks_of Operation.Program = 26663
looks_of Operation.Erase = 7996
looks_of Operation.WriteRegister = 1000

pub record WaitTable : Type 0 where
  pub row : (row : ℕ) → row < 5 → RowRule (row_at row)
  pub rule : (operation : Operation) → RowRule (timings_of operation)
  pub law : (operation : Operation) →
      WaitLaw (get_feature_command REG-STATUS) busy_value (timings_of operation) (delayed_wait (get_feature_command REG-STATUS) busy_value (timings_of operation))
  pub largest : (operation : Operation) → largest_sum (timings_of operation) ≡ largest_of operation
  pub looked : (operation : Operation) → looks (timings_of operation) ≡ looks_of operation

-- What holds of the table of wait limits: the rule of its rows, the wait law at each operation, and the figures.
use Rattle.std.specs.Prelude.{ℕ, ◌+◌, ◌^◌, ◌≤◌, ◌<◌, ◌≡◌}
use Rattle.spi_flash.specs.WaitLaw.{WaitLaw, prompt_wait, largest_sum, looks}
use Rattle.spi_flash.specs.declared.wait.Timings.{Timings}
use Rattle.spi_nor.specs.Opcode.{row_at, timings_of}
use Rattle.spi_nor.specs.Status.{busy_value}
use Rattle.spi_nor.specs.Command.{read_status1_command}
use Rattle.spi_nor.specs.declared.opcode.Operation.{Operation}

-- the first look comes at once, a poll asks a delay, and no sum leaves 32 bits
pub record RowRule (t : Timings) : Type 0 where
  pub first : t.initial_us ≡ 0
  pub poll : 1 ≤ t.poll_us
  pub fits : t.timeout_us + t.poll_us < 2 ^ 32

-- the most delay that a wait asks (docs/SPECIFICATION.md, "Waits and bounds"): a page of `write`, an erase of either kind, a register write
abbrev pub largest_of : Operation → ℕ
largest_of Operation.PageProgram = 20000
largest_of Operation.SectorErase = 1000000
largest_of Operation.BlockErase = 5000000
largest_of Operation.StatusWrite = 100000

-- and the most looks that it makes: one before any delay, and one after each poll of 100
abbrev pub looks_of : Operation → ℕ
looks_of Operation.PageProgram = 201
looks_of Operation.SectorErase = 10001
looks_of Operation.BlockErase = 50001
looks_of Operation.StatusWrite = 1001

pub record WaitTable : Type 0 where
  pub row : (row : ℕ) → row < 4 → RowRule (row_at row)
  pub rule : (operation : Operation) → RowRule (timings_of operation)
  pub law : (operation : Operation) →
      WaitLaw read_status1_command busy_value (timings_of operation) (prompt_wait read_status1_command busy_value (timings_of operation))
  pub largest : (operation : Operation) → largest_sum (timings_of operation) ≡ largest_of operation
  pub looked : (operation : Operation) → looks (timings_of operation) ≡ looks_of operation

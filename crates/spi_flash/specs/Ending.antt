-- How a step has ended the call: its number (docs/SPECIFICATION.md, "Refusals and numbers"), and the values as a trace prints them.
use Rattle.std.specs.Prelude.{ℕ, List}
use Rattle.spi_flash.specs.Error.{error_number, error_values}
use Rattle.spi_flash.specs.Shape.{Given, acts, ends, fails, refuses}
use Rattle.spi_flash.specs.declared.error.FlashError.{FlashError}

pub data Ending : Type 0 where
  goes : Ending
  ends_with : (number : ℕ) (values : List ℕ) → Ending

abbrev pub ends_by : FlashError → Ending
ends_by error = ends_with (error_number error) (error_values error)

-- 0 is success; an action has not ended, and has no number
abbrev pub ending_in : {A : Type 0} → (A → List ℕ) → Given A → Ending
ending_in values (acts action) = goes
ending_in values (ends answer) = ends_with 0 (values answer)
ending_in values (fails error) = ends_by error
ending_in values (refuses error) = ends_by error

-- 0 where the call goes on
abbrev pub number_in : Ending → ℕ
number_in goes = 0
number_in (ends_with number values) = number

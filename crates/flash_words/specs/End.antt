-- The lines of what a driver gives.
use Rattle.std.specs.Prelude.{List, ◌++◌, ℕ}
use Rattle.qspi.specs.Shown.{shown_of}
use Rattle.lines.specs.Line.{line_of, end_line}
use Rattle.spi_flash.specs.Error.{error_number, error_values}
use Rattle.spi_flash.specs.declared.error.FlashError.{FlashError}
use Rattle.spi_flash.specs.declared.loan.Takes.{Takes}
use Rattle.trace_words.specs.Loan.{data_of}
use Rattle.trace_words.specs.Print.{count_line, values_line}
use Rattle.flash_calls.specs.Answer.{answer_values}
use Rattle.flash_calls.specs.declared.given.Answer.{Answer}
use Rattle.machine.specs.declared.state.Given.{Given}

-- E and the number of the end, 0 for success; then V and what the answer has
unfoldable pub ended_lines : Answer → List ℕ
ended_lines answer = end_line 0 ++ values_line (answer_values answer)

unfoldable pub failed_lines : FlashError → List ℕ
failed_lines error = end_line (error_number error) ++ values_line (error_values error)

-- "then a line for each action given out", and the lines of the call's end
unfoldable pub given_lines : Given Answer → Takes → ℕ → List ℕ → List ℕ → List ℕ
given_lines (Given.Act action) takes n scratch room = line_of (shown_of action scratch (data_of takes room))
given_lines (Given.Ended answer) takes n scratch room = ended_lines answer ++ count_line takes n
given_lines (Given.Failed error) takes n scratch room = failed_lines error ++ count_line takes n
given_lines (Given.Refused error) takes n scratch room = failed_lines error ++ count_line takes n

-- What the replay program prints.
use Rattle.std.specs.Prelude.{ℕ, Bool, true, false, List, length, leb}
use Rattle.qspi.specs.Choice.{pick}
use Rattle.qspi.specs.Shown.{shown_of}
use Rattle.spi_flash.specs.declared.error.FlashError.{FlashError}
use Rattle.lines.specs.Line.{line_of, end_line}
use Rattle.nor_driver.specs.Answer.{ending_number}
use Rattle.nor_driver.specs.Call.{not_built}
use Rattle.nor_driver.specs.Settle.{refused_of}
use Rattle.spi_nor.specs.declared.call.Call.{Call}
use Rattle.spi_nor.specs.declared.answer.Answer.{Answer}
use Rattle.machine.specs.declared.state.Given.{Given}
use Rattle.tape.specs.Replay.{replay_at}
use Rattle.nor_tape.specs.Replay.{Replay, begun_over}

-- a tape on standard input, 15 where it is too long, and a NOR constructed on one line (docs/SPECIFICATION.md, "The reply tape")
unfoldable pub begun_input : List ℕ → ℕ → Replay
begun_input input s =
    pick (leb (length input) 65536) (begun_over not_built Call.New input s s s) (replay_at (refused_of not_built FlashError.MalformedTape) 0)

unfoldable pub over_at : Given Answer → Bool
over_at (Given.Act action) = false
over_at (Given.Ended answer) = true
over_at (Given.Failed error) = true
over_at (Given.Refused error) = true

unfoldable pub over_of : Replay → Bool
over_of replay = over_at replay.stepped.given

-- "one line an action", "then E and the number"
unfoldable pub line_at : Given Answer → List ℕ → List ℕ
line_at (Given.Act action) scratch = line_of (shown_of action scratch scratch)
line_at (Given.Ended answer) scratch = end_line (ending_number (Given.Ended answer))
line_at (Given.Failed error) scratch = end_line (ending_number (Given.Failed error))
line_at (Given.Refused error) scratch = end_line (ending_number (Given.Refused error))

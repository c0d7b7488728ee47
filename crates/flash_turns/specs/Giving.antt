-- A turn that prints what the driver has given.
use Rattle.std.specs.Prelude.{ℕ, List}
use Rattle.lines.specs.Text.{Text, appended}
use Rattle.spi_flash.specs.declared.loan.Takes.{Takes}
use Rattle.machine.specs.declared.state.Given.{Given}
use Rattle.flash_calls.specs.declared.given.Answer.{Answer}
use Rattle.flash_words.specs.End.{given_lines}
use Rattle.trace_words.specs.Place.{end_mode, counted_of, in_mode}
use Rattle.trace_words.specs.Show.{ShownAt, shown_to}
use Rattle.trace_words.specs.declared.place.Mode.{Mode}
use Rattle.trace_words.specs.declared.place.Place.{Place}

abbrev pub given_mode : Given Answer → Takes → Mode
given_mode (Given.Act action) takes = Mode.Awaiting
given_mode (Given.Ended answer) takes = end_mode takes
given_mode (Given.Failed error) takes = end_mode takes
given_mode (Given.Refused error) takes = end_mode takes

-- with "the number of bytes delivered", by the driver's count
unfoldable pub giving_of : Place → Given Answer → ℕ → List ℕ → List ℕ → Text → ShownAt
giving_of place given count scratch room out =
    shown_to
    (in_mode place (given_mode given place.takes))
    (appended (given_lines given place.takes (counted_of place count) scratch room) out)

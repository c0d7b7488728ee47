-- A turn that prints and needs no driver.
use Rattle.std.specs.Prelude.{ℕ, ◌+◌, Bool, true, false, List, length, ltb}
use Rattle.lines.specs.Text.{Text, appended}
use Rattle.case_text.specs.Line.{line_number}
use Rattle.trace_words.specs.Loan.{buffer_of}
use Rattle.trace_words.specs.Print.{bad_line, piece_of}
use Rattle.trace_words.specs.Place.{in_mode}
use Rattle.trace_words.specs.declared.place.Mode.{Mode}
use Rattle.trace_words.specs.declared.place.Place.{Place}

-- where the trace stands, and what was printed
pub record ShownAt : Type 0 where
  pub place : Place
  pub text : Text

abbrev pub shown_to : Place → Text → ShownAt
shown_to place text = record { place = place; text = text }

abbrev pub mode_if : Bool → ℕ → Mode
mode_if true from = Mode.Showing (from + 16384)
mode_if false from = Mode.Reading

abbrev pub shown_mode : ℕ → ℕ → Mode
shown_mode len from = mode_if (ltb (from + 16384) len) from

unfoldable pub showing_of : Place → ℕ → List ℕ → Text → ShownAt
showing_of place from room out =
    shown_to
    (in_mode place (shown_mode (length (buffer_of place.takes room)) from))
    (appended (piece_of (buffer_of place.takes room) from) out)

-- "ends the output with the line bad case N", "and nothing after it"
unfoldable pub bad_of : Place → List ℕ → Text → ShownAt
bad_of place text out = shown_to (in_mode place Mode.Over) (appended (bad_line (line_number text place.at)) out)

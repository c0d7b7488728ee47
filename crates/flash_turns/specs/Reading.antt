-- A turn that takes a line between two calls.
use Rattle.std.specs.Prelude.{ℕ, false, List, length, Option, Some, None}
use Rattle.qspi.specs.Choice.{pick}
use Rattle.lines.specs.Text.{Text, appended}
use Rattle.case_text.specs.Line.{line_at, next_of}
use Rattle.case_text.specs.Word.{word_of}
use Rattle.case_text.specs.declared.line.Line.{Line}
use Rattle.trace_words.specs.Heard.{is_call}
use Rattle.trace_words.specs.Loan.{laid_of}
use Rattle.trace_words.specs.Print.{call_line}
use Rattle.trace_words.specs.Between.{between_at}
use Rattle.trace_words.specs.Place.{in_mode, started_of}
use Rattle.trace_words.specs.declared.place.Mode.{Mode}
use Rattle.trace_words.specs.declared.place.Place.{Place}
use Rattle.flash_words.specs.declared.asked.Ask.{Ask}
use Rattle.flash_words.specs.declared.asked.Asked.{Asked}
use Rattle.flash_turns.specs.Settings.{settled_by}
use Rattle.flash_turns.specs.Words.{line_of, asked_of}
use Rattle.flash_turns.specs.declared.settings.Settings.{Settings}

-- where the turn leaves the trace, what it asks, the room and what was printed
pub record Called : Type 0 where
  pub settings : Settings
  pub place : Place
  pub ask : Ask
  pub room : List ℕ
  pub text : Text

abbrev pub called_to : Settings → Place → Ask → List ℕ → Text → Called
called_to settings place ask room text = record { settings = settings; place = place; ask = ask; room = room; text = text }

-- "For each call: call and its name"; a line that follows no rule is bad
abbrev pub called_at : Option Asked → Settings → Place → List ℕ → ℕ → List ℕ → Text → Called
called_at (Some asked) settings place line next room out =
    called_to settings (started_of asked.takes false next) (Ask.Begin asked) (laid_of asked.takes line room)
    (appended (call_line (word_of 1 line)) out)
called_at None settings place line next room out = called_to settings (in_mode place Mode.Bad) Ask.Nothing room out

unfoldable pub called_of : Settings → Place → List ℕ → List ℕ → Text → Called
called_of settings place text room out =
    called_at (asked_of (line_at text place.at) settings (length room)) settings place (line_at text place.at) (next_of text place.at) room out

-- a call, any other line, or one that follows no rule
abbrev pub reading_at : Option Line → Settings → Place → List ℕ → List ℕ → Text → Called
reading_at (Some line) settings place text room out =
    pick (is_call line) (called_of settings place text room out)
    (called_to (settled_by settings line) (between_at place line (next_of text place.at)) Ask.Nothing room out)
reading_at None settings place text room out = called_to settings (in_mode place Mode.Bad) Ask.Nothing room out

unfoldable pub reading_of : Settings → Place → List ℕ → List ℕ → Text → Called
reading_of settings place text room out = reading_at (line_of text place.at settings) settings place text room out

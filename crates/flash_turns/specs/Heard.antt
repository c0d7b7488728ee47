-- What a line says where a reply is awaited. A line that follows no rule says nothing.
use Rattle.std.specs.Prelude.{ℕ, List, Option, Some, None}
use Rattle.qspi.specs.Choice.{pick}
use Rattle.case_text.specs.Line.{line_at}
use Rattle.case_text.specs.declared.line.Line.{Line}
use Rattle.flash_words.specs.declared.asked.Asked.{Asked}
use Rattle.trace_words.specs.Heard.{is_call, heard_in}
use Rattle.trace_words.specs.declared.heard.Heard.{Heard}
use Rattle.flash_turns.specs.Words.{line_of, asked_of}
use Rattle.flash_turns.specs.declared.settings.Settings.{Settings}

-- the next call where a reply is awaited: none is left
abbrev pub call_at : Option Asked → Option Heard
call_at (Some asked) = Some Heard.Spent
call_at None = None

unfoldable pub call_heard : List ℕ → Settings → ℕ → Option Heard
call_heard line settings room = call_at (asked_of line settings room)

abbrev pub heard_by : Option Line → Option Heard → Option Heard
heard_by (Some line) call = pick (is_call line) call (Some (heard_in line))
heard_by None call = None

unfoldable pub heard_of : List ℕ → ℕ → Settings → ℕ → Option Heard
heard_of text at settings room = heard_by (line_of text at settings) (call_heard (line_at text at) settings room)

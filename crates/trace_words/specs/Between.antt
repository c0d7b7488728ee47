-- A line between two calls.
use Rattle.std.specs.Prelude.{ℕ, false}
use Rattle.qspi.specs.Choice.{pick}
use Rattle.case_text.specs.declared.line.Line.{Line}
use Rattle.trace_words.specs.Place.{in_mode, read_to}
use Rattle.trace_words.specs.declared.place.Mode.{Mode}
use Rattle.trace_words.specs.declared.place.Place.{Place}

-- "Settings may stand between calls": no reply follows one
abbrev pub settled_at : Place → ℕ → Place
settled_at place next = record place { at = next; replies = false }

-- "Replies left when a call ends are passed over"; elsewhere a reply does not follow the page
unfoldable pub left_over : Place → ℕ → Place
left_over place next = pick place.replies (read_to place next) (in_mode place Mode.Bad)

unfoldable pub between_at : Place → Line → ℕ → Place
between_at place Line.End next = in_mode place Mode.Over
between_at place Line.Passed next = read_to place next
between_at place Line.Done next = left_over place next
between_at place Line.Data next = left_over place next
between_at place (Line.BusError code) next = left_over place next
between_at place (Line.Quad q) next = settled_at place next
between_at place (Line.Own n) next = settled_at place next
between_at place Line.Call next = place

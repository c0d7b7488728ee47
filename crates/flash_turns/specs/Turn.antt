-- Any turn of a trace, from what the driver gave last and its count of bytes delivered.
use Rattle.std.specs.Prelude.{ℕ, List, length}
use Rattle.lines.specs.Text.{Text}
use Rattle.machine.specs.declared.state.Given.{Given}
use Rattle.flash_calls.specs.declared.given.Answer.{Answer}
use Rattle.flash_words.specs.declared.asked.Ask.{Ask}
use Rattle.trace_words.specs.Show.{ShownAt, showing_of, bad_of}
use Rattle.trace_words.specs.declared.place.Mode.{Mode}
use Rattle.trace_words.specs.declared.place.Place.{Place}
use Rattle.flash_turns.specs.declared.settings.Settings.{Settings}
use Rattle.flash_turns.specs.Answering.{Answered, answering_of}
use Rattle.flash_turns.specs.Giving.{giving_of}
use Rattle.flash_turns.specs.Reading.{Called, reading_of}
use Rattle.flash_turns.specs.State.{turn_to}
use Rattle.flash_turns.specs.declared.answering.Next.{Next}
use Rattle.flash_turns.specs.declared.state.Turn.{Turn}

abbrev pub next_turn : Settings → Next → Turn
next_turn settings next = turn_to settings next.place next.ask

-- where a turn leaves the trace, what it asks, the room, the reply's memory and what was printed
pub record TurnTaken : Type 0 where
  pub settings : Settings
  pub place : Place
  pub ask : Ask
  pub room : List ℕ
  pub reply : List ℕ
  pub text : Text

abbrev pub taken_to : Settings → Place → Ask → List ℕ → List ℕ → Text → TurnTaken
taken_to settings place ask room reply text =
    record { settings = settings; place = place; ask = ask; room = room; reply = reply; text = text }

abbrev pub taken_called : List ℕ → Called → TurnTaken
taken_called reply c = taken_to c.settings c.place c.ask c.room reply c.text

abbrev pub taken_shown : Settings → List ℕ → List ℕ → ShownAt → TurnTaken
taken_shown settings room reply p = taken_to settings p.place Ask.Nothing room reply p.text

abbrev pub taken_answered : Settings → List ℕ → Text → Answered → TurnTaken
taken_answered settings room out a = taken_to settings a.next.place a.next.ask room a.reply out

abbrev pub turn_at : Mode → Settings → Place → Given Answer → ℕ → List ℕ → List ℕ → List ℕ → List ℕ → Text → TurnTaken
turn_at Mode.Reading settings place given count text scratch room reply out = taken_called reply (reading_of settings place text room out)
turn_at Mode.Giving settings place given count text scratch room reply out = taken_shown settings room reply (giving_of place given count scratch room out)
turn_at Mode.Awaiting settings place given count text scratch room reply out = taken_answered settings room out (answering_of settings place given text (length room) reply)
turn_at (Mode.Showing from) settings place given count text scratch room reply out = taken_shown settings room reply (showing_of place from room out)
turn_at Mode.Bad settings place given count text scratch room reply out = taken_shown settings room reply (bad_of place text out)
turn_at Mode.Over settings place given count text scratch room reply out = taken_to settings place Ask.Nothing room reply out

-- one turn; a trace that is over stays
unfoldable pub turn_of : Settings → Place → Given Answer → ℕ → List ℕ → List ℕ → List ℕ → List ℕ → Text → TurnTaken
turn_of settings place given count text scratch room reply out = turn_at place.mode settings place given count text scratch room reply out

-- Where a turn leaves a trace, and what it asks of the driver.
use Rattle.std.specs.Prelude.{Bool, true, false}
use Rattle.machine.specs.declared.state.Given.{Given}
use Rattle.flash_calls.specs.declared.given.Answer.{Answer}
use Rattle.flash_words.specs.declared.asked.Ask.{Ask}
use Rattle.trace_words.specs.Place.{started_of}
use Rattle.trace_words.specs.declared.place.Place.{Place}
use Rattle.flash_turns.specs.declared.settings.Settings.{Settings}
use Rattle.flash_turns.specs.declared.state.Turn.{Turn}

abbrev pub turn_to : Settings → Place → Ask → Turn
turn_to settings place ask = record { settings = settings; place = place; ask = ask }

-- the driver is not asked
abbrev pub shown_turn : Settings → Place → Turn
shown_turn settings place = turn_to settings place Ask.Nothing

-- a call that is turned away before its first action has not begun
abbrev pub begun_of : Given Answer → Bool
begun_of (Given.Act action) = true
begun_of (Given.Ended answer) = true
begun_of (Given.Failed error) = true
begun_of (Given.Refused error) = false

-- once the driver has been asked it is known of a call whether it has begun
unfoldable pub begun_in : Place → Ask → Given Answer → Place
begun_in place Ask.Nothing given = place
begun_in place (Ask.Begin asked) given = started_of asked.takes (begun_of given) place.at
begun_in place (Ask.Answer reply n takes) given = place
begun_in place (Ask.Stop error) given = place

-- A turn that answers the action that is out.
use Rattle.std.specs.Prelude.{ℕ, List}
use Rattle.machine.specs.declared.state.Given.{Given}
use Rattle.flash_calls.specs.declared.given.Answer.{Answer}
use Rattle.flash_words.specs.declared.asked.Ask.{Ask}
use Rattle.trace_words.specs.Place.{gave_to}
use Rattle.trace_words.specs.declared.place.Place.{Place}
use Rattle.flash_turns.specs.Hears.{Hearing, awaited_of}
use Rattle.flash_turns.specs.declared.hears.Hears.{Hears}
use Rattle.flash_turns.specs.declared.settings.Settings.{Settings}
use Rattle.flash_turns.specs.declared.answering.Next.{Next}

abbrev pub next_to : Place → Ask → Next
next_to place ask = record { place = place; ask = ask }

-- "A reply that does not fit ends the call's lines with E 14, no reply left with E 16"
unfoldable pub heard_then : Place → Hears → Next
heard_then place (Hears.Answer reply n next) = next_to (gave_to place next) (Ask.Answer reply n place.takes)
heard_then place (Hears.Stop error next) = next_to (gave_to place next) (Ask.Stop error)
heard_then place (Hears.Stay stays) = next_to stays Ask.Nothing

-- what follows, and the reply's memory
pub record Answered : Type 0 where
  pub next : Next
  pub reply : List ℕ

abbrev pub answered_to : Next → List ℕ → Answered
answered_to next reply = record { next = next; reply = reply }

abbrev pub answering_to : Place → Hearing → Answered
answering_to place h = answered_to (heard_then place h.hears) h.reply

unfoldable pub answering_of : Settings → Place → Given Answer → List ℕ → ℕ → List ℕ → Answered
answering_of settings place given text room reply = answering_to place (awaited_of given place settings text room reply)

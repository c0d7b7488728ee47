-- What the turn that awaits a reply hears.
use Rattle.std.specs.Prelude.{ℕ, ◌/◌, List, length, drop, ltb, Option, Some, None}
use Rattle.qspi.specs.Bus.{on_bus}
use Rattle.qspi.specs.Bytes.{delivered_of}
use Rattle.qspi.specs.Choice.{pick}
use Rattle.qspi.specs.declared.bus.Reply.{Reply}
use Rattle.case_text.specs.Line.{line_at, next_of}
use Rattle.case_text.specs.Number.{bytes_of}
use Rattle.spi_flash.specs.declared.error.FlashError.{FlashError}
use Rattle.machine.specs.declared.state.Given.{Given}
use Rattle.flash_calls.specs.declared.given.Answer.{Answer}
use Rattle.trace_words.specs.declared.heard.Heard.{Heard}
use Rattle.trace_words.specs.Place.{in_mode, read_to}
use Rattle.trace_words.specs.declared.place.Mode.{Mode}
use Rattle.trace_words.specs.declared.place.Place.{Place}
use Rattle.flash_turns.specs.Heard.{heard_of}
use Rattle.flash_turns.specs.declared.hears.Hears.{Hears}
use Rattle.flash_turns.specs.declared.settings.Settings.{Settings}

-- what is heard, and the reply's memory, which holds its bytes
pub record Hearing : Type 0 where
  pub hears : Hears
  pub reply : List ℕ

abbrev pub hears_to : Hears → List ℕ → Hearing
hears_to hears reply = record { hears = hears; reply = reply }

-- a reply for which there is no room fits no action: "A reply that does not fit ends the call's lines with E 14"
unfoldable pub data_hears : List ℕ → ℕ → List ℕ → Hearing
data_hears line next reply =
    hears_to
    (pick (ltb (length reply) (length (drop 1 line) / 2)) (Hears.Stop FlashError.Misfit next)
    (Hears.Answer Reply.Data (length (drop 1 line) / 2) next))
    (delivered_of reply 0 (bytes_of (drop 1 line)))

-- "then its replies, one a line, for each bus action in turn", "no reply left with E 16"
abbrev pub replied_at : Option Heard → Place → List ℕ → List ℕ → Hearing
replied_at (Some Heard.Passed) place text reply = hears_to (Hears.Stay (read_to place (next_of text place.at))) reply
replied_at (Some (Heard.Reply given)) place text reply = hears_to (Hears.Answer given 0 (next_of text place.at)) reply
replied_at (Some Heard.Bytes) place text reply = data_hears (line_at text place.at) (next_of text place.at) reply
replied_at (Some Heard.Spent) place text reply = hears_to (Hears.Stop FlashError.TapeSpent place.at) reply
replied_at None place text reply = hears_to (Hears.Stay (in_mode place Mode.Bad)) reply

unfoldable pub replied_of : Place → Settings → List ℕ → ℕ → List ℕ → Hearing
replied_of place settings text room reply = replied_at (heard_of text place.at settings room) place text reply

-- "Select and delay are answered done without a line"
unfoldable pub awaited_of : Given Answer → Place → Settings → List ℕ → ℕ → List ℕ → Hearing
awaited_of (Given.Act action) place settings text room reply =
    pick (on_bus action) (replied_of place settings text room reply) (hears_to (Hears.Answer Reply.Done 0 place.at) reply)
awaited_of (Given.Ended answer) place settings text room reply = hears_to (Hears.Stay (in_mode place Mode.Giving)) reply
awaited_of (Given.Failed error) place settings text room reply = hears_to (Hears.Stay (in_mode place Mode.Giving)) reply
awaited_of (Given.Refused error) place settings text room reply = hears_to (Hears.Stay (in_mode place Mode.Giving)) reply

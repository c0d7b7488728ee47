-- Where a trace stands in its text, and how that changes.
use Rattle.std.specs.Prelude.{ℕ, Bool, true, false}
use Rattle.qspi.specs.Choice.{pick}
use Rattle.spi_flash.specs.declared.loan.Takes.{Takes}
use Rattle.trace_words.specs.declared.place.Mode.{Mode}
use Rattle.trace_words.specs.declared.place.Place.{Place}

abbrev pub start_of : Place
start_of = record { takes = Takes.Nothing; begun = false; at = 0; replies = false; mode = Mode.Reading }

abbrev pub over_at : Mode → Bool
over_at Mode.Reading = false
over_at Mode.Giving = false
over_at Mode.Awaiting = false
over_at (Mode.Showing from) = false
over_at Mode.Bad = false
over_at Mode.Over = true

unfoldable pub over_of : Place → Bool
over_of place = over_at place.mode

abbrev pub in_mode : Place → Mode → Place
in_mode place mode = record place { mode = mode }

abbrev pub read_to : Place → ℕ → Place
read_to place next = record place { at = next }

-- a call handed to the driver: "then its replies, one a line"
abbrev pub started_of : Takes → Bool → ℕ → Place
started_of takes begun next = record { takes = takes; begun = begun; at = next; replies = true; mode = Mode.Giving }

abbrev pub gave_to : Place → ℕ → Place
gave_to place next = record place { at = next; replies = true; mode = Mode.Giving }

-- "the number of bytes delivered": none by a call that was turned away
abbrev pub counted_of : Place → ℕ → ℕ
counted_of place delivered = pick place.begun delivered 0

-- "for a call with a buffer: G and the number of bytes delivered; B and the whole buffer"
abbrev pub end_mode : Takes → Mode
end_mode Takes.Nothing = Mode.Reading
end_mode (Takes.Buffer n) = Mode.Showing 0
end_mode (Takes.Data n) = Mode.Reading

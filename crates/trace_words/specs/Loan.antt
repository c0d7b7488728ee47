-- What a call lends, at the beginning of the room.
use Rattle.std.specs.Prelude.{ℕ, List, [], take, replicate}
use Rattle.qspi.specs.Bytes.{delivered_of}
use Rattle.case_text.specs.Number.{bytes_of}
use Rattle.spi_flash.specs.declared.loan.Takes.{Takes}
use Rattle.trace_words.specs.Request.{digits_after}

abbrev pub buffer_of : Takes → List ℕ → List ℕ
buffer_of Takes.Nothing room = []
buffer_of (Takes.Buffer n) room = take n room
buffer_of (Takes.Data n) room = []

abbrev pub data_of : Takes → List ℕ → List ℕ
data_of Takes.Nothing room = []
data_of (Takes.Buffer n) room = []
data_of (Takes.Data n) room = take n room

-- "the buffer is filled with CC before the call"
unfoldable pub filled_of : ℕ → List ℕ → List ℕ
filled_of n room = delivered_of room 0 (replicate n 0xCC)

unfoldable pub laid_of : Takes → List ℕ → List ℕ → List ℕ
laid_of Takes.Nothing line room = room
laid_of (Takes.Buffer n) line room = filled_of n room
laid_of (Takes.Data n) line room = delivered_of room 0 (bytes_of (digits_after line))

-- What stands at a position of a tape, on every list of bytes and at every position.
use Rattle.std.specs.Prelude.{ℕ, ◌+◌, ◌-◌, Bool, true, false, List, [], length, get_or, take, drop, ltb, eqb, Option, Some, None}
use Rattle.std.proofs.Math.Seq.{slice}
use Rattle.qspi.specs.Choice.{pick}
use Rattle.qspi.specs.Bytes.{part_of, number_of}
use Rattle.qspi.specs.declared.bus.Reply.{Reply}
use Rattle.tape.specs.Tape.{done_kind, data_kind, error_kind, done_length, error_length, kind_width, length_width, header_length, trailer_length}
use Rattle.tape.specs.declared.record.Record.{Record}
use Rattle.tape.specs.declared.record.Taken.{Taken}

-- where the trailer starts
abbrev pub trailer_at : List ℕ → ℕ
trailer_at tape = length tape - trailer_length

-- the bytes from a position up to the trailer
unfoldable pub ahead_of : List ℕ → ℕ → List ℕ
ahead_of tape at = slice at (trailer_at tape) tape

-- the length in the header of the record that begins s
abbrev pub length_in : List ℕ → ℕ
length_in s = number_of (take length_width (drop kind_width s))

-- a record or none, and the position that it leaves
abbrev pub taken : Option Record → ℕ → Taken
taken given next = record { given = given; next = next }

-- the record of a kind and a length that begins s, which stands at a position; none of another kind, and none of a wrong length for its kind
unfoldable pub shaped_of : List ℕ → ℕ → ℕ → ℕ → Taken
shaped_of s at kind len =
    pick (eqb kind done_kind) (pick (eqb len done_length) (taken (Some Record.Done) (at + header_length + len)) (taken None at))
    (pick (eqb kind data_kind) (taken (Some (Record.Data (at + header_length) len)) (at + header_length + len))
    (pick (eqb kind error_kind) (pick (eqb len error_length) (taken (Some (Record.BusError (get_or s header_length 0))) (at + header_length + len)) (taken None at))
    (taken None at)))

-- a record's header and all its bytes stand before the trailer
unfoldable pub taken_in : List ℕ → ℕ → Taken
taken_in s at =
    pick (ltb (length s) header_length) (taken None at)
    (pick (ltb (length s - header_length) (length_in s)) (taken None at) (shaped_of s at (get_or s 0 0) (length_in s)))

-- the record at a position and the position behind it; none and the position itself where no record stands
abbrev pub taken_at : List ℕ → ℕ → Taken
taken_at tape at = taken_in (ahead_of tape at) at

-- 16: a bus action awaits a reply, and no record is left
abbrev pub spent_number : ℕ
spent_number = 16

-- the number of each answer: a record's kind, or that of the refusal
abbrev pub number_of_record : Option Record → ℕ
number_of_record (Some Record.Done) = done_kind
number_of_record (Some (Record.Data from len)) = data_kind
number_of_record (Some (Record.BusError code)) = error_kind
number_of_record None = spent_number

-- the length in a record's header; 0 without one
abbrev pub length_of : Option Record → ℕ
length_of (Some Record.Done) = done_length
length_of (Some (Record.Data from len)) = len
length_of (Some (Record.BusError code)) = error_length
length_of None = 0

-- the bytes of data, as they stand on the tape
abbrev pub data_of : List ℕ → Option Record → List ℕ
data_of tape (Some Record.Done) = []
data_of tape (Some (Record.Data from len)) = part_of tape from len
data_of tape (Some (Record.BusError code)) = []
data_of tape None = []

-- no record is left
abbrev pub spent_of : Option Record → Bool
spent_of (Some r) = false
spent_of None = true

-- the reply that a record holds; without one there is none to give
abbrev pub reply_of : Option Record → Reply
reply_of (Some Record.Done) = Reply.Done
reply_of (Some (Record.Data from len)) = Reply.Data
reply_of (Some (Record.BusError code)) = Reply.Error code
reply_of None = Reply.Done

-- The records of a tape as a list.
use Rattle.std.specs.Prelude.{ℕ, zero, suc, List, [], ◌∷◌, length, Option, Some, None}
use Rattle.tape.specs.Tape.{TapeRecord}
use Rattle.tape.specs.Record.{taken_at, data_of}
use Rattle.tape.specs.declared.record.Record.{Record}

-- a record in front of those behind it; none ends the list
abbrev pub listed : List ℕ → Option Record → List TapeRecord → List TapeRecord
listed tape (Some Record.Done) behind = TapeRecord.done ∷ behind
listed tape (Some (Record.Data from len)) behind = TapeRecord.bytes (data_of tape (Some (Record.Data from len))) ∷ behind
listed tape (Some (Record.BusError code)) behind = TapeRecord.bus_error code ∷ behind
listed tape None behind = []

-- so many records from a position on, or all where there are no more
abbrev pub records_by : ℕ → List ℕ → ℕ → List TapeRecord
records_by zero tape at = []
records_by (suc n) tape at = listed tape (taken_at tape at).given (records_by n tape (taken_at tape at).next)

-- the records from a position on: there are no more of them than bytes
unfoldable pub records_from : List ℕ → ℕ → List TapeRecord
records_from tape at = records_by (length tape) tape at

-- A reader: a tape, and where its next record stands.
use Rattle.std.specs.Prelude.{ℕ, List, Option}
use Rattle.std.specs.Borrow.{Bor}
use Rattle.tape.specs.Record.{taken_at}
use Rattle.tape.specs.declared.record.Record.{Record}
use Rattle.tape.specs.declared.reader.Reader.{Reader}

abbrev pub reader_at : Bor (List ℕ) → ℕ → Reader
reader_at tape at = record { tape = tape; at = at }

-- what a reader gives, and the reader after that
pub record Read : Type 0 where
  pub given : Option Record
  pub reader : Reader

abbrev pub read_to : Option Record → Reader → Read
read_to given reader = record { given = given; reader = reader }

-- the record at the reader's position, and the reader of the same tape behind it
abbrev pub next_of : Reader → Read
next_of reader =
    read_to (taken_at reader.tape.now reader.at).given (reader_at reader.tape (taken_at reader.tape.now reader.at).next)

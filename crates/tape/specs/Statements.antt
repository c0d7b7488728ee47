-- What is proved of tapes: of their judge, their records and their reader.
use Rattle.std.specs.Prelude.{ℕ, ◌+◌, ◌≡◌, true, List, [], ◌∷◌, length, None}
use Rattle.qspi.specs.Bytes.{AllBytes}
use Rattle.tape.specs.Tape.{trailer_length, TapeRecord, WellFormed}
use Rattle.tape.specs.Record.{taken_at}
use Rattle.tape.specs.Judge.{accepted_of, first_of}
use Rattle.tape.specs.Records.{listed, records_from}
use Rattle.tape.specs.Reader.{next_of}
use Rattle.tape.specs.declared.reader.Reader.{Reader}

-- a tape of bytes is accepted just where it is well formed
pub record TapeJudged : Type 0 where
  pub sound : (tape : List ℕ) → AllBytes tape → accepted_of tape ≡ true → WellFormed tape
  pub complete : (tape : List ℕ) → WellFormed tape → accepted_of tape ≡ true

-- a record of done, a record of three data bytes, and a trailer that points to the first
abbrev pub example_tape : List ℕ
example_tape = 0 ∷ 0 ∷ 0 ∷ 0 ∷ 1 ∷ 0 ∷ 0 ∷ 3 ∷ 0xEF ∷ 0x40 ∷ 0x17 ∷ 0 ∷ 0 ∷ 0 ∷ []

pub record Example : Type 0 where
  pub accepted : accepted_of example_tape ≡ true
  pub records : records_from example_tape (first_of example_tape) ≡ TapeRecord.done ∷ TapeRecord.bytes (0xEF ∷ 0x40 ∷ 0x17 ∷ []) ∷ []

-- the positions of a reader that started at the first record
pub data Reached (tape : List ℕ) : ℕ → Type 0 where
  start : Reached tape (first_of tape)
  next : {at : ℕ} → Reached tape at → Reached tape (taken_at tape at).next

-- the records that a reader has before it
abbrev pub records_ahead : Reader → List TapeRecord
records_ahead reader = records_from reader.tape.now reader.at

pub record ReaderWalks : Type 0 where
  -- on every tape and at every position the record there is the list's head, and the list from the position behind it is its tail
  pub steps : (tape : List ℕ) (at : ℕ) → records_from tape at ≡ listed tape (taken_at tape at).given (records_from tape (taken_at tape at).next)
  -- so every reader gives the head and is left before the tail
  pub reads : (reader : Reader) → records_ahead reader ≡ listed reader.tape.now (next_of reader).given (records_ahead (next_of reader).reader)
  -- a reader of a well-formed tape gives exactly the records that the tape was made of
  pub all : (tape : List ℕ) (made : WellFormed tape) → records_from tape (first_of tape) ≡ made.records
  -- and where it gives no more it stands at the trailer
  pub spent : (tape : List ℕ) → accepted_of tape ≡ true → (at : ℕ) → Reached tape at → (taken_at tape at).given ≡ None
      → at + trailer_length ≡ length tape

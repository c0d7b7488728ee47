-- Which tapes are accepted, and where their first record stands.
use Rattle.std.specs.Prelude.{ℕ, zero, suc, Bool, false, List, length, ltb, eqb, Option, Some, None}
use Rattle.qspi.specs.Choice.{pick}
use Rattle.qspi.specs.Bytes.{part_of, number_of}
use Rattle.tape.specs.Tape.{trailer_length, longest_tape}
use Rattle.tape.specs.Record.{trailer_at, taken_at}

-- where a walk over so many records leads; it stays where no record stands
abbrev pub walked : ℕ → List ℕ → ℕ → ℕ
walked zero tape at = at
walked (suc n) tape at = walked n tape (taken_at tape at).next

-- where the records from a position on end: there are no more of them than bytes
unfoldable pub end_from : List ℕ → ℕ → ℕ
end_from tape at = walked (length tape) tape at

-- the position in the trailer, highest byte first
abbrev pub pointer_of : List ℕ → ℕ
pointer_of tape = number_of (part_of tape (trailer_at tape) trailer_length)

-- a tape is refused where it is too short or too long, and where the records from the trailer's position on do not end exactly at the trailer
unfoldable pub accepted_of : List ℕ → Bool
accepted_of tape =
    pick (ltb (length tape) trailer_length) false
    (pick (ltb longest_tape (length tape)) false (eqb (end_from tape (pointer_of tape)) (trailer_at tape)))

-- the first record's position; 0 for a tape that is refused
unfoldable pub first_of : List ℕ → ℕ
first_of tape = pick (accepted_of tape) (pointer_of tape) 0

-- where the records begin; nowhere on a tape that is refused
abbrev pub start_of : List ℕ → Option ℕ
start_of tape = pick (accepted_of tape) (Some (first_of tape)) None

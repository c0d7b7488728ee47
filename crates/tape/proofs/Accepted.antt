-- What the tests of an accepted tape say, and its trailer.
use Prim.Native.Nat.{ℕ, ◌-◌, ◌≤◌}
use mathlib.Core.Path.{◌≡◌, refl, sym}
use mathlib.Core.Bool.{Bool, true, false, false≢true}
use mathlib.Core.List.{List}
use native.Mathlib.Omega.{arith}
use lib.ListN.{length, drop, length-drop}
use lib.Seq.{take_all}
use lib.Dec.{ltb, eqb}
use borrow.Author.Tests.{le-leb, le-ltb, eq-eqb, ltb-false, eqb-true}
use Rattle.qspi.specs.Choice.{pick}
use Rattle.qspi.specs.Bytes.{part_of}
use Rattle.tape.specs.Tape.{trailer_length, longest_tape}
use Rattle.tape.specs.Record.{trailer_at}
use Rattle.tape.specs.Judge.{end_from, pointer_of, accepted_of}

pub record Accepted (tape : List ℕ) : Type 0 where
  pub least : trailer_length ≤ length tape
  pub most : length tape ≤ longest_tape
  pub filled : end_from tape (pointer_of tape) ≡ trailer_at tape

-- a test that refuses, and those behind it
passed : (refuses : Bool) (others : Bool) → pick refuses false others ≡ true → (refuses ≡ false) × (others ≡ true)
passed true others e = (sym e, absurd (false≢true e))
passed false others e = (refl, e)

pub accepted : (tape : List ℕ) → accepted_of tape ≡ true → Accepted tape
unfolding accepted_of
accepted tape e =
    let long = passed (ltb (length tape) trailer_length) (pick (ltb longest_tape (length tape)) false (eqb (end_from tape (pointer_of tape)) (trailer_at tape))) e in
    let short = passed (ltb longest_tape (length tape)) (eqb (end_from tape (pointer_of tape)) (trailer_at tape)) long.1 in
    record {
      least = ltb-false (length tape) trailer_length long.0;
      most = ltb-false longest_tape (length tape) short.0;
      filled = eqb-true (end_from tape (pointer_of tape)) (trailer_at tape) short.1;
    }

pub accepts : (tape : List ℕ) → Accepted tape → accepted_of tape ≡ true
unfolding accepted_of
accepts tape a = rw (le-ltb (length tape) trailer_length a.least, le-ltb longest_tape (length tape) a.most, eq-eqb (end_from tape (pointer_of tape)) (trailer_at tape) a.filled)

pub trailer-part : (tape : List ℕ) → trailer_length ≤ length tape → part_of tape (trailer_at tape) trailer_length ≡ drop (trailer_at tape) tape
trailer-part tape h =
    rw (le-leb (trailer_at tape) (length tape) (omega arith), le-leb trailer_length (length tape - trailer_at tape) (omega arith))
    (take_all trailer_length (drop (trailer_at tape) tape) (omega (arith, length-drop (trailer_at tape) tape)))

-- The statements about tapes and their readers.
use Prim.Native.Nat.{ℕ}
use mathlib.Core.Path.{◌≡◌, refl, ap, ◌∙◌}
use mathlib.Core.Bool.{true}
use mathlib.Core.List.{List}
use native.Mathlib.Omega.{arith}
use Rattle.tape.specs.Record.{trailer_at, ahead_of, shaped_of, taken_in}
use Rattle.tape.specs.Judge.{end_from, pointer_of, accepted_of, first_of}
use Rattle.tape.specs.Records.{records_from}
use Rattle.tape.specs.Statements.{Example, TapeJudged, Reached, start, next, ReaderWalks}
use Rattle.tape.proofs.Walk.{end_step, end-here, spent-stays}
use Rattle.tape.proofs.Records.{steps}
use Rattle.tape.proofs.Accepted.{accepted, accepts}
use Rattle.tape.proofs.Sound.{well-formed}
use Rattle.tape.proofs.Complete.{lists, ahead-made, pointer-made, is-accepted}

pub example : Example
unfolding ahead_of shaped_of taken_in end_from accepted_of first_of records_from
example = record { accepted = refl; records = refl }

pub tape-judged : TapeJudged
tape-judged = record {
  sound = λ tape all e. well-formed tape all (accepted tape e);
  complete = λ tape made. accepts tape (is-accepted tape made);
}

first-is : (tape : List ℕ) → accepted_of tape ≡ true → first_of tape ≡ pointer_of tape
unfolding first_of
first-is tape e = rw e

-- wherever a reader of an accepted tape comes, the records ahead end at the trailer
reached : (tape : List ℕ) → accepted_of tape ≡ true → {at : ℕ} → Reached tape at → end_from tape at ≡ trailer_at tape
reached tape e start = ap (end_from tape) (first-is tape e) ∙ (accepted tape e).filled
reached tape e (next {at = at} r) = end_step tape at ∙ reached tape e r

pub reader-walks : ReaderWalks
reader-walks = record {
  steps = steps;
  reads = λ reader. steps reader.tape.now reader.at;
  all = λ tape made.
      ap (records_from tape) (first-is tape (accepts tape (is-accepted tape made)) ∙ pointer-made tape made)
      ∙ lists tape made.most made.records _ (ahead-made tape made);
  spent = λ tape e at r none.
      let here : end_from tape at ≡ at = end-here tape at (omega (arith, spent-stays tape at none)) in
      omega (arith, here, reached tape e r, (accepted tape e).least);
}

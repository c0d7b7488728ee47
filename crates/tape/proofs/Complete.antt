-- What is well formed is accepted, and a walk gives the records that the tape was made of.
use Prim.Native.Nat.{ℕ, ◌+◌, ◌-◌, ◌^◌, ◌≤◌, ◌<◌}
use Rattle.std.proofs.Common.{Option, Some, None}
use mathlib.Core.Path.{◌≡◌, refl, ap, sym, ◌∙◌}
use mathlib.Core.List.{List, [], ◌∷◌, ◌++◌}
use native.Mathlib.Omega.{arith}
use lib.ListN.{length, take, drop, length-append}
use lib.Seq.{take_at, drop_at}
use borrow.Author.Tests.{le-ltb}
use Rattle.qspi.specs.Address.{big_endian}
use Rattle.qspi.specs.Bytes.{part_of, number_of}
use Rattle.qspi.proofs.Numbers.{numbers}
use Rattle.tape.specs.Tape.{header_length, trailer_length, longest_tape, TapeRecord, kind_of, body_of, encoded, all_encoded, WellFormed}
use Rattle.tape.specs.Record.{trailer_at, ahead_of, length_in, taken, shaped_of, taken_in, taken_at}
use Rattle.tape.specs.Judge.{end_from, pointer_of}
use Rattle.tape.specs.Records.{listed, records_from}
use Rattle.tape.specs.declared.record.Record.{Record}
use Rattle.tape.specs.declared.record.Taken.{Taken}
use Rattle.tape.proofs.Parts.{room, further, ahead-part}
use Rattle.tape.proofs.Walk.{end_step, end-here}
use Rattle.tape.proofs.Records.{steps}
use Rattle.tape.proofs.Accepted.{Accepted, trailer-part}

-- an answer that brings a record, whose bytes start at a place
answer : TapeRecord → ℕ → Option Record
answer TapeRecord.done from = Some Record.Done
answer (TapeRecord.bytes body) from = Some (Record.Data from (length body))
answer (TapeRecord.bus_error code) from = Some (Record.BusError code)

length-read : (r : TapeRecord) (behind : List ℕ) → length (body_of r) < 256 ^ 3 → length_in (encoded r ++ behind) ≡ length (body_of r)
length-read r behind small = numbers.back 3 (length (body_of r)) (omega arith) small

shape-read : (r : TapeRecord) (behind : List ℕ) (at : ℕ)
    → shaped_of (encoded r ++ behind) at (kind_of r) (length (body_of r)) ≡ taken (answer r (at + header_length)) (at + header_length + length (body_of r))
unfolding shaped_of answer
shape-read TapeRecord.done behind at = refl
shape-read (TapeRecord.bytes body) behind at = refl
shape-read (TapeRecord.bus_error code) behind at = refl

-- at a record's bytes that record is taken
read : (r : TapeRecord) (behind : List ℕ) (at : ℕ) → length (body_of r) < 256 ^ 3
    → taken_in (encoded r ++ behind) at ≡ taken (answer r (at + header_length)) (at + header_length + length (body_of r))
unfolding taken_in
read r behind at small =
    let size = length-append (body_of r) behind in
    rw (
      le-ltb (length (encoded r ++ behind)) header_length (omega arith),
      length-read r behind small,
      le-ltb (length (encoded r ++ behind) - header_length) (length (body_of r)) (omega arith),
    )
    (shape-read r behind at)

module _ (tape : List ℕ) (most : length tape ≤ longest_tape) where
  -- the record r stands at a position, with others behind it
  module _ (at : ℕ) (r : TapeRecord) (behind : List ℕ) (here : ahead_of tape at ≡ encoded r ++ behind) where
    within : at + header_length + length (body_of r) ≤ trailer_at tape
    within = omega (arith, ap length here, room tape at, length-append (body_of r) behind)

    takes : taken_at tape at ≡ taken (answer r (at + header_length)) (at + header_length + length (body_of r))
    takes = ap (λ (s : List ℕ). taken_in s at) here ∙ read r behind at (omega (arith, within))

    then-ahead : ahead_of tape (taken_at tape at).next ≡ behind
    then-ahead =
        rw takes
        (further tape (at + header_length) (length (body_of r)) ∙ ap (drop (length (body_of r))) (further tape at header_length ∙ ap (drop header_length) here)
        ∙ drop_at (body_of r) behind (length (body_of r)) refl)

  body-read : (at : ℕ) (body behind : List ℕ) → ahead_of tape at ≡ encoded (TapeRecord.bytes body) ++ behind → part_of tape (at + header_length) (length body) ≡ body
  body-read at body behind here =
      ahead-part tape (at + header_length) (length body) (within at (TapeRecord.bytes body) behind here)
      ∙ ap (take (length body)) (further tape at header_length ∙ ap (drop header_length) here) ∙ take_at body behind (length body) refl

  gives : (at : ℕ) (r : TapeRecord) (behind : List ℕ) → ahead_of tape at ≡ encoded r ++ behind → (others : List TapeRecord)
      → listed tape (taken_at tape at).given others ≡ r ∷ others
  unfolding answer
  gives at TapeRecord.done behind here others = rw (takes at TapeRecord.done behind here)
  gives at (TapeRecord.bytes body) behind here others = rw (takes at (TapeRecord.bytes body) behind here, body-read at body behind here)
  gives at (TapeRecord.bus_error code) behind here others = rw (takes at (TapeRecord.bus_error code) behind here)

  stops : (at : ℕ) → ahead_of tape at ≡ [] → taken_at tape at ≡ taken None at
  unfolding taken_in
  stops at here = ap (λ (s : List ℕ). taken_in s at) here

  -- where the bytes ahead are those of records, these are the list
  pub lists : (rs : List TapeRecord) (at : ℕ) → ahead_of tape at ≡ all_encoded rs → records_from tape at ≡ rs
  lists [] at here = steps tape at ∙ ap (λ (t : Taken). listed tape t.given (records_from tape (taken_at tape at).next)) (stops at here)
  lists (r ∷ rs) at here =
      steps tape at ∙ gives at r (all_encoded rs) here (records_from tape (taken_at tape at).next)
      ∙ ap (λ (others : List TapeRecord). r ∷ others) (lists rs (taken_at tape at).next (then-ahead at r (all_encoded rs) here))

  -- and they end at the trailer
  pub ends : (rs : List TapeRecord) (at : ℕ) → at ≤ trailer_at tape → ahead_of tape at ≡ all_encoded rs → end_from tape at ≡ trailer_at tape
  ends [] at low here =
      end-here tape at (omega (arith, ap (λ (t : Taken). t.next) (stops at here))) ∙ omega (arith, ap length here, room tape at)
  ends (r ∷ rs) at low here =
      let next = ap (λ (t : Taken). t.next) (takes at r (all_encoded rs) here) in
      sym (end_step tape at)
      ∙ ends rs (taken_at tape at).next (omega (arith, next, within at r (all_encoded rs) here)) (then-ahead at r (all_encoded rs) here)

module _ (tape : List ℕ) (made : WellFormed tape) where
  abbrev front : List ℕ
  front = made.ignored ++ all_encoded made.records

  abbrev last : List ℕ
  last = big_endian trailer_length (length made.ignored)

  size : length tape ≡ length front + trailer_length
  size = ap length made.written ∙ length-append front last

  low : length made.ignored ≤ trailer_at tape
  low = omega (arith, size, length-append made.ignored (all_encoded made.records))

  pub ahead-made : ahead_of tape (length made.ignored) ≡ all_encoded made.records
  unfolding ahead_of
  ahead-made =
      ap (drop (length made.ignored)) (ap (take (trailer_at tape)) made.written ∙ take_at front last (trailer_at tape) (omega (arith, size)))
      ∙ drop_at made.ignored (all_encoded made.records) (length made.ignored) refl

  pub pointer-made : pointer_of tape ≡ length made.ignored
  pointer-made =
      ap number_of (trailer-part tape (omega (arith, size)) ∙ ap (drop (trailer_at tape)) made.written ∙ drop_at front last (trailer_at tape) (omega (arith, size)))
      ∙ numbers.back 3 (length made.ignored) (omega arith) (omega (arith, size, low, made.most))

  pub is-accepted : Accepted tape
  is-accepted = record {
    least = omega (arith, size);
    most = made.most;
    filled = ap (end_from tape) pointer-made ∙ ends tape made.most made.records (length made.ignored) low ahead-made;
  }

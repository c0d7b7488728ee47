-- What is accepted is well formed: the bytes ahead are those of the records that a walk gives, up to where it ends.
use Prim.Native.Nat.{ℕ, zero, suc, ◌+◌, ◌≤◌}
use mathlib.Core.Path.{◌≡◌, refl, ap, ap₂, sym, ◌∙◌}
use mathlib.Core.List.{List, ◌∷◌, ◌++◌, append_assoc, append-nil}
use native.Mathlib.Omega.{arith}
use lib.ListN.{length, get_or, take, drop, take-append-drop, length-drop}
use lib.Seq.{take-take, drop-cons, length-take-le}
use Rattle.qspi.specs.Bytes.{AllBytes, part_of, number_of}
use Rattle.qspi.specs.Address.{big_endian}
use Rattle.tape.specs.Tape.{length_width, header_length, trailer_length, TapeRecord, body_of, kind_of, encoded, all_encoded, WellFormed}
use Rattle.tape.specs.Record.{trailer_at, ahead_of, length_in, taken_at}
use Rattle.tape.specs.Judge.{walked, end_from, pointer_of}
use Rattle.tape.specs.Records.{records_by, records_from}
use Rattle.tape.specs.declared.record.Taken.{Taken}
use Rattle.tape.proofs.Parts.{room, none_ahead, further, ahead-part}
use Rattle.tape.proofs.Found.{Found, nothing, is_done, is_data, is_error, found}
use Rattle.tape.proofs.Walk.{stay, onwards}
use Rattle.tape.proofs.Bytes.{three, header, all_take, all_drop}
use Rattle.tape.proofs.Accepted.{Accepted, trailer-part}

module _ (tape : List ℕ) (all : AllBytes tape) where
  ahead-bytes : (at : ℕ) → AllBytes (ahead_of tape at)
  unfolding ahead_of
  ahead-bytes at = all_drop at (take (trailer_at tape) tape) (all_take (trailer_at tape) tape all)

  -- a record with the kind and the length of the header ahead, and with the bytes behind that header, is what the bytes ahead begin with
  stands : (at : ℕ) (r : TapeRecord) → get_or (ahead_of tape at) 0 0 ≡ kind_of r → header_length + length_in (ahead_of tape at) ≤ length (ahead_of tape at)
      → length_in (ahead_of tape at) ≡ length (body_of r) → take (length_in (ahead_of tape at)) (drop header_length (ahead_of tape at)) ≡ body_of r
      → ahead_of tape at ≡ encoded r ++ ahead_of tape (at + header_length + length_in (ahead_of tape at))
  stands at r k fits n body =
      let s = ahead_of tape at in
      let m = length_in s in
      let front : take header_length s ≡ kind_of r ∷ big_endian length_width (length (body_of r)) =
      header s (kind_of r) (ahead-bytes at) (omega arith) k ∙ ap (λ (x : ℕ). kind_of r ∷ big_endian length_width x) n in
      let later : ahead_of tape (at + header_length + m) ≡ drop m (drop header_length s) =
      further tape (at + header_length) m ∙ ap (drop m) (further tape at header_length) in
      let back : drop header_length s ≡ body_of r ++ ahead_of tape (at + header_length + m) =
      sym (take-append-drop m (drop header_length s)) ∙ ap₂ (λ (x y : List ℕ). x ++ y) body (sym later) in
      sym (take-append-drop header_length s) ∙ ap₂ (λ (x y : List ℕ). x ++ y) front back

  -- the bytes ahead are those of the records walked over, and then those ahead of where the walk leads
  pub walked-bytes : (n at : ℕ) → ahead_of tape at ≡ all_encoded (records_by n tape at) ++ ahead_of tape (walked n tape at)
  walked-bytes zero at = refl
  walked-bytes (suc n) at = go (taken_at tape at) refl (found (ahead_of tape at) at) (walked-bytes n (taken_at tape at).next)
    where
      on : (r : TapeRecord) (next : ℕ) → ahead_of tape at ≡ encoded r ++ ahead_of tape next
          → ahead_of tape next ≡ all_encoded (records_by n tape next) ++ ahead_of tape (walked n tape next)
          → ahead_of tape at ≡ all_encoded (r ∷ records_by n tape next) ++ ahead_of tape (walked n tape next)
      on r next e ih =
          e ∙ ap (λ (x : List ℕ). encoded r ++ x) ih
          ∙ sym (append_assoc (encoded r) (all_encoded (records_by n tape next)) (ahead_of tape (walked n tape next)))

      go : (t : Taken) → taken_at tape at ≡ t → Found (ahead_of tape at) at t
          → ahead_of tape (taken_at tape at).next ≡ all_encoded (records_by n tape (taken_at tape at).next) ++ ahead_of tape (walked n tape (taken_at tape at).next)
          → ahead_of tape at ≡ all_encoded (records_by (suc n) tape at) ++ ahead_of tape (walked (suc n) tape at)
      go t e nothing ih = rw (e, stay tape n at e)
      go t e (is_done k z h) ih = rw e (on TapeRecord.done (at + header_length + length_in (ahead_of tape at)) (stands at TapeRecord.done k h z (rw z)) (rw e at ih))
      go t e (is_data k h) ih =
          let s = ahead_of tape at in
          let m = length_in s in
          let same : take m (drop header_length s) ≡ part_of tape (at + header_length) m =
          sym (ahead-part tape (at + header_length) m (omega (arith, room tape at)) ∙ ap (take m) (further tape at header_length)) in
          let size : m ≡ length (part_of tape (at + header_length) m) =
          sym (length-take-le m (drop header_length s) (omega (arith, length-drop header_length s))) ∙ ap length same in
          rw e (on (TapeRecord.bytes (part_of tape (at + header_length) m)) (at + header_length + m) (stands at (TapeRecord.bytes (part_of tape (at + header_length) m)) k h size same) (rw e at ih))
      go t e (is_error k z h) ih =
          let s = ahead_of tape at in
          rw e (on (TapeRecord.bus_error (get_or s header_length 0)) (at + header_length + length_in s) (stands at (TapeRecord.bus_error (get_or s header_length 0)) k h z (rw (z, drop-cons s header_length 0 (omega arith)))) (rw e at ih))

  -- the trailer is the pointer's bytes
  trailer : trailer_length ≤ length tape → big_endian trailer_length (pointer_of tape) ≡ drop (trailer_at tape) tape
  trailer h =
      let end = drop (trailer_at tape) tape in
      let size : length end ≡ trailer_length = omega (arith, length-drop (trailer_at tape) tape) in
      ap (λ (s : List ℕ). big_endian trailer_length (number_of s)) (trailer-part tape h) ∙ three end (all_drop (trailer_at tape) tape all) size

  -- where the records from a position on end at the trailer, they are all that is ahead
  all-ahead : (p : ℕ) → end_from tape p ≡ trailer_at tape → ahead_of tape p ≡ all_encoded (records_from tape p)
  unfolding end_from records_from
  all-ahead p filled =
      let listed = all_encoded (records_by (length tape) tape p) in
      walked-bytes (length tape) p ∙ ap (λ (end : ℕ). listed ++ ahead_of tape end) filled
      ∙ ap (λ (s : List ℕ). listed ++ s) (none_ahead tape (trailer_at tape) (omega arith)) ∙ append-nil listed

  whole : (p : ℕ) → end_from tape p ≡ trailer_at tape → tape ≡ take p tape ++ all_encoded (records_from tape p) ++ drop (trailer_at tape) tape
  unfolding ahead_of
  whole p filled =
      let T = trailer_at tape in
      let low : p ≤ T = omega (arith, filled, onwards tape p) in
      sym (take-append-drop T tape)
      ∙ ap (λ (s : List ℕ). s ++ drop T tape) (sym (take-append-drop p (take T tape)) ∙ ap₂ (λ (x y : List ℕ). x ++ y) (take-take p T tape low) (all-ahead p filled))

  pub well-formed : Accepted tape → WellFormed tape
  well-formed a =
      let p = pointer_of tape in
      let size : length (take p tape) ≡ p = length-take-le p tape (omega (arith, a.filled, onwards tape p)) in
      record {
        ignored = take p tape;
        records = records_from tape p;
        written = whole p a.filled ∙ ap (λ (s : List ℕ). take p tape ++ all_encoded (records_from tape p) ++ s) (sym (ap (big_endian trailer_length) size ∙ trailer a.least));
        most = a.most;
      }

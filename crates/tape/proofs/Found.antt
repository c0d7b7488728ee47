-- What a position of a tape can have: nothing, or one of the three kinds of record, whole before the trailer.
use Prim.Native.Nat.{ℕ, ◌+◌, ◌-◌, ◌≤◌}
use Rattle.std.proofs.Common.{Some, None}
use mathlib.Core.Path.{◌≡◌}
use mathlib.Core.List.{List}
use native.Mathlib.Omega.{arith}
use lib.ListN.{length, get_or}
use lib.Dec.{ltb, eqb}
use borrow.Author.Tests.{ltb-false, eqb-true}
use Rattle.qspi.proofs.Cases.{by_cases}
use Rattle.tape.specs.Tape.{done_kind, data_kind, error_kind, done_length, error_length, header_length}
use Rattle.tape.specs.Record.{length_in, taken, shaped_of, taken_in}
use Rattle.tape.specs.declared.record.Record.{Record}
use Rattle.tape.specs.declared.record.Taken.{Taken}

pub data Found (s : List ℕ) (at : ℕ) : Taken → Type 0 where
  nothing : Found s at (taken None at)
  is_done : get_or s 0 0 ≡ done_kind → length_in s ≡ done_length → header_length + length_in s ≤ length s
      → Found s at (taken (Some Record.Done) (at + header_length + length_in s))
  is_data : get_or s 0 0 ≡ data_kind → header_length + length_in s ≤ length s
      → Found s at (taken (Some (Record.Data (at + header_length) (length_in s))) (at + header_length + length_in s))
  is_error : get_or s 0 0 ≡ error_kind → length_in s ≡ error_length → header_length + length_in s ≤ length s
      → Found s at (taken (Some (Record.BusError (get_or s header_length 0))) (at + header_length + length_in s))

shaped : (s : List ℕ) (at : ℕ) → header_length + length_in s ≤ length s → Found s at (shaped_of s at (get_or s 0 0) (length_in s))
unfolding shaped_of
shaped s at fits =
    by_cases (eqb (get_or s 0 0) done_kind)
    (λ e. rw e (by_cases (eqb (length_in s) done_length)
    (λ z. rw z (is_done (eqb-true _ _ e) (eqb-true _ _ z) fits))
    (λ z. rw z nothing)))
    (λ e. rw e (by_cases (eqb (get_or s 0 0) data_kind)
    (λ d. rw d (is_data (eqb-true _ _ d) fits))
    (λ d. rw d (by_cases (eqb (get_or s 0 0) error_kind)
    (λ b. rw b (by_cases (eqb (length_in s) error_length)
    (λ z. rw z (is_error (eqb-true _ _ b) (eqb-true _ _ z) fits))
    (λ z. rw z nothing)))
    (λ b. rw b nothing)))))

pub found : (s : List ℕ) (at : ℕ) → Found s at (taken_in s at)
unfolding taken_in
found s at =
    by_cases (ltb (length s) header_length) (λ e. rw e nothing)
    (λ e. rw e (by_cases (ltb (length s - header_length) (length_in s)) (λ l. rw l nothing)
    (λ l. rw l (shaped s at (omega (arith, ltb-false (length s) header_length e, ltb-false (length s - header_length) (length_in s) l))))))

-- The list of records, a record at a time.
use Prim.Native.Nat.{ℕ, zero, suc, ◌+◌, ◌≤◌}
use mathlib.Core.Path.{◌≡◌, ap, sym}
use mathlib.Core.List.{List}
use native.Mathlib.Omega.{arith}
use lib.ListN.{length}
use Rattle.tape.specs.Tape.{TapeRecord}
use Rattle.tape.specs.Record.{trailer_at, taken_at}
use Rattle.tape.specs.Records.{listed, records_by, records_from}
use Rattle.tape.proofs.Walk.{by-step}

module _ (tape : List ℕ) where
  enough : (n at : ℕ) → trailer_at tape ≤ at + n → records_by (suc n) tape at ≡ records_by n tape at
  enough zero at h = by-step tape at (λ e. rw e) (λ on within. absurd (omega arith))
  enough (suc n) at h =
      by-step tape at (λ e. rw e)
      (λ on within. ap (λ (behind : List TapeRecord). listed tape (taken_at tape at).given behind) (enough n (taken_at tape at).next (omega arith)))

  pub steps : (at : ℕ) → records_from tape at ≡ listed tape (taken_at tape at).given (records_from tape (taken_at tape at).next)
  unfolding records_from
  steps at = sym (enough (length tape) at (omega arith))

-- A walk over records: it stays where none stands, goes on at least a header's length where one does, and so ends within the tape's length.
use Prim.Native.Nat.{ℕ, zero, suc, ◌+◌, ◌≤◌, ◌<◌}
use Rattle.std.proofs.Common.{Some, None}
use mathlib.Core.Path.{◌≡◌, refl, ap, sym, ◌∙◌}
use mathlib.Core.List.{List}
use native.Mathlib.Omega.{arith}
use lib.ListN.{length}
use Rattle.tape.specs.Record.{trailer_at, ahead_of, taken, taken_at}
use Rattle.tape.specs.Judge.{walked, end_from}
use Rattle.tape.specs.declared.record.Record.{Record}
use Rattle.tape.specs.declared.record.Taken.{Taken}
use Rattle.tape.proofs.Parts.{room}
use Rattle.tape.proofs.Found.{Found, nothing, is_done, is_data, is_error, found}

module _ (tape : List ℕ) where
  -- a step stays, or goes on and not past the trailer
  pub by-step : {G : Type 0} (at : ℕ) → (taken_at tape at ≡ taken None at → G) → (at < (taken_at tape at).next → (taken_at tape at).next ≤ trailer_at tape → G) → G
  by-step {G} at stays goes = go (taken_at tape at) refl (found (ahead_of tape at) at)
    where
      go : (t : Taken) → taken_at tape at ≡ t → Found (ahead_of tape at) at t → G
      go t e nothing = stays e
      go t e (is_done k z h) = goes (omega (arith, ap (λ (x : Taken). x.next) e)) (omega (arith, room tape at, ap (λ (x : Taken). x.next) e))
      go t e (is_data k h) = goes (omega (arith, ap (λ (x : Taken). x.next) e)) (omega (arith, room tape at, ap (λ (x : Taken). x.next) e))
      go t e (is_error k z h) = goes (omega (arith, ap (λ (x : Taken). x.next) e)) (omega (arith, room tape at, ap (λ (x : Taken). x.next) e))

  pub stay : (n at : ℕ) → taken_at tape at ≡ taken None at → walked n tape at ≡ at
  stay zero at e = refl
  stay (suc n) at e = rw e (stay n at e)

  enough : (n at : ℕ) → trailer_at tape ≤ at + n → walked (suc n) tape at ≡ walked n tape at
  enough zero at h = by-step at (λ e. ap (λ (x : Taken). x.next) e) (λ on within. absurd (omega arith))
  enough (suc n) at h =
      by-step at (λ e. stay (suc (suc n)) at e ∙ sym (stay (suc n) at e)) (λ on within. enough n (taken_at tape at).next (omega arith))

  -- a step does not change where the records end
  pub end_step : (at : ℕ) → end_from tape (taken_at tape at).next ≡ end_from tape at
  unfolding end_from
  end_step at = enough (length tape) at (omega arith)

  pub end-here : (at : ℕ) → (taken_at tape at).next ≤ at → end_from tape at ≡ at
  unfolding end_from
  end-here at h = by-step at (λ e. stay (length tape) at e) (λ on within. absurd (omega arith))

  pub next-within : (at : ℕ) → at < (taken_at tape at).next → (taken_at tape at).next ≤ trailer_at tape
  next-within at h = by-step at (λ e. absurd (omega (arith, ap (λ (x : Taken). x.next) e))) (λ on within. within)

  forward : (n at : ℕ) → at ≤ walked n tape at
  forward zero at = omega arith
  forward (suc n) at =
      let later = forward n (taken_at tape at).next in
      by-step at (λ e. omega (arith, stay (suc n) at e)) (λ on within. omega arith)

  pub onwards : (at : ℕ) → at ≤ end_from tape at
  unfolding end_from
  onwards at = forward (length tape) at

  -- an answer that is no record leaves the position as it is
  pub spent-stays : (at : ℕ) → (taken_at tape at).given ≡ None → (taken_at tape at).next ≡ at
  spent-stays at h = go (taken_at tape at) h (found (ahead_of tape at) at)
    where
      go : (t : Taken) → t.given ≡ None → Found (ahead_of tape at) at t → t.next ≡ at
      go t e nothing = refl
      go t e (is_done k z fits) = cc
      go t e (is_data k fits) = cc
      go t e (is_error k z fits) = cc

  -- behind a record the position is further on, and not past the trailer
  pub goes-on : (at : ℕ) (r : Record) → (taken_at tape at).given ≡ Some r → (at < (taken_at tape at).next) × ((taken_at tape at).next ≤ trailer_at tape)
  goes-on at r h =
      by-step at (λ e. let none : None ≡ Some r = sym (ap (λ (x : Taken). x.given) e) ∙ h in cc) (λ on within. (on, within))

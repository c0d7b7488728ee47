-- So many turns, one after the other.
use Prim.Native.Nat.{ℕ, zero, suc, ◌+◌, ◌-◌, ◌≤◌, ◌<◌}
use native.Mathlib.Omega.{arith}
use mathlib.Core.Bool.{true, false}
use mathlib.Core.List.{List}
use lib.ListN.{length, replicate}
use mathlib.Core.Path.{◌≡◌, refl, ap}
use Rattle.lines.specs.Text.{Text}
use Rattle.flash.specs.Drive.{stepped_to}
use Rattle.flash.specs.declared.state.Stepped.{Stepped}
use Rattle.flash_calls.specs.declared.call.Kind.{Kind}
use Rattle.trace_case.specs.Lent.{asked_over}
use Rattle.flash_turns.specs.Turn.{taken_to, turn_of}
use Rattle.flash_turns.specs.declared.state.Turn.{Turn}
use Rattle.trace_words.specs.Budget.{budget_of}
use Rattle.trace_words.specs.Place.{over_of}
use Rattle.trace_case.specs.Case.{Traced, start_of, traced_by, traced_to, answered_to, turn_after, turns_of, case_behind}
use Rattle.trace_case.specs.declared.advance.Trace.{Trace}

-- a turn, and what the driver answers to it
pub one-turn : (text : List ℕ) (trace : Trace) (scratch room reply : List ℕ) (out : Text) (turn : Turn) (room₁ reply₁ : List ℕ) (out₁ : Text) (answer : Stepped) (scratch₂ room₂ : List ℕ) (r : Trace) →
    taken_to turn.settings turn.place turn.ask room₁ reply₁ out₁ ≡ turn_of trace.settings trace.place trace.stepped.given trace.stepped.delivered text scratch room reply out →
    stepped_to answer scratch₂ room₂ ≡ asked_over trace.stepped turn.ask scratch room₁ reply₁ →
    r ≡ traced_by turn answer →
    traced_to r scratch₂ room₂ reply₁ out₁ ≡ turn_after text (traced_to trace scratch room reply out)
unfolding turn_after
one-turn text trace scratch room reply out turn room₁ reply₁ out₁ answer scratch₂ room₂ r taken asked stood =
    rw (stood, ← taken)
    (ap (λ m. answered_to (taken_to turn.settings turn.place turn.ask room₁ reply₁ out₁) m) asked)

pub turn-taken : (most i : ℕ) (text : List ℕ) (t : Traced) → i < most → over_of t.place ≡ false →
    turns_of (most - (i + 1)) text (turn_after text t) ≡ turns_of (most - i) text t
unfolding turns_of
turn-taken most i text t h goes =
    let one_less : most - i ≡ suc (most - (i + 1)) = omega arith in
    rw (one_less, goes)

pub turns-over : (n : ℕ) (text : List ℕ) (t : Traced) → over_of t.place ≡ true → t ≡ turns_of n text t
unfolding turns_of
turns-over zero text t over = refl
turns-over (suc n) text t over = rw over

pub turns-spent : (most i : ℕ) (text : List ℕ) (t : Traced) → most ≤ i → t ≡ turns_of (most - i) text t
unfolding turns_of
turns-spent most i text t h =
    let none : most - i ≡ 0 = omega arith in
    rw none

pub whole-case : (kind : Kind) (text room reply : List ℕ) (written : Text) (trace : Trace) (most : ℕ) → trace ≡ start_of kind → most ≡ budget_of (length text) (length room) →
    turns_of most text (traced_to trace (replicate 264 0) room reply written) ≡ case_behind kind text room reply written
unfolding case_behind
whole-case kind text room reply written trace most start budget = rw (start, budget)

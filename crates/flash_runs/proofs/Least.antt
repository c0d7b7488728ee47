-- The least delay that a call has asked which ended well.
use Prim.Native.Nat.{ℕ, ◌+◌, ◌≤◌}
use native.Mathlib.Omega.{arith}
use mathlib.Core.List.{List, [], ◌∷◌}
use Rattle.qspi.specs.Frame.{Outcome, first_of, exchange_of}
use Rattle.qspi.specs.declared.transfer.Transfer.{Transfer}
use Rattle.qspi.specs.declared.frame.Frame.{Frame}
use Rattle.qspi.specs.declared.frame.Exchanged.{Exchanged}
use Rattle.spi_flash.specs.declared.loan.Takes.{Takes}
use Rattle.spi_flash.specs.Loan.{Lent, lent_as}
use Rattle.spi_flash.specs.Prog.{Prog, ask}
use Rattle.spi_flash.specs.Path.{Past, End, going, done, failed, spent, asked, delays}
use Rattle.spi_flash.proofs.Paths.{IfWell, AtLeast, Never}
use Rattle.spi_flash.specs.Run.{Event, reply, call, Moved, goes_on, delay_asked}
use Rattle.spi_flash.proofs.Machine.{Decision, more, well, bad, Config, out, settle, moved, machine, Simulates, Trail, decided_trail, heard_trail, trail}
use Rattle.spi_flash.proofs.Runs.{heard-view, every-trail, trail-asks}
use Rattle.spi_flash.proofs.Laws.{if-well-mono}
use Rattle.flash_runs.specs.Watch.{succeeded_then, Succeeded}

abbrev IsDone : {A : Type 0} → End A → Type 0
IsDone (going t) = ⊥
IsDone (done a) = Unit {0}
IsDone (failed e) = ⊥

-- any figure is the least of a good end that there is none of
never-least : {A : Type 0} {b : ℕ} (p : Prog A) → Never p → AtLeast delays b p
never-least {b = b} p h = record { least = if-well-mono p (λ a xs. ⊥) (λ a xs. b ≤ spent delays xs) (λ a xs n. absurd n) h.never }

at_least : {A : Type 0} {b : ℕ} (past : List Past) (stop : End A) → IsDone stop → IfWell (λ a xs. b ≤ spent delays xs) past stop → b ≤ asked delays past stop
at_least past (going t) d h = absurd d
at_least past (done a) d h = omega arith
at_least past (failed e) d h = absurd d

module _ {S A C : Type 0} (next : S → Outcome → Decision S A) (k : Takes) where
  settled-succeeds : (es : List (Event C)) → ((s : S) (f : Frame) → Succeeded (goes_on (machine next C) (out k s f) es) → IsDone (trail next k s f es).stop) → (d : Decision S A) (l : Lent) →
      succeeded_then (settle k d l).given (Succeeded (goes_on (machine next C) (settle k d l).flash es)) → IsDone (decided_trail d (λ t s. trail next k s (first_of t) es)).stop
  settled-succeeds es ih (more t s) l i = ih s (first_of t) i
  settled-succeeds es ih (well a) l i = tt
  settled-succeeds es ih (bad e) l i = i

  -- a run that ended well has come to the path's end
  succeeds : (s : S) (f : Frame) (es : List (Event C)) → Succeeded (goes_on (machine next C) (out k s f) es) → IsDone (trail next k s f es).stop
  unfolding goes_on trail Succeeded
  succeeds s f [] h = h
  succeeds s f (call c l ∷ es) h = succeeds s f es h
  succeeds s f (reply r bytes l ∷ es) h =
      let x = exchange_of f r bytes l.scratch l.buffer l.given in
      let to : Exchanged → Moved (Config S) A = λ y. moved next k s f y l x.scratch x.buffer in
      let onward : Exchanged → Trail A = λ y. heard_trail next s f y (λ g. trail next k s g es) (λ t s'. trail next k s' (first_of t) es) in
      heard-view k f r bytes l
      (λ y. succeeded_then (to y).given (Succeeded (goes_on (machine next C) (to y).flash es)) → IsDone (onward y).stop)
      (λ i. succeeds s f es i)
      (λ g e i. succeeds s g es i)
      (λ o c i. settled-succeeds es (λ s' g j. succeeds s' g es j) (next s o) (lent_as x.scratch x.buffer l) i)
      h

module _ {S A C : Type 0} (Valid : S → Type 0) (next : S → Outcome → Decision S A) (k : Takes) (meaning : S → ℕ → Prog A) (sim : Simulates Valid next meaning) where
  pub run-least : (t : Transfer) (s : S) {b : ℕ} → Valid s → AtLeast delays b (ask t (meaning s)) → (es : List (Event C)) →
      Succeeded (goes_on (machine next C) (out k s (first_of t)) es) → b ≤ delays t + delay_asked (goes_on (machine next C) (out k s (first_of t)) es)
  unfolding first_of
  run-least t s {b} w h es e =
      let f = first_of t in
      let x = trail next k s f es in
      let long : b ≤ asked delays x.past x.stop =
      at_least x.past x.stop (succeeds next k s f es e) (every-trail Valid next k meaning sim s f (IfWell (λ a xs. b ≤ spent delays xs)) w h.least es) in
      omega (arith, trail-asks {C = C} next k s f es)

  -- a program that never ends well
  pub run-never : (t : Transfer) (s : S) → Valid s → Never (ask t (meaning s)) → (es : List (Event C)) →
      Succeeded (goes_on (machine next C) (out k s (first_of t)) es) → ⊥
  run-never t s w h es e =
      let b = delays t + delay_asked (goes_on (machine next C) (out k s (first_of t)) es) + 1 in
      let least = run-least t s w (never-least {b = b} (ask t (meaning s)) h) es e in
      omega arith

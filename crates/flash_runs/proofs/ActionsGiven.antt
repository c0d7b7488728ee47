-- No run gives out more actions than its program's paths have.
use Prim.Native.Nat.{ℕ, ◌+◌, ◌≤◌}
use native.Mathlib.Omega.{arith}
use mathlib.Core.Path.{◌≡◌, refl, ap}
use mathlib.Core.List.{List, [], ◌∷◌}
use Rattle.qspi.specs.Frame.{Outcome, first_of, exchange_of}
use Rattle.qspi.specs.declared.transfer.Transfer.{Transfer}
use Rattle.qspi.specs.declared.frame.Frame.{Frame}
use Rattle.qspi.specs.declared.frame.Exchanged.{Exchanged}
use Rattle.spi_flash.specs.declared.loan.Takes.{Takes}
use Rattle.spi_flash.specs.Loan.{Lent, lent_as}
use Rattle.spi_flash.proofs.Machine.{Decision, more, well, bad, Config, out, rest, settle, moved, machine, Simulates, Trail, decided_trail, heard_trail, trail}
use Rattle.spi_flash.specs.Path.{asked, Bounded}
use Rattle.spi_flash.proofs.Paths.{actions}
use Rattle.spi_flash.specs.Prog.{Prog, ask}
use Rattle.spi_flash.specs.Run.{Event, reply, call, Moved, goes_on}
use Rattle.spi_flash.proofs.Runs.{remaining, remaining-some, heard-view, every-trail}
use Rattle.flash_runs.specs.WithinBound.{action_given, actions_given}

module _ {S A C : Type 0} (next : S → Outcome → Decision S A) (k : Takes) where
  -- after the end nothing is given out
  rest-gives : (es : List (Event C)) → actions_given (goes_on (machine next C) rest es) ≡ 0
  unfolding goes_on actions_given
  rest-gives [] = refl
  rest-gives (call c l ∷ es) = refl
  rest-gives (reply r bytes l ∷ es) = omega (arith, rest-gives es)

  abbrev gives_by : Moved (Config S) A → List (Event C) → ℕ
  gives_by m es = action_given m.given + actions_given (goes_on (machine next C) m.flash es)

  -- those of the frame that is out, but for the ones still to come, are on its path too
  abbrev Within : S → Frame → List (Event C) → Type 0
  Within s f es =
      actions_given (goes_on (machine next C) (out k s f) es) + actions f.transfer + 1 ≤
      remaining f + asked actions (trail next k s f es).past (trail next k s f es).stop

  settled-within : (es : List (Event C)) → ((s : S) (f : Frame) → Within s f es) → (d : Decision S A) (l : Lent) →
      gives_by (settle k d l) es ≤ asked actions (decided_trail d (λ t s. trail next k s (first_of t) es)).past (decided_trail d (λ t s. trail next k s (first_of t) es)).stop
  unfolding first_of
  settled-within es ih (more t s) l = omega (arith, ih s (first_of t))
  settled-within es ih (well a) l = omega (arith, rest-gives es)
  settled-within es ih (bad e) l = omega (arith, rest-gives es)

  within : (s : S) (f : Frame) (es : List (Event C)) → Within s f es
  unfolding goes_on actions_given trail
  within s f [] = omega (arith, remaining-some f.stage f.transfer)
  within s f (call c l ∷ es) = omega (arith, within s f es)
  within s f (reply r bytes l ∷ es) =
      let x = exchange_of f r bytes l.scratch l.buffer l.given in
      let to : Exchanged → Moved (Config S) A = λ y. moved next k s f y l x.scratch x.buffer in
      let onward : Exchanged → Trail A = λ y. heard_trail next s f y (λ g. trail next k s g es) (λ t s'. trail next k s' (first_of t) es) in
      heard-view k f r bytes l
      (λ y. gives_by (to y) es + actions f.transfer + 1 ≤ remaining f + asked actions (onward y).past (onward y).stop)
      (omega (arith, within s f es))
      (λ g e. omega (arith, ap actions e.same, e.shorter, within s g es))
      (λ o c. omega (arith, remaining-some f.stage f.transfer, settled-within es (λ s' g. within s' g es) (next s o) (lent_as x.scratch x.buffer l)))

  -- from the first action of a transfer on, which counts too
  pub run-gives : (Valid : S → Type 0) (meaning : S → ℕ → Prog A) → Simulates Valid next meaning → (t : Transfer) (s : S) {b : ℕ} → Valid s → Bounded actions b (ask t (meaning s)) → (es : List (Event C)) →
      actions_given (goes_on (machine next C) (out k s (first_of t)) es) + 1 ≤ b
  unfolding first_of
  run-gives Valid meaning sim t s {b} w h es =
      let f = first_of t in
      omega (arith, within s f es, every-trail Valid next k meaning sim s f (λ past end. asked actions past end ≤ b) w h.bound es)

-- A run takes the events that fit the actions of its program, and no others.
use Prim.Native.Nat.{ℕ}
use native.Mathlib.Omega.{arith}
use mathlib.Core.Bool.{Bool}
use mathlib.Core.Path.{◌≡◌, refl, ap, sym, ◌∙◌, subst}
use mathlib.Core.List.{List, [], ◌∷◌}
use lib.ListN.{length}
use Rattle.qspi.specs.Bus.{awaits_of, fits_at, fits_of}
use Rattle.qspi.specs.Bytes.{delivered_of}
use Rattle.qspi.specs.Frame.{Outcome, first_of, action_of, given_scratch, taken_in, advanced_of, gave, exchange_of}
use Rattle.qspi.specs.Shown.{Shown, shown_of}
use Rattle.qspi.specs.declared.bus.Reply.{Reply}
use Rattle.qspi.specs.declared.frame.Advanced.{Advanced}
use Rattle.qspi.specs.declared.frame.Frame.{Frame}
use Rattle.qspi.proofs.Cases.{by_cases}
use Rattle.spi_flash.specs.Loan.{Lent, ready_for, lent_as}
use Rattle.spi_flash.proofs.Machine.{Decision, more, well, bad, Config, out, rest, settle, moved, machine}
use Rattle.spi_flash.specs.OnBus.{BusProg, answers, stops, does, fills, performed}
use Rattle.spi_flash.specs.Run.{Event, reply, call, Given, act, ended, failed, Entry, Moved, entry, goes_on, Answer}
use Rattle.spi_flash.specs.Seen.{Did, did, told_then, told, replies_of, accepted}
use Rattle.spi_flash.specs.declared.error.FlashError.{FlashError}
use Rattle.spi_flash.specs.declared.loan.Takes.{Takes}
use Rattle.spi_flash.proofs.OnBus.{answer_of}
use Rattle.spi_flash.proofs.Performs.{events_of, looked, looking, performed_then, does-first, Takes-it, counts, settle-takes}
use Rattle.flash_runs.specs.Heeding.{heeding}
use Rattle.flash_runs.specs.Refusals.{awaits}
use Rattle.flash_runs.proofs.Judged.{shown-awaits}

-- ---- what a list of steps begins with

module _ {A : Type 0} {g h : Given A} {x y : List ℕ} {xs ys : List (Did A)} (e : did g x ∷ xs ≡ did h y ∷ ys) where
  same-given : g ≡ h
  same-given = let one : did g x ≡ did h y = cc in ap (λ d. d.given) one

  same-rest : xs ≡ ys
  same-rest = cc

acts-as : {A : Type 0} {v w : Shown} → ◌≡◌ {A = Given A} (act v) (act w) → v ≡ w
acts-as e = cc

ended-not : {A : Type 0} (a : A) (w : Shown) → ended a ≡ act w → ⊥
ended-not a w h = let z : ◌≡◌ {A = ℕ} 0 1 = cc in omega arith

failed-not : {A : Type 0} (x : FlashError) (w : Shown) → ◌≡◌ {A = Given A} (failed x) (act w) → ⊥
failed-not x w h = let z : ◌≡◌ {A = ℕ} 0 1 = cc in omega arith

module _ {S A C : Type 0} (next : S → Outcome → Decision S A) (k : Takes) (whole : Bool) where
  abbrev entries : Config S → List (Event C) → List (Entry C A)
  entries c es = goes_on (machine next C) c es

  abbrev heeded : List (Entry C A) → List Answer
  heeded xs = replies_of (events_of (accepted xs))

  -- from an action that is out, of a program that does what the run does
  abbrev Heeds : List (Event C) → Type 0
  Heeds es = (s : S) (f : Frame) (w : Shown) (then : Answer → BusProg A) (buffer : List ℕ) → awaits w ≡ awaits_of (action_of f) →
      let xs = entries (out k s f) es in
      looking whole (told (accepted xs)) ≡ looking whole (performed_then then (heeded xs) buffer) →
      looking whole (heeding k (does w then) es buffer) ≡ looking whole (did (act w) buffer ∷ performed_then then (heeded xs) buffer)

  -- a program that does an action and goes on as the run does
  module _ (es : List (Event C)) (ih : Heeds es) (s : S) (f : Frame) (v : Shown) (shows : awaits v ≡ awaits_of (action_of f)) (left : List ℕ) where
    pub goes-on : (p : BusProg A) (buffer : List ℕ) → let xs = entries (out k s f) es in
        looking whole (did (act v) left ∷ told (accepted xs)) ≡ looking whole (performed p (heeded xs) buffer) → looking whole (heeding k p es buffer) ≡ looking whole (performed p (heeded xs) buffer)
    unfolding heeding performed
    goes-on (answers a) buffer e = refl
    goes-on (stops x) buffer e = refl
    goes-on (fills at bytes p) buffer e = goes-on p (delivered_of buffer at bytes) e
    goes-on (does w then) buffer e =
        let xs = entries (out k s f) es in
        let first = does-first w then (heeded xs) buffer in
        let both = e ∙ ap (looking whole) first in
        ih s f w then buffer (ap awaits (sym (acts-as (same-given both))) ∙ shows) (same-rest both) ∙ sym (ap (looking whole) first)

  -- a program that ends as the run does
  module _ (g : Given A) (ends : (w : Shown) → g ≡ act w → ⊥) (es : List (Event C)) (left : List ℕ) (rs : List Answer) where
    ends-so : (p : BusProg A) (buffer : List ℕ) → did g (looked whole left) ∷ [] ≡ looking whole (performed p rs buffer) → looking whole (heeding k p es buffer) ≡ looking whole (performed p rs buffer)
    unfolding heeding performed
    ends-so (answers a) buffer e = refl
    ends-so (stops x) buffer e = refl
    ends-so (fills at bytes p) buffer e = ends-so p (delivered_of buffer at bytes) e
    ends-so (does w then) buffer e = absurd (ends w (same-given (e ∙ ap (looking whole) (does-first w then rs buffer))))

  -- behind a step that was not refused
  abbrev Behind : List (Event C) → Moved (Config S) A → Type 0
  Behind es m = (p : BusProg A) (buffer : List ℕ) → let xs = entries m.flash es in
      looking whole (told_then m.given m.left.buffer (told (accepted xs))) ≡ looking whole (performed p (heeded xs) buffer) → looking whole (heeding k p es buffer) ≡ looking whole (performed p (heeded xs) buffer)

  settles : (es : List (Event C)) → Heeds es → (d : Decision S A) (l : Lent) → Behind es (settle k d l)
  settles es ih (more t s) l = goes-on es ih s (first_of t) (shown_of (action_of (first_of t)) l.scratch l.given) (shown-awaits _ _ _) l.buffer
  settles es ih (well a) l = ends-so (ended a) (ended-not a) es l.buffer (heeded (entries rest es))
  settles es ih (bad x) l = ends-so (failed x) (failed-not x) es l.buffer (heeded (entries rest es))

  -- a reply that fits
  module _ (es : List (Event C)) (ih : Heeds es) (s : S) (f : Frame) (r : Reply) (bytes : List ℕ) (l : Lent) (left : List ℕ) where
    abbrev goes_to : Advanced → Moved (Config S) A
    goes_to a = let x = gave a l.scratch left in moved next k s f x.exchanged l x.scratch x.buffer

    behind : (a : Advanced) → Behind es (goes_to a)
    behind (Advanced.More g) = goes-on es ih s g (shown_of (action_of g) (given_scratch g l.scratch) l.given) (shown-awaits _ _ _) left
    behind (Advanced.Over o) = settles es ih (next s o) (lent_as l.scratch left l)

    takes : (a : Advanced) → Takes-it (goes_to a).given
    takes (Advanced.More g) = tt
    takes (Advanced.Over o) = settle-takes k (next s o) (lent_as l.scratch left l)

    fitted : (a : Advanced) (w : Shown) (then : Answer → BusProg A) (buffer : List ℕ) →
        let xs = entry (reply r bytes l) (goes_to a) ∷ entries (goes_to a).flash es in
        looking whole (told (accepted xs)) ≡ looking whole (performed_then then (heeded xs) buffer) →
        looking whole (did (act w) buffer ∷ heeding k (then (answer_of r bytes)) es buffer) ≡ looking whole (did (act w) buffer ∷ performed_then then (heeded xs) buffer)
    unfolding accepted told performed_then
    fitted a w then buffer =
        let later = accepted (entries (goes_to a).flash es) in
        subst (λ (ys : List (Entry C A)). looking whole (told ys) ≡ looking whole (performed_then then (replies_of (events_of ys)) buffer) →
        looking whole (did (act w) buffer ∷ heeding k (then (answer_of r bytes)) es buffer) ≡ looking whole (did (act w) buffer ∷ performed_then then (replies_of (events_of ys)) buffer))
        (sym (counts (goes_to a).given (takes a) (entry (reply r bytes l) (goes_to a) ∷ later) later))
        (λ e. ap (λ ds. did (act w) (looked whole buffer) ∷ ds) (behind a (then (answer_of r bytes)) buffer e))

  pub heeds-fitting : (es : List (Event C)) → Heeds es
  unfolding goes_on accepted told heeding performed_then exchange_of fits_of
  heeds-fitting [] s f w then buffer shows e = refl
  heeds-fitting (call c l ∷ es) s f w then buffer shows e = heeds-fitting es s f w then buffer shows e
  heeds-fitting (reply r bytes l ∷ es) s f w then buffer shows e =
      by_cases (ready_for k l)
      (λ ready. by_cases (fits_at (awaits_of (action_of f)) r (length bytes))
      (λ fits. rw (ready, shows, fits) (fitted es (heeds-fitting es) s f r bytes l (taken_in f r bytes l.buffer) (advanced_of f r bytes l.given) w then buffer (rw (ready, fits) at e)))
      (λ misfit. rw (ready, shows, misfit) (heeds-fitting es s f w then buffer shows (rw (ready, misfit) at e))))
      (λ ready. rw ready (heeds-fitting es s f w then buffer shows (rw ready at e)))

-- A call ends with select high.
use Prim.Native.Nat.{ℕ}
use mathlib.Core.Bool.{Bool, true}
use mathlib.Core.Path.{◌≡◌, refl}
use mathlib.Core.List.{List, [], ◌∷◌}
use Rattle.qspi.specs.Shown.{shown_of}
use Rattle.qspi.specs.Frame.{Outcome, first_of, action_of, exchange_of}
use Rattle.qspi.specs.declared.transfer.Transfer.{Transfer}
use Rattle.qspi.specs.declared.frame.Stage.{Stage}
use Rattle.qspi.specs.declared.frame.Frame.{Frame}
use Rattle.spi_flash.specs.declared.loan.Takes.{Takes}
use Rattle.spi_flash.specs.Loan.{Lent, lent_as}
use Rattle.spi_flash.specs.Run.{Event, reply, call, Moved, goes_on}
use Rattle.spi_flash.proofs.Machine.{Decision, more, well, bad, Config, out, settle, moved, machine}
use Rattle.spi_flash.specs.Seen.{select_after, high_then, EndsHigh}
use Rattle.spi_flash.proofs.Runs.{Last, Begun, heard-view}

-- where the action that is out is the last of its transfer, select is high
abbrev pub Raised : Stage → Transfer → Bool → Type 0
Raised stage t select = Last stage t → select ≡ true

-- select goes high with the last action; a delay leaves it high
pub first-raised : (t : Transfer) (scratch lent : List ℕ) → Raised Stage.Start t (select_after (shown_of (action_of (first_of t)) scratch lent) true)
unfolding action_of first_of
first-raised Transfer.Raise scratch lent c = refl
first-raised (Transfer.Pause us) scratch lent c = refl
first-raised (Transfer.Framed c body) scratch lent h = absurd h

later-raised : (stage : Stage) (t : Transfer) (o : Outcome) (scratch lent : List ℕ) (select : Bool) → Begun stage →
    Raised stage t (select_after (shown_of (action_of (record { transfer = t; stage = stage; outcome = o })) scratch lent) select)
unfolding action_of
later-raised Stage.Start t o scratch lent select h c = absurd h
later-raised Stage.Command t o scratch lent select h c = absurd c
later-raised Stage.Payload t o scratch lent select h c = absurd c
later-raised Stage.High t o scratch lent select h c = refl

module _ {S A C : Type 0} (next : S → Outcome → Decision S A) (k : Takes) where
  abbrev after : Moved (Config S) A → List (Event C) → Bool → Type 0
  after m es before = high_then m.given before (λ select. EndsHigh select (goes_on (machine next C) m.flash es))

  settled-high : (es : List (Event C)) → ((s : S) (f : Frame) (select : Bool) → Raised f.stage f.transfer select → EndsHigh select (goes_on (machine next C) (out k s f) es)) →
      (d : Decision S A) (l : Lent) → after (settle k d l) es true
  unfolding first_of
  settled-high es ih (more t s) l = ih s (first_of t) _ (first-raised t l.scratch l.given)
  settled-high es ih (well a) l = refl
  settled-high es ih (bad e) l = refl

  pub ends-high : (s : S) (f : Frame) (es : List (Event C)) (select : Bool) → Raised f.stage f.transfer select → EndsHigh select (goes_on (machine next C) (out k s f) es)
  unfolding goes_on EndsHigh
  ends-high s f [] select h = tt
  ends-high s f (call c l ∷ es) select h = ends-high s f es select h
  ends-high s f (reply r bytes l ∷ es) select h =
      let x = exchange_of f r bytes l.scratch l.buffer l.given in
      heard-view k f r bytes l
      (λ y. after (moved next k s f y l x.scratch x.buffer) es select)
      (ends-high s f es select h)
      (λ g e. ends-high s g es _ (later-raised g.stage g.transfer g.outcome x.scratch l.given select e.begun))
      (λ o c. rw (h c) (settled-high es (λ s' g b i. ends-high s' g es b i) (next s o) (lent_as x.scratch x.buffer l)))

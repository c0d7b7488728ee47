-- Replies on which a call ends well having asked a sum of delays that its program can come to.
use Prim.Native.Nat.{ℕ}
use native.Mathlib.Omega.{arith}
use mathlib.Core.Path.{◌≡◌, subst}
use mathlib.Core.List.{List, [], ◌∷◌}
use lib.ListN.{length}
use Rattle.qspi.specs.Frame.{Outcome, first_of, exchange_of}
use Rattle.qspi.specs.declared.frame.Exchanged.{Exchanged}
use Rattle.qspi.specs.declared.frame.Frame.{Frame}
use Rattle.spi_flash.specs.Loan.{Lent, lent_as}
use Rattle.spi_flash.proofs.Machine.{Decision, more, well, bad, Config, machine, out, settle, moved, Trail, decided_trail, heard_trail, trail}
use Rattle.spi_flash.specs.Path.{Past, End, going, done, failed, spent, delays, asked, Well, Ends}
use Rattle.spi_flash.specs.Prog.{ask}
use Rattle.spi_flash.specs.Run as Run
use Rattle.spi_flash.specs.Run.{Event, reply, call, delay_asked, Fitting, Answer, RealReplies, answering, Lending, goes_on}
use Rattle.spi_flash.specs.declared.loan.Takes.{Takes}
use Rattle.spi_flash.proofs.Reach.{reached}
use Rattle.spi_flash.proofs.Runs.{heard-view, first-delay, trail-asks}
use Rattle.flash_runs.specs.Driver.{Left, Driver, takes_at, program_at, run_at}
use Rattle.flash_runs.specs.Watch.{succeeded_then, Succeeded}
use Rattle.flash_runs.proofs.General.{decide_next}
use Rattle.flash_runs.proofs.Supplies.{Known}
use Rattle.flash_runs.proofs.Views.{shape, Opens, opens-run}

IsDone : {B : Type 0} → End B → Type 0
IsDone (going t) = ⊥
IsDone (done b) = Unit {0}
IsDone (failed e) = ⊥

abbrev Asks : {B : Type 0} → B → ℕ → List Past → End B → Type 0
Asks a b past end = Well (λ x xs. (x ≡ a) × (spent delays xs ≡ b)) past end

well-done : {B : Type 0} (a : B) (b : ℕ) (past : List Past) (end : End B) → Asks a b past end → IsDone end
unfolding IsDone
well-done a b past (going t) h = h
well-done a b past (done x) h = tt
well-done a b past (failed e) h = h

well-asked : {B : Type 0} (a : B) (b : ℕ) (past : List Past) (end : End B) → Asks a b past end → asked delays past end ≡ b
well-asked a b past (going t) h = absurd h
well-asked a b past (done x) h = omega (arith, h.1)
well-asked a b past (failed e) h = absurd h

-- where the path of a run has ended well, the run has
module _ (C : Type 0) {T A : Type 0} (next : T → Outcome → Decision T A) (k : Takes) where
  abbrev after : Run.Moved (Config T) A → List (Event C) → Type 0
  after m es = succeeded_then m.given (Succeeded (goes_on (machine next C) m.flash es))

  settled-succeeds : (es : List (Event C)) → ((s : T) (f : Frame) → IsDone (trail next k s f es).stop → Succeeded (goes_on (machine next C) (out k s f) es)) →
      (d : Decision T A) (l : Lent) → IsDone (decided_trail d (λ t s. trail next k s (first_of t) es)).stop → after (settle k d l) es
  unfolding IsDone first_of
  settled-succeeds es ih (more t s) l h = ih s (first_of t) h
  settled-succeeds es ih (well b) l h = tt
  settled-succeeds es ih (bad x) l h = absurd h

  succeeds : (s : T) (f : Frame) (es : List (Event C)) → IsDone (trail next k s f es).stop → Succeeded (goes_on (machine next C) (out k s f) es)
  unfolding IsDone Succeeded goes_on trail
  succeeds s f [] h = absurd h
  succeeds s f (call c l ∷ es) h = succeeds s f es h
  succeeds s f (reply r bytes l ∷ es) h =
      let x = exchange_of f r bytes l.scratch l.buffer l.given in
      let onward : Exchanged → Trail A = λ y. heard_trail next s f y (λ g. trail next k s g es) (λ t s'. trail next k s' (first_of t) es) in
      heard-view k f r bytes l
      (λ y. IsDone (onward y).stop → after (moved next k s f y l x.scratch x.buffer) es)
      (λ i. succeeds s f es i)
      (λ g on i. succeeds s g es i)
      (λ o c i. settled-succeeds es (λ s' g j. succeeds s' g es j) (next s o) (lent_as x.scratch x.buffer l) i)
      h

module _ {F C S A : Type 0} {driver : Driver F C S A} (known : Known driver) (flash : F) (c : C) (l : Lent) (o : Opens known (shape known flash) c l) (b : ℕ) (a : Left S A) where
  pub ends-asking : Ends l.given delays b a (program_at driver (driver.setup flash) c l) →
      (replies : List Answer) × RealReplies replies ×
      ((ls : List Lent) → length ls ≡ length replies → Lending (takes_at driver c l) l.given ls →
      Fitting (run_at driver flash c l (answering replies ls)) × Succeeded (run_at driver flash c l (answering replies ls)) ×
      (delay_asked (run_at driver flash c l (answering replies ls)) ≡ b))
  unfolding delay_asked Fitting Succeeded first_of
  ends-asking ends =
      let takes = takes_at driver c l in
      let path : Ends l.given delays b a (ask o.first (known.meaning o.at)) = subst (Ends l.given delays b a) o.program ends in
      let r = reached C (decide_next known.parts) takes l.given known.Valid known.meaning known.supplies.simulates o.first o.at (Asks a b) o.valid path.ends in (
        r.0,
        r.1,
        λ ls n w.
            let h = r.2.leads ls n w in
            rw (opens-run known flash o (answering r.0 ls)) (
              r.2.fits ls n w,
              succeeds C (decide_next known.parts) takes o.at (first_of o.first) (answering r.0 ls) (well-done a b _ _ h),
              omega (arith, first-delay o.first l.scratch l.given, trail-asks {C = C} (decide_next known.parts) takes o.at (first_of o.first) (answering r.0 ls), well-asked a b _ _ h),
            ),
      )

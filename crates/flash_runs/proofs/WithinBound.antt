-- The delay bound, the end and the good end of every call, from the program that it follows.
use Prim.Native.Nat.{ℕ, ◌≤◌}
use native.Mathlib.Omega.{arith}
use mathlib.Core.Bool.{true, false}
use mathlib.Core.Logic.{⊎_elim}
use mathlib.Core.Option.{some}
use mathlib.Core.Path.{◌≡◌, refl, ap, subst}
use mathlib.Core.List.{List, [], ◌∷◌}
use lib.ListN.{length}
use Rattle.qspi.specs.Bytes.{AllBytes}
use Rattle.qspi.specs.Frame.{Outcome, first_of, exchange_of}
use Rattle.qspi.specs.declared.frame.Exchanged.{Exchanged}
use Rattle.qspi.specs.declared.frame.Frame.{Frame}
use Rattle.spi_flash.specs.Loan.{Lent, lent_as}
use Rattle.spi_flash.specs.Prog.{Prog, ask}
use Rattle.spi_flash.specs.Path.{Past, End, going, done, failed, spent, delays, asked, Well, Bounded, Ends}
use Rattle.spi_flash.proofs.Paths.{actions, Reaches, Never}
use Rattle.spi_flash.specs.Run as Run
use Rattle.spi_flash.specs.Seen.{told_then, told}
use Rattle.spi_flash.specs.declared.loan.Takes.{Takes}
use Rattle.spi_flash.specs.Run.{Event, reply, call, delay_asked, Fitting, HasEnded, Lending, answering, goes_on}
use Rattle.spi_flash.proofs.Machine.{Decision, more, well, bad, Config, machine, out, settle, moved, Trail, decided_trail, heard_trail, trail}
use Rattle.spi_flash.proofs.Runs.{heard-view, first-delay, trail-asks, run-bound, run_ends}
use Rattle.spi_flash.proofs.Reach.{reached}
use Rattle.flash_runs.specs.Driver.{Left, Driver, takes_at, program_at, bound_at, most_actions_at, ends_at, run_at, steps_at}
use Rattle.flash_runs.specs.SameAsRust.{left_by}
use Rattle.flash_runs.specs.WithinBound.{GivesAction, actions_given, begun_bound, begun_bound_at, ComesTo, EndsWell, WithinBound}
use Rattle.flash_runs.specs.Watch.{Succeeded}
use Rattle.flash_runs.proofs.General.{Parts, Place, decide_next}
use Rattle.flash_runs.proofs.ActionsGiven.{run-gives}
use Rattle.flash_runs.proofs.EndsAsRust.{lending-data, ends-as-rust}
use Rattle.flash_runs.proofs.Supplies.{Asks, Supplies, Known}
use Rattle.flash_runs.proofs.Judged.{refuses-just}
use Rattle.flash_runs.proofs.Refusals.{refusals-keep}
use Rattle.flash_runs.proofs.Least.{run-never}
use Rattle.flash_runs.proofs.NoRun.{acts-alike, quiet-asked}
use Rattle.flash_runs.proofs.Views.{shape, Opens, Nothing-begun, view, begun-opens, no_run, on_machine, opens-run, opens-call}

-- where the path of a run has ended well, the run has ended with that answer
IsDone : {B : Type 0} → B → End B → Type 0
IsDone a (going t) = ⊥
IsDone a (done b) = b ≡ a
IsDone a (failed e) = ⊥

well-done : {B : Type 0} (a : B) (b : ℕ) (past : List Past) (end : End B) → Well (λ x xs. (x ≡ a) × (spent delays xs ≡ b)) past end → IsDone a end
unfolding IsDone
well-done a b past (going t) h = h
well-done a b past (done x) h = h.0
well-done a b past (failed e) h = h

module _ (C : Type 0) {S A T : Type 0} (next : T → Outcome → Decision T (Left S A)) (k : Takes) (a : Left S A) where
  abbrev after : Run.Moved (Config T) (Left S A) → List (Event C) → Type 0
  after m es = left_by (told_then m.given m.left.buffer (told (goes_on (machine next C) m.flash es))) ≡ some a

  settled-ends : (es : List (Event C)) → ((s : T) (f : Frame) → IsDone a (trail next k s f es).stop → left_by (told (goes_on (machine next C) (out k s f) es)) ≡ some a) →
      (d : Decision T (Left S A)) (l : Lent) → IsDone a (decided_trail d (λ t s. trail next k s (first_of t) es)).stop → after (settle k d l) es
  unfolding IsDone first_of
  settled-ends es ih (more t s) l h = ih s (first_of t) h
  settled-ends es ih (well b) l h = ap some h
  settled-ends es ih (bad x) l h = absurd h

  ends-with : (s : T) (f : Frame) (es : List (Event C)) → IsDone a (trail next k s f es).stop → left_by (told (goes_on (machine next C) (out k s f) es)) ≡ some a
  unfolding IsDone told goes_on trail
  ends-with s f [] h = absurd h
  ends-with s f (call c l ∷ es) h = ends-with s f es h
  ends-with s f (reply r bytes l ∷ es) h =
      let x = exchange_of f r bytes l.scratch l.buffer l.given in
      let onward : Exchanged → Trail (Left S A) = λ y. heard_trail next s f y (λ g. trail next k s g es) (λ t s'. trail next k s' (first_of t) es) in
      heard-view k f r bytes l
      (λ y. IsDone a (onward y).stop → after (moved next k s f y l x.scratch x.buffer) es)
      (λ i. ends-with s f es i)
      (λ g on i. ends-with s g es i)
      (λ o c i. settled-ends es (λ s' g j. ends-with s' g es j) (next s o) (lent_as x.scratch x.buffer l) i)
      h

module _ {F C S A : Type 0} {driver : Driver F C S A} (known : Known driver) where
  abbrev P : Type 0
  P = known.P

  abbrev parts : Parts S P A C
  parts = known.parts

  abbrev meaning : Place S P → ℕ → Prog (Left S A)
  meaning = known.meaning

  abbrev supplies : Supplies driver parts known.Valid known.Built meaning
  supplies = known.supplies

  module _ (flash : F) (c : C) (l : Lent) where
    abbrev Opened : Type 0
    Opened = Opens known (shape known flash) c l

    abbrev s : S
    s = driver.setup flash

    abbrev b : ℕ
    b = length l.buffer

    abbrev d : ℕ
    d = length l.given

    -- a program that is known to begin with a transfer asks
    asks : Opened → Asks (program_at driver s c l)
    asks o = rw o.program tt

    -- ---- never passed

    bounded-run : Opened → (es : List (Event C)) → delay_asked (run_at driver flash c l es) ≤ bound_at driver flash c l
    unfolding delay_asked
    bounded-run o es =
        rw (opens-run known flash o es)
        (omega (
          arith,
          first-delay o.first l.scratch l.given,
          run-bound known.Valid (decide_next parts) (takes_at driver c l) meaning supplies.simulates o.first o.at o.valid
              (subst (Bounded delays (bound_at driver flash c l)) o.program (supplies.bounded s c b d o.bounds)) es,
        ))

    quiet-run : Nothing-begun known (shape known flash) c l → (es : List (Event C)) → delay_asked (run_at driver flash c l es) ≤ bound_at driver flash c l
    unfolding delay_asked
    quiet-run n es = rw (no_run known flash n es) (omega arith)

    never-passed : (es : List (Event C)) → delay_asked (run_at driver flash c l es) ≤ bound_at driver flash c l
    never-passed es = ⊎_elim (λ n. quiet-run n es) (λ o. bounded-run o es) (view known flash c l)

    -- ---- reached

    comes-to : AllBytes l.given → Opened → ComesTo driver flash c l (bound_at driver flash c l)
    unfolding delay_asked Fitting first_of
    comes-to small o =
        let takes = takes_at driver c l in
        let most = bound_at driver flash c l in
        let path : Reaches l.given delays most (ask o.first (meaning o.at)) =
        subst (Reaches l.given delays most) o.program (supplies.reached s c b l.given o.bounds small (asks o)) in
        let r = reached C (decide_next parts) takes l.given known.Valid meaning supplies.simulates o.first o.at (λ past end. asked delays past end ≡ most) o.valid path.reach in
        record {
          replies = r.0;
          real = r.1;
          fits = λ ls n w. rw (opens-run known flash o (answering r.0 ls)) (r.2.fits ls n w);
          asks = λ ls n w.
              rw (opens-run known flash o (answering r.0 ls))
              (omega (arith, first-delay o.first l.scratch l.given, trail-asks {C = C} (decide_next parts) takes o.at (first_of o.first) (answering r.0 ls), r.2.leads ls n w));
        }

    -- ---- the actions given out

    gives-run : Opened → (es : List (Event C)) → actions_given (run_at driver flash c l es) ≤ most_actions_at driver flash c l
    unfolding actions_given
    gives-run o es =
        rw (opens-run known flash o es)
        (omega (
          arith,
          run-gives (decide_next parts) (takes_at driver c l) known.Valid meaning supplies.simulates o.first o.at o.valid
              (subst (Bounded actions (most_actions_at driver flash c l)) o.program (supplies.acts s c b d o.bounds)) es,
        ))

    quiet-gives : Nothing-begun known (shape known flash) c l → (es : List (Event C)) → actions_given (run_at driver flash c l es) ≤ most_actions_at driver flash c l
    unfolding actions_given
    quiet-gives n es = rw (no_run known flash n es) (omega arith)

    -- ---- every call ends

    run-has-ended : (es : List (Event C)) → Opened → Fitting (run_at driver flash c l es) → most_actions_at driver flash c l ≤ length es → HasEnded (run_at driver flash c l es)
    unfolding Fitting HasEnded
    run-has-ended es o fit long =
        let e = opens-run known flash o es in
        rw e
        (run_ends (decide_next parts) (takes_at driver c l) known.Valid meaning supplies.simulates o.first o.at o.valid
        (subst (Bounded actions (most_actions_at driver flash c l)) o.program (supplies.acts s c b d o.bounds))
        es (rw e at fit) long)

    -- ---- and ends well on some replies

    comes-well : AllBytes l.given → ends_at driver flash c l ≡ true → Opened → EndsWell driver flash c l
    unfolding told Fitting first_of
    comes-well small can o =
        let e = supplies.ends_well s c b l.given o.bounds small (asks o) can in
        let path : Ends l.given delays e.0 e.1 (ask o.first (meaning o.at)) = subst (Ends l.given delays e.0 e.1) o.program e.2 in
        let r = reached C (decide_next parts) (takes_at driver c l) l.given known.Valid meaning supplies.simulates o.first o.at (Well (λ x xs. (x ≡ e.1) × (spent delays xs ≡ e.0))) o.valid path.ends in
        let done : (ls : List Lent) → length ls ≡ length r.0 → Lending (takes_at driver c l) l.given ls → left_by (told (on_machine known o (answering r.0 ls))) ≡ some e.1 =
        λ ls n w. ends-with C (decide_next parts) (takes_at driver c l) e.1 o.at (first_of o.first) (answering r.0 ls) (well-done e.1 e.0 _ _ (r.2.leads ls n w)) in
        record {
          left = e.1;
          replies = r.0;
          real = r.1;
          fits = λ ls n w. rw (opens-run known flash o (answering r.0 ls)) (r.2.fits ls n w);
          ends = λ ls n w. rw (opens-run known flash o (answering r.0 ls)) (done ls n w);
          as_rust = λ ls n w.
              ends-as-rust known flash c l o (answering r.0 ls) e.1 (r.2.fits ls n w)
              (lending-data (machine (decide_next parts) C) (out (takes_at driver c l) o.at (first_of o.first)) (takes_at driver c l) l.given r.0 ls w)
              (rw (opens-call known flash o (answering r.0 ls)) (done ls n w));
        }

    -- ---- or never

    ends-never : Opened → ends_at driver flash c l ≡ false → (es : List (Event C)) → Succeeded (run_at driver flash c l es) → ⊥
    unfolding Succeeded first_of
    ends-never o cannot es e =
        run-never known.Valid (decide_next parts) (takes_at driver c l) meaning supplies.simulates o.first o.at o.valid
        (subst Never o.program (supplies.never s c b d o.bounds cannot)) es (rw (opens-run known flash o es) at e)

    quiet-never : Nothing-begun known (shape known flash) c l → (es : List (Event C)) → Succeeded (run_at driver flash c l es) → ⊥
    unfolding Succeeded
    quiet-never n es e = rw (no_run known flash n es) at e

  -- ---- over the steps on a driver at rest

  module _ (flash : F) (c : C) (l : Lent) (es : List (Event C)) (free : driver.system.running flash ≡ false) where
    abbrev AsksWithin : Run.Given (Left S A) → Type 0
    AsksWithin g = delay_asked (steps_at driver flash c l es) ≤ begun_bound g (bound_at driver flash c l)

    silent : (g : Run.Given (Left S A)) → (driver.system.begin flash c l).given ≡ g → (GivesAction g → ⊥) → delay_asked (steps_at driver flash c l es) ≡ 0
    silent g is quiet = quiet-asked (refuses-just known) (refusals-keep driver parts known.is) flash c l free (λ h. quiet (subst GivesAction is h)) es

    asks-within-as : (g : Run.Given (Left S A)) → (driver.system.begin flash c l).given ≡ g → AsksWithin g
    asks-within-as (Run.act shown) is =
        let same = ap delay_asked (acts-alike driver.system flash c l es shown is) in
        omega (arith, same, never-passed flash c l es)
    asks-within-as (Run.ended a) is = omega (arith, silent (Run.ended a) is (λ h. h))
    asks-within-as (Run.failed e) is = omega (arith, silent (Run.failed e) is (λ h. h))
    asks-within-as (Run.refused e) is = omega (arith, silent (Run.refused e) is (λ h. h))

    asks_within : delay_asked (steps_at driver flash c l es) ≤ begun_bound_at driver flash c l
    asks_within = asks-within-as (driver.system.begin flash c l).given refl

  pub within_bound : WithinBound driver
  within_bound = record {
    bounded = never-passed;
    asks_within = asks_within;
    without_run = λ flash c l es free silent. quiet-asked (refuses-just known) (refusals-keep driver parts known.is) flash c l free silent es;
    reached = λ flash c l small h. comes-to flash c l small (begun-opens known flash c l h);
    actions = λ flash c l es. ⊎_elim (λ n. quiet-gives flash c l n es) (λ o. gives-run flash c l o es) (view known flash c l);
    ends = λ flash c l es h fit long. run-has-ended flash c l es (begun-opens known flash c l h) fit long;
    never_ends = λ flash c l es cannot e. ⊎_elim (λ n. quiet-never flash c l n es e) (λ o. ends-never flash c l o cannot es e) (view known flash c l);
    ends_well = λ flash c l small h can. comes-well flash c l small can (begun-opens known flash c l h);
  }

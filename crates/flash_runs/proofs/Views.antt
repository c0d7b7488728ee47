-- A call begins with the first transfer of its program, or it ends at once, or it is turned away.
use Prim.Native.Nat.{ℕ, ◌≤◌}
use native.Mathlib.Omega.{arith}
use mathlib.Core.Bool.{Bool, true, false}
use mathlib.Core.Logic.{◌⊎◌, inl, inr, ⊎_elim}
use mathlib.Core.Path.{◌≡◌, refl, ap, sym, ◌∙◌, subst}
use mathlib.Core.List.{List, [], ◌∷◌}
use lib.ListN.{length}
use lib.Dec.{ltb}
use borrow.Author.Tests.{le-ltb}
use Rattle.qspi.specs.Frame.{first_of}
use Rattle.qspi.specs.Command.{scratch_least}
use Rattle.qspi.specs.declared.transfer.Transfer.{Transfer}
use Rattle.spi_flash.specs.Entry.{entry_of}
use Rattle.spi_flash.specs.Beginning as Beginning
use Rattle.spi_flash.specs.Settling as Settling
use Rattle.spi_flash.specs.Loan.{Lent}
use Rattle.spi_flash.specs.Prog.{Prog, ret, fail, ask}
use Rattle.spi_flash.specs.Run as Run
use Rattle.spi_flash.specs.Run.{Event, call, System, entry, goes_on, begun_with, run_of, opening, call_of}
use Rattle.spi_flash.proofs.Machine.{more, out, settle, machine, tree, refusing}
use Rattle.spi_flash.specs.declared.error.FlashError.{FlashError}
use Rattle.spi_flash.specs.declared.loan.Takes.{Takes}
use Rattle.qspi.proofs.Cases.{by_cases}
use Rattle.flash_runs.specs.Driver.{Left, leaving, Sort, constructs, tells, releases, uses, works_on, Driver, sort_at, takes_at, program_at, run_at, steps_at}
use Rattle.flash_runs.specs.WithinBound.{GivesAction, Begun}
use Rattle.flash_runs.specs.SameAsRust.{Ready, Usable}
use Rattle.flash_runs.proofs.General as General
use Rattle.flash_runs.proofs.General.{Then, Opening, constructing, telling, releasing, working, Parts, job_of, Running, idle, busy, is_busy, Flash, flash_of, Place, place, decide, decide_next, Step, settled, told, opened, freed, constructed, begun, opened_as, general}
use Rattle.flash_runs.proofs.Supplies.{Stays, Selects, Construction, Accessor, Release, Use, OpensAs, Known}
use Rattle.flash_runs.proofs.Runs.{machine-runs, viewed, same-run, same-call}

pub true≢false : true ≡ false → ⊥
true≢false h = let z : ◌≡◌ {A = ℕ} 0 1 = cc in omega arith

module _ {F C S A : Type 0} {driver : Driver F C S A} (known : Known driver) where
  abbrev P : Type 0
  P = known.P

  abbrev parts : Parts S P A C
  parts = known.parts

  abbrev Valid : Place S P → Type 0
  Valid = known.Valid

  abbrev Built : P → Type 0
  Built = known.Built

  abbrev meaning : Place S P → ℕ → Prog (Left S A)
  meaning = known.meaning

  -- a state of the driver as the general one has it
  abbrev pub shape : F → Flash S P
  shape = viewed driver parts known.is

  abbrev pub driven : System (Flash S P) C (Left S A)
  driven = general parts driver.in_bounds

  -- ---- a call that goes to the bus

  -- the driver while a call runs: a construction has made it not built
  abbrev pub running_at : Place S P → Bool → Takes → Transfer → Flash S P
  running_at at built takes first = flash_of at.setup built 0 (busy (job_of at.phase (first_of first) takes))

  -- a construction, or a call on a built driver
  pub data Began (flash : Flash S P) (c : C) (l : Lent) (at : Place S P) (built : Bool) (first : Transfer) : Type 0 where
    making : (fresh : S) → sort_at driver c l ≡ constructs fresh → built ≡ false → Began flash c l at built first
    serving : (takes : Takes) → sort_at driver c l ≡ uses takes → built ≡ true → Stays {A = A} Built flash.setup (General.go at.setup first at.phase) → Began flash c l at built first

  pub record Opens (flash : Flash S P) (c : C) (l : Lent) : Type 0 where
    pub first : Transfer
    pub at : Place S P
    pub built : Bool
    pub valid : Valid at
    pub program : program_at driver flash.setup c l ≡ ask first (meaning at)
    pub bounds : driver.in_bounds (works_on (sort_at driver c l) flash.setup) ≡ true
    pub is : driven.begin flash c l ≡ settled (flash_of at.setup built 0 idle) (takes_at driver c l) (General.go at.setup first at.phase) l
    pub selects : Selects first
    pub began : Began flash c l at built first

  -- ---- a call that ends at once

  -- the driver is there as before, but for a release
  abbrev pub Kept : Sort S → Bool → Type 0
  Kept (constructs fresh) built = ⊥
  Kept tells built = built ≡ true
  Kept releases built = built ≡ false
  Kept (uses takes) built = built ≡ true

  -- without the bus: with an answer, or turned away by the Rust's tests
  pub data Answered (flash : Flash S P) (c : C) (l : Lent) : Type 0 where
    gives : (a : A) (built : Bool) (delivered : ℕ) → program_at driver flash.setup c l ≡ ret (leaving flash.setup a) →
        driven.begin flash c l ≡ record { given = Run.ended (leaving flash.setup a); flash = flash_of flash.setup built delivered idle; left = l } →
        Kept (sort_at driver c l) built → Answered flash c l
    turns : (e : FlashError) (takes : Takes) → program_at driver flash.setup c l ≡ fail e →
        driven.begin flash c l ≡ refusing e flash l → sort_at driver c l ≡ uses takes → Answered flash c l

  pub record Nothing-begun (flash : Flash S P) (c : C) (l : Lent) : Type 0 where
    pub none : (es : List (Event C)) → run_of driven flash c l es ≡ []
    pub no-action : GivesAction (driven.begin flash c l).given → ⊥

  -- ---- on a driver at rest

  module _ (setup : S) (built : Bool) (delivered : ℕ) (c : C) (l : Lent) where
    abbrev flash : Flash S P
    flash = flash_of setup built delivered idle

    abbrev buffer : ℕ
    buffer = length l.buffer

    abbrev given : ℕ
    given = length l.given

    abbrev Knows : Opening S P A → Type 0
    Knows x = OpensAs driver parts Valid Built meaning setup c buffer given x

    -- what the call comes to when the host and the driver are ready for it
    abbrev Result : Type 0
    Result = Answered flash c l ⊎ Opens flash c l

    module _ (takes : Takes) (then : Then S P A) (u : Use driver parts Valid Built meaning setup c buffer given takes then)
        (is : driven.begin flash c l ≡ begun parts driver.in_bounds flash takes then l)
        (there : built ≡ true) (lent : ltb (length l.scratch) scratch_least ≡ false) (inside : driver.in_bounds setup ≡ true) where
      opens : driven.begin flash c l ≡ opened flash takes then l
      unfolding Beginning.begun entry_of
      opens = is ∙ rw (there, lent, inside) refl

      opened-as : (x : Then S P A) → then ≡ x → Result
      unfolding Beginning.opened Settling.settled
      opened-as (General.go s t phase) e =
          inr (record {
            first = t;
            at = place s phase;
            built = built;
            valid = rw e at (u.valid inside);
            program = u.follows inside ∙ ap (λ x. tree meaning (decide x)) e;
            bounds = rw u.sorted inside;
            is = opens ∙ rw (e, u.sorted) refl;
            selects = rw e at u.selects;
            began = serving takes u.sorted there (rw e at u.stays);
          })
      opened-as (General.end s answer) e =
          let same : s ≡ setup = rw e at u.stays in
          inl (gives answer true 0
          (u.follows inside ∙ ap (λ x. tree meaning (decide x)) e ∙ ap (λ x. ret (leaving x answer)) same)
          (opens ∙ rw (e, same) refl)
          (rw u.sorted refl))
      opened-as (General.fail error) e =
          inl (turns error takes (u.follows inside ∙ ap (λ x. tree meaning (decide x)) e) (opens ∙ rw e refl) u.sorted)

      used : Result
      used = opened-as then refl

    makes : (fresh : S) → Construction driver parts Valid Built meaning setup c buffer given fresh → driven.begin flash c l ≡ constructed parts driver.in_bounds flash fresh l →
        ltb (length l.scratch) scratch_least ≡ false → driver.in_bounds fresh ≡ true → Opens flash c l
    unfolding Beginning.constructed entry_of
    makes fresh k is lent inside = record {
      first = Transfer.Raise;
      at = place fresh parts.raised;
      built = false;
      valid = k.valid inside;
      program = k.follows inside;
      bounds = rw k.sorted inside;
      is = is ∙ rw (lent, inside, k.sorted) refl;
      selects = λ select. refl;
      began = making fresh k.sorted refl;
    }

    tells-it : (answer : A) → Accessor driver parts Valid Built meaning setup c buffer given answer → driven.begin flash c l ≡ told flash answer l → built ≡ true → Answered flash c l
    unfolding Beginning.told
    tells-it answer a is there = gives answer built delivered a.follows (is ∙ rw there refl) (rw a.sorted there)

    frees-it : Release driver parts Valid Built meaning setup c buffer given → driven.begin flash c l ≡ freed parts driver.in_bounds flash l → built ≡ true → Answered flash c l
    unfolding Beginning.freed
    frees-it r is there = gives parts.done false delivered r.follows (is ∙ rw there refl) (rw r.sorted refl)

    -- ready or not, what gives no action has no run
    quiet : (g : Run.Given (Left S A)) → (driven.begin flash c l).given ≡ g → (GivesAction g → ⊥) → Nothing-begun flash c l
    unfolding run_of
    quiet g is silent = record {
      none = λ es. ap (λ x. begun_with driven x c l (driven.begin flash c l) es) is ∙ empty g (driven.begin flash c l) silent es;
      no-action = λ h. silent (subst GivesAction is h);
    }
      where
        empty : (g : Run.Given (Left S A)) (m : Step S P A) → (GivesAction g → ⊥) → (es : List (Event C)) → begun_with driven g c l m es ≡ []
        empty (Run.act shown) m silent es = absurd (silent tt)
        empty (Run.ended a) m silent es = refl
        empty (Run.failed e) m silent es = refl
        empty (Run.refused e) m silent es = refl

    abbrev View : Type 0
    View = Nothing-begun flash c l ⊎ Opens flash c l

    answered-quiet : Answered flash c l → Nothing-begun flash c l
    answered-quiet (gives a u n p is k) = quiet (Run.ended (leaving setup a)) (ap (λ m. m.given) is) (λ h. h)
    answered-quiet (turns e takes p is k) = quiet (Run.refused e) (ap (λ m. m.given) is) (λ h. h)

    seen : Result → View
    seen (inl a) = inl (answered-quiet a)
    seen (inr o) = inr o

    refused-view : (e : FlashError) → (driven.begin flash c l).given ≡ Run.refused e → View
    refused-view e is = inl (quiet (Run.refused e) is (λ h. h))

    opening-view : (x : Opening S P A) → driven.begin flash c l ≡ opened_as parts driver.in_bounds flash x l → Knows x → View
    unfolding Beginning.at_rest Beginning.begun Beginning.constructed Beginning.told Beginning.freed entry_of
    opening-view (working takes then) is u =
        by_cases built
        (λ there. by_cases (ltb (length l.scratch) scratch_least)
        (λ short. refused-view FlashError.Misfit (ap (λ m. m.given) is ∙ rw (there, short) refl))
        (λ lent. by_cases (driver.in_bounds setup)
        (λ inside. seen (used takes then u is there lent inside))
        (λ outside. refused-view FlashError.InvalidGeometry (ap (λ m. m.given) is ∙ rw (there, lent, outside) refl))))
        (λ absent. refused-view FlashError.OutOfTurn (ap (λ m. m.given) is ∙ rw absent refl))
    opening-view (constructing fresh) is k =
        by_cases (ltb (length l.scratch) scratch_least)
        (λ short. refused-view FlashError.Misfit (ap (λ m. m.given) is ∙ rw short refl))
        (λ lent. by_cases (driver.in_bounds fresh)
        (λ inside. inr (makes fresh k is lent inside))
        (λ outside. refused-view FlashError.InvalidGeometry (ap (λ m. m.given) is ∙ rw (lent, outside) refl)))
    opening-view (telling answer) is a =
        by_cases built
        (λ there. inl (answered-quiet (tells-it answer a is there)))
        (λ absent. refused-view FlashError.OutOfTurn (ap (λ m. m.given) is ∙ rw absent refl))
    opening-view releasing is r =
        by_cases built
        (λ there. inl (answered-quiet (frees-it r is there)))
        (λ absent. refused-view FlashError.OutOfTurn (ap (λ m. m.given) is ∙ rw absent refl))

    -- what is ready, told by what the driver holds
    abbrev ReadyAs : Sort S → Type 0
    ReadyAs (constructs fresh) = scratch_least ≤ length l.scratch
    ReadyAs tells = built ≡ true
    ReadyAs releases = built ≡ true
    ReadyAs (uses takes) = (built ≡ true) × (scratch_least ≤ length l.scratch)

    opening-usable : (x : Opening S P A) → driven.begin flash c l ≡ opened_as parts driver.in_bounds flash x l → Knows x →
        ReadyAs (sort_at driver c l) → driver.in_bounds (works_on (sort_at driver c l) setup) ≡ true → Result
    unfolding Beginning.at_rest
    opening-usable (working takes then) is u ready bounds =
        let h : (built ≡ true) × (scratch_least ≤ length l.scratch) = subst ReadyAs u.sorted ready in
        used takes then u is h.0 (le-ltb (length l.scratch) scratch_least h.1) (subst (λ x. driver.in_bounds (works_on x setup) ≡ true) u.sorted bounds)
    opening-usable (constructing fresh) is k ready bounds =
        inr (makes fresh k is (le-ltb (length l.scratch) scratch_least (subst ReadyAs k.sorted ready)) (subst (λ x. driver.in_bounds (works_on x setup) ≡ true) k.sorted bounds))
    opening-usable (telling answer) is a ready bounds = inl (tells-it answer a is (subst ReadyAs a.sorted ready))
    opening-usable releasing is r ready bounds = inl (frees-it r is (subst ReadyAs r.sorted ready))

    begins-as : Knows (parts.opening setup c buffer given)
    begins-as = known.supplies.opens setup c buffer given

    at_rest-view : View
    at_rest-view = opening-view (parts.opening setup c buffer given) refl begins-as

    usable-at-rest : ReadyAs (sort_at driver c l) → driver.in_bounds (works_on (sort_at driver c l) setup) ≡ true → Result
    usable-at-rest = opening-usable (parts.opening setup c buffer given) refl begins-as

  -- ---- on every driver

  -- a call begun during another has no run
  view-at : (setup : S) (built : Bool) (delivered : ℕ) (running : Running P) (c : C) (l : Lent) →
      Nothing-begun (flash_of setup built delivered running) c l ⊎ Opens (flash_of setup built delivered running) c l
  unfolding run_of
  view-at s u n idle c l = at_rest-view s u n c l
  view-at s u n (busy job) c l = inl (record { none = λ es. refl; no-action = λ h. h })

  pub general-view : (flash : Flash S P) (c : C) (l : Lent) → Nothing-begun flash c l ⊎ Opens flash c l
  general-view flash c l = view-at flash.setup flash.built flash.delivered flash.running c l

  pub view : (flash : F) (c : C) (l : Lent) → Nothing-begun (shape flash) c l ⊎ Opens (shape flash) c l
  view flash c l = general-view (shape flash) c l

  -- a call that has given out an action
  pub begun-opens : (flash : F) (c : C) (l : Lent) → Begun driver flash c l → Opens (shape flash) c l
  begun-opens flash c l h = ⊎_elim (λ n. absurd (n.no-action (subst GivesAction (known.is.begins flash c l).given h))) (λ o. o) (view flash c l)

  ready-as : (flash : F) (c : C) (l : Lent) (x : Sort S) → Ready driver x flash l → ReadyAs (driver.setup flash) (driver.built flash) (known.is.count flash) c l x
  ready-as flash c l (constructs fresh) h = h
  ready-as flash c l tells h = h
  ready-as flash c l releases h = h
  ready-as flash c l (uses takes) h = h

  usable_at : (running : Running P) (flash : F) (c : C) (l : Lent) → is_busy running ≡ false → Usable driver flash c l →
      let f = flash_of (driver.setup flash) (driver.built flash) (known.is.count flash) running in Answered f c l ⊎ Opens f c l
  usable_at idle flash c l free h =
      usable-at-rest (driver.setup flash) (driver.built flash) (known.is.count flash) c l (ready-as flash c l (sort_at driver c l) h.ready) h.bounds
  usable_at (busy job) flash c l free h = absurd (true≢false free)

  pub usable : (flash : F) (c : C) (l : Lent) → Usable driver flash c l → Answered (shape flash) c l ⊎ Opens (shape flash) c l
  usable flash c l h = usable_at (known.is.running flash) flash c l (sym (known.is.runs flash) ∙ h.idle) h

  -- its run is the machine's
  pub no_run : (flash : F) {c : C} {l : Lent} → Nothing-begun (shape flash) c l → (es : List (Event C)) → run_at driver flash c l es ≡ []
  no_run flash {c} {l} n es = same-run driver parts known.is flash c l es ∙ n.none es

  pub opens-steps : {flash : Flash S P} {c : C} {l : Lent} (o : Opens flash c l) (es : List (Event C)) → run_of driven flash c l es ≡
      entry (call c l) (settle (takes_at driver c l) (more o.first o.at) l) ∷ goes_on driven (running_at o.at o.built (takes_at driver c l) o.first) es
  unfolding run_of Settling.settled
  opens-steps {flash} {c} {l} o es = ap (λ m. begun_with driven m.given c l m es) o.is

  abbrev pub on_machine : {flash : Flash S P} {c : C} {l : Lent} → Opens flash c l → List (Event C) → List (Run.Entry C (Left S A))
  on_machine {c = c} {l} o es =
      entry (call c l) (settle (takes_at driver c l) (more o.first o.at) l) ∷
      goes_on (machine (decide_next parts) C) (out (takes_at driver c l) o.at (first_of o.first)) es

  pub opens-run : (flash : F) {c : C} {l : Lent} (o : Opens (shape flash) c l) (es : List (Event C)) → run_at driver flash c l es ≡ on_machine o es
  opens-run flash {c} {l} o es =
      same-run driver parts known.is flash c l es
      ∙ opens-steps o es
      ∙ ap (λ xs. entry (call c l) (settle (takes_at driver c l) (more o.first o.at) l) ∷ xs)
      (machine-runs parts driver.in_bounds (running_at o.at o.built (takes_at driver c l) o.first) es)

  pub opens-call : (flash : F) {c : C} {l : Lent} (o : Opens (shape flash) c l) (es : List (Event C)) → steps_at driver flash c l es ≡ on_machine o es
  unfolding call_of Settling.settled
  opens-call flash {c} {l} o es =
      same-call driver parts known.is flash c l es
      ∙ ap (λ m. opening c l m ∷ goes_on driven m.flash es) o.is
      ∙ ap (λ xs. entry (call c l) (settle (takes_at driver c l) (more o.first o.at) l) ∷ xs)
      (machine-runs parts driver.in_bounds (running_at o.at o.built (takes_at driver c l) o.first) es)

-- A driver that is built holds what its construction judged.
use Prim.Native.Nat.{ℕ, ◌≤◌}
use mathlib.Core.Bool.{Bool, true, false}
use mathlib.Core.Logic.{◌⊎◌, inl, inr}
use mathlib.Core.Option.{some, none}
use mathlib.Core.Path.{◌≡◌, refl, ap, sym, ◌∙◌, subst}
use mathlib.Core.List.{List, [], ◌∷◌, map}
use lib.ListN.{length}
use lib.Dec.{ltb}
use Rattle.qspi.specs.Choice.{pick}
use Rattle.qspi.specs.Command.{scratch_least}
use Rattle.qspi.specs.Frame.{Outcome, taken_in}
use Rattle.qspi.specs.declared.transfer.Transfer.{Transfer}
use Rattle.qspi.specs.declared.bus.Reply.{Reply}
use Rattle.spi_flash.specs.Beginning as Beginning
use Rattle.spi_flash.specs.Entry.{entry_of}
use Rattle.spi_flash.specs.Settling as Settling
use Rattle.spi_flash.specs.Loan.{Lent, lent_as}
use Rattle.spi_flash.specs.Run.{Event, reply, call, System, state_after}
use Rattle.spi_flash.specs.Seen.{gives_of}
use Rattle.spi_flash.specs.declared.loan.Takes.{Takes}
use Rattle.qspi.proofs.Cases.{by_cases, keeps-pick}
use Rattle.flash_runs.specs.Built.{after_turns, GivenInside, Admissible, BuiltInside}
use Rattle.flash_runs.specs.Driver.{Left, Sort, constructs, tells, releases, uses, works_on, Driver, sort_at}
use Rattle.flash_runs.specs.SameAsRust.{Turn, Ready, Steady, turn_after, EachTurn, Alone, SteadyAlone, heeding_turn, rust_session, driver_of}
use Rattle.flash_runs.proofs.General as General
use Rattle.flash_runs.proofs.General.{Then, Opening, constructing, telling, releasing, working, Parts, Job, Running, idle, busy, is_busy, Flash, flash_of, Place, place, settled, opened, general, opened_as, begin_at, answer_at, proceeds}
use Rattle.flash_runs.proofs.Supplies.{Stays, OpensAs, Known}
use Rattle.flash_runs.proofs.Steps.{step-view}
use Rattle.flash_runs.proofs.Runs.{viewed, same-state}
use Rattle.flash_runs.proofs.SameAsRust.{same_as_rust}
use Rattle.flash_runs.proofs.Views.{true≢false}

-- ---- the general driver

-- Sound is what a built driver holds; Making is what holds while a construction runs
module _ {S P A C : Type 0} (parts : Parts S P A C) (in_bounds : S → Bool) (Built : P → Type 0) (Sound : S → Type 0) (Making : Place S P → Type 0) where
  -- what a construction comes to
  abbrev pub MakingThen : Then S P A → Type 0
  MakingThen (General.go s t phase) = Making (place s phase)
  MakingThen (General.end s answer) = Sound s
  MakingThen (General.fail e) = Unit {0}

  abbrev OpeningStays : S → Opening S P A → Type 0
  OpeningStays s (constructing own) = Unit {0}
  OpeningStays s (telling answer) = Unit {0}
  OpeningStays s releasing = Unit {0}
  OpeningStays s (working takes then) = Stays Built s then

  -- a call on a built driver, or a construction
  abbrev Runs : S → Bool → Running P → Type 0
  Runs s built idle = Unit {0}
  Runs s built (busy job) = (Built job.phase × (built ≡ true)) ⊎ ((built ≡ false) × Making (place s job.phase))

  abbrev pub Holds : Flash S P → Type 0
  Holds flash = (flash.built ≡ true → Sound flash.setup) × Runs flash.setup flash.built flash.running

  module _ (stays : (s : S) (phase : P) (o : Outcome) → Built phase → Stays Built s (parts.next s phase o))
      (makes : (s : S) (phase : P) (o : Outcome) → Making (place s phase) → MakingThen (parts.next s phase o))
      (raises : (own : S) → in_bounds own ≡ true → Making (place own parts.raised))
      (opens : (s : S) (c : C) (b d : ℕ) → OpeningStays s (parts.opening s c b d)) where
    built-holds : (s : S) (n : ℕ) (running : Running P) (takes : Takes) (x : Then S P A) (l : Lent) → Sound s → Stays Built s x → Holds (settled (flash_of s true n running) takes x l).flash
    unfolding Settling.settled
    built-holds s n running takes (General.go s' t phase) l sound h = ((λ e. subst Sound (sym h.0) sound), inl (h.1, refl))
    built-holds s n running takes (General.end s' answer) l sound h = ((λ e. subst Sound (sym h) sound), tt)
    built-holds s n running takes (General.fail error) l sound h = ((λ e. sound), tt)

    making-holds : (s : S) (n : ℕ) (running : Running P) (takes : Takes) (x : Then S P A) (l : Lent) → MakingThen x → Holds (settled (flash_of s false n running) takes x l).flash
    unfolding Settling.settled
    making-holds s n running takes (General.go s' t phase) l h = ((λ e. absurd (true≢false (sym e))), inr (refl, h))
    making-holds s n running takes (General.end s' answer) l h = ((λ e. h), tt)
    making-holds s n running takes (General.fail error) l h = ((λ e. absurd (true≢false (sym e))), tt)

    -- ---- a reply

    over-holds : (s : S) (u : Bool) (n : ℕ) (job : Job P) (o : Outcome) (l : Lent) → Holds (flash_of s u n (busy job)) → Holds (settled (flash_of s u n (busy job)) job.takes (parts.next s job.phase o) l).flash
    over-holds s u n job o l h = at h.1
      where
        at : Runs s u (busy job) → Holds (settled (flash_of s u n (busy job)) job.takes (parts.next s job.phase o) l).flash
        at (inl b) = subst (λ u. Holds (settled (flash_of s u n (busy job)) job.takes (parts.next s job.phase o) l).flash) (sym b.1) (built-holds s n (busy job) job.takes _ l (h.0 b.1) (stays s job.phase o b.0))
        at (inr m) = subst (λ u. Holds (settled (flash_of s u n (busy job)) job.takes (parts.next s job.phase o) l).flash) (sym m.0) (making-holds s n (busy job) job.takes _ l (makes s job.phase o m.1))

    busy-holds : (s : S) (u : Bool) (n : ℕ) (job : Job P) (r : Reply) (bytes : List ℕ) (l : Lent) → Holds (flash_of s u n (busy job)) → Holds (proceeds parts (flash_of s u n (busy job)) job r bytes l).flash
    busy-holds s u n job r bytes l h =
        step-view parts (flash_of s u n (busy job)) job r bytes l (λ m. Holds m.flash)
        h
        (λ g ready fits is. h)
        (λ o ready fits is. over-holds s u n job o (lent_as l.scratch (taken_in job.frame r bytes l.buffer) l) h)

    answer-holds : (s : S) (u : Bool) (n : ℕ) (running : Running P) (r : Reply) (bytes : List ℕ) (l : Lent) → Holds (flash_of s u n running) → Holds (answer_at parts running (flash_of s u n running) r bytes l).flash
    answer-holds s u n idle r bytes l h = h
    answer-holds s u n (busy job) r bytes l h = busy-holds s u n job r bytes l h

    -- ---- a call

    opened-holds : (s : S) (n : ℕ) (l : Lent) → Sound s → (takes : Takes) (x : Then S P A) → Stays Built s x → Holds (opened (flash_of s true n idle) takes x l).flash
    unfolding Beginning.opened
    opened-holds s n l sound takes (General.go s' t phase) k = built-holds s 0 idle takes (General.go s' t phase) l sound k
    opened-holds s n l sound takes (General.end s' answer) k = built-holds s 0 idle takes (General.end s' answer) l sound k
    opened-holds s n l sound takes (General.fail error) k = ((λ e. sound), tt)

    opening-holds : (s : S) (u : Bool) (n : ℕ) (l : Lent) → Holds (flash_of s u n idle) → (x : Opening S P A) → OpeningStays s x → Holds (opened_as parts in_bounds (flash_of s u n idle) x l).flash
    unfolding Beginning.at_rest Beginning.begun Beginning.constructed Beginning.told Beginning.freed entry_of
    opening-holds s true n l h (working takes then) k =
        by_cases (ltb (length l.scratch) scratch_least)
        (λ short. rw short h)
        (λ lent. by_cases (in_bounds s)
        (λ inside. rw (lent, inside) (opened-holds s n l (h.0 refl) takes then k))
        (λ outside. rw (lent, outside) h))
    opening-holds s false n l h (working takes then) k = h
    opening-holds s u n l h (constructing own) k =
        by_cases (ltb (length l.scratch) scratch_least)
        (λ short. rw short h)
        (λ lent. by_cases (in_bounds own)
        (λ inside. rw (lent, inside) (making-holds own 0 idle Takes.Nothing (General.go own Transfer.Raise parts.raised) l (raises own inside)))
        (λ outside. rw (lent, outside) h))
    opening-holds s true n l h (telling answer) k = h
    opening-holds s false n l h (telling answer) k = h
    opening-holds s true n l h releasing k = ((λ e. absurd (true≢false (sym e))), tt)
    opening-holds s false n l h releasing k = h

    call-holds : (s : S) (u : Bool) (n : ℕ) (running : Running P) (c : C) (l : Lent) → Holds (flash_of s u n running) → Holds (begin_at parts in_bounds running (flash_of s u n running) c l).flash
    call-holds s u n idle c l h = opening-holds s u n l h (parts.opening s c (length l.buffer) (length l.given)) (opens s c (length l.buffer) (length l.given))
    call-holds s u n (busy job) c l h = h

    -- ---- any events

    abbrev system : System (Flash S P) C (Left S A)
    system = general parts in_bounds

    begin-holds : (flash : Flash S P) (c : C) (l : Lent) → Holds flash → Holds (system.begin flash c l).flash
    begin-holds flash c l h = call-holds flash.setup flash.built flash.delivered flash.running c l h

    pub after-holds : (es : List (Event C)) (flash : Flash S P) → Holds flash → Holds (state_after system flash es)
    unfolding state_after
    after-holds [] flash h = h
    after-holds (reply r bytes l ∷ es) flash h =
        after-holds es (system.answer flash r bytes l).flash (answer-holds flash.setup flash.built flash.delivered flash.running r bytes l h)
    after-holds (call c l ∷ es) flash h =
        keeps-pick Holds (is_busy flash.running) _ _ (after-holds es (system.begin flash c l).flash (begin-holds flash c l h)) h

    pub turn-holds : (flash : Flash S P) (c : C) (l : Lent) (es : List (Event C)) → Holds flash → Holds (state_after system (system.begin flash c l).flash es)
    turn-holds flash c l es h = after-holds es (system.begin flash c l).flash (begin-holds flash c l h)

-- ---- every driver

pub steady-alone : {F C S A : Type 0} (driver : Driver F C S A) (turns : List (Turn C)) (flash : F) → EachTurn driver (λ flash x. Steady driver flash x.call x.lent x.events) flash turns →
    EachTurn driver (Alone driver) flash turns → EachTurn driver (SteadyAlone driver) flash turns
unfolding EachTurn
steady-alone driver [] flash h k = tt
steady-alone driver (x ∷ xs) flash h k = ((h.0, k.0), steady-alone driver xs (turn_after driver flash x) h.1 k.1)

module _ {F C S A : Type 0} {driver : Driver F C S A} (known : Known driver) (page_of : S → ℕ) (most : ℕ) (Making : Place S known.P → Type 0) where
  abbrev Sound : S → Type 0
  Sound s = (driver.in_bounds s ≡ true) × (page_of s ≤ most)

  abbrev Sounds : F → Type 0
  Sounds flash = Holds known.parts driver.in_bounds known.Built Sound Making (viewed driver known.parts known.is flash)

  module _ (makes : (s : S) (phase : known.P) (o : Outcome) → Making (place s phase) → MakingThen known.parts driver.in_bounds known.Built Sound Making (known.parts.next s phase o))
      (raises : (own : S) → driver.in_bounds own ≡ true → Making (place own known.parts.raised)) where
    opening-stays : (s : S) (c : C) (b d : ℕ) (x : Opening S known.P A) → OpensAs driver known.parts known.Valid known.Built known.meaning s c b d x →
        OpeningStays known.parts driver.in_bounds known.Built Sound Making s x
    opening-stays s c b d (constructing own) k = tt
    opening-stays s c b d (telling answer) k = tt
    opening-stays s c b d releasing k = tt
    opening-stays s c b d (working takes then) k = k.stays

    turn-sounds : (flash : F) (x : Turn C) → Sounds flash → Sounds (turn_after driver flash x)
    turn-sounds flash x h =
        subst (Holds known.parts driver.in_bounds known.Built Sound Making) (sym (same-state driver known.parts known.is flash x.call x.lent x.events))
        (turn-holds known.parts driver.in_bounds known.Built Sound Making known.supplies.stays makes raises
        (λ s c b d. opening-stays s c b d (known.parts.opening s c b d) (known.supplies.opens s c b d))
        (viewed driver known.parts known.is flash) x.call x.lent x.events h)

    sounds : (turns : List (Turn C)) (flash : F) → Sounds flash → Sounds (after_turns driver flash turns)
    unfolding after_turns
    sounds [] flash h = h
    sounds (x ∷ xs) flash h = sounds xs (turn_after driver flash x) (turn-sounds flash x h)

    rests : (running : Running known.P) → is_busy running ≡ false → Runs known.parts driver.in_bounds known.Built Sound Making (driver.setup driver.fresh) (driver.built driver.fresh) running
    rests idle h = tt
    rests (busy job) h = absurd (true≢false h)

    fresh-sounds : Sounds driver.fresh
    fresh-sounds = ((λ e. absurd (true≢false (sym e ∙ known.is.not_built))), rests (known.is.running driver.fresh) (sym (known.is.runs driver.fresh) ∙ known.is.at_rest))

    -- ---- only constructions are to be inside the bounds

    bounds-as : (flash : F) (l : Lent) (x : Sort S) → Sounds flash → Ready driver x flash l → GivenInside driver x → driver.in_bounds (works_on x (driver.setup flash)) ≡ true
    bounds-as flash l (constructs own) h ready inside = inside
    bounds-as flash l tells h ready inside = (h.0 ready).0
    bounds-as flash l releases h ready inside = (h.0 ready).0
    bounds-as flash l (uses takes) h ready inside = (h.0 ready.0).0

    steadies : (turns : List (Turn C)) (flash : F) → Sounds flash → EachTurn driver (λ flash x. Admissible driver flash x.call x.lent x.events) flash turns →
        EachTurn driver (λ flash x. Steady driver flash x.call x.lent x.events) flash turns
    unfolding EachTurn
    steadies [] flash h a = tt
    steadies (x ∷ xs) flash h a =
        let asked = a.0 in (
          record {
            usable = record { idle = asked.idle; ready = asked.ready; bounds = bounds-as flash x.lent (sort_at driver x.call x.lent) h asked.ready asked.inside };
            same_data = asked.same_data;
          },
          steadies xs (turn_after driver flash x) (turn-sounds flash x h) a.1,
        )

    no-driver : driver_of driver driver.fresh ≡ none
    no-driver = ap (λ b. pick b (some (driver.setup driver.fresh)) none) known.is.not_built

    pub built-inside : BuiltInside driver page_of most
    built-inside = record {
      inside = λ turns built. ((sounds turns driver.fresh fresh-sounds).0 built).0;
      page = λ turns built. ((sounds turns driver.fresh fresh-sounds).0 built).1;
      steady = λ turns asked. steadies turns driver.fresh fresh-sounds asked;
      sessions = λ turns asked.
          (same_as_rust known).steady_sessions driver.fresh turns (steadies turns driver.fresh fresh-sounds asked)
          ∙ ap (λ before. map gives_of (rust_session driver (heeding_turn driver) before turns)) no-driver;
      delivered_sessions = λ turns asked alone.
          (same_as_rust known).delivered_sessions driver.fresh turns (steady-alone driver turns driver.fresh (steadies turns driver.fresh fresh-sounds asked) alone)
          ∙ ap (λ before. rust_session driver (heeding_turn driver) before turns) no-driver;
    }

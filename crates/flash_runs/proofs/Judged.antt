-- The calls and replies that are refused are just those that the specification names (docs/SPECIFICATION.md, "Refusals and numbers").
use Prim.Native.Nat.{ℕ}
use mathlib.Core.Bool.{Bool, true, false, true≢false}
use mathlib.Core.Option.{Option, none, some}
use mathlib.Core.Path.{◌≡◌, refl, ap, sym, ◌∙◌, subst}
use mathlib.Core.List.{List, [], ◌∷◌}
use lib.ListN.{length}
use lib.Dec.{ltb}
use Rattle.std.specs.Prelude.{Result, Ok, Err}
use Rattle.qspi.specs.Bus.{awaits_of, fits_at, fits_of}
use Rattle.qspi.specs.Choice.{pick}
use Rattle.qspi.specs.Command.{scratch_least}
use Rattle.qspi.specs.Shown.{Shown, shown_of}
use Rattle.qspi.specs.declared.bus.Action.{Action}
use Rattle.qspi.specs.declared.bus.Reply.{Reply}
use Rattle.qspi.specs.Frame.{first_of, action_of, exchange_of, advanced_of, taken_in, gave}
use Rattle.qspi.specs.declared.frame.Advanced.{Advanced}
use Rattle.spi_flash.specs.Entry.{entry_of}
use Rattle.spi_flash.specs.Beginning as Beginning
use Rattle.spi_flash.specs.Settling as Settling
use Rattle.spi_flash.specs.Loan.{Lent, ready_for, exchange_for, lent_as}
use Rattle.spi_flash.specs.Run as Run
use Rattle.spi_flash.specs.Run.{Event, reply, call, System, goes_on, run_of, begun_with, state_after}
use Rattle.spi_flash.specs.declared.error.FlashError.{FlashError}
use Rattle.spi_flash.specs.declared.loan.Takes.{Takes}
use Rattle.qspi.proofs.Cases.{by_cases}
use Rattle.flash_runs.specs.Driver.{Left, Sort, takes_of, works_on, Driver, sort_at, takes_at, flash_after}
use Rattle.flash_runs.specs.Refusals.{rest_refusal, RefusedAs, awaits, out_then, is_out, out_after, reply_refusal, refusal_in, ToldByHistory, RefusesJust}
use Rattle.flash_runs.specs.System.{left_with}
use Rattle.flash_runs.proofs.General as General
use Rattle.flash_runs.proofs.General.{Then, Opening, constructing, telling, releasing, working, Parts, Job, Running, idle, busy, is_busy, Flash, flash_of, Stepped, plain, Step, settled, told, opened, freed, constructed, begun, opened_as, afterwards, general}
use Rattle.flash_runs.proofs.Supplies.{OpensAs, Known}
use Rattle.flash_runs.proofs.Steps.{step-view}
use Rattle.flash_runs.proofs.Runs.{viewed, same-run, same-state}
use Rattle.flash_runs.proofs.LeftBehind.{rest-state}

-- what an action awaits is told by what it shows
pub shown-awaits : (action : Action) (scratch given : List ℕ) → awaits (shown_of action scratch given) ≡ awaits_of action
shown-awaits Action.SelectLow s g = refl
shown-awaits Action.SelectHigh s g = refl
shown-awaits (Action.Write part) s g = refl
shown-awaits (Action.Read n) s g = refl
shown-awaits (Action.QuadRead command tclqv margin n) s g = refl
shown-awaits (Action.QuadWrite command payload) s g = refl
shown-awaits (Action.Delay us) s g = refl

-- ---- the general driver

module _ {S P A C : Type 0} (parts : Parts S P A C) (in_bounds : S → Bool) (takes : Takes) where
  abbrev system : System (Flash S P) C (Left S A)
  system = general parts in_bounds

  -- the job that is out, and the action that is awaited
  abbrev Awaiting : Running P → Option Shown → Type 0
  Awaiting idle none = Unit {0}
  Awaiting idle (some shown) = ⊥
  Awaiting (busy job) none = ⊥
  Awaiting (busy job) (some shown) = (job.takes ≡ takes) × (awaits shown ≡ awaits_of (action_of job.frame))

  abbrev AwaitingBy : Option Shown → Step S P A → Type 0
  AwaitingBy before m = Awaiting m.flash.running (out_then m.given before)

  settled-awaiting : (flash : Flash S P) (own : Takes) (x : Then S P A) (l : Lent) (before : Option Shown) → own ≡ takes → AwaitingBy before (settled flash own x l)
  unfolding Settling.settled
  settled-awaiting flash own (General.go s t phase) l before e = (e, shown-awaits (action_of (first_of t)) l.scratch l.given)
  settled-awaiting flash own (General.end s answer) l before e = tt
  settled-awaiting flash own (General.fail error) l before e = tt

  -- ---- a reply

  module _ (setup : S) (built : Bool) (delivered : ℕ) where
    abbrev at : Running P → Flash S P
    at running = flash_of setup built delivered running

    reply-awaiting : (running : Running P) (before : Option Shown) → Awaiting running before → (r : Reply) (bytes : List ℕ) (l : Lent) → AwaitingBy before (system.answer (at running) r bytes l)
    reply-awaiting idle before h r bytes l = h
    reply-awaiting (busy job) none h r bytes l = absurd h
    reply-awaiting (busy job) (some shown) h r bytes l =
        step-view parts (at (busy job)) job r bytes l (AwaitingBy (some shown))
        h
        (λ g ready fits e. (h.0, shown-awaits (action_of g) _ _))
        (λ o ready fits e. settled-awaiting (at (busy job)) job.takes (parts.next setup job.phase o) l (some shown) h.0)

    -- ---- why it is refused

    settled-taken : (own : Takes) (x : Then S P A) (l : Lent) (flash : Flash S P) → refusal_in (settled flash own x l).given ≡ none
    unfolding Settling.settled
    settled-taken own (General.go s t phase) l flash = refl
    settled-taken own (General.end s answer) l flash = refl
    settled-taken own (General.fail error) l flash = refl

    taken : (job : Job P) (n : ℕ) (x : Advanced) (scratch buffer : List ℕ) (l : Lent) →
        refusal_in (afterwards parts (at (busy job)) job n (gave x scratch buffer) l).given ≡ none
    taken job n (Advanced.More g) scratch buffer l = refl
    taken job n (Advanced.Over o) scratch buffer l = settled-taken job.takes (parts.next setup job.phase o) (lent_as scratch buffer l) (at (busy job))

    abbrev Judges : Running P → Option Shown → Type 0
    Judges running before = (r : Reply) (bytes : List ℕ) (l : Lent) → refusal_in (system.answer (at running) r bytes l).given ≡ reply_refusal before takes l r (length bytes)

    busy-judged : (job : Job P) (shown : Shown) → Awaiting (busy job) (some shown) → Judges (busy job) (some shown)
    unfolding exchange_for exchange_of fits_of
    busy-judged job shown h r bytes l =
        rw (sym h.0, h.1)
        (by_cases (ready_for job.takes l)
        (λ ready. by_cases (fits_at (awaits_of (action_of job.frame)) r (length bytes))
        (λ fits. rw (ready, fits) (taken job _ (advanced_of job.frame r bytes l.given) l.scratch (taken_in job.frame r bytes l.buffer) l))
        (λ fits. rw (ready, fits) refl))
        (λ ready. rw ready refl))

    judged : (running : Running P) (before : Option Shown) → Awaiting running before → Judges running before
    judged idle none h r bytes l = refl
    judged idle (some shown) h r bytes l = absurd h
    judged (busy job) none h r bytes l = absurd h
    judged (busy job) (some shown) h r bytes l = busy-judged job shown h r bytes l

  -- ---- any events

  abbrev AwaitingAfter : List (Event C) → Type 0
  AwaitingAfter es = (flash : Flash S P) (before : Option Shown) → Awaiting flash.running before →
      Awaiting (state_after system flash es).running (out_after before (goes_on system flash es))

  -- a call begun meanwhile is refused, and one begun at rest is another run
  meanwhile : (c : C) (l : Lent) (es : List (Event C)) → AwaitingAfter es → (setup : S) (built : Bool) (delivered : ℕ) (running : Running P) (before : Option Shown) → Awaiting running before →
      Awaiting (state_after system (at setup built delivered running) (call c l ∷ es)).running (out_after before (goes_on system (at setup built delivered running) (call c l ∷ es)))
  unfolding state_after goes_on out_after
  meanwhile c l es ih s u n idle before h = h
  meanwhile c l es ih s u n (busy job) before h = ih (at s u n (busy job)) before h

  after : (es : List (Event C)) → AwaitingAfter es
  unfolding state_after goes_on out_after
  after [] flash before h = h
  after (reply r bytes l ∷ es) flash before h =
      after es (system.answer flash r bytes l).flash (out_then (system.answer flash r bytes l).given before)
      (reply-awaiting flash.setup flash.built flash.delivered flash.running before h r bytes l)
  after (call c l ∷ es) flash before h = meanwhile c l es (after es) flash.setup flash.built flash.delivered flash.running before h

  -- ---- the beginning of a call

  abbrev takes_in : Opening S P A → Takes
  takes_in (constructing fresh) = Takes.Nothing
  takes_in (telling answer) = Takes.Nothing
  takes_in releasing = Takes.Nothing
  takes_in (working own then) = own

  module _ (setup : S) (built : Bool) (delivered : ℕ) (l : Lent) where
    picked : (b : Bool) (x y : Stepped S P A) → AwaitingBy none (left_with plain x l) → AwaitingBy none (left_with plain y l) → AwaitingBy none (left_with plain (pick b x y) l)
    picked true x y h k = h
    picked false x y h k = k

    entered-awaiting : (entry : Result (Unit {0}) FlashError) (x : Stepped S P A) → AwaitingBy none (left_with plain x l) → AwaitingBy none (left_with plain (Beginning.entered plain (at setup built delivered idle) entry x) l)
    entered-awaiting (Ok _) x h = h
    entered-awaiting (Err error) x h = tt

    opened-awaiting : (own : Takes) (x : Then S P A) → own ≡ takes → AwaitingBy none (opened (at setup built delivered idle) own x l)
    unfolding Beginning.opened
    opened-awaiting own (General.go s t phase) e = settled-awaiting _ own (General.go s t phase) l none e
    opened-awaiting own (General.end s answer) e = settled-awaiting _ own (General.end s answer) l none e
    opened-awaiting own (General.fail error) e = tt

    begin-awaiting : (x : Opening S P A) → takes_in x ≡ takes → AwaitingBy none (opened_as parts in_bounds (at setup built delivered idle) x l)
    unfolding Beginning.at_rest Beginning.constructed Beginning.told Beginning.freed Beginning.begun
    begin-awaiting (constructing fresh) e =
        entered-awaiting (entry_of true (length l.scratch) (in_bounds fresh)) _ (settled-awaiting _ Takes.Nothing _ l none e)
    begin-awaiting (telling answer) e = picked built _ _ tt tt
    begin-awaiting releasing e = picked built _ _ tt tt
    begin-awaiting (working own then) e =
        entered-awaiting (entry_of built (length l.scratch) (in_bounds setup)) _ (opened-awaiting own then e)

  -- ---- a whole call

  -- a driver at rest expects no reply
  rest-judged : (setup : S) (built : Bool) (delivered : ℕ) (running : Running P) → Awaiting running none → (es : List (Event C)) (r : Reply) (bytes : List ℕ) (now : Lent) →
      refusal_in (system.answer (state_after system (at setup built delivered running) es) r bytes now).given ≡ some FlashError.OutOfTurn
  rest-judged s u n idle h es r bytes now = rw (rest-state parts in_bounds s u n es) refl
  rest-judged s u n (busy job) h es r bytes now = absurd h

  -- a state that awaits an action is busy
  awaiting-busy : (running : Running P) (before : Option Shown) → Awaiting running before → is_busy running ≡ is_out before
  awaiting-busy idle none h = refl
  awaiting-busy idle (some shown) h = absurd h
  awaiting-busy (busy job) none h = absurd h
  awaiting-busy (busy job) (some shown) h = refl

  rest-idle : (setup : S) (built : Bool) (delivered : ℕ) (running : Running P) → Awaiting running none → (es : List (Event C)) →
      is_busy (state_after system (at setup built delivered running) es).running ≡ false
  rest-idle s u n idle h es = rw (rest-state parts in_bounds s u n es) refl
  rest-idle s u n (busy job) h es = absurd h

  -- what follows a beginning that has given g
  module _ (c : C) (l : Lent) (m : Step S P A) (h : AwaitingBy none m) (es : List (Event C)) where
    unbegun-idle : out_then m.given none ≡ none → is_busy (state_after system m.flash es).running ≡ false
    unbegun-idle is = rest-idle m.flash.setup m.flash.built m.flash.delivered m.flash.running (subst (Awaiting m.flash.running) is h) es

    begun-running : (g : Run.Given (Left S A)) → m.given ≡ g →
        is_busy (state_after system m.flash es).running ≡ is_out (out_after none (begun_with system g c l m es))
    unfolding out_after
    begun-running (Run.act shown) is = awaiting-busy _ _ (after es m.flash (out_then m.given none) h)
    begun-running (Run.ended a) is = unbegun-idle (ap (λ g. out_then g none) is)
    begun-running (Run.failed e) is = unbegun-idle (ap (λ g. out_then g none) is)
    begun-running (Run.refused e) is = unbegun-idle (ap (λ g. out_then g none) is)

  module _ (c : C) (l : Lent) (m : Step S P A) (h : AwaitingBy none m) (es : List (Event C)) (r : Reply) (bytes : List ℕ) (now : Lent) where
    abbrev last : Flash S P
    last = state_after system m.flash es

    unbegun : out_then m.given none ≡ none → refusal_in (system.answer last r bytes now).given ≡ some FlashError.OutOfTurn
    unbegun is = rest-judged m.flash.setup m.flash.built m.flash.delivered m.flash.running (subst (Awaiting m.flash.running) is h) es r bytes now

    begun-judged : (g : Run.Given (Left S A)) → m.given ≡ g →
        refusal_in (system.answer last r bytes now).given ≡ reply_refusal (out_after none (begun_with system g c l m es)) takes now r (length bytes)
    unfolding out_after
    begun-judged (Run.act shown) is = judged last.setup last.built last.delivered last.running _ (after es m.flash (out_then m.given none) h) r bytes now
    begun-judged (Run.ended a) is = unbegun (ap (λ g. out_then g none) is)
    begun-judged (Run.failed e) is = unbegun (ap (λ g. out_then g none) is)
    begun-judged (Run.refused e) is = unbegun (ap (λ g. out_then g none) is)

-- ---- every driver

module _ {F C S A : Type 0} {driver : Driver F C S A} (known : Known driver) where
  abbrev P : Type 0
  P = known.P

  abbrev parts : Parts S P A C
  parts = known.parts

  abbrev Knows : S → C → Lent → Opening S P A → Type 0
  Knows s c l x = OpensAs driver parts known.Valid known.Built known.meaning s c (length l.buffer) (length l.given) x

  module _ (setup : S) (built : Bool) (delivered : ℕ) (c : C) (l : Lent) where
    abbrev there : Flash S P
    there = flash_of setup built delivered idle

    -- what a call takes is what it was opened with
    takes-is : (x : Opening S P A) → Knows setup c l x → takes_in parts driver.in_bounds (takes_at driver c l) x ≡ takes_at driver c l
    takes-is (constructing fresh) k = ap takes_of (sym k.sorted)
    takes-is (telling answer) k = ap takes_of (sym k.sorted)
    takes-is releasing k = ap takes_of (sym k.sorted)
    takes-is (working own then) k = ap takes_of (sym k.sorted)

    abbrev Refuses : Opening S P A → Sort S → Type 0
    Refuses x sort =
        RefusedAs (rest_refusal sort built (length l.scratch) (driver.in_bounds (works_on sort setup))) (opened_as parts driver.in_bounds there x l).given

    abbrev refused_with : FlashError → Stepped S P A
    refused_with error = plain.refused there error

    judged-entry : (b short inside : Bool) (x : Stepped S P A) →
        RefusedAs (pick b (pick short (some FlashError.Misfit) (pick inside none (some FlashError.InvalidGeometry))) (some FlashError.OutOfTurn))
        (left_with plain
        (Beginning.entered plain there
        (pick b (pick short (Err FlashError.Misfit) (pick inside (Ok tt) (Err FlashError.InvalidGeometry))) (Err FlashError.OutOfTurn)) x)
        l).given
    judged-entry true true inside x = refl
    judged-entry true false true x = tt
    judged-entry true false false x = refl
    judged-entry false short inside x = refl

    picked-built : (b : Bool) (why : Option FlashError) (x : Stepped S P A) → RefusedAs why (left_with plain x l).given →
        RefusedAs (pick b why (some FlashError.OutOfTurn)) (left_with plain (pick b x (refused_with FlashError.OutOfTurn)) l).given
    picked-built true why x h = h
    picked-built false why x h = refl

    rest-refuses : (x : Opening S P A) → Knows setup c l x → Refuses x (sort_at driver c l)
    unfolding Beginning.at_rest Beginning.constructed Beginning.told Beginning.freed Beginning.begun entry_of
    rest-refuses (constructing fresh) k = rw k.sorted (judged-entry true (ltb (length l.scratch) scratch_least) (driver.in_bounds fresh) _)
    rest-refuses (telling answer) k = rw k.sorted (picked-built built none _ tt)
    rest-refuses releasing k = rw k.sorted (picked-built built none _ tt)
    rest-refuses (working own then) k = rw k.sorted (judged-entry built (ltb (length l.scratch) scratch_least) (driver.in_bounds setup) _)

    abbrev opens : Opening S P A
    opens = parts.opening setup c (length l.buffer) (length l.given)

    opens_as : Knows setup c l opens
    opens_as = known.supplies.opens setup c (length l.buffer) (length l.given)

    begun-awaiting : AwaitingBy parts driver.in_bounds (takes_at driver c l) none ((general parts driver.in_bounds).begin there c l)
    begun-awaiting = begin-awaiting parts driver.in_bounds (takes_at driver c l) setup built delivered l opens (takes-is opens opens_as)

  calls_at : (setup : S) (built : Bool) (delivered : ℕ) (running : Running P) (c : C) (l : Lent) →
      RefusedAs (pick (is_busy running) (some FlashError.OutOfTurn) (rest_refusal (sort_at driver c l) built (length l.scratch) (driver.in_bounds (works_on (sort_at driver c l) setup))))
      ((general parts driver.in_bounds).begin (flash_of setup built delivered running) c l).given
  calls_at s u n idle c l = rest-refuses s u n c l (opens s u n c l) (opens_as s u n c l)
  calls_at s u n (busy job) c l = refl

  awaiting-at : (setup : S) (built : Bool) (delivered : ℕ) (running : Running P) (c : C) (l : Lent) → is_busy running ≡ false →
      AwaitingBy parts driver.in_bounds (takes_at driver c l) none ((general parts driver.in_bounds).begin (flash_of setup built delivered running) c l)
  awaiting-at s u n idle c l free = begun-awaiting s u n c l
  awaiting-at s u n (busy job) c l free = absurd (true≢false free)

  pub told-by-history : ToldByHistory driver
  unfolding run_of
  told-by-history = record {
    at_rest = known.is.at_rest;
    not_built = known.is.not_built;
    running = λ flash c l es free.
        let view = viewed driver parts known.is in
        let system = general parts driver.in_bounds in
        let m = system.begin (view flash) c l in
        known.is.runs (flash_after driver flash c l es)
        ∙ ap (λ f. is_busy f.running) (same-state driver parts known.is flash c l es)
        ∙ begun-running parts driver.in_bounds (takes_at driver c l) c l m
        (awaiting-at (driver.setup flash) (driver.built flash) (known.is.count flash) (known.is.running flash) c l (sym (known.is.runs flash) ∙ free)) es m.given refl
        ∙ ap (λ xs. is_out (out_after none xs)) (sym (same-run driver parts known.is flash c l es));
  }

  pub refuses-just : RefusesJust driver
  unfolding run_of
  refuses-just = record {
    calls = λ flash c l. rw ((known.is.begins flash c l).given, known.is.runs flash)
        (calls_at (driver.setup flash) (driver.built flash) (known.is.count flash) (known.is.running flash) c l);
    replies = λ flash c l es free r bytes now.
        let view = viewed driver parts known.is in
        let system = general parts driver.in_bounds in
        let m = system.begin (view flash) c l in
        ap refusal_in (known.is.answers (flash_after driver flash c l es) r bytes now).given
        ∙ ap (λ f. refusal_in (system.answer f r bytes now).given) (same-state driver parts known.is flash c l es)
        ∙ begun-judged parts driver.in_bounds (takes_at driver c l) c l m
        (awaiting-at (driver.setup flash) (driver.built flash) (known.is.count flash) (known.is.running flash) c l (sym (known.is.runs flash) ∙ free)) es r bytes now m.given refl
        ∙ ap (λ xs. reply_refusal (out_after none xs) (takes_at driver c l) now r (length bytes)) (sym (same-run driver parts known.is flash c l es));
  }

-- No sham driver keeps the promises.
use Prim.Native.Nat.{ℕ, suc, ◌≤◌}
use native.Mathlib.Omega.{arith}
use mathlib.Core.Bool.{Bool, true, false, true≢false}
use mathlib.Core.Path.{◌≡◌, refl, ap, sym, ◌∙◌, subst}
use mathlib.Core.List.{List, [], ◌∷◌}
use mathlib.Core.Option.{Option, none, some}
use lib.ListN.{length, replicate}
use Rattle.qspi.specs.Bytes.{AllBytes}
use Rattle.qspi.specs.Command.{scratch_least}
use Rattle.qspi.specs.Shown.{Shown}
use Rattle.qspi.specs.declared.bus.Reply.{Reply}
use Rattle.qspi.specs.declared.transfer.Body.{Body}
use Rattle.qspi.specs.declared.transfer.Transfer.{Transfer}
use Rattle.spi_flash.specs.Loan.{Lent, ready_for}
use Rattle.spi_flash.specs.OnBus.{◌>>=◌, ◌>>◌, reading, framed, framed_then, on_bus, program_on_bus, performed}
use Rattle.spi_flash.specs.Prog.{Prog, ret, fail, ask}
use Rattle.spi_flash.specs.Run as Run
use Rattle.spi_flash.specs.Run.{Event, Moved, System, Answer, Fitting, answering, Lending, at_once, goes_on, begun_with, run_of, call_of, delay_asked}
use Rattle.spi_flash.specs.Seen.{Did, told_then, told, SameData, Undisturbed}
use Rattle.spi_flash.specs.declared.loan.Takes.{Takes}
use Rattle.flash_runs.specs.Driver.{Left, constructs, works_on, Driver, sort_at, takes_at, program_at, bound_at, ends_at, run_at, steps_at, flash_after}
use Rattle.flash_runs.specs.Refusals.{out_then, is_out, out_after, ToldByHistory}
use Rattle.flash_runs.specs.SameAsRust.{Regular, rust_call, left_by, SameAsRust}
use Rattle.flash_runs.specs.Shams.{Asks, Subject, in_place, bounding, ending, Refuses, Succeeds, ForTheBus, ShamsFail}
use Rattle.flash_runs.specs.WithinBound.{GivesAction, Begun, ComesTo, EndsWell, WithinBound}
use Rattle.flash_runs.specs.Watch.{succeeded_then, Succeeded}

-- ---- a program that uses the bus gives out an action first

abbrev is_action : {A : Type 0} → Run.Given A → Bool
is_action (Run.act shown) = true
is_action (Run.ended a) = false
is_action (Run.failed e) = false
is_action (Run.refused e) = false

abbrev acts_first : {A : Type 0} → List (Did A) → Bool
acts_first [] = false
acts_first (x ∷ xs) = is_action x.given

first-acts : {A : Type 0} (given : List ℕ) (buffer : List ℕ) (p : Prog A) → Asks p → acts_first (performed (program_on_bus given p) [] buffer) ≡ true
unfolding program_on_bus performed on_bus framed framed_then reading ◌>>=◌ ◌>>◌
first-acts given buffer (ret a) h = absurd h
first-acts given buffer (fail e) h = absurd h
first-acts given buffer (ask Transfer.Raise k) h = refl
first-acts given buffer (ask (Transfer.Pause us) k) h = refl
first-acts given buffer (ask (Transfer.Framed c Body.None) k) h = refl
first-acts given buffer (ask (Transfer.Framed c (Body.Read n sink)) k) h = refl
first-acts given buffer (ask (Transfer.Framed c (Body.Write payload)) k) h = refl
first-acts given buffer (ask (Transfer.Framed c (Body.QuadRead tclqv margin n sink)) k) h = refl
first-acts given buffer (ask (Transfer.Framed c (Body.QuadWrite payload)) k) h = refl

-- ---- lent bytes that fit

abbrev again : List Answer → Lent → List Lent
again [] l = []
again (a ∷ rest) l = l ∷ again rest l

again-length : (replies : List Answer) (l : Lent) → length (again replies l) ≡ length replies
again-length [] l = refl
again-length (a ∷ rest) l = ap suc (again-length rest l)

again-lends : (replies : List Answer) (takes : Takes) (l : Lent) → ready_for takes l ≡ true → Lending takes l.given (again replies l)
again-lends [] takes l ready = tt
again-lends (a ∷ rest) takes l ready = (ready, refl, again-lends rest takes l ready)

-- ---- a call at rest

module _ {F C S A : Type 0} (driver : Driver F C S A) where
  -- no call that the Rust takes to the bus is without an action
  module _ (flash : F) (call : C) (l : Lent) (bus : ForTheBus driver flash call l) where
    acts-first : acts_first (performed (program_on_bus l.given (program_at driver (driver.setup flash) call l)) [] l.buffer) ≡ true
    acts-first = first-acts l.given l.buffer (program_at driver (driver.setup flash) call l) bus.asks

    abbrev move : Moved F (Left S A)
    move = driver.system.begin flash call l

    abbrev steps : List (Run.Entry C (Left S A))
    steps = steps_at driver flash call l []

    abbrev opens : Run.Given (Left S A) → List (Run.Entry C (Left S A))
    opens g = record { event = Run.call call l; given = at_once g; left = move.left } ∷ []

    is-opened : (g : Run.Given (Left S A)) → move.given ≡ g → steps ≡ opens g
    unfolding call_of goes_on
    is-opened g is = ap opens is

    regular-as : (g : Run.Given (Left S A)) → Fitting (opens g) × SameData l.given (opens g) × Undisturbed l.buffer (opens g)
    unfolding Fitting SameData Undisturbed
    regular-as (Run.act shown) = (tt, (refl, tt), (refl, tt))
    regular-as (Run.ended a) = (tt, (refl, tt), (refl, tt))
    regular-as (Run.failed e) = (tt, (refl, tt), (refl, tt))
    regular-as (Run.refused e) = (tt, (refl, tt), (refl, tt))

    regular : Regular driver flash call l []
    regular =
        let e = is-opened move.given refl in
        let r = regular-as move.given in
        record { usable = bus.usable; fitting = rw e r.0; same_data = rw e r.1; undisturbed = rw e r.2 }

    gives-none : (g : Run.Given (Left S A)) → is_action g ≡ false → acts_first (told (opens g)) ≡ false
    unfolding told
    gives-none (Run.act shown) h = h
    gives-none (Run.ended a) h = refl
    gives-none (Run.failed e) h = refl
    gives-none (Run.refused e) h = refl

    -- the Rust gives out an action, the sham does not
    caught : SameAsRust driver → (g : Run.Given (Left S A)) → move.given ≡ g → is_action g ≡ false → ⊥
    caught kept g is quiet =
        true≢false
        (sym acts-first
        ∙ ap acts_first (sym (kept.same flash call l [] regular))
        ∙ ap (λ xs. acts_first (told xs)) (is-opened g is)
        ∙ gives-none g quiet)

    begun-as : SameAsRust driver → (g : Run.Given (Left S A)) → move.given ≡ g → GivesAction g
    begun-as kept (Run.act shown) is = tt
    begun-as kept (Run.ended a) is = caught kept (Run.ended a) is refl
    begun-as kept (Run.failed e) is = caught kept (Run.failed e) is refl
    begun-as kept (Run.refused e) is = caught kept (Run.refused e) is refl

    pub has-begun : SameAsRust driver → Begun driver flash call l
    has-begun kept = begun-as kept move.given refl

-- ---- two systems that are held against the same

-- what both keep, they tell alike
pub told-alike : {F C S A : Type 0} (driver sham : Driver F C S A) → SameAsRust driver → SameAsRust sham → (flash : F) (call : C) (l : Lent) (es : List (Event C)) →
    Regular driver flash call l es → Regular sham flash call l es →
    rust_call driver (driver.setup flash) call l es ≡ rust_call sham (sham.setup flash) call l es → told (steps_at sham flash call l es) ≡ told (steps_at driver flash call l es)
told-alike driver sham kept other flash call l es r s e = other.same flash call l es s ∙ sym e ∙ sym (kept.same flash call l es r)

-- ---- runs of them

-- a scratch that is long enough, and no more
abbrev pub lending : List ℕ → Lent
lending buffer = record { scratch = replicate 264 0; buffer = buffer; given = [] }

abbrev pub done : {C : Type 0} → List ℕ → Event C
done buffer = Run.reply Reply.Done [] (lending buffer)

abbrev pub got : {C : Type 0} → List ℕ → List ℕ → Event C
got bytes buffer = Run.reply Reply.Data bytes (lending buffer)

-- whether the last that a call has given is an action
abbrev pub acts_last : {A : Type 0} → List (Did A) → Bool
acts_last [] = false
acts_last (x ∷ []) = is_action x.given
acts_last (x ∷ y ∷ ys) = acts_last (y ∷ ys)

-- the first value of its answer
abbrev first : List ℕ → ℕ
first [] = 0
first (x ∷ xs) = x

abbrev value_in : {S A : Type 0} → (A → List ℕ) → Run.Given (Left S A) → ℕ
value_in values (Run.ended left) = first (values left.answer)
value_in values _ = 0

abbrev pub last_value : {S A : Type 0} → (A → List ℕ) → List (Did (Left S A)) → ℕ
last_value values [] = 0
last_value values (x ∷ []) = value_in values x.given
last_value values (x ∷ y ∷ ys) = last_value values (y ∷ ys)

-- ---- a construction

-- a construction that the Rust takes to the bus, whatever was there before, and that can end well
pub record Constructible {F C S A : Type 0} (driver : Driver F C S A) (call : C) (l : Lent) : Type 0 where
  pub fresh : S
  pub sorted : sort_at driver call l ≡ constructs fresh
  pub long : scratch_least ≤ length l.scratch
  pub ready : ready_for (takes_at driver call l) l ≡ true
  pub inside : driver.in_bounds fresh ≡ true
  pub small : AllBytes l.given
  pub asks : (held : S) → Asks (program_at driver held call l)
  pub can : (held : S) → driver.can_end held call (length l.buffer) (length l.given) ≡ true

-- what a driver before any construction can be asked for
constructing : {F C S A : Type 0} (driver : Driver F C S A) (call : C) (l : Lent) → Constructible driver call l → ToldByHistory driver → ForTheBus driver driver.fresh call l
constructing driver call l c history = record {
  usable = record {
    idle = history.at_rest;
    ready = rw c.sorted c.long;
    bounds = subst (λ x. driver.in_bounds (works_on x (driver.setup driver.fresh)) ≡ true) (sym c.sorted) c.inside;
  };
  asks = c.asks (driver.setup driver.fresh);
}

-- ---- a call that has ended has no action out

none-left : {S A : Type 0} {left : Left S A} → none ≡ some left → ⊥
none-left h = let z : ◌≡◌ {A = ℕ} 0 1 = cc in omega arith

module _ {F C S A : Type 0} (system : System F C (Left S A)) (left : Left S A) where
  abbrev Leaves : List (Run.Entry C (Left S A)) → Type 0
  Leaves xs = left_by (told xs) ≡ some left

  abbrev Stops : F → Option Shown → Type 0
  Stops flash before = (es : List (Event C)) × (out_after before (goes_on system flash es) ≡ none)

  module _ (replies : List Answer) (ls : List Lent) (before : Option Shown) (m : Moved F (Left S A))
      (further : (before : Option Shown) → Leaves (goes_on system m.flash (answering replies ls)) → Stops m.flash before) where
    abbrev StopsBy : Type 0
    StopsBy = (es : List (Event C)) × (out_after (out_then m.given before) (goes_on system m.flash es) ≡ none)

    over : out_then m.given before ≡ none → StopsBy
    unfolding goes_on out_after
    over is = ([], is)

    at : (g : Run.Given (Left S A)) → m.given ≡ g → left_by (told_then g m.left.buffer (told (goes_on system m.flash (answering replies ls)))) ≡ some left → StopsBy
    at (Run.act shown) is h = further (out_then m.given before) h
    at (Run.ended a) is h = over (ap (λ g. out_then g before) is)
    at (Run.failed error) is h = over (ap (λ g. out_then g before) is)
    at (Run.refused error) is h = further (out_then m.given before) h

  stops : (replies : List Answer) (ls : List Lent) (flash : F) (before : Option Shown) → Leaves (goes_on system flash (answering replies ls)) → Stops flash before
  unfolding told goes_on out_after
  stops [] ls flash before h = absurd (none-left h)
  stops (a ∷ replies) [] flash before h = absurd (none-left h)
  stops (a ∷ replies) (l ∷ ls) flash before h =
      let m = system.answer flash a.kind a.bytes l in
      let r = at replies ls before m (λ b k. stops replies ls m.flash b k) m.given refl h in
      (Run.reply a.kind a.bytes l ∷ r.0, r.1)

-- ---- all of them

module _ {F C S A : Type 0} (driver : Driver F C S A) (G : Type 0) (call : C) (l : Lent) (c : Constructible driver call l) where
  module _ (sham : Subject G C S A) where
    abbrev held : Driver G C S A
    held = in_place driver sham

    constructible : Constructible held call l
    constructible = record {
      fresh = c.fresh;
      sorted = c.sorted;
      long = c.long;
      ready = c.ready;
      inside = c.inside;
      small = c.small;
      asks = c.asks;
      can = c.can;
    }

    -- it gives out an action with a construction
    begins : ToldByHistory held → SameAsRust held → Begun held sham.fresh call l
    begins history kept = has-begun held sham.fresh call l (constructing held call l constructible history) kept

    refuses-none : {B : Type 0} (g : Run.Given B) → Refuses g → GivesAction g → ⊥
    refuses-none (Run.act shown) h k = h
    refuses-none (Run.ended a) h k = k
    refuses-none (Run.failed e) h k = k
    refuses-none (Run.refused e) h k = k

    claims-none : {B : Type 0} (g : Run.Given B) → Succeeds g → GivesAction g → ⊥
    claims-none (Run.act shown) h k = h
    claims-none (Run.ended a) h k = k
    claims-none (Run.failed e) h k = k
    claims-none (Run.refused e) h k = k

    abbrev m : Moved G (Left S A)
    m = sham.system.begin sham.fresh call l

    abbrev AtRest : List (Event C) → Type 0
    AtRest es = held.system.running (flash_after held sham.fresh call l es) ≡ false

    -- behind the end of a call it has to be at rest
    behind : ToldByHistory held → (left : Left S A) (replies : List Answer) (ls : List Lent) (g : Run.Given (Left S A)) → m.given ≡ g → GivesAction g →
        left_by (told (begun_with sham.system g call l m (answering replies ls))) ≡ some left → (es : List (Event C)) × AtRest es
    unfolding run_of out_after told
    behind history left replies ls (Run.act shown) is begun run =
        let later : left_by (told_then (Run.act shown) m.left.buffer (told (goes_on sham.system m.flash (answering replies ls)))) ≡ some left =
        subst (λ g. left_by (told_then g m.left.buffer (told (goes_on sham.system m.flash (answering replies ls)))) ≡ some left) is run in
        let r = stops sham.system left replies ls m.flash (out_then m.given none) later in (
          r.0,
          history.running sham.fresh call l r.0 history.at_rest
              ∙ ap (λ g. is_out (out_after none (begun_with sham.system g call l m r.0))) is
              ∙ ap is_out r.1,
        )
    behind history left replies ls (Run.ended a) is begun run = absurd begun
    behind history left replies ls (Run.failed e) is begun run = absurd begun
    behind history left replies ls (Run.refused e) is begun run = absurd begun

    ends : ToldByHistory held → SameAsRust held → WithinBound held → (es : List (Event C)) × AtRest es
    unfolding run_of
    ends history same kept =
        let begun = begins history same in
        let well = kept.ends_well sham.fresh call l c.small begun (c.can (sham.setup sham.fresh)) in
        let ls = again well.replies l in
        behind history well.left well.replies ls m.given refl begun
        (well.ends ls (again-length well.replies l) (again-lends well.replies (takes_at held call l) l c.ready))

  -- ---- bounds

  -- what some replies come to is within every bound that is kept
  within : (flash : F) (call : C) (l : Lent) (b : ℕ) → ready_for (takes_at driver call l) l ≡ true → ComesTo driver flash call l b → (bound : ℕ) →
      ((es : List (Event C)) → delay_asked (run_at driver flash call l es) ≤ bound) → b ≤ bound
  within flash call l b ready to bound kept =
      let ls = again to.replies l in
      let asked = to.asks ls (again-length to.replies l) (again-lends to.replies (takes_at driver call l) l ready) in
      omega (arith, asked, kept (answering to.replies ls))

  -- a run does not look at the bounds
  other-comes : (delays : S → C → ℕ → ℕ → ℕ) (flash : F) (call : C) (l : Lent) {b : ℕ} → ComesTo (bounding driver delays) flash call l b → ComesTo driver flash call l b
  other-comes delays flash call l to = record { replies = to.replies; real = to.real; fits = to.fits; asks = to.asks }

  -- ---- good ends

  -- a run that leaves something has succeeded
  left-first : {left : Left S A} (g : Run.Given (Left S A)) (buffer : List ℕ) (xs : List (Run.Entry C (Left S A))) → (left_by (told xs) ≡ some left → Succeeded xs) →
      left_by (told_then g buffer (told xs)) ≡ some left → succeeded_then g (Succeeded xs)
  left-first (Run.act shown) buffer xs ih h = ih h
  left-first (Run.ended a) buffer xs ih h = tt
  left-first (Run.failed e) buffer xs ih h = none-left h
  left-first (Run.refused e) buffer xs ih h = ih h

  left-succeeds : {left : Left S A} (xs : List (Run.Entry C (Left S A))) → left_by (told xs) ≡ some left → Succeeded xs
  unfolding told Succeeded
  left-succeeds [] h = none-left h
  left-succeeds (x ∷ xs) h = left-first x.given x.left.buffer xs (left-succeeds xs) h

  -- a call does not both end well and never
  both-ends : (flash : F) (call : C) (l : Lent) → ready_for (takes_at driver call l) l ≡ true → EndsWell driver flash call l →
      ((es : List (Event C)) → Succeeded (run_at driver flash call l es) → ⊥) → ⊥
  both-ends flash call l ready well never =
      let ls = again well.replies l in
      never (answering well.replies ls) (left-succeeds _ (well.ends ls (again-length well.replies l) (again-lends well.replies (takes_at driver call l) l ready)))

  -- a run does not look at which calls can end well
  other-ends : (can : S → C → ℕ → ℕ → Bool) (flash : F) (call : C) (l : Lent) → EndsWell (ending driver can) flash call l → EndsWell driver flash call l
  other-ends can flash call l well =
      record { left = well.left; replies = well.replies; real = well.real; fits = well.fits; ends = well.ends; as_rust = well.as_rust }

  same-ends : (flash : F) (call : C) (l : Lent) (a b : Bool) → (a ≡ true → EndsWell driver flash call l) → (a ≡ false → (es : List (Event C)) → Succeeded (run_at driver flash call l es) → ⊥) →
      (b ≡ true → EndsWell driver flash call l) → (b ≡ false → (es : List (Event C)) → Succeeded (run_at driver flash call l es) → ⊥) →
      ready_for (takes_at driver call l) l ≡ true → a ≡ b
  same-ends flash call l true true e n e' n' ready = refl
  same-ends flash call l false false e n e' n' ready = refl
  same-ends flash call l true false e n e' n' ready = absurd (both-ends flash call l ready (e refl) (n' refl))
  same-ends flash call l false true e n e' n' ready = absurd (both-ends flash call l ready (e' refl) (n refl))

  pub shams-fail : WithinBound driver → ShamsFail driver G
  shams-fail kept = record {
    refusing = λ sham h history same. refuses-none sham _ (h sham.fresh call l) (begins sham history same);
    claiming = λ sham h history same. claims-none sham _ (h sham.fresh call l) (begins sham history same);
    silent = λ sham flash call l bus quiet same. quiet (has-begun (in_place driver sham) flash call l bus same);
    running_on = λ sham h history same bounded.
        let r = ends sham history same bounded in
        true≢false (sym (h sham.fresh call l r.0 (begins sham history same)) ∙ r.1);
    other_bounds = λ delays other flash call l bytes ready begun.
        let most = within flash call l (bound_at (bounding driver delays) flash call l) ready (other-comes delays flash call l (other.reached flash call l bytes begun)) (bound_at driver flash call l) (kept.bounded flash call l) in
        let least = within flash call l (bound_at driver flash call l) ready (kept.reached flash call l bytes begun) (bound_at (bounding driver delays) flash call l) (other.bounded flash call l) in
        omega (arith, most, least);
    endings = λ can other flash call l bytes ready begun.
        same-ends flash call l (ends_at (ending driver can) flash call l) (ends_at driver flash call l)
        (λ h. other-ends can flash call l (other.ends_well flash call l bytes begun h)) (λ h es. other.never_ends flash call l es h)
        (λ h. kept.ends_well flash call l bytes begun h) (λ h es. kept.never_ends flash call l es h) ready;
  }

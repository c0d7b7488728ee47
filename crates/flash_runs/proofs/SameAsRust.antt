-- Every call does what its program does, and leaves the driver that it leaves.
use Prim.Native.Nat.{ℕ}
use native.Mathlib.Omega.{arith}
use mathlib.Core.Bool.{Bool, true, false}
use mathlib.Core.Logic.{◌⊎◌, inl, inr, ⊎_elim}
use mathlib.Core.Option.{Option, none}
use mathlib.Core.Path.{◌≡◌, refl, ap, ap₂, sym, ◌∙◌, subst}
use mathlib.Core.List.{List, [], ◌∷◌, map}
use lib.ListN.{length}
use Rattle.spi_flash.specs.Loan.{Lent}
use Rattle.qspi.specs.Frame.{first_of, action_of}
use Rattle.qspi.specs.Shown.{shown_of}
use Rattle.spi_flash.specs.Prog.{Prog, ask}
use Rattle.spi_flash.specs.Path.{Bounded}
use Rattle.spi_flash.proofs.Machine.{out, machine}
use Rattle.spi_flash.specs.Run.{Event, Given, act, ended, failed, refused, Entry, System, goes_on, Fitting, Answer, at_once, opening, call_of}
use Rattle.spi_flash.specs.Seen.{Did, told_then, told, gives_of, replies_of, accepted, SameData, Undisturbed}
use Rattle.spi_flash.specs.OnBus.{BusProg, program_on_bus, performed}
use Rattle.spi_flash.specs.declared.loan.Takes.{Takes}
use Rattle.spi_flash.proofs.Dataless.{data_uses}
use Rattle.spi_flash.proofs.Performs.{events_of, Looks, looks_then, looking, looking-whole, looking-given, performs}
use Rattle.spi_flash.proofs.Heeded.{Closed, closed-whole, fitting-told, Heeds, heeds}
use Rattle.flash_runs.specs.Driver.{Left, Sort, constructs, tells, releases, uses, Driver, sort_at, takes_at, program_at, steps_at}
use Rattle.flash_runs.specs.Heeding.{heeding}
use Rattle.flash_runs.specs.SameAsRust.{LendsData, Ready, Steady, Regular, rust_call, rust_heeding, driver_of, left_then, left_by, driver_after, Turn, turn_steps, turn_after, EachTurn, turn_by_turn, SteadyAlone, Orderly, session, turn_does, turn_gives, holding, rust_turn, heeding_turn, rust_session, SameAsRust}
use Rattle.flash_runs.proofs.General.{Opening, constructing, telling, releasing, working, Parts, Flash, decide_next}
use Rattle.flash_runs.proofs.Supplies.{LooksAs, OpensAs, Known}
use Rattle.flash_runs.proofs.Runs.{same-call}
use Rattle.flash_runs.proofs.Views.{shape, driven, Opens, Answered, gives, turns, usable, on_machine, opens-call}
use Rattle.flash_runs.proofs.LeftBehind.{left}
use Rattle.flash_runs.proofs.Heeding.{goes-on, heeds-fitting}
use Rattle.flash_runs.proofs.Judged.{shown-awaits}

no_tells : {S : Type 0} {s : S} → ◌≡◌ {A = Sort S} tells (constructs s) → ⊥
no_tells h = let z : ◌≡◌ {A = ℕ} 0 1 = cc in omega arith

no-releases : {S : Type 0} {s : S} → ◌≡◌ {A = Sort S} releases (constructs s) → ⊥
no-releases h = let z : ◌≡◌ {A = ℕ} 0 1 = cc in omega arith

no-uses : {S : Type 0} {s : S} {takes : Takes} → ◌≡◌ {A = Sort S} (uses takes) (constructs s) → ⊥
no-uses h = let z : ◌≡◌ {A = ℕ} 0 1 = cc in omega arith

-- ---- what is left is told by what is given, refused steps or not

module _ {S A : Type 0} where
  abbrev left_in : List (Given (Left S A)) → Option (Left S A)
  left_in [] = none
  left_in (g ∷ gs) = left_then g (left_in gs)

  given-left : (xs : List (Did (Left S A))) → left_in (gives_of xs) ≡ left_by xs
  given-left [] = refl
  given-left (x ∷ xs) = ap (left_then x.given) (given-left xs)

accepted-first : {C S A : Type 0} (event : Event C) (g : Given (Left S A)) (l : Lent) (xs : List (Entry C (Left S A))) → left_by (told (accepted xs)) ≡ left_by (told xs) →
    let x : Entry C (Left S A) = record { event = event; given = g; left = l } in left_by (told (accepted (x ∷ xs))) ≡ left_by (told (x ∷ xs))
unfolding told accepted
accepted-first event (act shown) l xs h = h
accepted-first event (ended a) l xs h = refl
accepted-first event (failed e) l xs h = refl
accepted-first event (refused e) l xs h = h

accepted-left : {C S A : Type 0} (xs : List (Entry C (Left S A))) → left_by (told (accepted xs)) ≡ left_by (told xs)
unfolding told accepted
accepted-left [] = refl
accepted-left (x ∷ xs) = accepted-first x.event x.given x.left xs (accepted-left xs)

pub left-as : {C S A : Type 0} (xs : List (Entry C (Left S A))) (ds : List (Did (Left S A))) → gives_of (told (accepted xs)) ≡ gives_of ds → left_by (told xs) ≡ left_by ds
left-as xs ds h = sym (accepted-left xs) ∙ sym (given-left (told (accepted xs))) ∙ ap left_in h ∙ given-left ds

module _ {F C S A : Type 0} {driver : Driver F C S A} (known : Known driver) where
  abbrev P : Type 0
  P = known.P

  abbrev parts : Parts S P A C
  parts = known.parts

  abbrev driving : System (Flash S P) C (Left S A)
  driving = driven known

  -- the program's call, of a program that is known
  rust-is : (setup : S) (c : C) (l : Lent) (es : List (Event C)) (p : Prog (Left S A)) → program_at driver setup c l ≡ p →
      rust_call driver setup c l es ≡ performed (program_on_bus l.given p) (replies_of es) l.buffer
  rust-is setup c l es p e = ap (λ x. performed (program_on_bus l.given x) (replies_of es) l.buffer) e

  module _ (flash : F) (c : C) (l : Lent) (es : List (Event C)) where
    abbrev setup : S
    setup = driver.setup flash

    abbrev steps : List (Entry C (Left S A))
    steps = steps_at driver flash c l es

    abbrev program : Prog (Left S A)
    program = program_at driver setup c l

    abbrev heeded : List (Entry C (Left S A)) → List Answer
    heeded xs = replies_of (events_of (accepted xs))

    -- what these steps come to, refused ones passed over, is what the program does on the events that fit
    abbrev Heeding : Bool → Prog (Left S A) → List (Entry C (Left S A)) → Type 0
    Heeding whole p xs = looking whole (told (accepted xs)) ≡ looking whole (heeding (takes_at driver c l) (program_on_bus l.given p) es l.buffer)

    -- and on the replies that were taken
    abbrev Does : Bool → Prog (Left S A) → List (Entry C (Left S A)) → Type 0
    Does whole p xs = looking whole (told (accepted xs)) ≡ looking whole (performed (program_on_bus l.given p) (heeded xs) l.buffer)

    -- ---- a call that ends at once

    answered-heeding : (whole : Bool) → Answered known (shape known flash) c l → Heeding whole program steps
    unfolding told call_of accepted program_on_bus heeding
    answered-heeding whole (gives a u n p e k) =
        subst (Heeding whole program) (sym (same-call driver parts known.is flash c l es))
        (subst (λ m. Heeding whole program (opening c l m ∷ goes_on driving m.flash es)) (sym e) (rw p refl))
    answered-heeding whole (turns x takes p e k) =
        subst (Heeding whole program) (sym (same-call driver parts known.is flash c l es))
        (subst (λ m. Heeding whole program (opening c l m ∷ goes_on driving m.flash es)) (sym e) (rw p refl))

    answered-same : Answered known (shape known flash) c l → told steps ≡ rust_call driver setup c l es
    unfolding told call_of program_on_bus performed
    answered-same (gives a u n p e k) =
        ap told (same-call driver parts known.is flash c l es)
        ∙ ap (λ m. told_then (at_once m.given) m.left.buffer (told (goes_on driving m.flash es))) e ∙ sym (rust-is setup c l es _ p)
    answered-same (turns x takes p e k) =
        ap told (same-call driver parts known.is flash c l es)
        ∙ ap (λ m. told_then (at_once m.given) m.left.buffer (told (goes_on driving m.flash es))) e ∙ sym (rust-is setup c l es _ p)

    -- ---- a call that goes to the bus

    module _ (o : Opens known (shape known flash) c l) where
      abbrev taking : Takes
      taking = takes_at driver c l

      abbrev entries : List (Entry C (Left S A))
      entries = goes_on (machine (decide_next parts) C) (out taking o.at (first_of o.first)) es

      abbrev begun : Prog (Left S A)
      begun = ask o.first (known.meaning o.at)

      -- the same data are lent, or the program does not look at them
      lends : LooksAs driver setup c (length l.buffer) (length l.given) taking → LendsData taking l.given (on_machine known o es) → SameData l.given entries ⊎ Bounded data_uses 0 begun
      unfolding SameData
      lends = at taking
        where
          at : (k : Takes) → LooksAs driver setup c (length l.buffer) (length l.given) k → LendsData k l.given (on_machine known o es) → SameData l.given entries ⊎ Bounded data_uses 0 begun
          at Takes.Nothing b h = inr (subst (Bounded data_uses 0) o.program b)
          at (Takes.Buffer n) b h = inr (subst (Bounded data_uses 0) o.program b)
          at (Takes.Data n) b h = inl h.1

      machine-does : (whole : Bool) → LendsData taking l.given (on_machine known o es) → Looks whole (Undisturbed l.buffer (on_machine known o es)) → Does whole begun (on_machine known o es)
      unfolding told accepted SameData Undisturbed
      machine-does whole same still =
          performs C known.Valid (decide_next parts) taking known.meaning known.supplies.simulates l.given whole o.first o.at es l o.valid refl
          (lends (known.supplies.dataless setup c (length l.buffer) (length l.given) o.bounds) same) (looks_then whole (λ h. h.1) still)

      machine-heeding : (whole : Bool) → LendsData taking l.given (on_machine known o es) → Looks whole (Undisturbed l.buffer (on_machine known o es)) → Heeding whole begun (on_machine known o es)
      unfolding told accepted
      machine-heeding whole same still =
          let one = machine-does whole same still in
          one ∙ sym (goes-on (decide_next parts) taking whole es (heeds-fitting (decide_next parts) taking whole es) o.at (first_of o.first) (shown_of (action_of (first_of o.first)) l.scratch l.given)
          (shown-awaits _ _ _) l.buffer (program_on_bus l.given begun) l.buffer one)

      opened-heeding : (whole : Bool) → LendsData taking l.given steps → Looks whole (Undisturbed l.buffer steps) → Heeding whole program steps
      opened-heeding whole same still =
          let e = opens-call known flash o es in
          subst (Heeding whole program) (sym e)
          (subst (λ p. Heeding whole p (on_machine known o es)) (sym o.program)
          (machine-heeding whole (subst (LendsData taking l.given) e same) (subst (λ xs. Looks whole (Undisturbed l.buffer xs)) e still)))

      pub opened-does : (whole : Bool) → LendsData taking l.given steps → Looks whole (Undisturbed l.buffer steps) → Does whole program steps
      opened-does whole same still =
          let e = opens-call known flash o es in
          subst (Does whole program) (sym e)
          (subst (λ p. Does whole p (on_machine known o es)) (sym o.program)
          (machine-does whole (subst (LendsData taking l.given) e same) (subst (λ xs. Looks whole (Undisturbed l.buffer xs)) e still)))

      -- the replies that were taken are all that matter
      enough : (xs : List (Entry C (Left S A))) → Heeds (decide_next parts) taking es xs → (p : BusProg (Left S A)) → Closed (told xs) ≡ Closed (performed p (heeded xs) l.buffer) →
          performed p (heeded xs) l.buffer ≡ performed p (replies_of es) l.buffer
      enough xs (inl e) p h = ap (λ rs. performed p rs l.buffer) e
      enough xs (inr c) p h = sym (ap (λ rs. performed p rs l.buffer) (sym c.1.whole) ∙ closed-whole p (heeded xs) c.1.rest l.buffer (subst (λ x. x) h c.0))

    -- every call
    heeds-all : (whole : Bool) → Steady driver flash c l es → Looks whole (Undisturbed l.buffer steps) → Heeding whole program steps
    heeds-all whole h still = ⊎_elim (answered-heeding whole) (λ o. opened-heeding o whole h.same_data still) (usable known flash c l h.usable)

    gives-same : Steady driver flash c l es → gives_of (told (accepted steps)) ≡ gives_of (rust_heeding driver setup c l es)
    gives-same h = sym (looking-given _) ∙ ap gives_of (heeds-all false h tt) ∙ looking-given _

    delivers : Steady driver flash c l es → Undisturbed l.buffer steps → told (accepted steps) ≡ rust_heeding driver setup c l es
    delivers h still = sym (looking-whole _) ∙ heeds-all true h still ∙ looking-whole _

    steady : Regular driver flash c l es → Steady driver flash c l es
    steady h = record { usable = h.usable; same_data = at (takes_at driver c l) }
      where
        at : (k : Takes) → LendsData k l.given steps
        at Takes.Nothing = tt
        at (Takes.Buffer n) = tt
        at (Takes.Data n) = h.same_data

    opened-same : Opens known (shape known flash) c l → Regular driver flash c l es → told steps ≡ rust_call driver setup c l es
    unfolding told Fitting accepted
    opened-same o h =
        let e = opens-call known flash o es in
        let one = sym (fitting-told steps h.fitting) ∙ sym (looking-whole _) ∙ opened-does o true (steady h).same_data h.undisturbed ∙ looking-whole _ in
        let all = heeds (decide_next parts) (takes_at driver c l) o.at (first_of o.first) es (subst Fitting e h.fitting) in
        one ∙ enough o steps (subst (Heeds (decide_next parts) (takes_at driver c l) es) (sym e) all) (program_on_bus l.given program) (ap Closed one)

    same : Regular driver flash c l es → told steps ≡ rust_call driver setup c l es
    same h = ⊎_elim answered-same (λ o. opened-same o h) (usable known flash c l h.usable)

  -- ---- any sequence of calls

  -- a construction does not look at what was there before
  constructs-alike : (s : S) (c : C) (b d : ℕ) (x : Opening S P A) → OpensAs driver parts known.Valid known.Built known.meaning s c b d x → (fresh : S) → driver.sort c b d ≡ constructs fresh → (before : S) →
      driver.program before c b d ≡ driver.program s c b d
  constructs-alike s c b d (constructing own) k fresh h before = k.alike before
  constructs-alike s c b d (telling answer) a fresh h before = absurd (no_tells (sym a.sorted ∙ h))
  constructs-alike s c b d releasing r fresh h before = absurd (no-releases (sym r.sorted ∙ h))
  constructs-alike s c b d (working takes then) u fresh h before = absurd (no-uses (sym u.sorted ∙ h))

  -- the Rust's struct is what the driver holds, or the call makes one
  held : (x : Sort S) (flash : F) (c : C) (l : Lent) → sort_at driver c l ≡ x → Ready driver x flash l →
      program_at driver (driver.setup flash) c l ≡ program_at driver (holding (driver.setup driver.fresh) (driver_of driver flash)) c l
  held (constructs fresh) flash c l e h =
      let s = driver.setup flash in
      let b = length l.buffer in
      let d = length l.given in
      sym (constructs-alike s c b d (parts.opening s c b d) (known.supplies.opens s c b d) fresh e _)
  held tells flash c l e h = rw h refl
  held releases flash c l e h = rw h refl
  held (uses takes) flash c l e h = rw h.0 refl

  turn-same : (flash : F) (x : Turn C) → Regular driver flash x.call x.lent x.events → told (turn_steps driver flash x) ≡ rust_turn driver (driver_of driver flash) x
  turn-same flash x h =
      same flash x.call x.lent x.events h
      ∙ rust-is (driver.setup flash) x.call x.lent x.events _ (held (sort_at driver x.call x.lent) flash x.call x.lent refl h.usable.ready)

  sessions : (flash : F) (turns : List (Turn C)) → Orderly driver flash turns → session driver flash turns ≡ rust_session driver (rust_turn driver) (driver_of driver flash) turns
  unfolding EachTurn turn_by_turn rust_session
  sessions flash [] h = refl
  sessions flash (x ∷ xs) h =
      let head = turn-same flash x h.0 in
      ap₂ (λ a b. a ∷ b) head
      (sessions (turn_after driver flash x) xs h.1
      ∙ ap (λ before. rust_session driver (rust_turn driver) before xs)
      (left known flash x.call x.lent x.events h.0.usable
      ∙ ap (λ steps. driver_after (sort_at driver x.call x.lent) (driver_of driver flash) (left_by steps)) head))

  pub turn-gives : (flash : F) (x : Turn C) → Steady driver flash x.call x.lent x.events → turn_gives driver flash x ≡ gives_of (heeding_turn driver (driver_of driver flash) x)
  turn-gives flash x h =
      gives-same flash x.call x.lent x.events h
      ∙ ap (λ p. gives_of (heeding (takes_at driver x.call x.lent) (program_on_bus x.lent.given p) x.events x.lent.buffer)) (held (sort_at driver x.call x.lent) flash x.call x.lent refl h.usable.ready)

  steady-sessions : (flash : F) (turns : List (Turn C)) → EachTurn driver (λ flash x. Steady driver flash x.call x.lent x.events) flash turns →
      turn_by_turn driver (turn_gives driver) flash turns ≡ map gives_of (rust_session driver (heeding_turn driver) (driver_of driver flash) turns)
  unfolding EachTurn turn_by_turn rust_session
  steady-sessions flash [] h = refl
  steady-sessions flash (x ∷ xs) h =
      let head = turn-gives flash x h.0 in
      ap₂ (λ a b. a ∷ b) head
      (steady-sessions (turn_after driver flash x) xs h.1
      ∙ ap (λ before. map gives_of (rust_session driver (heeding_turn driver) before xs))
      (left known flash x.call x.lent x.events h.0.usable
      ∙ ap (driver_after (sort_at driver x.call x.lent) (driver_of driver flash)) (left-as (turn_steps driver flash x) _ head)))

  pub turn-delivers : (flash : F) (x : Turn C) → SteadyAlone driver flash x → turn_does driver flash x ≡ heeding_turn driver (driver_of driver flash) x
  turn-delivers flash x h =
      delivers flash x.call x.lent x.events h.0 h.1
      ∙ ap (λ p. heeding (takes_at driver x.call x.lent) (program_on_bus x.lent.given p) x.events x.lent.buffer)
      (held (sort_at driver x.call x.lent) flash x.call x.lent refl h.0.usable.ready)

  delivered-sessions : (flash : F) (turns : List (Turn C)) → EachTurn driver (SteadyAlone driver) flash turns →
      turn_by_turn driver (turn_does driver) flash turns ≡ rust_session driver (heeding_turn driver) (driver_of driver flash) turns
  unfolding EachTurn turn_by_turn rust_session
  delivered-sessions flash [] h = refl
  delivered-sessions flash (x ∷ xs) h =
      let head = turn-delivers flash x h.0 in
      ap₂ (λ a b. a ∷ b) head
      (delivered-sessions (turn_after driver flash x) xs h.1
      ∙ ap (λ before. rust_session driver (heeding_turn driver) before xs)
      (left known flash x.call x.lent x.events h.0.0.usable
      ∙ ap (driver_after (sort_at driver x.call x.lent) (driver_of driver flash)) (left-as (turn_steps driver flash x) _ (ap gives_of head))))

  pub same_as_rust : SameAsRust driver
  same_as_rust = record { gives = gives-same; delivers = delivers; same = same; left = left known; sessions = sessions; steady_sessions = steady-sessions; delivered_sessions = delivered-sessions }

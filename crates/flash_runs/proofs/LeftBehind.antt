-- What a call leaves in the driver: a construction what it has made, no other call anything new.
use Prim.Native.Nat.{ℕ, ◌≤◌}
use mathlib.Core.Bool.{Bool, true, false}
use mathlib.Core.Logic.{⊎_elim}
use mathlib.Core.Option.{Option, none, some}
use mathlib.Core.Path.{◌≡◌, refl, ap, sym, ◌∙◌, subst}
use mathlib.Core.List.{List, [], ◌∷◌}
use lib.ListN.{length}
use Rattle.qspi.specs.Choice.{pick}
use Rattle.qspi.specs.Command.{scratch_least}
use Rattle.qspi.specs.Frame.{Outcome, first_of}
use Rattle.qspi.specs.declared.transfer.Transfer.{Transfer}
use Rattle.spi_flash.specs.Settling as Settling
use Rattle.spi_flash.specs.Loan.{Lent}
use Rattle.spi_flash.specs.Run.{Event, reply, call, System, goes_on, at_once, call_of, state_after}
use Rattle.spi_flash.specs.Seen.{told_then, told}
use Rattle.spi_flash.specs.declared.loan.Takes.{Takes}
use Rattle.flash_runs.specs.Driver.{Left, Sort, constructs, tells, releases, uses, Driver, sort_at, takes_at, steps_at, flash_after}
use Rattle.flash_runs.specs.SameAsRust.{Ready, Usable, driver_of, left_by, made_by, driver_after}
use Rattle.flash_runs.proofs.General as General
use Rattle.flash_runs.proofs.General.{Then, Parts, Job, job_of, Running, idle, busy, is_busy, Flash, flash_of, Place, Step, settled, general}
use Rattle.flash_runs.proofs.Supplies.{Stays, Known}
use Rattle.flash_runs.proofs.Steps.{step-view}
use Rattle.flash_runs.proofs.Runs.{same-call, same-state}
use Rattle.flash_runs.proofs.Views.{true≢false, shape, driven, Began, making, serving, Opens, Kept, Answered, gives, turns, usable}

-- the Rust's struct, while there is one
abbrev made_in : {S P : Type 0} → Flash S P → Option S
made_in flash = pick flash.built (some flash.setup) none

both-there : {S : Type 0} (s : S) {a b : Bool} → a ≡ true → b ≡ true → pick a (some s) none ≡ pick b (some s) none
both-there s h k = rw (h, k) refl

-- ---- a driver at rest

module _ {S P A C : Type 0} (parts : Parts S P A C) (in_bounds : S → Bool) where
  abbrev system : System (Flash S P) C (Left S A)
  system = general parts in_bounds

  -- events change nothing
  pub rest-state : (setup : S) (built : Bool) (delivered : ℕ) (es : List (Event C)) →
      state_after system (flash_of setup built delivered idle) es ≡ flash_of setup built delivered idle
  unfolding state_after
  rest-state s u n [] = refl
  rest-state s u n (call c l ∷ es) = refl
  rest-state s u n (reply r bytes l ∷ es) = rest-state s u n es

  pub still : (running : Running P) (setup : S) (built : Bool) (delivered : ℕ) (es : List (Event C)) → is_busy running ≡ false →
      state_after system (flash_of setup built delivered running) es ≡ flash_of setup built delivered running
  still idle s u n es h = rest-state s u n es
  still (busy job) s u n es h = absurd (true≢false h)

  -- ---- a construction leaves what it has made

  abbrev Makes : List (Event C) → Type 0
  Makes es = (setup : S) (delivered : ℕ) (job : Job P) → let f = flash_of setup false delivered (busy job) in
      made_in (state_after system f es) ≡ made_by (left_by (told (goes_on system f es)))

  -- what is said of a step
  abbrev MakesBy : List (Event C) → Step S P A → Type 0
  MakesBy es m = made_in (state_after system m.flash es) ≡ made_by (left_by (told_then m.given m.left.buffer (told (goes_on system m.flash es))))

  settled-makes : (es : List (Event C)) → Makes es → (setup : S) (delivered : ℕ) (running : Running P) (takes : Takes) (x : Then S P A) (l : Lent) →
      MakesBy es (settled (flash_of setup false delivered running) takes x l)
  unfolding Settling.settled
  settled-makes es ih s n running takes (General.go setup t phase) l = ih setup n (job_of phase (first_of t) takes)
  settled-makes es ih s n running takes (General.end setup answer) l = rw (rest-state setup true n es) refl
  settled-makes es ih s n running takes (General.fail e) l = rw (rest-state s false n es) refl

  makes : (es : List (Event C)) → Makes es
  unfolding state_after goes_on told
  makes [] s n job = refl
  makes (call c l ∷ es) s n job = makes es s n job
  makes (reply r bytes l ∷ es) s n job =
      step-view parts (flash_of s false n (busy job)) job r bytes l
      (MakesBy es)
      (makes es s n job)
      (λ g ready fits is. makes es s _ (job_of job.phase g job.takes))
      (λ o ready fits is. settled-makes es (makes es) s n (busy job) job.takes (parts.next s job.phase o) _)

  -- ---- a call on a built driver keeps what the driver holds

  module _ (Built : P → Type 0) (s : S) (stays : (phase : P) (o : Outcome) → Built phase → Stays Built s (parts.next s phase o)) where
    abbrev Keeps : List (Event C) → Type 0
    Keeps es = (delivered : ℕ) (job : Job P) → Built job.phase → made_in (state_after system (flash_of s true delivered (busy job)) es) ≡ some s

    settled-keeps : (es : List (Event C)) → Keeps es → (delivered : ℕ) (running : Running P) (takes : Takes) (x : Then S P A) (l : Lent) → Stays Built s x →
        made_in (state_after system (settled (flash_of s true delivered running) takes x l).flash es) ≡ some s
    unfolding Settling.settled
    settled-keeps es ih n running takes (General.go setup t phase) l h = rw h.0 (ih n (job_of phase (first_of t) takes) h.1)
    settled-keeps es ih n running takes (General.end setup answer) l h = rw (rest-state setup true n es) (ap some h)
    settled-keeps es ih n running takes (General.fail e) l h = rw (rest-state s true n es) refl

    keeps : (es : List (Event C)) → Keeps es
    unfolding state_after
    keeps [] n job h = refl
    keeps (call c l ∷ es) n job h = keeps es n job h
    keeps (reply r bytes l ∷ es) n job h =
        step-view parts (flash_of s true n (busy job)) job r bytes l
        (λ m. made_in (state_after system m.flash es) ≡ some s)
        (keeps es n job h)
        (λ g ready fits is. keeps es _ (job_of job.phase g job.takes) h)
        (λ o ready fits is. settled-keeps es (keeps es) n (busy job) job.takes (parts.next s job.phase o) l (stays job.phase o h))

-- ---- every call

module _ {F C S A : Type 0} {driver : Driver F C S A} (known : Known driver) where
  abbrev P : Type 0
  P = known.P

  abbrev parts : Parts S P A C
  parts = known.parts

  abbrev driving : System (Flash S P) C (Left S A)
  driving = driven known

  -- one that ends at once
  kept-driver : (x : Sort S) (flash : F) (l : Lent) (built : Bool) (left : Option (Left S A)) → Kept known x built → Ready driver x flash l →
      pick built (some (driver.setup flash)) none ≡ driver_after x (driver_of driver flash) left
  kept-driver (constructs fresh) flash l built left k h = absurd k
  kept-driver tells flash l built left k h = both-there (driver.setup flash) k h
  kept-driver releases flash l built left k h = rw k refl
  kept-driver (uses takes) flash l built left k h = both-there (driver.setup flash) k h.0

  module _ (flash : F) (c : C) (l : Lent) (es : List (Event C)) where
    abbrev viewing : Flash S P
    viewing = shape known flash

    abbrev Leaves : Type 0
    Leaves = driver_of driver (flash_after driver flash c l es) ≡ driver_after (sort_at driver c l) (driver_of driver flash) (left_by (told (steps_at driver flash c l es)))

    -- what a beginning leaves, behind these events
    abbrev LeavesBy : Step S P A → Type 0
    LeavesBy m =
        made_in (state_after driving m.flash es) ≡
        driver_after (sort_at driver c l) (driver_of driver flash) (left_by (told_then (at_once m.given) m.left.buffer (told (goes_on driving m.flash es))))

    left-of : (m : Step S P A) → driving.begin viewing c l ≡ m → LeavesBy m → Leaves
    unfolding told call_of
    left-of m e h =
        ap made_in (same-state driver parts known.is flash c l es)
        ∙ subst LeavesBy (sym e) h
        ∙ ap (λ xs. driver_after (sort_at driver c l) (driver_of driver flash) (left_by (told xs))) (sym (same-call driver parts known.is flash c l es))

    answered-left : Answered known viewing c l → Usable driver flash c l → Leaves
    answered-left (gives a u n p e k) h = left-of _ e (rw (rest-state parts driver.in_bounds (driver.setup flash) u n es) (kept-driver (sort_at driver c l) flash l u _ k h.ready))
    answered-left (turns x takes p e k) h =
        left-of _ e (rw (still parts driver.in_bounds (known.is.running flash) (driver.setup flash) (driver.built flash) (known.is.count flash) es (sym (known.is.runs flash) ∙ h.idle), k) refl)

    -- one that runs
    module _ (held : S) (there : Bool) (job : Job P) where
      abbrev running : Flash S P
      running = flash_of held there 0 (busy job)

      abbrev RunLeaves : Type 0
      RunLeaves = made_in (state_after driving running es) ≡ driver_after (sort_at driver c l) (driver_of driver flash) (left_by (told (goes_on driving running es)))

      constructed : (fresh : S) → sort_at driver c l ≡ constructs fresh → there ≡ false → RunLeaves
      constructed fresh k absent = rw (k, absent) (makes parts driver.in_bounds es held 0 job)

      used : (takes : Takes) → Usable driver flash c l → sort_at driver c l ≡ uses takes → there ≡ true → (held ≡ driver.setup flash) × known.Built job.phase → RunLeaves
      used takes h k present stays =
          let ready : (driver.built flash ≡ true) × (scratch_least ≤ length l.scratch) = subst (λ x. Ready driver x flash l) k h.ready in
          rw (k, present, ready.0) (keeps parts driver.in_bounds known.Built held (known.supplies.stays held) es 0 job stays.1 ∙ ap some stays.0)

    began-left : (at : Place S P) (built : Bool) (first : Transfer) → Began known viewing c l at built first → Usable driver flash c l →
        RunLeaves at.setup built (job_of at.phase (first_of first) (takes_at driver c l))
    began-left at built first (making fresh k absent) h = constructed at.setup built (job_of at.phase (first_of first) (takes_at driver c l)) fresh k absent
    began-left at built first (serving takes k present stays) h = used at.setup built (job_of at.phase (first_of first) (takes_at driver c l)) takes h k present stays

    opened-left : Opens known viewing c l → Usable driver flash c l → Leaves
    unfolding Settling.settled
    opened-left o h = left-of _ o.is (began-left o.at o.built o.first o.began h)

    pub left : Usable driver flash c l → Leaves
    left h = ⊎_elim (λ a. answered-left a h) (λ o. opened-left o h) (usable known flash c l h)

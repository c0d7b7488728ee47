-- The runs of a driver are those of the general driver, and these are runs of the machine.
use Prim.Native.Nat.{ℕ}
use mathlib.Core.Bool.{Bool, true, false}
use mathlib.Core.Path.{◌≡◌, refl, ap, ap₂, ◌∙◌}
use mathlib.Core.List.{List, [], ◌∷◌}
use lib.ListN.{length}
use Rattle.qspi.specs.Bus.{fits_of}
use Rattle.qspi.specs.Choice.{pick}
use Rattle.qspi.specs.Frame.{action_of, exchange_of, advanced_of, taken_in, gave, delivered_by}
use Rattle.qspi.specs.declared.bus.Reply.{Reply}
use Rattle.qspi.specs.declared.frame.Advanced.{Advanced}
use Rattle.spi_flash.specs.Settling as Settling
use Rattle.spi_flash.specs.Loan.{Lent, ready_for, exchange_for, lent_as}
use Rattle.spi_flash.specs.Run.{Event, reply, call, Given, act, ended, failed, refused, Moved, System, entry, at_once, goes_on, begun_with, run_of, call_of, state_after}
use Rattle.spi_flash.proofs.Machine.{Config, out, rest, settle, moved, answered, machine}
use Rattle.spi_flash.specs.declared.loan.Takes.{Takes}
use Rattle.qspi.proofs.Cases.{by_cases}
use Rattle.flash_runs.specs.Driver.{Left, Driver}
use Rattle.flash_runs.proofs.General as General
use Rattle.flash_runs.proofs.General.{Then, Parts, Job, Running, idle, busy, Flash, flash_of, Place, place, decide, decide_next, settled, afterwards, proceeds, answer_at, general}
use Rattle.flash_runs.proofs.Supplies.{view_of, Alike, Is}

-- ---- alike steps, alike runs

view-pick : {F G : Type 0} (view : F → G) (b : Bool) (x y : F) → view (pick b x y) ≡ pick b (view x) (view y)
view-pick view true x y = refl
view-pick view false x y = refl

module _ {F G C A : Type 0} (view : F → G) (one : System F C A) (other : System G C A)
    (begins : (f : F) (c : C) (l : Lent) → Alike view (one.begin f c l) (other.begin (view f) c l))
    (answers : (f : F) (r : Reply) (bytes : List ℕ) (l : Lent) → Alike view (one.answer f r bytes l) (other.answer (view f) r bytes l))
    (running : (f : F) → one.running f ≡ other.running (view f)) where
  entries-alike : {e : Event C} {m : Moved F A} {k : Moved G A} → Alike view m k → entry e m ≡ entry e k
  entries-alike {e} s = ap₂ (λ g l. record { event = e; given = g; left = l }) s.given s.left

  pub goes-alike : (f : F) (es : List (Event C)) → goes_on one f es ≡ goes_on other (view f) es
  unfolding goes_on
  goes-alike f [] = refl
  goes-alike f (reply r bytes l ∷ es) =
      let s = answers f r bytes l in
      ap₂ (λ x xs. x ∷ xs) (entries-alike s) (goes-alike (one.answer f r bytes l).flash es ∙ ap (λ g. goes_on other g es) s.flash)
  goes-alike f (call c l ∷ es) =
      let s = begins f c l in
      ap₂ (λ b xs. pick b xs []) (running f)
      (ap₂ (λ x xs. x ∷ xs) (entries-alike s) (goes-alike (one.begin f c l).flash es ∙ ap (λ g. goes_on other g es) s.flash))

  after-alike : (es : List (Event C)) (m : Moved F A) (k : Moved G A) → Alike view m k → goes_on one m.flash es ≡ goes_on other k.flash es
  after-alike es m k s = goes-alike m.flash es ∙ ap (λ g. goes_on other g es) s.flash

  begun-alike : (g : Given A) (c : C) (l : Lent) (es : List (Event C)) (m : Moved F A) (k : Moved G A) → Alike view m k → begun_with one g c l m es ≡ begun_with other g c l k es
  begun-alike (act shown) c l es m k s = ap₂ (λ x xs. x ∷ xs) (entries-alike s) (after-alike es m k s)
  begun-alike (ended a) c l es m k s = refl
  begun-alike (failed e) c l es m k s = refl
  begun-alike (refused e) c l es m k s = refl

  pub runs-alike : (f : F) (c : C) (l : Lent) (es : List (Event C)) → run_of one f c l es ≡ run_of other (view f) c l es
  unfolding run_of
  runs-alike f c l es =
      let s = begins f c l in
      begun-alike (one.begin f c l).given c l es (one.begin f c l) (other.begin (view f) c l) s
      ∙ ap (λ g. begun_with other g c l (other.begin (view f) c l) es) s.given

  pub calls-alike : (f : F) (c : C) (l : Lent) (es : List (Event C)) → call_of one f c l es ≡ call_of other (view f) c l es
  unfolding call_of
  calls-alike f c l es =
      let s = begins f c l in
      ap₂ (λ x xs. x ∷ xs) (ap₂ (λ g left. record { event = call c l; given = at_once g; left = left }) s.given s.left)
      (after-alike es (one.begin f c l) (other.begin (view f) c l) s)

  pub states-alike : (f : F) (es : List (Event C)) → view (state_after one f es) ≡ state_after other (view f) es
  unfolding state_after
  states-alike f [] = refl
  states-alike f (reply r bytes l ∷ es) = states-alike (one.answer f r bytes l).flash es ∙ ap (λ g. state_after other g es) (answers f r bytes l).flash
  states-alike f (call c l ∷ es) =
      view-pick view (one.running f) (state_after one (one.begin f c l).flash es) f
      ∙ ap₂ (λ b g. pick b g (view f)) (running f)
      (states-alike (one.begin f c l).flash es ∙ ap (λ g. state_after other g es) (begins f c l).flash)

-- ---- the general driver and the machine

-- a driver as the machine sees it
abbrev pub config_at : {S P : Type 0} → Running P → S → Config (Place S P)
config_at idle setup = rest
config_at (busy job) setup = out job.takes (place setup job.phase) job.frame

abbrev pub config_of : {S P : Type 0} → Flash S P → Config (Place S P)
config_of flash = config_at flash.running flash.setup

module _ {S P A C : Type 0} (parts : Parts S P A C) (in_bounds : S → Bool) where
  abbrev driven : System (Flash S P) C (Left S A)
  driven = general parts in_bounds

  -- the end of a transfer
  settles : (flash : Flash S P) (takes : Takes) (then : Then S P A) (l : Lent) → Alike config_of (settled flash takes then l) (settle takes (decide then) l)
  unfolding Settling.settled
  settles flash takes (General.go setup t phase) l = record { given = refl; flash = refl; left = refl }
  settles flash takes (General.end setup answer) l = record { given = refl; flash = refl; left = refl }
  settles flash takes (General.fail error) l = record { given = refl; flash = refl; left = refl }

  module _ (flash : Flash S P) (job : Job P) (is : flash.running ≡ busy job) (r : Reply) (bytes : List ℕ) (l : Lent) where
    steps : Alike config_of (proceeds parts flash job r bytes l) (answered (decide_next parts) (out job.takes (place flash.setup job.phase) job.frame) r bytes l)
    unfolding exchange_for exchange_of
    steps =
        by_cases (ready_for job.takes l)
        (λ ready. by_cases (fits_of (action_of job.frame) r (length bytes))
        (λ fits. rw (ready, fits) (goes (advanced_of job.frame r bytes l.given)))
        (λ fits. rw (ready, fits) (record { given = refl; flash = rw is refl; left = refl })))
        (λ ready. rw ready (record { given = refl; flash = rw is refl; left = refl }))
      where
        goes : (x : Advanced) → Alike config_of
            (afterwards parts flash job (delivered_by job.frame r (length bytes) (length l.buffer) flash.delivered) (gave x l.scratch (taken_in job.frame r bytes l.buffer)) l)
            (moved (decide_next parts) job.takes (place flash.setup job.phase) job.frame (gave x l.scratch (taken_in job.frame r bytes l.buffer)).exchanged l
            (gave x l.scratch (taken_in job.frame r bytes l.buffer)).scratch (gave x l.scratch (taken_in job.frame r bytes l.buffer)).buffer)
        goes (Advanced.More g) = record { given = refl; flash = refl; left = refl }
        goes (Advanced.Over o) = settles flash job.takes (parts.next flash.setup job.phase o) (lent_as l.scratch (taken_in job.frame r bytes l.buffer) l)

  -- a driver at rest expects no reply
  answers_at : (setup : S) (built : Bool) (delivered : ℕ) (running : Running P) (r : Reply) (bytes : List ℕ) (l : Lent) →
      Alike config_of (answer_at parts running (flash_of setup built delivered running) r bytes l) (answered (decide_next parts) (config_at running setup) r bytes l)
  answers_at setup built delivered idle r bytes l = record { given = refl; flash = refl; left = refl }
  answers_at setup built delivered (busy job) r bytes l = steps (flash_of setup built delivered (busy job)) job refl r bytes l

  answers : (flash : Flash S P) (r : Reply) (bytes : List ℕ) (l : Lent) → Alike config_of (driven.answer flash r bytes l) (answered (decide_next parts) (config_of flash) r bytes l)
  answers flash r bytes l = answers_at flash.setup flash.built flash.delivered flash.running r bytes l

  -- a call begun meanwhile is refused, and one begun at rest is another run
  meanwhile : (setup : S) (built : Bool) (delivered : ℕ) (running : Running P) (c : C) (l : Lent) (es : List (Event C)) →
      goes_on driven (flash_of setup built delivered running) es ≡ goes_on (machine (decide_next parts) C) (config_at running setup) es →
      goes_on driven (flash_of setup built delivered running) (call c l ∷ es) ≡ goes_on (machine (decide_next parts) C) (config_at running setup) (call c l ∷ es)
  unfolding goes_on
  meanwhile setup built delivered idle c l es ih = refl
  meanwhile setup built delivered (busy job) c l es ih = ap (λ xs. entry (call c l) ((machine (decide_next parts) C).begin (config_at (busy job) setup) c l) ∷ xs) ih

  pub machine-runs : (flash : Flash S P) (es : List (Event C)) → goes_on driven flash es ≡ goes_on (machine (decide_next parts) C) (config_of flash) es
  unfolding goes_on
  machine-runs flash [] = refl
  machine-runs flash (reply r bytes l ∷ es) =
      let s = answers flash r bytes l in
      ap₂ (λ x xs. x ∷ xs) (ap₂ (λ g left. record { event = reply r bytes l; given = g; left = left }) s.given s.left)
      (machine-runs (driven.answer flash r bytes l).flash es ∙ ap (λ c. goes_on (machine (decide_next parts) C) c es) s.flash)
  machine-runs flash (call c l ∷ es) = meanwhile flash.setup flash.built flash.delivered flash.running c l es (machine-runs flash es)

-- ---- a driver that is the general one

module _ {F C S P A : Type 0} (driver : Driver F C S A) (parts : Parts S P A C) (is : Is driver parts) where
  abbrev pub viewed : F → Flash S P
  viewed = view_of driver is.count is.running

  pub same-run : (flash : F) (c : C) (l : Lent) (es : List (Event C)) → run_of driver.system flash c l es ≡ run_of (general parts driver.in_bounds) (viewed flash) c l es
  same-run = runs-alike viewed driver.system (general parts driver.in_bounds) is.begins is.answers is.runs

  pub same-call : (flash : F) (c : C) (l : Lent) (es : List (Event C)) → call_of driver.system flash c l es ≡ call_of (general parts driver.in_bounds) (viewed flash) c l es
  same-call = calls-alike viewed driver.system (general parts driver.in_bounds) is.begins is.answers is.runs

  -- the state behind a call and events
  pub same-state : (flash : F) (c : C) (l : Lent) (es : List (Event C)) →
      viewed (state_after driver.system (driver.system.begin flash c l).flash es) ≡
      state_after (general parts driver.in_bounds) ((general parts driver.in_bounds).begin (viewed flash) c l).flash es
  same-state flash c l es =
      states-alike viewed driver.system (general parts driver.in_bounds) is.begins is.answers is.runs (driver.system.begin flash c l).flash es
      ∙ ap (λ g. state_after (general parts driver.in_bounds) g es) (is.begins flash c l).flash

-- A driver whose shape is faithful is the general driver.
use Prim.Native.Nat.{ℕ}
use mathlib.Core.Bool.{Bool, true, false}
use mathlib.Core.Path.{◌≡◌, refl, ap, ap₂, ◌∙◌, subst}
use mathlib.Core.List.{List}
use lib.ListN.{length}
use Rattle.std.specs.Prelude.{Result, Ok, Err}
use Rattle.qspi.specs.Choice.{pick}
use Rattle.qspi.specs.declared.bus.Reply.{Reply}
use Rattle.qspi.specs.Frame.{Outcome, exchange_of, delivered_by}
use Rattle.qspi.specs.declared.frame.Exchanged.{Exchanged}
use Rattle.spi_flash.specs.Entry.{entry_of}
use Rattle.spi_flash.specs.Beginning.{Calls, told, entered, opened, freed, constructed, begun, at_rest, begin_at, begins}
use Rattle.spi_flash.specs.Loan.{Lent, ready_for, exchange_for, lent_as}
use Rattle.spi_flash.specs.Replying.{exchanged, step_at, steps}
use Rattle.spi_flash.specs.Settling.{settled}
use Rattle.spi_flash.specs.Shape.{Given, Shape}
use Rattle.spi_flash.specs.declared.error.FlashError.{FlashError}
use Rattle.spi_flash.specs.declared.loan.Takes.{Takes}
use Rattle.qspi.proofs.Cases.{by_cases}
use Rattle.spi_flash.proofs.Faithful.{Flash, flash_of, viewed, Gives, Faithful}
use Rattle.flash_runs.specs.System.{leaving_in, shown_as, left_with, moved_as, system_of}
use Rattle.flash_runs.proofs.General as General
use Rattle.flash_runs.proofs.General.{Then, go, end, fail, Opening, constructing, telling, releasing, working, Job, Running, idle, busy, parts_of, Stepped, plain, general}
use Rattle.flash_runs.proofs.Supplies.{Alike}

module _ {F S P A G : Type 0} (shape : Shape F S P A G) where
  -- a step of the driver and one of the general driver give the same
  pub record Same (x : G) (y : Stepped S P A) : Type 0 where
    pub given : shape.given x ≡ y.given
    pub after : viewed shape (shape.after x) ≡ y.flash

  same : {x : G} {what : Given A} {flash : F} {view : Flash S P} → Gives shape x what flash → viewed shape flash ≡ view → Same x (record { flash = view; given = what })
  same h e = record { given = h.given; after = ap (viewed shape) h.after ∙ e }

  either : (b : Bool) (x y : G) (x' y' : Stepped S P A) → Same x x' → Same y y' → Same (pick b x y) (pick b x' y')
  either true x y x' y' h k = h
  either false x y x' y' h k = k

  alike : {x : G} {y : Stepped S P A} → Same x y → (l : Lent) → Alike (viewed shape) (left_with shape x l) (left_with plain y l)
  alike s l = record {
    given = ap₂ (λ setup given. shown_as (leaving_in setup given) l.scratch l.given) (ap (λ flash. flash.setup) s.after) s.given;
    flash = s.after;
    left = refl;
  }

module _ {F S P A G C : Type 0} (shape : Shape F S P A G) (faithful : Faithful shape) (calls : Calls S P A C) (next : S → P → Outcome → Then S P A) where
  abbrev view : F → Flash S P
  view = viewed shape

  refuses-same : (flash : F) (error : FlashError) → Same shape (shape.refused flash error) (plain.refused (view flash) error)
  refuses-same flash error = same shape (faithful.refused flash error) refl

  settles : (flash : F) (takes : Takes) (x : Then S P A) → Same shape (settled shape flash takes x) (settled plain (view flash) takes x)
  unfolding settled
  settles flash takes (go setup t phase) = same shape (faithful.acting _ _) (faithful.out _ _ _ _ _ _)
  settles flash takes (end setup answer) = same shape (faithful.ended _ _) (faithful.resting _ _ _)
  settles flash takes (fail error) = same shape (faithful.failed _ _) (faithful.resting _ _ _)

  -- from a driver that was put at rest
  settles-from : (setup : S) (built : Bool) (takes : Takes) (x : Then S P A) →
      Same shape (settled shape (shape.resting setup built 0) takes x) (settled plain (flash_of setup built 0 idle) takes x)
  settles-from setup built takes x =
      subst (λ flash. Same shape (settled shape (shape.resting setup built 0) takes x) (settled plain flash takes x)) (faithful.resting setup built 0)
      (settles (shape.resting setup built 0) takes x)

  -- ---- a call

  enters : (flash : F) (entry : Result (Unit {0}) FlashError) (x : G) (y : Stepped S P A) → Same shape x y → Same shape (entered shape flash entry x) (entered plain (view flash) entry y)
  enters flash (Ok _) x y h = h
  enters flash (Err error) x y h = refuses-same flash error

  module _ (flash : F) (s : ℕ) where
    constructs : (fresh : S) → Same shape (constructed shape calls flash fresh s) (constructed plain calls (view flash) fresh s)
    unfolding constructed
    constructs fresh = enters flash (entry_of true s (calls.in_bounds fresh)) _ _ (settles-from fresh false Takes.Nothing _)

    tells : (answer : A) → Same shape (told shape flash answer) (told plain (view flash) answer)
    unfolding told
    tells answer = either shape (shape.built flash) _ _ _ _ (same shape (faithful.ended flash answer) refl) (refuses-same flash FlashError.OutOfTurn)

    frees : Same shape (freed shape calls flash) (freed plain calls (view flash))
    unfolding freed
    frees = either shape (shape.built flash) _ _ _ _ (same shape (faithful.ended _ _) (faithful.resting _ _ _)) (refuses-same flash FlashError.OutOfTurn)

    opens : (takes : Takes) (x : Then S P A) → Same shape (opened shape flash takes x) (opened plain (view flash) takes x)
    unfolding opened
    opens takes (go setup t phase) = settles-from (shape.setup flash) (shape.built flash) takes (go setup t phase)
    opens takes (end setup answer) = settles-from (shape.setup flash) (shape.built flash) takes (end setup answer)
    opens takes (fail error) = refuses-same flash error

    works : (takes : Takes) (x : Then S P A) → Same shape (begun shape calls flash s takes x) (begun plain calls (view flash) s takes x)
    unfolding begun
    works takes x = enters flash (entry_of (shape.built flash) s (calls.in_bounds (shape.setup flash))) _ _ (opens takes x)

    starts : (x : Opening S P A) → Same shape (at_rest shape calls flash x s) (at_rest plain calls (view flash) x s)
    unfolding at_rest
    starts (constructing fresh) = constructs fresh
    starts (telling answer) = tells answer
    starts releasing = frees
    starts (working takes x) = works takes x

    begins-at : (running : Running P) (c : C) (b d : ℕ) → Same shape (begin_at shape calls running flash c s b d) (begin_at plain calls running (view flash) c s b d)
    begins-at idle c b d = starts (calls.opening (shape.setup flash) c b d)
    begins-at (busy job) c b d = refuses-same flash FlashError.OutOfTurn

  -- ---- a reply

  exchanges : (flash : F) (job : Job P) (delivered : ℕ) (x : Exchanged) → Same shape (exchanged shape next flash job delivered x) (exchanged plain next (view flash) job delivered x)
  exchanges flash job delivered Exchanged.Misfit = refuses-same flash FlashError.Misfit
  exchanges flash job delivered (Exchanged.Gave frame action) = same shape (faithful.acting _ _) (faithful.out _ _ _ _ _ _)
  exchanges flash job delivered (Exchanged.Over outcome) = settles flash job.takes (next (shape.setup flash) job.phase outcome)

  pub answers_at : (running : Running P) (flash : F) (r : Reply) (bytes : List ℕ) (l : Lent) →
      Alike view (moved_as shape (step_at shape next running flash r bytes l.scratch l.buffer l.given) l)
      (General.answer_at (parts_of calls next) running (view flash) r bytes l)
  unfolding exchange_for
  answers_at idle flash r bytes l = alike shape (refuses-same flash FlashError.OutOfTurn) l
  answers_at (busy job) flash r bytes l =
      let x = exchange_of job.frame r bytes l.scratch l.buffer l.given in
      let delivered = delivered_by job.frame r (length bytes) (length l.buffer) (shape.delivered flash) in
      by_cases (ready_for job.takes l)
      (λ ready. rw ready (alike shape (exchanges flash job delivered x.exchanged) (lent_as x.scratch x.buffer l)))
      (λ ready. rw ready (alike shape (refuses-same flash FlashError.Misfit) l))

  -- ---- all of it

  pub begins-alike : (flash : F) (c : C) (l : Lent) → Alike view
      ((system_of shape (begins shape calls) (steps shape next)).begin flash c l) ((general (parts_of calls next) calls.in_bounds).begin (view flash) c l)
  unfolding begins
  begins-alike flash c l = alike shape (begins-at flash (length l.scratch) (shape.running flash) c (length l.buffer) (length l.given)) l

  pub answers-alike : (flash : F) (r : Reply) (bytes : List ℕ) (l : Lent) → Alike view
      ((system_of shape (begins shape calls) (steps shape next)).answer flash r bytes l) ((general (parts_of calls next) calls.in_bounds).answer (view flash) r bytes l)
  unfolding steps
  answers-alike flash r bytes l = answers_at (shape.running flash) flash r bytes l

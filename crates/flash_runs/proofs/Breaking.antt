-- Behind a bus error select is raised and the call fails with its code, over every run of the machine.
use Rattle.std.specs.Prelude.{Err}
use Prim.Native.Nat.{ℕ}
use mathlib.Core.Bool.{true}
use mathlib.Core.Option.{Option, none, some}
use mathlib.Core.Path.{◌≡◌, refl}
use mathlib.Core.List.{List, [], ◌∷◌}
use lib.ListN.{length}
use Rattle.qspi.specs.Bus.{fits_of}
use Rattle.qspi.specs.Frame.{Outcome, first_of, action_of, frame_at, advanced_of, taken_in, gave, exchange_of}
use Rattle.qspi.specs.declared.bus.BusError.{BusError}
use Rattle.qspi.specs.declared.bus.Reply.{Reply}
use Rattle.qspi.specs.declared.transfer.Transfer.{Transfer}
use Rattle.qspi.specs.declared.frame.Advanced.{Advanced}
use Rattle.qspi.specs.declared.frame.Frame.{Frame}
use Rattle.qspi.specs.declared.frame.Stage.{Stage}
use Rattle.qspi.proofs.Cases.{by_cases}
use Rattle.spi_flash.specs.Loan.{Lent, ready_for, lent_as}
use Rattle.spi_flash.proofs.Machine.{Decision, more, well, bad, Config, out, rest, settle, moved, machine}
use Rattle.spi_flash.specs.Run.{Event, reply, call, Moved, goes_on}
use Rattle.spi_flash.specs.Seen.{unless_refused, Taken}
use Rattle.spi_flash.specs.declared.error.FlashError.{FlashError}
use Rattle.spi_flash.specs.declared.loan.Takes.{Takes}
use Rattle.spi_flash.proofs.OnBus.{false≢true}
use Rattle.flash_runs.specs.Watch.{error_at, BreaksOff, StopsOnError}

-- while select goes high behind an error, the transfer has come to it
abbrev Due : Option ℕ → Stage → Outcome → Type 0
Due none stage o = Unit {0}
Due (some code) stage o = (stage ≡ Stage.High) × (o ≡ Err (record { 0 = code }))

module _ {S A C : Type 0} (next : S → Outcome → Decision S A) (k : Takes) (fails : (s : S) (error : BusError) → next s (Err error) ≡ bad (FlashError.Spi error.0)) where
  abbrev Stops : List (Event C) → Type 0
  Stops es = (error : Option ℕ) (s : S) (t : Transfer) (stage : Stage) (o : Outcome) → Due error stage o → StopsOnError error (goes_on (machine next C) (out k s (frame_at t stage o)) es)

  -- what is said of a step that was answered so
  abbrev StopsBy : List (Event C) → (error now : Option ℕ) → Moved (Config S) A → Type 0
  StopsBy es error now m = Taken m.given (BreaksOff error now m.given) × StopsOnError (unless_refused m.given now error) (goes_on (machine next C) m.flash es)

  rest-stops : (es : List (Event C)) (error : Option ℕ) → StopsOnError error (goes_on (machine next C) rest es)
  unfolding goes_on StopsOnError
  rest-stops [] error = tt
  rest-stops (call c l ∷ es) error = tt
  rest-stops (reply r bytes l ∷ es) error = (tt, rest-stops es error)

  settled-stops : (es : List (Event C)) → Stops es → (d : Decision S A) (l : Lent) → StopsBy es none none (settle k d l)
  unfolding first_of
  settled-stops es ih (more t s) l = (tt, ih none s t Stage.Start _ tt)
  settled-stops es ih (well a) l = (tt, rest-stops es none)
  settled-stops es ih (bad e) l = (tt, rest-stops es none)

  module _ (es : List (Event C)) (ih : Stops es) (s : S) (t : Transfer) (bytes : List ℕ) (l : Lent) where
    -- the step that a reply brings, to what the frame advances to
    abbrev after : Frame → Reply → Advanced → Moved (Config S) A
    after f r x =
        let buffer = taken_in f r bytes l.buffer in
        moved next k s f (gave x l.scratch buffer).exchanged l (gave x l.scratch buffer).scratch (gave x l.scratch buffer).buffer

    quiet : (f : Frame) (r : Reply) (x : Advanced) → StopsBy es none none (after f r x)
    quiet f r (Advanced.More g) = (tt, ih none s g.transfer g.stage g.outcome tt)
    quiet f r (Advanced.Over o) = settled-stops es ih (next s o) (lent_as l.scratch (taken_in f r bytes l.buffer) l)

    abbrev Fitting : Option ℕ → Stage → Outcome → Reply → Type 0
    Fitting error stage o r =
        fits_of (action_of (frame_at t stage o)) r (length bytes) ≡ true →
        StopsBy es error (error_at r) (after (frame_at t stage o) r (advanced_of (frame_at t stage o) r bytes l.given))

    -- select high is answered by nothing else
    broken : (code : ℕ) (r : Reply) → Fitting (some code) Stage.High (Err (record { 0 = code })) r
    unfolding fits_of action_of advanced_of
    broken code Reply.Done fits = rw (fails s (record { 0 = code })) (refl, rest-stops es none)
    broken code Reply.Data fits = absurd (false≢true fits)
    broken code (Reply.Error other) fits = absurd (false≢true fits)

    fitting : (error : Option ℕ) (stage : Stage) (o : Outcome) (r : Reply) → Due error stage o → Fitting error stage o r
    unfolding action_of advanced_of
    fitting none stage o Reply.Done due fits = quiet (frame_at t stage o) Reply.Done _
    fitting none stage o Reply.Data due fits = quiet (frame_at t stage o) Reply.Data _
    fitting none stage o (Reply.Error code) due fits = (refl, ih (some code) s t Stage.High _ (refl, refl))
    fitting (some code) stage o r due fits = broken-at due.0 due.1 fits
      where
        broken-at : stage ≡ Stage.High → o ≡ Err (record { 0 = code }) → Fitting (some code) stage o r
        broken-at high err = rw (high, err) (broken code r)

  pub stops : (es : List (Event C)) → Stops es
  unfolding goes_on StopsOnError exchange_of
  stops [] error s t stage o due = tt
  stops (call c l ∷ es) error s t stage o due = (tt, stops es error s t stage o due)
  stops (reply r bytes l ∷ es) error s t stage o due =
      by_cases (ready_for k l)
      (λ ready. by_cases (fits_of (action_of (frame_at t stage o)) r (length bytes))
      (λ fits. rw (ready, fits) (fitting es (stops es) s t bytes l error stage o r due fits))
      (λ fits. rw (ready, fits) (tt, stops es error s t stage o due)))
      (λ ready. rw ready (tt, stops es error s t stage o due))

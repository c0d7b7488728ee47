-- What a watcher sees of every run, from what it sees of the program.
use Rattle.std.specs.Prelude.{Ok, Err}
use Prim.Native.Nat.{ℕ}
use mathlib.Core.Bool.{true}
use mathlib.Core.Path.{◌≡◌, refl, sym, subst}
use mathlib.Core.List.{List, [], ◌∷◌}
use lib.ListN.{length}
use borrow.Author.Tests.{eqb-true}
use Rattle.qspi.specs.Bus.{awaits_of, fits_at, fits_of}
use Rattle.qspi.specs.Frame.{Outcome, first_of, action_at, action_of, frame_at, advanced_at, advanced_of, taken_in, gave, exchange_of}
use Rattle.qspi.specs.ShownBytes.{start_shown, shown_at}
use Rattle.qspi.proofs.Sent.{shown-bytes}
use Rattle.qspi.specs.declared.bus.Reply.{Reply}
use Rattle.qspi.specs.declared.transfer.Body.{Body}
use Rattle.qspi.specs.declared.transfer.Transfer.{Transfer}
use Rattle.qspi.specs.declared.frame.Stage.{Stage}
use Rattle.qspi.specs.declared.frame.Advanced.{Advanced}
use Rattle.qspi.specs.declared.frame.Frame.{Frame}
use Rattle.spi_flash.specs.declared.error.FlashError.{FlashError}
use Rattle.spi_flash.specs.declared.loan.Takes.{Takes}
use Rattle.spi_flash.specs.Loan.{Lent, ready_for, lent_as}
use Rattle.spi_flash.specs.Prog.{Prog, ask}
use Rattle.spi_flash.specs.Run.{Event, reply, call, Entry, entry, Moved, goes_on}
use Rattle.spi_flash.proofs.Machine.{Decision, more, well, bad, Config, out, rest, settle, moved, machine, tree, Onward, Simulates}
use Rattle.spi_flash.specs.Seen.{unless_refused}
use Rattle.qspi.proofs.Cases.{by_cases}
use Rattle.spi_flash.proofs.OnBus.{false≢true, done-at-start}
use Rattle.spi_flash.proofs.Performs.{first-shown, long-scratch}
use Rattle.flash_runs.specs.Reading.{data_at}
use Rattle.flash_runs.specs.Watch.{Watcher, giving, watched, succeeded_then, Succeeded}
use Rattle.flash_runs.proofs.Watching.{Concludes, BehindHigh, BehindPayload, BehindCommand, BehindStart, Seen, Sees, Shows}

-- ---- one reply

module _ {Z : Type 0} (w : Watcher Z) (Q : Z → Type 0) where
  abbrev Behind : Z → Stage → Transfer → Outcome → (Z → ℕ → Type 0) → Type 0
  Behind z Stage.Start t o later = (o ≡ Ok 0) × BehindStart w Q z t later
  Behind z Stage.Command t o later = (o ≡ Ok 0) × BehindCommand w Q z t later
  Behind z Stage.Payload t o later = (o ≡ Ok 0) × BehindPayload w Q z t later
  Behind z Stage.High t o later = BehindHigh w Q z o later

  -- an action of a transfer is out
  abbrev At : Z → Stage → Transfer → Outcome → (Z → ℕ → Type 0) → Type 0
  At z stage t o later = Q z × Behind z stage t o later

  abbrev Onwards : Z → List ℕ → Advanced → (Z → ℕ → Type 0) → Type 0
  Onwards z given (Advanced.More g) later = At (w.gives (shown_at g.stage g.transfer given) z) g.stage g.transfer g.outcome later
  Onwards z given (Advanced.Over o) later = Q z × Concludes w Q z o later

  abbrev Advances : Z → Stage → Transfer → Outcome → (Z → ℕ → Type 0) → Reply → List ℕ → List ℕ → Type 0
  Advances z stage t o later r bytes given = Onwards (w.hears (data_at true r given) (data_at true r bytes) z) given (advanced_at (frame_at t stage o) r bytes given) later

  module _ (later : Z → ℕ → Type 0) (z : Z) (bytes given : List ℕ) where
    abbrev fresh : Outcome
    fresh = Ok 0

    from_start : (t : Transfer) → BehindStart w Q z t later → Advances z Stage.Start t fresh later Reply.Done bytes given
    from_start Transfer.Raise h = h
    from_start (Transfer.Pause us) h = h
    from_start (Transfer.Framed c Body.None) h = (h.0, (refl, h.1))
    from_start (Transfer.Framed c (Body.Read n sink)) h = (h.0, (refl, h.1))
    from_start (Transfer.Framed c (Body.Write payload)) h = (h.0, (refl, h.1))
    from_start (Transfer.Framed c (Body.QuadRead tclqv margin n sink)) h = (h.0, (refl, h.1))
    from_start (Transfer.Framed c (Body.QuadWrite payload)) h = ((h given).0, (refl, (h given).1))

    from-command : (t : Transfer) → BehindCommand w Q z t later → (r : Reply) → fits_at (awaits_of (action_at Stage.Command t)) r (length bytes) ≡ true →
        Advances z Stage.Command t fresh later r bytes given
    from-command Transfer.Raise h r fit = absurd h
    from-command (Transfer.Pause us) h r fit = absurd h
    from-command (Transfer.Framed c Body.None) h Reply.Done fit = h
    from-command (Transfer.Framed c Body.None) h Reply.Data fit = absurd (false≢true fit)
    from-command (Transfer.Framed c Body.None) h (Reply.Error code) fit = (h.0, (h.1.0, tt))
    from-command (Transfer.Framed c (Body.Read n sink)) h Reply.Done fit = (h.1.0, (refl, h.1.1))
    from-command (Transfer.Framed c (Body.Read n sink)) h Reply.Data fit = absurd (false≢true fit)
    from-command (Transfer.Framed c (Body.Read n sink)) h (Reply.Error code) fit = (h.0.0, (h.0.1, tt))
    from-command (Transfer.Framed c (Body.Write payload)) h Reply.Done fit = ((h.1 given).0, (refl, (h.1 given).1))
    from-command (Transfer.Framed c (Body.Write payload)) h Reply.Data fit = absurd (false≢true fit)
    from-command (Transfer.Framed c (Body.Write payload)) h (Reply.Error code) fit = (h.0.0, (h.0.1, tt))
    from-command (Transfer.Framed c (Body.QuadRead tclqv margin n sink)) h r fit = absurd h
    from-command (Transfer.Framed c (Body.QuadWrite payload)) h r fit = absurd h

    from-payload : (t : Transfer) → BehindPayload w Q z t later → (r : Reply) → fits_at (awaits_of (action_at Stage.Payload t)) r (length bytes) ≡ true →
        Advances z Stage.Payload t fresh later r bytes given
    from-payload Transfer.Raise h r fit = absurd h
    from-payload (Transfer.Pause us) h r fit = absurd h
    from-payload (Transfer.Framed c Body.None) h r fit = absurd h
    from-payload (Transfer.Framed c (Body.Read n sink)) h Reply.Done fit = absurd (false≢true fit)
    from-payload (Transfer.Framed c (Body.Read n sink)) h Reply.Data fit = h.1 bytes given (eqb-true (length bytes) n fit)
    from-payload (Transfer.Framed c (Body.Read n sink)) h (Reply.Error code) fit = (h.0.0, (h.0.1, tt))
    from-payload (Transfer.Framed c (Body.Write payload)) h Reply.Done fit = h
    from-payload (Transfer.Framed c (Body.Write payload)) h Reply.Data fit = absurd (false≢true fit)
    from-payload (Transfer.Framed c (Body.Write payload)) h (Reply.Error code) fit = (h.0, (h.1.0, tt))
    from-payload (Transfer.Framed c (Body.QuadRead tclqv margin n sink)) h Reply.Done fit = absurd (false≢true fit)
    from-payload (Transfer.Framed c (Body.QuadRead tclqv margin n sink)) h Reply.Data fit = h.1 bytes given (eqb-true (length bytes) n fit)
    from-payload (Transfer.Framed c (Body.QuadRead tclqv margin n sink)) h (Reply.Error code) fit = (h.0.0, (h.0.1, tt))
    from-payload (Transfer.Framed c (Body.QuadWrite payload)) h Reply.Done fit = h
    from-payload (Transfer.Framed c (Body.QuadWrite payload)) h Reply.Data fit = absurd (false≢true fit)
    from-payload (Transfer.Framed c (Body.QuadWrite payload)) h (Reply.Error code) fit = (h.0, (h.1.0, tt))

    -- a reply that fits brings a frame on
    advances : (stage : Stage) (t : Transfer) (o : Outcome) → Behind z stage t o later → (r : Reply) → fits_at (awaits_of (action_at stage t)) r (length bytes) ≡ true →
        Advances z stage t o later r bytes given
    advances Stage.Start t o h Reply.Done fit = subst (λ x. Advances z Stage.Start t x later Reply.Done bytes given) (sym h.0) (from_start t h.1)
    advances Stage.Start t o h Reply.Data fit = absurd (false≢true (subst (λ a. fits_at a Reply.Data (length bytes) ≡ true) (done-at-start t) fit))
    advances Stage.Start t o h (Reply.Error code) fit = absurd (false≢true (subst (λ a. fits_at a (Reply.Error code) (length bytes) ≡ true) (done-at-start t) fit))
    advances Stage.Command t o h r fit = subst (λ x. Advances z Stage.Command t x later r bytes given) (sym h.0) (from-command t h.1 r fit)
    advances Stage.Payload t o h r fit = subst (λ x. Advances z Stage.Payload t x later r bytes given) (sym h.0) (from-payload t h.1 r fit)
    advances Stage.High t o h Reply.Done fit = h
    advances Stage.High t o h Reply.Data fit = absurd (false≢true fit)
    advances Stage.High t o h (Reply.Error code) fit = absurd (false≢true fit)

-- ---- every run

module _ (C : Type 0) {S A : Type 0} (Valid : S → Type 0) (next : S → Outcome → Decision S A) (meaning : S → ℕ → Prog A) (sim : Simulates Valid next meaning) (k : Takes)
    {Z : Type 0} (w : Watcher Z) (Q E : Z → Type 0) where
  abbrev entries : Config S → List (Event C) → List (Entry C A)
  entries c es = goes_on (machine next C) c es

  -- what is left of the program behind a transfer
  abbrev later : S → Z → ℕ → Type 0
  later s z v = Sees w Q (λ a y. E y) z (meaning s v)

  -- Q holds of what is seen of a run, and where it ended well E
  abbrev pub Watches : Z → List (Entry C A) → Type 0
  Watches z xs = Q (watched w z xs) × (Succeeded xs → E (watched w z xs))

  -- after the end nothing more is seen
  pub rest-sees : (es : List (Event C)) (z : Z) → watched w z (entries rest es) ≡ z
  unfolding goes_on watched
  rest-sees [] z = refl
  rest-sees (call c l ∷ es) z = refl
  rest-sees (reply r bytes l ∷ es) z = rest-sees es z

  abbrev Goes : List (Event C) → Type 0
  Goes es = (s : S) (t : Transfer) (stage : Stage) (o : Outcome) (z : Z) → Valid s → At w Q z stage t o (later s) → Watches z (entries (out k s (frame_at t stage o)) es)

  -- what is said of a step, with what is seen before it and once the reply has come
  abbrev Steps : List (Event C) → Z → Z → Moved (Config S) A → Type 0
  Steps es z heard m =
      let y = unless_refused m.given (giving w m.given heard) z in
      Q (watched w y (entries m.flash es)) × (succeeded_then m.given (Succeeded (entries m.flash es)) → E (watched w y (entries m.flash es)))

  starts : (es : List (Event C)) → Goes es → (t : Transfer) (s : S) (l : Lent) (z heard : Z) → Valid s → Seen w Q heard t (later s) → Steps es z heard (settle k (more t s) l)
  unfolding first_of
  starts es ih t s l z heard v h =
      rw (first-shown t l.scratch l.given) (ih s t Stage.Start (Ok 0) (w.gives (start_shown t) heard) v (h.0, (refl, h.1)))

  settles : (es : List (Event C)) → Goes es → (d : Decision S A) (l : Lent) (z heard : Z) → Onward Valid d → Q heard → Sees w Q (λ a y. E y) heard (tree meaning d) →
      Steps es z heard (settle k d l)
  settles es ih (more t s) l z heard v q h = starts es ih t s l z heard v h
  settles es ih (well a) l z heard v q h = rw (rest-sees es heard) (q, (λ x. h))
  settles es ih (bad e) l z heard v q h = rw (rest-sees es heard) (q, (λ x. absurd x))

  over : (es : List (Event C)) → Goes es → (s : S) → Valid s → (o : Outcome) (l : Lent) (z heard : Z) → Q heard → Concludes w Q heard o (later s) →
      Steps es z heard (settle k (next s o) l)
  over es ih s v (Ok x) l z heard q h =
      settles es ih (next s (Ok x)) l z heard (sim.keeps s x v) q (subst (Sees w Q (λ a y. E y) heard) (sim.on_value s x v) h)
  over es ih s v (Err error) l z heard q h = rw (sim.on_failure s error) (settles es ih (bad (FlashError.Spi error.0)) l z heard tt q tt)

  -- a reply that fits
  module _ (es : List (Event C)) (ih : Goes es) (s : S) (v : Valid s) (t : Transfer) (stage : Stage) (o : Outcome) (z : Z) (h : At w Q z stage t o (later s))
      (r : Reply) (bytes : List ℕ) (l : Lent) (ready : ready_for k l ≡ true) (fits : fits_of (action_of (frame_at t stage o)) r (length bytes) ≡ true) where
    abbrev f : Frame
    f = frame_at t stage o

    abbrev heard : Z
    heard = w.hears (data_at true r l.given) (data_at true r bytes) z

    abbrev after : Advanced → Moved (Config S) A
    after a =
        let taken = gave a l.scratch (taken_in f r bytes l.buffer) in
        moved next k s f taken.exchanged l taken.scratch taken.buffer

    goes : Onwards w Q heard l.given (advanced_of f r bytes l.given) (later s)
    unfolding advanced_of fits_of action_of
    goes = advances w Q (later s) z bytes l.given stage t o h.1 r fits

    steps : (a : Advanced) → Onwards w Q heard l.given a (later s) → Steps es z heard (after a)
    steps (Advanced.More g) i =
        rw (shown-bytes.shows g l.scratch l.given (long-scratch k l ready))
        (ih s g.transfer g.stage g.outcome (w.gives (shown_at g.stage g.transfer l.given) heard) v i)
    steps (Advanced.Over x) i = over es ih s v x (lent_as l.scratch (taken_in f r bytes l.buffer) l) z heard i.0 i.1

    fitting : Steps es z heard (after (advanced_of f r bytes l.given))
    fitting = steps (advanced_of f r bytes l.given) goes

  goes_on-lem : (es : List (Event C)) → Goes es
  unfolding goes_on watched Succeeded exchange_of
  goes_on-lem [] s t stage o z v h = (h.0, (λ x. absurd x))
  goes_on-lem (call c l ∷ es) s t stage o z v h = goes_on-lem es s t stage o z v h
  goes_on-lem (reply r bytes l ∷ es) s t stage o z v h =
      by_cases (ready_for k l)
      (λ ready. by_cases (fits_of (action_of (frame_at t stage o)) r (length bytes))
      (λ fits. rw (ready, fits) (fitting es (goes_on-lem es) s v t stage o z h r bytes l ready fits))
      (λ fits. rw (ready, fits) (goes_on-lem es s t stage o z v h)))
      (λ ready. rw ready (goes_on-lem es s t stage o z v h))

  -- from the call's beginning on
  pub watches : (t : Transfer) (s : S) (c : C) (l : Lent) (es : List (Event C)) (z : Z) → Valid s → Shows w Q (λ a y. E y) z (ask t (meaning s)) →
      Watches z (entry (call c l) (settle k (more t s) l) ∷ entries (out k s (first_of t)) es)
  unfolding watched Succeeded
  watches t s c l es z v h = starts es (goes_on-lem es) t s l z z v h.shows

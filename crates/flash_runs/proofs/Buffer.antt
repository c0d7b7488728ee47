-- The caller's buffer over every run of the machine: only the places of the bytes read so far change, and they hold those bytes.
use Rattle.std.specs.Prelude.{Ok, Err}
use Prim.Native.Nat.{ℕ, ◌+◌}
use native.Mathlib.Nat.{add-zero}
use mathlib.Core.Bool.{Bool, true}
use mathlib.Core.Path.{◌≡◌, refl, ap, sym, ◌∙◌, subst}
use mathlib.Core.List.{List, [], ◌∷◌, ◌++◌, append-nil}
use lib.ListN.{length, length-append}
use lib.Dec.{ltb}
use borrow.Author.Tests.{eqb-true}
use Rattle.qspi.specs.Bus.{fits_of}
use Rattle.qspi.specs.Command.{scratch_least}
use Rattle.qspi.specs.Shown.{shown_of}
use Rattle.qspi.specs.Frame.{Outcome, first_of, action_of, taken_in, frame_at, advanced_of, gave, given_scratch, exchange_of}
use Rattle.qspi.proofs.Sent.{shown-bytes}
use Rattle.qspi.specs.declared.bus.Reply.{Reply}
use Rattle.qspi.specs.declared.transfer.Transfer.{Transfer}
use Rattle.qspi.specs.declared.frame.Stage.{Stage}
use Rattle.qspi.specs.declared.frame.Advanced.{Advanced}
use Rattle.qspi.specs.declared.frame.Frame.{Frame}
use Rattle.spi_flash.specs.declared.loan.Takes.{Takes}
use Rattle.spi_flash.specs.Loan.{Lent, ready_of, ready_for, lent_as}
use Rattle.spi_flash.specs.Prog.{Prog}
use Rattle.spi_flash.specs.Run.{Event, reply, call, Entry, Moved, goes_on}
use Rattle.spi_flash.proofs.Machine.{Decision, more, well, bad, Config, out, rest, settle, moved, machine, tree, Onward, Simulates}
use Rattle.spi_flash.specs.Seen.{unless_refused, Taken, Undisturbed}
use Rattle.qspi.proofs.Cases.{by_cases}
use Rattle.spi_flash.proofs.OnBus.{false≢true}
use Rattle.spi_flash.proofs.Performs.{long-scratch}
use Rattle.flash_runs.specs.Reading.{data_at, mine_after, mine_then, SameFrom, in_front, ChangesRead, HoldsRead}
use Rattle.flash_runs.proofs.Filling.{Fills, FillsOn, Filling, FillsNext, first-filling, Fed, fed}

-- a step is taken only with a buffer of the length that the call was begun with
pub buffer-length : (len : ℕ) (l : Lent) → ready_for (Takes.Buffer len) l ≡ true → length l.buffer ≡ len
unfolding ready_of
buffer-length len l h =
    by_cases (ltb (length l.scratch) scratch_least) (λ e. absurd (false≢true (rw e at h))) (λ e. eqb-true (length l.buffer) len (rw e at h))

-- what the next action shows tells whose its data are
pub shown-filling : {A : Type 0} (reads : List ℕ → Bool) (len n : ℕ) (mine : Bool) (k : ℕ → Prog A) (takes : Takes) (l : Lent) (g : Frame) → ready_for takes l ≡ true →
    FillsNext reads len n mine l.given k (Advanced.More g) →
    Filling reads len n (mine_after reads (shown_of (action_of g) (given_scratch g l.scratch) l.given) mine) k g.stage g.transfer g.outcome
shown-filling reads len n mine k takes l g ready h =
    subst (λ shown. Filling reads len n (mine_after reads shown mine) k g.stage g.transfer g.outcome)
    (sym (shown-bytes.shows g l.scratch l.given (long-scratch takes l ready))) h

same-buffer : (n : ℕ) (xs : List ℕ) → SameFrom n xs xs
same-buffer n xs = record { size = refl; kept = refl }

module _ (C : Type 0) {S A : Type 0} (Valid : S → Type 0) (next : S → Outcome → Decision S A) (meaning : S → ℕ → Prog A) (sim : Simulates Valid next meaning) (reads : List ℕ → Bool) (len : ℕ) where
  abbrev k : Takes
  k = Takes.Buffer len

  abbrev entries : Config S → List (Event C) → List (Entry C A)
  entries c es = goes_on (machine next C) c es

  -- what a transfer leads to
  pub fills-next : (s : S) (n : ℕ) (o : Outcome) → Valid s → FillsOn reads len n (meaning s) o → Fills reads len n (tree meaning (next s o))
  fills-next s n (Ok v) w h = subst (Fills reads len n) (sim.on_value s v w) (h v)
  fills-next s n (Err error) w h = rw (sim.on_failure s error) tt

  pub keeps-next : (s : S) (o : Outcome) → Valid s → Onward Valid (next s o)
  keeps-next s (Ok v) w = sim.keeps s v w
  keeps-next s (Err error) w = rw (sim.on_failure s error) tt

  -- ---- only the places of the bytes read so far

  rest-changes : (es : List (Event C)) (mine : Bool) (n : ℕ) → ChangesRead reads mine n (entries rest es)
  unfolding goes_on ChangesRead
  rest-changes [] mine n = tt
  rest-changes (call c l ∷ es) mine n = tt
  rest-changes (reply r bytes l ∷ es) mine n = (same-buffer _ _, rest-changes es mine _)

  abbrev Changes : List (Event C) → Type 0
  Changes es = (s : S) (t : Transfer) (stage : Stage) (o : Outcome) (mine : Bool) (n : ℕ) → Valid s → Filling reads len n mine (meaning s) stage t o →
      ChangesRead reads mine n (entries (out k s (frame_at t stage o)) es)

  -- what is said of a step that was lent a buffer and was answered by data
  abbrev ChangesBy : List (Event C) → Bool → ℕ → List ℕ → List ℕ → Moved (Config S) A → Type 0
  ChangesBy es mine n bytes buffer m =
      SameFrom (n + length (unless_refused m.given bytes [])) m.left.buffer buffer ×
      ChangesRead reads (mine_then reads m.given mine) (n + length (unless_refused m.given bytes [])) (entries m.flash es)

  settled-changes : (es : List (Event C)) → Changes es → (d : Decision S A) (l : Lent) (mine : Bool) (n : ℕ) (bytes buffer : List ℕ) → Onward Valid d →
      Fills reads len (n + length bytes) (tree meaning d) → SameFrom (n + length bytes) l.buffer buffer → ChangesBy es mine n bytes buffer (settle k d l)
  unfolding first_of
  settled-changes es ih (more t s) l mine n bytes buffer w h same = (same, ih s t Stage.Start (Ok 0) _ _ w (first-filling reads len _ h))
  settled-changes es ih (well a) l mine n bytes buffer w h same = (same, rest-changes es mine _)
  settled-changes es ih (bad e) l mine n bytes buffer w h same = (same, rest-changes es mine _)

  -- ---- which hold those bytes

  rest-holds : (es : List (Event C)) (mine : Bool) (old before : List ℕ) → HoldsRead reads mine old before (entries rest es)
  unfolding goes_on HoldsRead
  rest-holds [] mine old before = tt
  rest-holds (call c l ∷ es) mine old before = tt
  rest-holds (reply r bytes l ∷ es) mine old before = (tt, rest-holds es mine old _)

  abbrev Holds : List (Event C) → Type 0
  Holds es = (s : S) (t : Transfer) (stage : Stage) (o : Outcome) (mine : Bool) (buffer before old : List ℕ) → Valid s → Filling reads len (length before) mine (meaning s) stage t o →
      buffer ≡ in_front before old → Undisturbed buffer (entries (out k s (frame_at t stage o)) es) → HoldsRead reads mine old before (entries (out k s (frame_at t stage o)) es)

  abbrev HoldsBy : List (Event C) → Bool → List ℕ → List ℕ → List ℕ → List ℕ → Lent → Moved (Config S) A → Type 0
  HoldsBy es mine old before bytes buffer l m =
      Taken m.given (l.buffer ≡ buffer) × Undisturbed (unless_refused m.given m.left.buffer buffer) (entries m.flash es) →
      Taken m.given (m.left.buffer ≡ in_front (before ++ unless_refused m.given bytes []) old) ×
      HoldsRead reads (mine_then reads m.given mine) old (before ++ unless_refused m.given bytes []) (entries m.flash es)

  settled-holds : (es : List (Event C)) → Holds es → (d : Decision S A) (l from : Lent) (mine : Bool) (old before bytes buffer : List ℕ) → Onward Valid d →
      Fills reads len (length (before ++ bytes)) (tree meaning d) → (from.buffer ≡ buffer → l.buffer ≡ in_front (before ++ bytes) old) →
      HoldsBy es mine old before bytes buffer from (settle k d l)
  unfolding first_of
  settled-holds es ih (more t s) l from mine old before bytes buffer w h holds still =
      (holds still.0, ih s t Stage.Start (Ok 0) _ l.buffer (before ++ bytes) old w (first-filling reads len _ h) (holds still.0) still.1)
  settled-holds es ih (well a) l from mine old before bytes buffer w h holds still = (holds still.0, rest-holds es mine old _)
  settled-holds es ih (bad e) l from mine old before bytes buffer w h holds still = (holds still.0, rest-holds es mine old _)

  -- ---- a reply that fits

  module _ (es : List (Event C)) (s : S) (w : Valid s) (t : Transfer) (stage : Stage) (o : Outcome) (mine : Bool) (n : ℕ) (h : Filling reads len n mine (meaning s) stage t o)
      (r : Reply) (bytes : List ℕ) (l : Lent) (ready : ready_for k l ≡ true) (fits : fits_of (action_of (frame_at t stage o)) r (length bytes) ≡ true) where
    abbrev f : Frame
    f = frame_at t stage o

    abbrev mine_data : List ℕ
    mine_data = data_at mine r bytes

    abbrev delivered : List ℕ
    delivered = taken_in f r bytes l.buffer

    abbrev after : Advanced → Moved (Config S) A
    after a = moved next k s f (gave a l.scratch delivered).exchanged l (gave a l.scratch delivered).scratch (gave a l.scratch delivered).buffer

    feeds : Fed reads len n mine (meaning s) stage t o r bytes
    unfolding fits_of action_of
    feeds = fed reads len n mine (meaning s) o bytes stage t h r fits

    changed : SameFrom (n + length mine_data) delivered l.buffer
    unfolding taken_in
    changed = feeds.changes l.buffer (buffer-length len l ready)

    goes : FillsNext reads len (n + length mine_data) mine l.given (meaning s) (advanced_of f r bytes l.given)
    unfolding advanced_of
    goes = feeds.next l.given

    onward : (m : ℕ) (g : Frame) → FillsNext reads len m mine l.given (meaning s) (Advanced.More g) →
        Filling reads len m (mine_after reads (shown_of (action_of g) (given_scratch g l.scratch) l.given) mine) (meaning s) g.stage g.transfer g.outcome
    onward m g i = shown-filling reads len m mine (meaning s) k l g ready i

    steps-changes : Changes es → (a : Advanced) → FillsNext reads len (n + length mine_data) mine l.given (meaning s) a → ChangesBy es mine n mine_data l.buffer (after a)
    steps-changes ih (Advanced.More g) i = (changed, ih s g.transfer g.stage g.outcome _ _ w (onward _ g i))
    steps-changes ih (Advanced.Over x) i =
        settled-changes es ih (next s x) (lent_as l.scratch delivered l) mine n mine_data l.buffer (keeps-next s x w) (fills-next s _ x w i) changed

    fitting-changes : Changes es → ChangesBy es mine n mine_data l.buffer (after (advanced_of f r bytes l.given))
    fitting-changes ih = steps-changes ih (advanced_of f r bytes l.given) goes

    module _ (buffer before old : List ℕ) (size : length before ≡ n) (is : buffer ≡ in_front before old) where
      held : l.buffer ≡ buffer → delivered ≡ in_front (before ++ mine_data) old
      unfolding taken_in
      held e = feeds.holds l.buffer before old (buffer-length len l ready) size (e ∙ is)

      counted : n + length mine_data ≡ length (before ++ mine_data)
      counted = ap (λ m. m + length mine_data) (sym size) ∙ sym (length-append before mine_data)

      steps-holds : Holds es → (a : Advanced) → FillsNext reads len (length (before ++ mine_data)) mine l.given (meaning s) a → HoldsBy es mine old before mine_data buffer l (after a)
      steps-holds ih (Advanced.More g) i still =
          (held still.0, ih s g.transfer g.stage g.outcome _ delivered (before ++ mine_data) old w (onward _ g i) (held still.0) still.1)
      steps-holds ih (Advanced.Over x) i still =
          settled-holds es ih (next s x) (lent_as l.scratch delivered l) l mine old before mine_data buffer (keeps-next s x w) (fills-next s _ x w i) held still

      fitting-holds : Holds es → HoldsBy es mine old before mine_data buffer l (after (advanced_of f r bytes l.given))
      fitting-holds ih =
          let a = advanced_of f r bytes l.given in
          steps-holds ih a (subst (λ m. FillsNext reads len m mine l.given (meaning s) a) counted goes)

  -- ---- every run

  pub changes-read : (es : List (Event C)) → Changes es
  unfolding goes_on ChangesRead exchange_of
  changes-read [] s t stage o mine n w h = tt
  changes-read (call c l ∷ es) s t stage o mine n w h = (same-buffer _ _, rw (add-zero n) (changes-read es s t stage o mine n w h))
  changes-read (reply r bytes l ∷ es) s t stage o mine n w h =
      by_cases (ready_for k l)
      (λ ready. by_cases (fits_of (action_of (frame_at t stage o)) r (length bytes))
      (λ fits. rw (ready, fits) (fitting-changes es s w t stage o mine n h r bytes l ready fits (changes-read es)))
      (λ fits. rw (ready, fits) (same-buffer _ _, rw (add-zero n) (changes-read es s t stage o mine n w h))))
      (λ ready. rw ready (same-buffer _ _, rw (add-zero n) (changes-read es s t stage o mine n w h)))

  pub holds_read : (es : List (Event C)) → Holds es
  unfolding goes_on HoldsRead Undisturbed exchange_of
  holds_read [] s t stage o mine buffer before old w h is still = tt
  holds_read (call c l ∷ es) s t stage o mine buffer before old w h is still = (tt, rw (append-nil before) (holds_read es s t stage o mine buffer before old w h is still.1))
  holds_read (reply r bytes l ∷ es) s t stage o mine buffer before old w h is still =
      let same = holds_read es s t stage o mine buffer before old w h is in
      by_cases (ready_for k l)
      (λ ready. by_cases (fits_of (action_of (frame_at t stage o)) r (length bytes))
      (λ fits. rw (ready, fits) (fitting-holds es s w t stage o mine (length before) h r bytes l ready fits buffer before old refl is (holds_read es) (rw (ready, fits) at still)))
      (λ fits. rw (ready, fits) (tt, rw (append-nil before) (same (rw (ready, fits) at still).1))))
      (λ ready. rw ready (tt, rw (append-nil before) (same (rw ready at still).1)))

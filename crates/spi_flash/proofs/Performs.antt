-- A run gives what its program does on the bus, on the replies that were not refused.
use Rattle.std.specs.Prelude.{Ok, Err, Option, Some, None}
use Prim.Native.Nat.{ℕ, ◌≤◌}
use mathlib.Core.Bool.{Bool, true, false}
use mathlib.Core.Logic.{◌⊎◌, inl, inr, ⊎_elim}
use mathlib.Core.Path.{◌≡◌, refl, ap, ap₂, sym, ◌∙◌, subst}
use mathlib.Core.List.{List, [], ◌∷◌}
use lib.ListN.{length}
use lib.Dec.{ltb}
use borrow.Author.Tests.{ltb-false}
use Rattle.qspi.specs.Bus.{fits_of}
use Rattle.qspi.specs.Bytes.{delivered_of}
use Rattle.qspi.specs.Command.{scratch_least}
use Rattle.qspi.specs.Shown.{Shown, shown_of}
use Rattle.qspi.specs.ShownBytes.{start_shown, shown_at}
use Rattle.qspi.specs.Frame.{Outcome, first_of, action_of, sink_of, taken_at, taken_in, frame_at, moved_on, next_stage, advanced_at, advanced_of, gave, exchange_of}
use Rattle.qspi.proofs.Sent.{shown-bytes}
use Rattle.qspi.specs.declared.bus.Reply.{Reply}
use Rattle.qspi.specs.declared.transfer.Transfer.{Transfer}
use Rattle.qspi.specs.declared.frame.Stage.{Stage}
use Rattle.qspi.specs.declared.frame.Advanced.{Advanced}
use Rattle.qspi.specs.declared.frame.Frame.{Frame}
use Rattle.spi_flash.specs.declared.loan.Takes.{Takes}
use Rattle.spi_flash.specs.Loan.{Lent, ready_of, ready_for, lent_as}
use Rattle.spi_flash.specs.Prog.{Prog, ask}
use Rattle.spi_flash.specs.Path.{Bounded}
use Rattle.spi_flash.specs.Run.{Event, reply, call, Given, act, ended, failed, refused, Entry, Moved, entry, goes_on, Answer}
use Rattle.spi_flash.proofs.Machine.{Decision, more, well, bad, Config, out, settle, moved, machine, tree, Onward, Simulates}
use Rattle.spi_flash.specs.Seen.{Did, did, told_then, told, gives_of, replies_of, unless_refused, accepted, Taken, SameData, Undisturbed}
use Rattle.spi_flash.specs.OnBus.{BusProg, answers, stops, does, fills, program_on_bus, performed}
use Rattle.qspi.proofs.Cases.{by_cases}
use Rattle.spi_flash.proofs.Unread.{none_first, none-later}
use Rattle.spi_flash.proofs.Dataless.{data_uses, Agrees, agrees-same, agrees-none}
use Rattle.spi_flash.proofs.OnBus.{false≢true, answer_of, concluded, behind, Proper, onward, Goes, Follows, starts, follows}

-- ---- the events of some steps

abbrev pub events_of : {C A : Type 0} → List (Entry C A) → List (Event C)
events_of [] = []
events_of (x ∷ xs) = x.event ∷ events_of xs

-- ---- what an action shows

pub first-shown : (t : Transfer) (scratch lent : List ℕ) → shown_of (action_of (first_of t)) scratch lent ≡ start_shown t
unfolding action_of first_of
first-shown Transfer.Raise s l = refl
first-shown (Transfer.Pause us) s l = refl
first-shown (Transfer.Framed c body) s l = refl

-- a step is taken only with a scratch that is long enough
pub long-scratch : (k : Takes) (l : Lent) → ready_for k l ≡ true → scratch_least ≤ length l.scratch
unfolding ready_of
long-scratch k l h = by_cases (ltb (length l.scratch) scratch_least) (λ e. absurd (false≢true (rw e at h))) (λ e. ltb-false (length l.scratch) scratch_least e)

-- ---- a program that does something first

unfoldable pub performed_then : {A : Type 0} → (Answer → BusProg A) → List Answer → List ℕ → List (Did A)
performed_then k [] buffer = []
performed_then k (r ∷ rs) buffer = performed (k r) rs buffer

pub does-first : {A : Type 0} (shown : Shown) (k : Answer → BusProg A) (rs : List Answer) (buffer : List ℕ) →
    performed (does shown k) rs buffer ≡ did (act shown) buffer ∷ performed_then k rs buffer
unfolding performed performed_then
does-first shown k [] buffer = refl
does-first shown k (r ∷ rs) buffer = refl

-- ---- what is looked at: the whole of what was done, or what was given alone

abbrev pub Looks : Bool → Type 0 → Type 0
Looks true P = P
Looks false P = Unit {0}

abbrev pub looked : Bool → List ℕ → List ℕ
looked true buffer = buffer
looked false buffer = []

abbrev pub looking : {A : Type 0} → Bool → List (Did A) → List (Did A)
looking whole [] = []
looking whole (x ∷ xs) = did x.given (looked whole x.buffer) ∷ looking whole xs

pub looks_then : (whole : Bool) {P Q : Type 0} → (P → Q) → Looks whole P → Looks whole Q
looks_then true f h = f h
looks_then false f h = tt

pub looking-whole : {A : Type 0} (xs : List (Did A)) → looking true xs ≡ xs
looking-whole [] = refl
looking-whole (x ∷ xs) = ap (λ l. x ∷ l) (looking-whole xs)

pub looking-given : {A : Type 0} (xs : List (Did A)) → gives_of (looking false xs) ≡ gives_of xs
looking-given [] = refl
looking-given (x ∷ xs) = ap (λ l. x.given ∷ l) (looking-given xs)

-- what is given does not depend on the buffer
any-buffer : {A : Type 0} (p : BusProg A) (rs : List Answer) (x y : List ℕ) → looking false (performed p rs x) ≡ looking false (performed p rs y)
unfolding performed
any-buffer (answers a) rs x y = refl
any-buffer (stops e) rs x y = refl
any-buffer (does shown k) [] x y = refl
any-buffer (does shown k) (r ∷ rs) x y = ap (λ l. did (act shown) [] ∷ l) (any-buffer (k r) rs x y)
any-buffer (fills at bytes p) rs x y = any-buffer p rs (delivered_of x at bytes) (delivered_of y at bytes)

alike-buffers : {A : Type 0} (whole : Bool) (p : BusProg A) (rs : List Answer) (x y : List ℕ) → Looks whole (x ≡ y) → looking whole (performed p rs x) ≡ looking whole (performed p rs y)
alike-buffers true p rs x y h = ap (λ b. looking true (performed p rs b)) h
alike-buffers false p rs x y h = any-buffer p rs x y

-- ---- what a step takes

-- a step that is not refused
abbrev pub Takes-it : {A : Type 0} → Given A → Type 0
Takes-it (act shown) = Unit {0}
Takes-it (ended a) = Unit {0}
Takes-it (failed e) = Unit {0}
Takes-it (refused e) = ⊥

pub counts : {A B : Type 0} (g : Given A) → Takes-it g → (x y : B) → unless_refused g x y ≡ x
counts (act shown) h x y = refl
counts (ended a) h x y = refl
counts (failed e) h x y = refl
counts (refused e) h x y = absurd h

taken-it : {A : Type 0} (g : Given A) → Takes-it g → (P : Type 0) → Taken g P → P
taken-it (act shown) h P x = x
taken-it (ended a) h P x = x
taken-it (failed e) h P x = x
taken-it (refused e) h P x = absurd h

pub settle-takes : {S A : Type 0} (k : Takes) (d : Decision S A) (l : Lent) → Takes-it (settle k d l).given
settle-takes k (more t s) l = tt
settle-takes k (well a) l = tt
settle-takes k (bad e) l = tt

-- a frame that goes on is one of the same transfer
abbrev OnTransfer : Transfer → Advanced → Type 0
OnTransfer t (Advanced.More g) = g.transfer ≡ t
OnTransfer t (Advanced.Over o) = Unit {0}

moves-on : (t : Transfer) (x : Option Stage) (o : Outcome) → OnTransfer t (moved_on t x o)
moves-on t (Some stage) o = refl
moves-on t None o = tt

same-transfer : (t : Transfer) (stage : Stage) (o : Outcome) (r : Reply) (bytes lent : List ℕ) → OnTransfer t (advanced_at (frame_at t stage o) r bytes lent)
same-transfer t stage o Reply.Done bytes lent = moves-on t (next_stage t stage) o
same-transfer t stage o Reply.Data bytes lent = moves-on t (next_stage t stage) _
same-transfer t stage o (Reply.Error code) bytes lent = refl

-- ---- a run and its program

module _ (C : Type 0) {S A : Type 0} (Valid : S → Type 0) (next : S → Outcome → Decision S A) (k : Takes) (meaning : S → ℕ → Prog A) (sim : Simulates Valid next meaning) (given : List ℕ) (whole : Bool) where
  abbrev then : S → ℕ → BusProg A
  then s v = program_on_bus given (meaning s v)

  abbrev entries : Config S → List (Event C) → List (Entry C A)
  entries c es = goes_on (machine next C) c es

  abbrev look : List (Did A) → List (Did A)
  look xs = looking whole xs

  -- the replies that were not refused
  abbrev heeds_of : List (Entry C A) → List Answer
  heeds_of xs = replies_of (events_of xs)

  abbrev heeded : List (Entry C A) → List Answer
  heeded xs = heeds_of (accepted xs)

  -- the same data are lent, or the program does not look at them
  abbrev Lends : Type 0 → Prog A → Type 0
  Lends same p = same ⊎ Bounded data_uses 0 p

  lends_then : {P Q : Type 0} {p : Prog A} → (P → Q) → Lends P p → Lends Q p
  lends_then f (inl h) = inl (f h)
  lends_then f (inr b) = inr b

  agrees : {P : Type 0} (t : Transfer) (f : ℕ → Prog A) (d : List ℕ) → Lends (d ≡ given × P) (ask t f) → Agrees t d given
  agrees t f d (inl h) = agrees-same t h.0
  agrees t f d (inr b) = agrees-none d given t (none_first t f b)

  -- from a frame that is out, on the buffer as it stands
  abbrev Sees : List (Event C) → Type 0
  Sees es = (s : S) (t : Transfer) (stage : Stage) (o : Outcome) (buffer : List ℕ) → Valid s → Proper stage t o →
      let xs = entries (out k s (frame_at t stage o)) es in
      Lends (SameData given xs) (ask t (meaning s)) → Looks whole (Undisturbed buffer xs) →
      look (told (accepted xs)) ≡ look (performed_then (behind given (then s) stage t o) (heeded xs) buffer)

  -- what is said of a step that is not refused, and of what comes after it
  abbrev Steps : Moved (Config S) A → List (Event C) → Lent → List ℕ → BusProg A → List ℕ → Type 0
  Steps m es l before p after =
      let xs = entries m.flash es in
      Looks whole (Taken m.given (l.buffer ≡ before) × Undisturbed (unless_refused m.given m.left.buffer before) xs) →
      look (told_then m.given m.left.buffer (told (accepted xs))) ≡ look (performed p (heeded xs) after)

  abbrev Gave : Moved (Config S) A → List (Event C) → Lent → Prog A → Type 0
  Gave m es l p = Lends (Taken m.given (l.given ≡ given) × SameData given (entries m.flash es)) p

  -- the end of a transfer
  settles : (es : List (Event C)) → Sees es → (d : Decision S A) → Onward Valid d → (l from : Lent) (before : List ℕ) →
      Gave (settle k d l) es from (tree meaning d) → Steps (settle k d l) es from before (program_on_bus given (tree meaning d)) l.buffer
  unfolding program_on_bus performed first_of
  settles es ih (more t s) w l from before same still =
      let xs = entries (out k s (frame_at t Stage.Start (Ok 0))) es in
      ap₂ (λ shown rest. did (act shown) (looked whole l.buffer) ∷ rest) (first-shown t l.scratch l.given)
      (ih s t Stage.Start (Ok 0) l.buffer w (tt, refl) (lends_then (λ h. h.1) same) (looks_then whole (λ h. h.1) still))
      ∙ ap look (sym (does-first (start_shown t) (behind given (then s) Stage.Start t (Ok 0)) (heeded xs) l.buffer))
      ∙ ap (λ p. look (performed p (heeded xs) l.buffer)) (sym (starts given (then s) t))
  settles es ih (well a) w l from before same still = refl
  settles es ih (bad e) w l from before same still = refl

  over : (es : List (Event C)) → Sees es → (s : S) → Valid s → (t : Transfer) (o : Outcome) (l from : Lent) (before : List ℕ) →
      Gave (settle k (next s o) l) es from (ask t (meaning s)) → Steps (settle k (next s o) l) es from before (concluded given (then s) o) l.buffer
  unfolding performed
  over es ih s w t (Ok v) l from before same =
      rw (sim.on_value s v w)
      (settles es ih (next s (Ok v)) (sim.keeps s v w) l from before
      (⊎_elim inl (λ b. inr (subst (Bounded data_uses 0) (sim.on_value s v w) (none-later t (meaning s) b v))) same))
  over es ih s w t (Err error) l from before same = rw (sim.on_failure s error) (λ still. refl)

  -- a reply that fits
  module _ (es : List (Event C)) (ih : Sees es) (s : S) (w : Valid s) (t : Transfer) (stage : Stage) (o : Outcome) (p : Proper stage t o)
      (r : Reply) (bytes : List ℕ) (l : Lent) (before : List ℕ) (ready : ready_for k l ≡ true) (fits : fits_of (action_of (frame_at t stage o)) r (length bytes) ≡ true) where
    abbrev f : Frame
    f = frame_at t stage o

    abbrev delivered : List ℕ
    delivered = taken_in f r bytes l.buffer

    abbrev left : BusProg A
    left = behind given (then s) stage t o (answer_of r bytes)

    follow : Follows given (then s) stage t o r bytes
    unfolding fits_of action_of
    follow = follows given (then s) stage t o p r bytes fits

    -- the step goes on, or settles
    abbrev goes_to : Advanced → Moved (Config S) A
    goes_to a = moved next k s f (gave a l.scratch delivered).exchanged l (gave a l.scratch delivered).scratch (gave a l.scratch delivered).buffer

    same_end : Agrees t l.given given → Looks whole (l.buffer ≡ before) → (rs : List Answer) (a : Advanced) → advanced_of f r bytes l.given ≡ a →
        look (performed left rs before) ≡ look (performed (onward given (then s) a) rs delivered)
    unfolding advanced_of taken_in
    same_end lent still rs a e =
        ap look (follow.same rs before)
        ∙ ap (λ x. look (performed (onward given (then s) x) rs (taken_at r (sink_of t) bytes before))) (sym (lent.goes stage o r bytes) ∙ e)
        ∙ alike-buffers whole (onward given (then s) a) rs _ _ (looks_then whole (λ h. ap (taken_at r (sink_of t) bytes) (sym h)) still)

    goes : Agrees t l.given given → (a : Advanced) → advanced_of f r bytes l.given ≡ a → Goes given (then s) a
    unfolding advanced_of
    goes lent a e = subst (Goes given (then s)) (sym (lent.goes stage o r bytes) ∙ e) follow.proper

    stays-on : (a : Advanced) → advanced_of f r bytes l.given ≡ a → OnTransfer t a
    unfolding advanced_of
    stays-on a e = subst (OnTransfer t) e (same-transfer t stage o r bytes l.given)

    takes : (a : Advanced) → Takes-it (goes_to a).given
    takes (Advanced.More g) = tt
    takes (Advanced.Over x) = settle-takes k (next s x) (lent_as l.scratch delivered l)

    at : (a : Advanced) → advanced_of f r bytes l.given ≡ a → Gave (goes_to a) es l (ask t (meaning s)) →
        Looks whole (Taken (goes_to a).given (l.buffer ≡ before) × Undisturbed (unless_refused (goes_to a).given (goes_to a).left.buffer before) (entries (goes_to a).flash es)) →
        look (told_then (goes_to a).given (goes_to a).left.buffer (told (accepted (entries (goes_to a).flash es)))) ≡ look (performed left (heeded (entries (goes_to a).flash es)) before)
    at (Advanced.More g) e same still =
        let agree = agrees t (meaning s) l.given same in
        let on : g.transfer ≡ t = stays-on (Advanced.More g) e in
        let rs = heeded (entries (out k s g) es) in
        let shows = shown-bytes.shows g l.scratch l.given (long-scratch k l ready) ∙ rw on (agree.shows g.stage) in
        ap₂ (λ shown later. did (act shown) (looked whole delivered) ∷ later) shows
        (ih s g.transfer g.stage g.outcome delivered w (goes agree (Advanced.More g) e) (subst (λ u. Lends (SameData given (entries (out k s g) es)) (ask u (meaning s))) (sym on) (lends_then (λ h. h.1) same)) (looks_then whole (λ h. h.1) still))
        ∙ ap look (sym (does-first (shown_at g.stage g.transfer given) (behind given (then s) g.stage g.transfer g.outcome) rs delivered))
        ∙ sym (same_end agree (looks_then whole (λ h. h.0) still) rs (Advanced.More g) e)
    at (Advanced.Over x) e same still =
        let m = goes_to (Advanced.Over x) in
        let it = takes (Advanced.Over x) in
        over es ih s w t x (lent_as l.scratch delivered l) l before same still
        ∙ sym (same_end (agrees t (meaning s) l.given (lends_then (λ h. (taken-it m.given it _ h.0, h.1)) same)) (looks_then whole (λ h. taken-it m.given it _ h.0) still)
        (heeded (entries m.flash es)) (Advanced.Over x) e)

    -- the entry of the step among those that were not refused
    heeds : (a : Advanced) → advanced_of f r bytes l.given ≡ a →
        let xs = entry (reply r bytes l) (goes_to a) ∷ entries (goes_to a).flash es in
        Lends (SameData given xs) (ask t (meaning s)) → Looks whole (Undisturbed before xs) →
        look (told (accepted xs)) ≡ look (performed_then (behind given (then s) stage t o) (heeded xs) before)
    unfolding told accepted SameData Undisturbed performed_then
    heeds a e same still =
        let later = accepted (entries (goes_to a).flash es) in
        subst (λ (ys : List (Entry C A)). look (told ys) ≡ look (performed_then (behind given (then s) stage t o) (heeds_of ys) before))
        (sym (counts (goes_to a).given (takes a) (entry (reply r bytes l) (goes_to a) ∷ later) later)) (at a e same still)

  sees : (es : List (Event C)) → Sees es
  unfolding goes_on accepted SameData Undisturbed told performed_then exchange_of
  sees [] s t stage o before w p same still = refl
  sees (call c l ∷ es) s t stage o before w p same still = sees es s t stage o before w p (lends_then (λ h. h.1) same) (looks_then whole (λ h. h.1) still)
  sees (reply r bytes l ∷ es) s t stage o before w p same still =
      by_cases (ready_for k l)
      (λ ready. by_cases (fits_of (action_of (frame_at t stage o)) r (length bytes))
      (λ fits. rw (ready, fits) (heeds es (sees es) s w t stage o p r bytes l before ready fits (advanced_of (frame_at t stage o) r bytes l.given) refl (rw (ready, fits) at same) (rw (ready, fits) at still)))
      (λ fits. rw (ready, fits) (sees es s t stage o before w p (lends_then (λ h. h.1) (rw (ready, fits) at same)) (looks_then whole (λ h. h.1) (rw (ready, fits) at still)))))
      (λ ready. rw ready (sees es s t stage o before w p (lends_then (λ h. h.1) (rw ready at same)) (looks_then whole (λ h. h.1) (rw ready at still))))

  -- from the first action of a transfer on
  pub performs : (t : Transfer) (s : S) (es : List (Event C)) (l : Lent) → Valid s → l.given ≡ given →
      let xs = entries (out k s (first_of t)) es in
      Lends (SameData given xs) (ask t (meaning s)) → Looks whole (Undisturbed l.buffer xs) →
      look (did (act (shown_of (action_of (first_of t)) l.scratch l.given)) l.buffer ∷ told (accepted xs)) ≡
      look (performed (program_on_bus given (ask t (meaning s))) (heeded xs) l.buffer)
  performs t s es l w lent same still = settles es (sees es) (more t s) w l l l.buffer (lends_then (λ h. (lent, h)) same) (looks_then whole (λ h. (refl, h)) still)

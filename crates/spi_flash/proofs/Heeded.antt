-- Where nothing is refused before the call's end, the replies that were taken are those of the events, up to the end.
use Prim.Native.Nat.{ℕ}
use mathlib.Core.Logic.{◌⊎◌, inl, inr}
use mathlib.Core.Path.{◌≡◌, refl, ap}
use mathlib.Core.List.{List, [], ◌∷◌, ◌++◌}
use Rattle.qspi.specs.Bytes.{delivered_of}
use Rattle.qspi.specs.Frame.{Outcome, first_of, exchange_of}
use Rattle.qspi.specs.declared.bus.Reply.{Reply}
use Rattle.qspi.specs.declared.frame.Frame.{Frame}
use Rattle.spi_flash.specs.declared.loan.Takes.{Takes}
use Rattle.spi_flash.specs.Loan.{Lent, lent_as}
use Rattle.spi_flash.specs.Path.{Prefix}
use Rattle.spi_flash.specs.Run.{Event, reply, call, Given, act, ended, failed, refused, Entry, Moved, entry, goes_on, fitting_then, Fitting, Answer}
use Rattle.spi_flash.proofs.Machine.{Decision, more, well, bad, Config, out, rest, settle, moved, machine}
use Rattle.spi_flash.specs.Seen.{Did, did, told_then, told, replies_of, unless_refused, accepted}
use Rattle.spi_flash.specs.OnBus.{BusProg, answers, stops, does, fills, performed}
use Rattle.spi_flash.proofs.Performs.{events_of}
use Rattle.spi_flash.proofs.Runs.{heard-view}

-- ---- a call that has ended takes no more replies

abbrev closed_then : {A : Type 0} → Given A → Type 0 → Type 0
closed_then (act shown) later = later
closed_then (ended a) later = Unit {0}
closed_then (failed e) later = Unit {0}
closed_then (refused e) later = later

abbrev pub Closed : {A : Type 0} → List (Did A) → Type 0
Closed [] = ⊥
Closed (x ∷ xs) = closed_then x.given (Closed xs)

pub closed-whole : {A : Type 0} (p : BusProg A) (rs later : List Answer) (buffer : List ℕ) → Closed (performed p rs buffer) → performed p (rs ++ later) buffer ≡ performed p rs buffer
unfolding performed
closed-whole (answers a) rs later buffer h = refl
closed-whole (stops e) rs later buffer h = refl
closed-whole (does shown k) [] later buffer h = absurd h
closed-whole (does shown k) (r ∷ rs) later buffer h = ap (λ l. did (act shown) buffer ∷ l) (closed-whole (k r) rs later buffer h)
closed-whole (fills at bytes p) rs later buffer h = closed-whole p rs later (delivered_of buffer at bytes) h

-- ---- steps of which none is refused

-- as far as the call went, they are told alike
told-first : {C A : Type 0} (e : Event C) (g : Given A) (l : Lent) (xs : List (Entry C A)) → (Fitting xs → told (accepted xs) ≡ told xs) → fitting_then g (Fitting xs) →
    let x : Entry C A = record { event = e; given = g; left = l } in told (unless_refused g (x ∷ accepted xs) (accepted xs)) ≡ told_then g l.buffer (told xs)
unfolding told
told-first e (act shown) l xs ih h = ap (λ ds. did (act shown) l.buffer ∷ ds) (ih h)
told-first e (ended a) l xs ih h = refl
told-first e (failed x) l xs ih h = refl
told-first e (refused x) l xs ih h = absurd h

pub fitting-told : {C A : Type 0} (xs : List (Entry C A)) → Fitting xs → told (accepted xs) ≡ told xs
unfolding told accepted Fitting
fitting-told [] h = refl
fitting-told (x ∷ xs) h = told-first x.event x.given x.left xs (fitting-told xs) h

one-more : {P Q : Type 0} {a : Answer} {xs ys : List Answer} → (P → Q) → (xs ≡ ys) ⊎ (P × Prefix xs ys) → (a ∷ xs ≡ a ∷ ys) ⊎ (Q × Prefix (a ∷ xs) (a ∷ ys))
one-more {a = a} f (inl e) = inl (ap (λ l. a ∷ l) e)
one-more {a = a} f (inr h) = inr (f h.0, record { rest = h.1.rest; whole = ap (λ l. a ∷ l) h.1.whole })

module _ {S A C : Type 0} (next : S → Outcome → Decision S A) (k : Takes) where
  abbrev entries : Config S → List (Event C) → List (Entry C A)
  entries c es = goes_on (machine next C) c es

  abbrev heeded : List (Entry C A) → List Answer
  heeded xs = replies_of (events_of (accepted xs))

  -- the replies that were taken are all of them, or the call has ended
  abbrev pub Heeds : List (Event C) → List (Entry C A) → Type 0
  Heeds es xs = (heeded xs ≡ replies_of es) ⊎ (Closed (told xs) × Prefix (heeded xs) (replies_of es))

  -- after the end all are refused
  rest-none : (es : List (Event C)) → accepted (entries rest es) ≡ []
  unfolding goes_on accepted
  rest-none [] = refl
  rest-none (call c l ∷ es) = refl
  rest-none (reply r bytes l ∷ es) = rest-none es

  -- behind a reply
  abbrev HeedsBy : Reply → List ℕ → Lent → List (Event C) → Moved (Config S) A → Type 0
  HeedsBy r bytes l es m = fitting_then m.given (Fitting (entries m.flash es)) → Heeds (reply r bytes l ∷ es) (entry (reply r bytes l) m ∷ entries m.flash es)

  settled : (r : Reply) (bytes : List ℕ) (l : Lent) (es : List (Event C)) → ((s : S) (g : Frame) → Fitting (entries (out k s g) es) → Heeds es (entries (out k s g) es)) →
      (d : Decision S A) (m : Lent) → HeedsBy r bytes l es (settle k d m)
  unfolding accepted told first_of
  settled r bytes l es ih (more t s) m h = one-more (λ c. c) (ih s (first_of t) h)
  settled r bytes l es ih (well a) m h = inr (tt, record { rest = replies_of es; whole = rw (rest-none es) refl })
  settled r bytes l es ih (bad e) m h = inr (tt, record { rest = replies_of es; whole = rw (rest-none es) refl })

  pub heeds : (s : S) (f : Frame) (es : List (Event C)) → Fitting (entries (out k s f) es) → Heeds es (entries (out k s f) es)
  unfolding goes_on Fitting accepted told
  heeds s f [] h = inl refl
  heeds s f (call c l ∷ es) h = absurd h
  heeds s f (reply r bytes l ∷ es) h =
      let x = exchange_of f r bytes l.scratch l.buffer l.given in
      heard-view k f r bytes l
      (λ y. HeedsBy r bytes l es (moved next k s f y l x.scratch x.buffer))
      (λ h. absurd h)
      (λ g e h. one-more (λ c. c) (heeds s g es h))
      (λ o c. settled r bytes l es (λ s g. heeds s g es) (next s o) (lent_as x.scratch x.buffer l))
      h

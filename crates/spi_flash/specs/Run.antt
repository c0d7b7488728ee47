-- A run: one call's beginning, then any list of events, each with lent bytes of its own (docs/SPECIFICATION.md, "Runs").
use Rattle.std.specs.Prelude.{ℕ, ◌+◌, ◌<◌, Bool, true, ◌≡◌, List, [], ◌∷◌}
use Rattle.qspi.specs.Choice.{pick}
use Rattle.qspi.specs.Bytes.{AllBytes}
use Rattle.qspi.specs.Shown.{Shown, delay_of}
use Rattle.qspi.specs.declared.bus.Reply.{Reply}
use Rattle.spi_flash.specs.declared.error.FlashError.{FlashError}
use Rattle.spi_flash.specs.declared.loan.Takes.{Takes}
use Rattle.spi_flash.specs.Loan.{Lent, ready_for}

-- a reply, or another call begun meanwhile
pub data Event (C : Type 0) : Type 0 where
  reply : Reply → List ℕ → Lent → Event C
  call : C → Lent → Event C

-- what a step gives: an action with the bytes that it shows, the call's end, or a refusal
pub data Given (A : Type 0) : Type 0 where
  act : Shown → Given A
  ended : A → Given A
  failed : FlashError → Given A
  refused : FlashError → Given A

-- the event, what was given, and what was left in the lent bytes
pub record Entry (C A : Type 0) : Type 0 where
  pub event : Event C
  pub given : Given A
  pub left : Lent

-- what a step comes to: what it gives, the state, and what is left in the lent bytes
pub record Moved (F A : Type 0) : Type 0 where
  pub given : Given A
  pub flash : F
  pub left : Lent

-- something that is driven step by step
pub record System (F C A : Type 0) : Type 0 where
  pub begin : F → C → Lent → Moved F A
  pub answer : F → Reply → List ℕ → Lent → Moved F A
  pub running : F → Bool

abbrev pub entry : {F C A : Type 0} → Event C → Moved F A → Entry C A
entry e m = record { event = e; given = m.given; left = m.left }

-- a beginning; what is turned away before the bus has failed, as in the Rust
abbrev pub at_once : {A : Type 0} → Given A → Given A
at_once (act shown) = act shown
at_once (ended a) = ended a
at_once (failed e) = failed e
at_once (refused e) = failed e

abbrev pub opening : {F C A : Type 0} → C → Lent → Moved F A → Entry C A
opening c l m = record { event = call c l; given = at_once m.given; left = m.left }

module _ {F C A : Type 0} (system : System F C A) where
  -- a call begun after the end is another run: the list stops before it
  unfoldable pub goes_on : F → List (Event C) → List (Entry C A)
  goes_on f [] = []
  goes_on f (reply r bytes l ∷ es) = entry (reply r bytes l) (system.answer f r bytes l) ∷ goes_on (system.answer f r bytes l).flash es
  goes_on f (call c l ∷ es) =
      pick (system.running f) (entry (call c l) (system.begin f c l) ∷ goes_on (system.begin f c l).flash es) []

  -- a call that is turned away or ends without an action has no run
  abbrev pub begun_with : Given A → C → Lent → Moved F A → List (Event C) → List (Entry C A)
  begun_with (act shown) c l m es = entry (call c l) m ∷ goes_on m.flash es
  begun_with (ended a) c l m es = []
  begun_with (failed e) c l m es = []
  begun_with (refused e) c l m es = []

  unfoldable pub run_of : F → C → Lent → List (Event C) → List (Entry C A)
  run_of f c l es = begun_with (system.begin f c l).given c l (system.begin f c l) es

  -- a call from its beginning, one that ends at once too
  unfoldable pub call_of : F → C → Lent → List (Event C) → List (Entry C A)
  call_of f c l es = opening c l (system.begin f c l) ∷ goes_on (system.begin f c l).flash es

  -- the state after a list of events
  unfoldable pub state_after : F → List (Event C) → F
  state_after f [] = f
  state_after f (reply r bytes l ∷ es) = state_after (system.answer f r bytes l).flash es
  state_after f (call c l ∷ es) = pick (system.running f) (state_after (system.begin f c l).flash es) f

-- what the delays given out come to in microseconds, each counted once
abbrev pub delay_given : {A : Type 0} → Given A → ℕ
delay_given (act shown) = delay_of shown
delay_given (ended a) = 0
delay_given (failed e) = 0
delay_given (refused e) = 0

unfoldable pub delay_asked : {C A : Type 0} → List (Entry C A) → ℕ
delay_asked [] = 0
delay_asked (x ∷ xs) = delay_given x.given + delay_asked xs

-- every event up to the call's end is a reply that fits: none is refused
abbrev pub fitting_then : {A : Type 0} → Given A → Type 0 → Type 0
fitting_then (act shown) later = later
fitting_then (ended a) later = Unit {0}
fitting_then (failed e) later = Unit {0}
fitting_then (refused e) later = ⊥

unfoldable pub Fitting : {C A : Type 0} → List (Entry C A) → Type 0
Fitting [] = Unit {0}
Fitting (x ∷ xs) = fitting_then x.given (Fitting xs)

-- the call has ended, with an answer or with an error
abbrev pub ended_then : {A : Type 0} → Given A → Type 0 → Type 0
ended_then (act shown) later = later
ended_then (ended a) later = Unit {0}
ended_then (failed e) later = Unit {0}
ended_then (refused e) later = later

unfoldable pub HasEnded : {C A : Type 0} → List (Entry C A) → Type 0
HasEnded [] = ⊥
HasEnded (x ∷ xs) = ended_then x.given (HasEnded xs)

-- a reply of the host, and a list of them with what is lent at each
pub record Answer : Type 0 where
  pub kind : Reply
  pub bytes : List ℕ

-- replies that a host can give: bytes, and an error code that is one
abbrev pub RealKind : Reply → Type 0
RealKind (Reply.Error code) = code < 256
RealKind _ = Unit {0}

abbrev pub RealReplies : List Answer → Type 0
RealReplies [] = Unit {0}
RealReplies (a ∷ rest) = RealKind a.kind × AllBytes a.bytes × RealReplies rest

abbrev pub answering : {C : Type 0} → List Answer → List Lent → List (Event C)
answering [] ls = []
answering (a ∷ rest) [] = []
answering (a ∷ rest) (l ∷ ls) = reply a.kind a.bytes l ∷ answering rest ls

-- at every step the caller's data are lent, with a scratch that is long enough and a buffer of the length recorded
abbrev pub Lending : Takes → List ℕ → List Lent → Type 0
Lending takes given [] = Unit {0}
Lending takes given (l ∷ ls) = (ready_for takes l ≡ true) × (l.given ≡ given) × Lending takes given ls

-- What is seen of a run from outside: what its steps give, the caller's buffer, and select.
use Rattle.std.specs.Prelude.{ℕ, Bool, true, false, ◌≡◌, List, [], ◌∷◌}
use Rattle.qspi.specs.Shown.{Shown, low, high, write, read, quad_read, quad_write, delay}
use Rattle.spi_flash.specs.Loan.{Lent}
use Rattle.spi_flash.specs.Run.{Event, reply, call, Given, act, ended, failed, refused, Entry, Answer}

abbrev pub lent_to : {C : Type 0} → Event C → Lent
lent_to (reply r bytes l) = l
lent_to (call c l) = l

-- ---- what the steps give

-- a step: what is given, and the caller's buffer after it
pub record Did (A : Type 0) : Type 0 where
  pub given : Given A
  pub buffer : List ℕ

abbrev pub did : {A : Type 0} → Given A → List ℕ → Did A
did given buffer = record { given = given; buffer = buffer }

-- up to the call's end
abbrev pub told_then : {A : Type 0} → Given A → List ℕ → List (Did A) → List (Did A)
told_then (act shown) buffer later = did (act shown) buffer ∷ later
told_then (ended a) buffer later = did (ended a) buffer ∷ []
told_then (failed e) buffer later = did (failed e) buffer ∷ []
told_then (refused e) buffer later = did (refused e) buffer ∷ later

unfoldable pub told : {C A : Type 0} → List (Entry C A) → List (Did A)
told [] = []
told (x ∷ xs) = told_then x.given x.left.buffer (told xs)

-- what is given, whatever the buffer
abbrev pub gives_of : {A : Type 0} → List (Did A) → List (Given A)
gives_of [] = []
gives_of (x ∷ xs) = x.given ∷ gives_of xs

abbrev pub replies_of : {C : Type 0} → List (Event C) → List Answer
replies_of [] = []
replies_of (reply r bytes l ∷ es) = record { kind = r; bytes = bytes } ∷ replies_of es
replies_of (call c l ∷ es) = replies_of es

-- ---- a refused step counts nowhere (docs/SPECIFICATION.md, "Runs")

abbrev pub unless_refused : {A B : Type 0} → Given A → B → B → B
unless_refused (act shown) x y = x
unless_refused (ended a) x y = x
unless_refused (failed e) x y = x
unless_refused (refused e) x y = y

-- the steps that were not refused
unfoldable pub accepted : {C A : Type 0} → List (Entry C A) → List (Entry C A)
accepted [] = []
accepted (x ∷ xs) = unless_refused x.given (x ∷ accepted xs) (accepted xs)

abbrev pub Taken : {A : Type 0} → Given A → Type 0 → Type 0
Taken (act shown) P = P
Taken (ended a) P = P
Taken (failed e) P = P
Taken (refused e) P = Unit {0}

-- every step that counts is lent these data
unfoldable pub SameData : {C A : Type 0} → List ℕ → List (Entry C A) → Type 0
SameData given [] = Unit {0}
SameData given (x ∷ xs) = Taken x.given ((lent_to x.event).given ≡ given) × SameData given xs

-- each step that counts finds the buffer as the one before left it
unfoldable pub Undisturbed : {C A : Type 0} → List ℕ → List (Entry C A) → Type 0
Undisturbed buffer [] = Unit {0}
Undisturbed buffer (x ∷ xs) = Taken x.given ((lent_to x.event).buffer ≡ buffer) × Undisturbed (unless_refused x.given x.left.buffer buffer) xs

-- ---- the caller's buffer

-- no step changes it
unfoldable pub KeepsBuffer : {C A : Type 0} → List (Entry C A) → Type 0
KeepsBuffer [] = Unit {0}
KeepsBuffer (x ∷ xs) = (x.left.buffer ≡ (lent_to x.event).buffer) × KeepsBuffer xs

-- ---- select

-- whether select is high behind an action
abbrev pub select_after : Shown → Bool → Bool
select_after low before = false
select_after high before = true
select_after (write bytes) before = before
select_after (read n) before = before
select_after (quad_read command tclqv margin n) before = before
select_after (quad_write command payload) before = before
select_after (delay us) before = before

-- when the call ends select is high
abbrev pub high_then : {A : Type 0} → Given A → Bool → (Bool → Type 0) → Type 0
high_then (act shown) before later = later (select_after shown before)
high_then (ended a) before later = before ≡ true
high_then (failed e) before later = before ≡ true
high_then (refused e) before later = later before

unfoldable pub EndsHigh : {C A : Type 0} → Bool → List (Entry C A) → Type 0
EndsHigh before [] = Unit {0}
EndsHigh before (x ∷ xs) = high_then x.given before (λ select. EndsHigh select xs)

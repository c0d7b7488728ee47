-- Every action, result and delivered byte is that of the program that the driver follows, over any sequence of calls
-- (docs/SPECIFICATION.md, "Same as the Rust").
use Rattle.std.specs.Prelude.{ℕ, ◌≤◌, true, false, ◌≡◌, List, [], ◌∷◌, map, length}
use Rattle.std.proofs.Math.Option.{Option, none, some}
use Rattle.qspi.specs.Choice.{pick}
use Rattle.qspi.specs.Command.{scratch_least}
use Rattle.spi_flash.specs.Loan.{Lent}
use Rattle.spi_flash.specs.Run.{Event, Entry, Given, act, ended, failed, refused, Fitting}
use Rattle.spi_flash.specs.Seen.{Did, told, gives_of, replies_of, accepted, SameData, Undisturbed}
use Rattle.spi_flash.specs.declared.loan.Takes.{Takes}
use Rattle.spi_flash.specs.OnBus.{program_on_bus, performed}
use Rattle.flash_runs.specs.Heeding.{heeding}
use Rattle.flash_runs.specs.Driver.{Left, Sort, constructs, tells, releases, uses, Driver, sort_at, takes_at, program_at, bounded_at, steps_at, flash_after}

-- ---- what is left behind

-- what a call that has succeeded left
abbrev pub left_then : {S A : Type 0} → Given (Left S A) → Option (Left S A) → Option (Left S A)
left_then (act shown) later = later
left_then (ended left) later = some left
left_then (failed e) later = none
left_then (refused e) later = later

abbrev pub left_by : {S A : Type 0} → List (Did (Left S A)) → Option (Left S A)
left_by [] = none
left_by (x ∷ xs) = left_then x.given (left_by xs)

abbrev pub made_by : {S A : Type 0} → Option (Left S A) → Option S
made_by none = none
made_by (some left) = some left.setup

-- the Rust's struct, if there is one: a construction makes it or fails, free moves it away, no other call changes it
abbrev pub driver_after : {S A : Type 0} → Sort S → Option S → Option (Left S A) → Option S
driver_after (constructs fresh) before left = made_by left
driver_after tells before left = before
driver_after releases before left = none
driver_after (uses takes) before left = before

-- a construction does not look at what was there before
abbrev pub holding : {S : Type 0} → S → Option S → S
holding fresh none = fresh
holding fresh (some held) = held

pub record Turn (C : Type 0) : Type 0 where
  pub call : C
  pub lent : Lent
  pub events : List (Event C)

-- of a call that takes data, every step is lent these
abbrev pub LendsData : {C A : Type 0} → Takes → List ℕ → List (Entry C A) → Type 0
LendsData Takes.Nothing given steps = Unit {0}
LendsData (Takes.Buffer n) given steps = Unit {0}
LendsData (Takes.Data n) given steps = SameData given steps

module _ {F C S A : Type 0} (driver : Driver F C S A) where
  -- ---- one call

  -- a call that the Rust could be asked for: no other is running, the driver is there, the host lends a scratch
  abbrev pub Ready : Sort S → F → Lent → Type 0
  Ready (constructs fresh) flash l = scratch_least ≤ length l.scratch
  Ready tells flash l = driver.built flash ≡ true
  Ready releases flash l = driver.built flash ≡ true
  Ready (uses takes) flash l = (driver.built flash ≡ true) × (scratch_least ≤ length l.scratch)

  -- and what it works on is inside the bounds (docs/SPECIFICATION.md, "Geometry")
  pub record Usable (flash : F) (call : C) (l : Lent) : Type 0 where
    pub idle : driver.system.running flash ≡ false
    pub ready : Ready (sort_at driver call l) flash l
    pub bounds : bounded_at driver flash call l ≡ true

  -- with the same data lent throughout, where it takes data; replies may be refused, and other calls begun meanwhile
  pub record Steady (flash : F) (call : C) (l : Lent) (es : List (Event C)) : Type 0 where
    pub usable : Usable flash call l
    pub same_data : LendsData (takes_at driver call l) l.given (steps_at driver flash call l es)

  -- and where no event up to the call's end is refused, and nobody else writes into the buffer
  pub record Regular (flash : F) (call : C) (l : Lent) (es : List (Event C)) : Type 0 where
    pub usable : Usable flash call l
    pub fitting : Fitting (steps_at driver flash call l es)
    pub same_data : SameData l.given (steps_at driver flash call l es)
    pub undisturbed : Undisturbed l.buffer (steps_at driver flash call l es)

  -- what the program of the call does on the same replies: each action with its bytes, then its result, and the buffer after each
  abbrev pub rust_call : S → C → Lent → List (Event C) → List (Did (Left S A))
  rust_call setup call l es = performed (program_on_bus l.given (program_at driver setup call l)) (replies_of es) l.buffer

  -- and what it does on any events, of which it passes over those that do not fit
  abbrev pub rust_heeding : S → C → Lent → List (Event C) → List (Did (Left S A))
  rust_heeding setup call l es = heeding (takes_at driver call l) (program_on_bus l.given (program_at driver setup call l)) es l.buffer

  abbrev pub driver_of : F → Option S
  driver_of flash = pick (driver.built flash) (some (driver.setup flash)) none

  -- ---- any sequence of calls, each on the driver as the one before left it

  abbrev pub turn_steps : F → Turn C → List (Entry C (Left S A))
  turn_steps flash x = steps_at driver flash x.call x.lent x.events

  abbrev pub turn_after : F → Turn C → F
  turn_after flash x = flash_after driver flash x.call x.lent x.events

  unfoldable pub EachTurn : (F → Turn C → Type 0) → F → List (Turn C) → Type 0
  EachTurn P flash [] = Unit {0}
  EachTurn P flash (x ∷ xs) = P flash x × EachTurn P (turn_after flash x) xs

  unfoldable pub turn_by_turn : {B : Type 0} → (F → Turn C → B) → F → List (Turn C) → List B
  turn_by_turn f flash [] = []
  turn_by_turn f flash (x ∷ xs) = f flash x ∷ turn_by_turn f (turn_after flash x) xs

  -- a call into whose buffer nobody else writes
  abbrev pub Alone : F → Turn C → Type 0
  Alone flash x = Undisturbed x.lent.buffer (turn_steps flash x)

  abbrev pub SteadyAlone : F → Turn C → Type 0
  SteadyAlone flash x = Steady flash x.call x.lent x.events × Alone flash x

  abbrev pub Orderly : F → List (Turn C) → Type 0
  Orderly flash turns = EachTurn (λ flash x. Regular flash x.call x.lent x.events) flash turns

  abbrev pub session : F → List (Turn C) → List (List (Did (Left S A)))
  session flash turns = turn_by_turn (λ flash x. told (turn_steps flash x)) flash turns

  -- what a call does, refusals passed over: what is given, and the buffer after each
  abbrev pub turn_does : F → Turn C → List (Did (Left S A))
  turn_does flash x = told (accepted (turn_steps flash x))

  -- what is given, alone
  abbrev pub turn_gives : F → Turn C → List (Given (Left S A))
  turn_gives flash x = gives_of (turn_does flash x)

  abbrev pub rust_turn : Option S → Turn C → List (Did (Left S A))
  rust_turn before x = rust_call (holding (driver.setup driver.fresh) before) x.call x.lent x.events

  abbrev pub heeding_turn : Option S → Turn C → List (Did (Left S A))
  heeding_turn before x = rust_heeding (holding (driver.setup driver.fresh) before) x.call x.lent x.events

  -- of turns that come to this
  unfoldable pub rust_session : (Option S → Turn C → List (Did (Left S A))) → Option S → List (Turn C) → List (List (Did (Left S A)))
  rust_session turn before [] = []
  rust_session turn before (x ∷ xs) = turn before x ∷ rust_session turn (driver_after (sort_at driver x.call x.lent) before (left_by (turn before x))) xs

  -- ---- the statement

  pub record SameAsRust : Type 0 where
    -- every action with its bytes, and every result, refusals passed over, whoever writes into the buffer
    pub gives : (flash : F) (call : C) (l : Lent) (es : List (Event C)) → Steady flash call l es →
        gives_of (told (accepted (steps_at driver flash call l es))) ≡ gives_of (rust_heeding (driver.setup flash) call l es)
    -- and every delivered byte, where nobody else writes there: the whole buffer after each step
    pub delivers : (flash : F) (call : C) (l : Lent) (es : List (Event C)) → Steady flash call l es → Undisturbed l.buffer (steps_at driver flash call l es) →
        told (accepted (steps_at driver flash call l es)) ≡ rust_heeding (driver.setup flash) call l es
    -- where none is refused, on all the replies
    pub same : (flash : F) (call : C) (l : Lent) (es : List (Event C)) → Regular flash call l es →
        told (steps_at driver flash call l es) ≡ rust_call (driver.setup flash) call l es
    -- and so is the driver left behind, whatever the events
    pub left : (flash : F) (call : C) (l : Lent) (es : List (Event C)) → Usable flash call l →
        driver_of (flash_after driver flash call l es) ≡ driver_after (sort_at driver call l) (driver_of flash) (left_by (told (steps_at driver flash call l es)))
    -- so that the equality carries over any sequence of calls
    pub sessions : (flash : F) (turns : List (Turn C)) → Orderly flash turns → session flash turns ≡ rust_session rust_turn (driver_of flash) turns
    -- refused events and disturbed buffers among them
    pub steady_sessions : (flash : F) (turns : List (Turn C)) → EachTurn (λ flash x. Steady flash x.call x.lent x.events) flash turns →
        turn_by_turn turn_gives flash turns ≡ map gives_of (rust_session heeding_turn (driver_of flash) turns)
    -- and the delivered bytes, where in every call nobody else writes into the buffer
    pub delivered_sessions : (flash : F) (turns : List (Turn C)) → EachTurn SteadyAlone flash turns →
        turn_by_turn turn_does flash turns ≡ rust_session heeding_turn (driver_of flash) turns

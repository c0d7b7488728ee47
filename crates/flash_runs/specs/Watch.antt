-- What is seen of a run from outside, step by step: a watcher sees the bytes of the actions given out, the data of the replies, and the
-- caller's data lent beside them. It passes over what is refused (docs/SPECIFICATION.md, "Runs").
use Rattle.std.specs.Prelude.{ℕ, true, ◌≡◌, List, [], ◌∷◌}
use Rattle.std.proofs.Math.Option.{Option, none, some}
use Rattle.qspi.specs.Shown.{Shown, low, high, write, read, quad_read, quad_write, delay}
use Rattle.qspi.specs.declared.bus.Reply.{Reply}
use Rattle.spi_flash.specs.Run.{Event, reply, call, Given, act, ended, failed, refused, Entry}
use Rattle.spi_flash.specs.Seen.{unless_refused, Taken}
use Rattle.spi_flash.specs.declared.error.FlashError.{FlashError}
use Rattle.flash_runs.specs.Reading.{data_at}

-- ---- watchers

pub record Watcher (Z : Type 0) : Type 0 where
  -- an action is given out
  pub gives : Shown → Z → Z
  -- the reply to the action that was out has come: of a data reply, the caller's data lent beside it, and its own
  pub hears : (given bytes : List ℕ) → Z → Z

module _ {Z : Type 0} (w : Watcher Z) where
  abbrev pub hearing : {C : Type 0} → Event C → Z → Z
  hearing (reply r bytes l) z = w.hears (data_at true r l.given) (data_at true r bytes) z
  hearing (call c l) z = z

  abbrev pub giving : {A : Type 0} → Given A → Z → Z
  giving (act shown) z = w.gives shown z
  giving (ended a) z = z
  giving (failed e) z = z
  giving (refused e) z = z

  abbrev pub sees : {C A : Type 0} → Z → Entry C A → Z
  sees z x = unless_refused x.given (giving x.given (hearing x.event z)) z

  unfoldable pub watched : {C A : Type 0} → Z → List (Entry C A) → Z
  watched z [] = z
  watched z (x ∷ xs) = watched (sees z x) xs

-- ---- the frame on the bus

-- select is high; it is low and nothing went over the bus yet; or just this write since it went low; or more than one action did
pub data BusFrame : Type 0 where
  closed selected used : BusFrame
  commanded : List ℕ → BusFrame

abbrev pub wrote_in : BusFrame → List ℕ → BusFrame
wrote_in closed bytes = closed
wrote_in selected [] = selected
wrote_in selected (b ∷ bytes) = commanded (b ∷ bytes)
wrote_in _ bytes = used

abbrev pub used_in : BusFrame → BusFrame
used_in closed = closed
used_in _ = used

abbrev pub frame_after : Shown → BusFrame → BusFrame
frame_after low frame = selected
frame_after high frame = closed
frame_after (write bytes) frame = wrote_in frame bytes
frame_after (read n) frame = used_in frame
frame_after (quad_read command tclqv margin n) frame = used_in frame
frame_after (quad_write command payload) frame = used_in frame
frame_after (delay us) frame = frame

abbrev pub command_in : BusFrame → List ℕ
command_in (commanded command) = command
command_in _ = []

-- ---- a good end

-- the call has ended with an answer
abbrev pub succeeded_then : {A : Type 0} → Given A → Type 0 → Type 0
succeeded_then (act shown) later = later
succeeded_then (ended a) later = Unit {0}
succeeded_then (failed e) later = ⊥
succeeded_then (refused e) later = later

unfoldable pub Succeeded : {C A : Type 0} → List (Entry C A) → Type 0
Succeeded [] = ⊥
Succeeded (x ∷ xs) = succeeded_then x.given (Succeeded xs)

-- ---- a bus error (docs/SPECIFICATION.md, "Actions and replies")

-- the code that answers an action, if it is an error
abbrev pub error_at : Reply → Option ℕ
error_at Reply.Done = none
error_at Reply.Data = none
error_at (Reply.Error code) = some code

abbrev pub error_in : {C : Type 0} → Event C → Option ℕ
error_in (reply r bytes l) = error_at r
error_in (call c l) = none

-- what a step gives: when an error comes select goes high, and behind that the call fails with its code
abbrev pub BreaksOff : {A : Type 0} → (before now : Option ℕ) → Given A → Type 0
BreaksOff (some code) now given = given ≡ failed (FlashError.Spi code)
BreaksOff none (some code) given = given ≡ act high
BreaksOff none none given = Unit {0}

-- over a run, with the error that came before; a refused step is passed over
unfoldable pub StopsOnError : {C A : Type 0} → Option ℕ → List (Entry C A) → Type 0
StopsOnError error [] = Unit {0}
StopsOnError error (x ∷ xs) =
    Taken x.given (BreaksOff error (error_in x.event) x.given) × StopsOnError (unless_refused x.given (error_in x.event) error) xs

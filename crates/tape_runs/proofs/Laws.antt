-- What is left to show of each driver: how a step of its replay goes by the driver's own step. The statements follow.
use Prim.Native.Nat.{ℕ}
use mathlib.Core.Bool.{Bool, true, false}
use mathlib.Core.Path.{◌≡◌}
use mathlib.Core.List.{List, []}
use Rattle.qspi.specs.Bus.{on_bus}
use Rattle.qspi.specs.declared.bus.Reply.{Reply}
use Rattle.qspi.specs.declared.frame.Exchanged.{Exchanged}
use Rattle.spi_flash.specs.Loan.{Lent}
use Rattle.spi_flash.proofs.Machine.{heard}
use Rattle.spi_flash.specs.Run as Run
use Rattle.spi_flash.specs.Run.{fitting_then}
use Rattle.spi_flash.specs.Shape.{Given, acts, ends, fails, refuses}
use Rattle.spi_flash.specs.declared.error.FlashError.{FlashError}
use Rattle.flash_runs.specs.System.{shown_as}
use Rattle.tape.specs.Judge.{accepted_of, first_of}
use Rattle.tape.specs.Record.{taken_at, data_of, spent_of, reply_of}
use Rattle.tape_runs.specs.Player.{Played, Awaited, nothing, frame, Player}
use Rattle.tape_runs.specs.Exactly.{next_record}

abbrev pub Unrefused : {A : Type 0} → Run.Given A → Type 0
Unrefused given = fitting_then given (Unit {0})

-- what a driver gives to a reply, by what the reply does to the frame that is out
abbrev pub Heard : {A : Type 0} → Exchanged → Run.Given A → Type 0
Heard Exchanged.Misfit given = given ≡ Run.refused FlashError.Misfit
Heard (Exchanged.Gave next action) given = Unrefused given
Heard (Exchanged.Over outcome) given = Unrefused given

abbrev pub Hears : {A : Type 0} → Awaited → Reply → List ℕ → Lent → Run.Given A → Type 0
Hears nothing kind bytes l given = given ≡ Run.refused FlashError.OutOfTurn
Hears (frame takes f) kind bytes l given = Heard (heard takes f kind bytes l) given

module _ {R F C A : Type 0} (player : Player R F C A) where
  -- the replay stands where a step of the driver has come to
  pub record Stands (r : R) (next : ℕ) (m : Run.Moved F A) : Type 0 where
    pub flash : player.flash r ≡ m.flash
    pub shown : shown_as (player.last r) m.left.scratch m.left.given ≡ m.given
    pub at : player.at r ≡ next

  -- a step is the driver's on a reply
  pub record Steps (p : Played R) (flash : F) (kind : Reply) (bytes : List ℕ) (l : Lent) (next : ℕ) : Type 0 where
    pub stands : Stands p.replay next (player.system.answer flash kind bytes l)
    pub left : p.left ≡ (player.system.answer flash kind bytes l).left

  -- a step is 16, and nothing that is lent changes
  pub record Stops (p : Played R) (l : Lent) : Type 0 where
    pub last : player.last p.replay ≡ refuses FlashError.TapeSpent
    pub left : p.left ≡ l

  -- by whether the action is on the bus, and whether no record is left
  abbrev pub Acts : (bus none : Bool) → Played R → R → List ℕ → Lent → Type 0
  Acts false none p r tape l = Steps p (player.flash r) Reply.Done [] l (player.at r)
  Acts true false p r tape l =
      Steps p (player.flash r) (reply_of (next_record player r tape)) (data_of tape (next_record player r tape)) l (taken_at tape (player.at r)).next
  Acts true true p r tape l = Stops p l

  -- an end is not gone on from
  abbrev pub Moves : Given A → Played R → R → List ℕ → Lent → Type 0
  Moves (acts action) p r tape l = Acts (on_bus action) (spent_of (next_record player r tape)) p r tape l
  Moves (ends a) p r tape l = Unit {0}
  Moves (fails e) p r tape l = Unit {0}
  Moves (refuses e) p r tape l = Unit {0}

  pub record Follows : Type 0 where
    pub begins : (tape : List ℕ) → accepted_of tape ≡ true → (flash : F) (c : C) (l : Lent) → Stands (player.begin flash c tape l) (first_of tape) (player.system.begin flash c l)
    pub moves : (r : R) (tape : List ℕ) (l : Lent) → Moves (player.last r) (player.advance r tape l) r tape l
    pub hears : (flash : F) (kind : Reply) (bytes : List ℕ) (l : Lent) → Hears (player.awaited flash) kind bytes l (player.system.answer flash kind bytes l).given

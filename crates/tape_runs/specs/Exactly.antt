-- When a step of a replay ends it with 16, and when with 14 (docs/SPECIFICATION.md, "The reply tape").
use Rattle.std.specs.Prelude.{ℕ, true, false, ◌≡◌, List, length, Option, None}
use Rattle.qspi.specs.Bus.{fits_of, on_bus}
use Rattle.qspi.specs.declared.bus.Action.{Action}
use Rattle.qspi.specs.Frame.{action_of}
use Rattle.qspi.specs.declared.frame.Frame.{Frame}
use Rattle.spi_flash.specs.Loan.{Lent, ready_for}
use Rattle.spi_flash.specs.Shape.{Given, acts, refuses}
use Rattle.spi_flash.specs.declared.error.FlashError.{FlashError}
use Rattle.spi_flash.specs.declared.loan.Takes.{Takes}
use Rattle.tape.specs.Record.{taken_at, data_of, spent_of, reply_of}
use Rattle.tape.specs.declared.record.Record.{Record}
use Rattle.tape_runs.specs.Player.{frame, Player}

-- the one holds just where the other does
abbrev pub Just : Type 0 → Type 0 → Type 0
Just A B = (A → B) × (B → A)

module _ {R F C A : Type 0} (player : Player R F C A) where
  -- what the next step of a replay gives, with the lent bytes
  abbrev pub step_gives : R → List ℕ → Lent → Given A
  step_gives r tape l = player.last (player.advance r tape l).replay

  -- what stands at the reader's position
  abbrev pub next_record : R → List ℕ → Option Record
  next_record r tape = (taken_at tape (player.at r)).given

pub record Exactly {R F C A : Type 0} (player : Player R F C A) : Type 0 where
  -- 16 just where a bus action awaits a record and none is left
  pub spent : (r : R) (tape : List ℕ) (l : Lent) (action : Action) → player.last r ≡ acts action →
      Just (step_gives player r tape l ≡ refuses FlashError.TapeSpent) ((on_bus action ≡ true) × (next_record player r tape ≡ None))
  -- 14 just where the record does not fit the action, with what the call takes lent as at its beginning
  pub misfit : (r : R) (tape : List ℕ) (l : Lent) (takes : Takes) (f : Frame) → player.awaited (player.flash r) ≡ frame takes f → player.last r ≡ acts (action_of f) →
      on_bus (action_of f) ≡ true → spent_of (next_record player r tape) ≡ false → ready_for takes l ≡ true →
      Just (step_gives player r tape l ≡ refuses FlashError.Misfit)
      (fits_of (action_of f) (reply_of (next_record player r tape)) (length (data_of tape (next_record player r tape))) ≡ false)

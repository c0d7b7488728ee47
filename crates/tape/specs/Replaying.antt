-- A call of a driver over a tape, step by step. The code has a struct for where a replay stands (replay).
use Rattle.std.specs.Prelude.{ℕ, List, [], Option}
use Rattle.qspi.specs.Bus.{on_bus}
use Rattle.qspi.specs.Choice.{pick}
use Rattle.qspi.specs.declared.bus.Reply.{Reply}
use Rattle.spi_flash.specs.Replying.{AfterStep, stepped_to}
use Rattle.spi_flash.specs.Shape.{Given, acts, ends, fails, refuses, Shape}
use Rattle.spi_flash.specs.declared.error.FlashError.{FlashError}
use Rattle.tape.specs.Judge.{accepted_of, first_of}
use Rattle.tape.specs.Record.{taken_at, data_of, spent_of, reply_of}
use Rattle.tape.specs.declared.record.Record.{Record}

-- a driver's `begin` and `step`, and its replays R: what was given last, and the position of the reader's next record
pub record Taped (R F S P A G C : Type 0) : Type 0 where
  pub shape : Shape F S P A G
  pub begin : F → C → ℕ → ℕ → ℕ → G
  pub step : F → Reply → List ℕ → List ℕ → List ℕ → List ℕ → AfterStep G
  pub replay_at : G → ℕ → R
  pub stepped : R → G
  pub at : R → ℕ

-- a replay, and the lent bytes after a step of it
pub record Played (R : Type 0) : Type 0 where
  pub replay : R
  pub scratch : List ℕ
  pub buffer : List ℕ

abbrev pub played_to : {R : Type 0} → R → List ℕ → List ℕ → Played R
played_to replay scratch buffer = record { replay = replay; scratch = scratch; buffer = buffer }

module _ {R F S P A G C : Type 0} (taped : Taped R F S P A G C) where
  -- a tape that is not well formed is 15, ahead of the call's own tests (docs/SPECIFICATION.md, "Refusals and numbers")
  unfoldable pub begun_over : F → C → List ℕ → ℕ → ℕ → ℕ → R
  begun_over flash call tape s b d =
      pick (accepted_of tape) (taped.replay_at (taped.begin flash call s b d) (first_of tape))
      (taped.replay_at (taped.shape.refused flash FlashError.MalformedTape) 0)

  abbrev pub played_at : ℕ → AfterStep G → Played R
  played_at at m = played_to (taped.replay_at m.stepped at) m.scratch m.buffer

  -- select and delay are answered by done
  unfoldable pub plain_over : F → ℕ → List ℕ → List ℕ → List ℕ → Played R
  plain_over flash at scratch buffer lent = played_at at (taped.step flash Reply.Done [] scratch buffer lent)

  -- a bus action is answered by the record; with none left it is 16, and the call stays unfinished
  abbrev pub record_then : Option Record → F → ℕ → List ℕ → List ℕ → List ℕ → List ℕ → Played R
  record_then x flash at bytes scratch buffer lent =
      pick (spent_of x) (played_at at (stepped_to (taped.shape.refused flash FlashError.TapeSpent) scratch buffer))
      (played_at at (taped.step flash (reply_of x) bytes scratch buffer lent))

  unfoldable pub record_over : F → ℕ → List ℕ → List ℕ → List ℕ → List ℕ → Played R
  record_over flash at tape scratch buffer lent =
      record_then (taken_at tape at).given flash (taken_at tape at).next (data_of tape (taken_at tape at).given) scratch buffer lent

  unfoldable pub advanced_then : Given A → R → List ℕ → List ℕ → List ℕ → List ℕ → Played R
  advanced_then (acts action) replay tape scratch buffer lent =
      pick (on_bus action) (record_over (taped.shape.after (taped.stepped replay)) (taped.at replay) tape scratch buffer lent)
      (plain_over (taped.shape.after (taped.stepped replay)) (taped.at replay) scratch buffer lent)
  advanced_then (ends answer) replay tape scratch buffer lent = played_to replay scratch buffer
  advanced_then (fails error) replay tape scratch buffer lent = played_to replay scratch buffer
  advanced_then (refuses error) replay tape scratch buffer lent = played_to replay scratch buffer

  -- one action performed; an end stays
  unfoldable pub advanced_over : R → List ℕ → List ℕ → List ℕ → List ℕ → Played R
  advanced_over replay tape scratch buffer lent = advanced_then (taped.shape.given (taped.stepped replay)) replay tape scratch buffer lent

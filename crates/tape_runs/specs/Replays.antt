-- A replay is the driver's run on the replies of the tape (docs/SPECIFICATION.md, "The reply tape").
use Rattle.std.specs.Prelude.{ℕ, Bool, true, false, ◌≡◌, List, [], ◌∷◌, ◌++◌}
use Rattle.qspi.specs.Shown.{Shown, low, high, write, read, quad_read, quad_write, delay}
use Rattle.qspi.specs.declared.bus.Reply.{Reply}
use Rattle.spi_flash.specs.Loan.{Lent}
use Rattle.spi_flash.specs.Run as Run
use Rattle.spi_flash.specs.Run.{Event, reply, call, Entry, System, goes_on}
use Rattle.spi_flash.specs.Seen.{Did, did}
use Rattle.spi_flash.specs.Shape.{Given, acts, ends, fails, refuses}
use Rattle.spi_flash.specs.declared.error.FlashError.{FlashError}
use Rattle.flash_runs.specs.System.{shown_as}
use Rattle.tape.specs.Tape.{TapeRecord}
use Rattle.tape.specs.Judge.{accepted_of, first_of}
use Rattle.tape.specs.Records.{records_from}
use Rattle.tape_runs.specs.Player.{Played, Player}

-- ---- what a replay gives

module _ {R F C A : Type 0} (player : Player R F C A) where
  -- a step performs the action that is out; an end stays
  abbrev pub played_then : Given A → Played R → (R → List (Did A)) → List (Did A)
  played_then (acts action) p later =
      did (shown_as (player.last p.replay) p.left.scratch p.left.given) p.left.buffer ∷ later p.replay
  played_then (ends a) p later = []
  played_then (fails e) p later = []
  played_then (refuses e) p later = []

  -- step after step, with what is lent at each
  unfoldable pub playing : List ℕ → R → List Lent → List (Did A)
  playing tape r [] = []
  playing tape r (l ∷ ls) = played_then (player.last r) (player.advance r tape l) (λ next. playing tape next ls)

-- ---- the tape's replies

-- what the bus answers: select and the delay are the host's
abbrev pub uses_record : Shown → Bool
uses_record low = false
uses_record high = false
uses_record (write bytes) = true
uses_record (read n) = true
uses_record (quad_read command tclqv margin n) = true
uses_record (quad_write command payload) = true
uses_record (delay us) = false

-- the event is that reply
abbrev pub IsReply : {C : Type 0} → Event C → Reply → List ℕ → Type 0
IsReply (reply r bytes l) kind body = (r ≡ kind) × (bytes ≡ body)
IsReply (call c l) kind body = ⊥

abbrev pub IsRecord : {C : Type 0} → Event C → TapeRecord → Type 0
IsRecord e TapeRecord.done = IsReply e Reply.Done []
IsRecord e (TapeRecord.bytes body) = IsReply e Reply.Data body
IsRecord e (TapeRecord.bus_error code) = IsReply e (Reply.Error code) []

-- select and delay are answered by done, a bus action by the next record
abbrev pub AnsweredTo : {C : Type 0} → Bool → List TapeRecord → Event C → (List TapeRecord → Type 0) → Type 0
AnsweredTo false records e later = IsReply e Reply.Done [] × later records
AnsweredTo true [] e later = ⊥
AnsweredTo true (x ∷ xs) e later = IsRecord e x × later xs

abbrev pub AnsweredAs : {C A : Type 0} → Run.Given A → List TapeRecord → Event C → (List TapeRecord → Type 0) → Type 0
AnsweredAs (Run.act shown) records e later = AnsweredTo (uses_record shown) records e later
AnsweredAs (Run.ended a) records e later = ⊥
AnsweredAs (Run.failed x) records e later = ⊥
AnsweredAs (Run.refused x) records e later = ⊥

-- the replies of the steps are those of the records, behind what was given before; none comes after an end or a refusal
unfoldable pub Answered : {C A : Type 0} → List TapeRecord → Run.Given A → List (Entry C A) → Type 0
Answered records before [] = Unit {0}
Answered records before (x ∷ xs) = AnsweredAs before records x.event (λ rest. Answered rest x.given xs)

-- ---- the statement

-- the replay's last step, in which the tape is spent, or nothing
abbrev pub SpentOrNot : {A : Type 0} → List (Did A) → Type 0
SpentOrNot [] = Unit {0}
SpentOrNot (x ∷ xs) = (x.given ≡ Run.refused FlashError.TapeSpent) × (xs ≡ [])

-- what each step of a run gives, and the caller's buffer after it
unfoldable pub listing : {C A : Type 0} → List (Entry C A) → List (Did A)
listing [] = []
listing (x ∷ xs) = did x.given x.left.buffer ∷ listing xs

-- replies that are those of the records, on which the driver's run gives what the replay gives
pub record Replays {F C A : Type 0} (system : System F C A) (records : List TapeRecord) (flash : F) (before : Run.Given A) (played : List (Did A)) : Type 0 where
  pub events : List (Event C)
  pub answered : Answered records before (goes_on system flash events)
  pub spent : List (Did A)
  pub spent_or_not : SpentOrNot spent
  pub gives : played ≡ listing (goes_on system flash events) ++ spent

pub record ReplayRuns {R F C A : Type 0} (player : Player R F C A) : Type 0 where
  -- a call over an accepted tape, with anything lent at each step
  pub calls : (tape : List ℕ) → accepted_of tape ≡ true → (flash : F) (c : C) (l : Lent) (ls : List Lent) →
      Replays player.system (records_from tape (first_of tape)) (player.system.begin flash c l).flash (player.system.begin flash c l).given
      (playing player tape (player.begin flash c tape l) ls)

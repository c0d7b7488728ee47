-- A replay follows the driver's run, reply by reply.
use Prim.Native.Nat.{ℕ}
use mathlib.Core.Bool.{Bool, true, false, true≢false}
use mathlib.Core.Path.{◌≡◌, refl, ap, ap₂}
use Rattle.std.proofs.Common.{Option, Some, None}
use mathlib.Core.List.{List, [], ◌∷◌}
use Rattle.qspi.specs.Bus.{on_bus}
use Rattle.qspi.specs.Shown.{shown_of}
use Rattle.qspi.specs.declared.bus.Action.{Action}
use Rattle.qspi.specs.declared.bus.Reply.{Reply}
use Rattle.spi_flash.specs.Loan.{Lent}
use Rattle.spi_flash.specs.Run as Run
use Rattle.spi_flash.specs.Run.{reply, goes_on}
use Rattle.spi_flash.specs.Seen.{Did, did}
use Rattle.spi_flash.specs.Shape.{Given, acts, ends, fails, refuses}
use Rattle.spi_flash.specs.declared.error.FlashError.{FlashError}
use Rattle.flash_runs.specs.System.{shown_as}
use Rattle.tape.specs.Tape.{TapeRecord}
use Rattle.tape.specs.Record.{taken_at, data_of, spent_of, reply_of}
use Rattle.tape.specs.Records.{listed, records_from}
use Rattle.tape.specs.declared.record.Record.{Record}
use Rattle.tape.proofs.Statements.{reader-walks}
use Rattle.tape_runs.specs.Player.{Played, Player}
use Rattle.tape_runs.specs.Exactly.{next_record}
use Rattle.tape_runs.specs.Replays.{played_then, playing, uses_record, AnsweredTo, AnsweredAs, Answered, listing, Replays, ReplayRuns}
use Rattle.tape_runs.proofs.Laws.{Steps, Stops, Acts, Moves, Follows}

-- a bus action is told by what it shows
shown-uses : (action : Action) (scratch lent : List ℕ) → uses_record (shown_of action scratch lent) ≡ on_bus action
shown-uses Action.SelectLow s l = refl
shown-uses Action.SelectHigh s l = refl
shown-uses (Action.Write part) s l = refl
shown-uses (Action.Read n) s l = refl
shown-uses (Action.QuadRead c q m n) s l = refl
shown-uses (Action.QuadWrite c p) s l = refl
shown-uses (Action.Delay us) s l = refl

-- a record that is left is the reply
record-answers : (C : Type 0) (tape : List ℕ) (l : Lent) (x : Option Record) → spent_of x ≡ false → (behind : List TapeRecord) (rest : List TapeRecord → Type 0) → rest behind →
    AnsweredTo {C = C} true (listed tape x behind) (reply (reply_of x) (data_of tape x) l) rest
record-answers C tape l (Some Record.Done) some behind rest h = ((refl, refl), h)
record-answers C tape l (Some (Record.Data from len)) some behind rest h = ((refl, refl), h)
record-answers C tape l (Some (Record.BusError code)) some behind rest h = ((refl, refl), h)
record-answers C tape l None some behind rest h = absurd (true≢false some)

module _ {R F C A : Type 0} (player : Player R F C A) (tape : List ℕ) where
  -- nothing is played
  nothing-played : {records : List TapeRecord} {flash : F} {before : Run.Given A} → Replays player.system records flash before []
  unfolding goes_on Answered listing
  nothing-played = record { events = []; answered = tt; spent = []; spent_or_not = tt; gives = refl }

  -- what holds from every step on
  abbrev Plays : List Lent → Type 0
  Plays ls = (r : R) (s g : List ℕ) → Replays player.system (records_from tape (player.at r)) (player.flash r) (shown_as (player.last r) s g) (playing player tape r ls)

  -- a refusal ends the replay
  refused-stays : (ls : List Lent) (r : R) (e : FlashError) → player.last r ≡ refuses e → playing player tape r ls ≡ []
  unfolding playing
  refused-stays [] r e is = refl
  refused-stays (l ∷ ls) r e is = rw is refl

  module _ (ls : List Lent) (ih : Plays ls) (l : Lent) (p : Played R) (flash : F) (next : ℕ) where
    -- a step that performs an action, and those behind it
    abbrev first : Did A
    first = did (shown_as (player.last p.replay) p.left.scratch p.left.given) p.left.buffer

    abbrev played : List (Did A)
    played = first ∷ playing player tape p.replay ls

    -- what the driver's step on a reply comes to
    abbrev answer : Reply → List ℕ → Run.Moved F A
    answer kind bytes = player.system.answer flash kind bytes l

    first-same : (kind : Reply) (bytes : List ℕ) → Steps player p flash kind bytes l next → first ≡ did (answer kind bytes).given (answer kind bytes).left.buffer
    first-same kind bytes s = rw (s.left, s.stands.shown) refl

    -- from the driver's step on
    onward : (kind : Reply) (bytes : List ℕ) → Steps player p flash kind bytes l next → Replays player.system (records_from tape next) (answer kind bytes).flash (answer kind bytes).given (playing player tape p.replay ls)
    onward kind bytes s =
        rw (← s.stands.flash, ← s.stands.at, ← s.stands.shown) (ih p.replay (answer kind bytes).left.scratch (answer kind bytes).left.given)

    -- a reply that the tape has given
    consumed : (records : List TapeRecord) (before : Run.Given A) (kind : Reply) (bytes : List ℕ) → Steps player p flash kind bytes l next →
        ((rest : List TapeRecord → Type 0) → rest (records_from tape next) → AnsweredAs {C = C} before records (reply kind bytes l) rest) →
        Replays player.system records flash before played
    unfolding goes_on Answered listing
    consumed records before kind bytes s takes =
        let m = answer kind bytes in
        let after = onward kind bytes s in
        record {
          events = reply kind bytes l ∷ after.events;
          answered = takes (λ rest. Answered rest m.given (goes_on player.system m.flash after.events)) after.answered;
          spent = after.spent;
          spent_or_not = after.spent_or_not;
          gives = ap₂ (λ x xs. x ∷ xs) (first-same kind bytes s) after.gives;
        }

    -- no record is left
    stopped : (records : List TapeRecord) (before : Run.Given A) → Stops player p l → Replays player.system records flash before played
    unfolding goes_on Answered listing
    stopped records before s = record {
      events = [];
      answered = tt;
      spent = did (Run.refused FlashError.TapeSpent) l.buffer ∷ [];
      spent_or_not = (refl, refl);
      gives = rw (s.last, s.left) (ap (λ xs. did (Run.refused FlashError.TapeSpent) l.buffer ∷ xs) (refused-stays ls p.replay FlashError.TapeSpent s.last));
    }

  module _ (ls : List Lent) (ih : Plays ls) (r : R) (l : Lent) (s g : List ℕ) where
    abbrev step : Played R
    step = player.advance r tape l

    performed : (action : Action) (bus none : Bool) → on_bus action ≡ bus → spent_of (next_record player r tape) ≡ none → Acts player bus none step r tape l →
        Replays player.system (records_from tape (player.at r)) (player.flash r) (Run.act (shown_of action s g)) (played ls ih l step (player.flash r) (player.at r))
    performed action false none bus e steps =
        consumed ls ih l step (player.flash r) (player.at r) _ _ Reply.Done [] steps (λ rest h. rw (shown-uses action s g, bus) ((refl, refl), h))
    performed action true false bus e steps =
        consumed ls ih l step (player.flash r) (taken_at tape (player.at r)).next _ _ _ _ steps
        (λ rest h. rw (shown-uses action s g, bus, reader-walks.steps tape (player.at r)) (record-answers C tape l (next_record player r tape) e _ rest h))
    performed action true true bus e stops = stopped ls ih l step (player.flash r) (player.at r) _ _ stops

    moved : (last : Given A) → Moves player last step r tape l →
        Replays player.system (records_from tape (player.at r)) (player.flash r) (shown_as last s g) (played_then player last step (λ next. playing player tape next ls))
    moved (acts action) m = performed action (on_bus action) (spent_of (next_record player r tape)) refl refl m
    moved (ends a) m = nothing-played
    moved (fails e) m = nothing-played
    moved (refuses e) m = nothing-played

  plays : Follows player → (ls : List Lent) → Plays ls
  unfolding playing
  plays follows [] r s g = nothing-played
  plays follows (l ∷ ls) r s g = moved ls (plays follows ls) r l s g (player.last r) (follows.moves r tape l)

pub replay-runs : {R F C A : Type 0} (player : Player R F C A) → Follows player → ReplayRuns player
replay-runs player follows = record {
  calls = λ tape accepted flash c l ls.
      let m = player.system.begin flash c l in
      let b = follows.begins tape accepted flash c l in
      rw (← b.flash, ← b.at, ← b.shown) (plays player tape follows ls (player.begin flash c tape l) m.left.scratch m.left.given);
}

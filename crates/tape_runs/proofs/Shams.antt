-- A replay that calls the tape spent ahead of its look does so where a record is left.
use Prim.Native.Nat.{ℕ}
use mathlib.Core.Bool.{false, true≢false}
use mathlib.Core.List.{List, [], ◌∷◌}
use mathlib.Core.Path.{◌≡◌, refl, ap, sym, ◌∙◌}
use Rattle.qspi.specs.declared.bus.Action.{Action}
use Rattle.spi_flash.specs.Loan.{Lent}
use Rattle.spi_flash.specs.Shape.{acts}
use Rattle.spi_flash.specs.declared.error.FlashError.{FlashError}
use Rattle.tape.specs.Record.{ahead_of, shaped_of, taken_in, taken_at, spent_of}
use Rattle.tape.specs.Replaying.{Taped}
use Rattle.tape_runs.specs.Exactly.{next_record, Exactly}
use Rattle.tape_runs.specs.Player.{Player, player_of}
use Rattle.tape_runs.specs.Shams.{unlooked, spent_unlooked}

module _ {R F C A : Type 0} (player : Player R F C A) (r : R) (tape : List ℕ) where
  -- a read is out
  pub unlooked-fails : spent_of (next_record player r tape) ≡ false → Exactly (spent_unlooked player) → ⊥
  unlooked-fails left kept =
      let l : Lent = record { scratch = []; buffer = []; given = [] } in
      let both = kept.spent (unlooked r (acts (Action.Read 0))) tape l (Action.Read 0) refl in
      true≢false (sym (ap spent_of (both.0 refl).1) ∙ left)

-- one record, done, from the tape's start
abbrev one_record : List ℕ
one_record = 0 ∷ 0 ∷ 0 ∷ 0 ∷ 0 ∷ 0 ∷ 0 ∷ []

-- every driver's, whatever was given before
pub unlooked-driver : {R F S P A G C : Type 0} (taped : Taped R F S P A G C) → ((x : G) (n : ℕ) → taped.at (taped.replay_at x n) ≡ n) → F → Exactly (spent_unlooked (player_of taped)) → ⊥
unfolding ahead_of taken_in shaped_of
unlooked-driver taped at flash =
    let x = taped.shape.refused flash FlashError.OutOfTurn in
    unlooked-fails (player_of taped) (taped.replay_at x 0) one_record (ap (λ n. spent_of (taken_at one_record n).given) (at x 0))

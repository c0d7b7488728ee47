-- A sham replay of each driver (docs/SPECIFICATION.md, "Shams"): it calls the tape spent ahead of looking at it, where 16 is for a tape with
-- no record left.
use Rattle.nor_tape.specs.Replay.{nor_taped}
use Rattle.replay_runs.specs.Statements.{nand_taped}
use Rattle.tape_runs.specs.Exactly.{Exactly}
use Rattle.tape_runs.specs.Player.{player_of}
use Rattle.tape_runs.specs.Shams.{spent_unlooked}

pub record ReplayShamsFail : Type 0 where
  pub nor : Exactly (spent_unlooked (player_of nor_taped)) → ⊥
  pub nand : Exactly (spent_unlooked (player_of nand_taped)) → ⊥

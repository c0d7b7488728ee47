-- What holds over a whole replay of each driver. Both statements are in tape_runs.
use Rattle.tape_runs.specs.Exactly.{Exactly}
use Rattle.tape_runs.specs.Player.{player_of}
use Rattle.tape_runs.specs.Replays.{ReplayRuns}
use Rattle.nor_tape.specs.Replay.{nor_taped}
use Rattle.tape.specs.Replaying.{Taped}
use Rattle.tape.specs.Replay.{taped}
use Rattle.tape.specs.declared.replay.Replay.{Replay}
use Rattle.spi_nand.specs.declared.answer.Answer.{Answer}
use Rattle.spi_nand.specs.declared.call.Call.{Call}
use Rattle.spi_nand.specs.declared.phase.Phase.{Phase}
use Rattle.spi_nand.specs.declared.setup.Setup.{Setup}
use Rattle.nand_driver.specs.Call.{nand_calls}
use Rattle.nand_driver.specs.Settle.{SpiNandFlash, Stepped}
use Rattle.nand_driver.specs.Step.{nand_next}

-- a call of the NAND driver over a tape
abbrev pub nand_taped : Taped (Replay Setup Phase Answer) SpiNandFlash Setup Phase Answer Stepped Call
nand_taped = taped nand_calls nand_next

-- a replay is the driver's run on the replies of the tape
pub record Replayed : Type 0 where
  pub nor : ReplayRuns (player_of nor_taped)
  pub nand : ReplayRuns (player_of nand_taped)

-- 16 where no record is left, 14 where the record does not fit, and nowhere else
pub record Refused : Type 0 where
  pub nor : Exactly (player_of nor_taped)
  pub nand : Exactly (player_of nand_taped)

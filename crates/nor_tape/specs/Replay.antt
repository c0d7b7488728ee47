-- A call of the NOR driver over a tape (specs/Replay.antt of tape).
use Rattle.std.specs.Prelude.{ℕ, List}
use Rattle.tape.specs.Replaying as Replaying
use Rattle.tape.specs.Replaying.{Taped}
use Rattle.tape.specs.Replay.{taped}
use Rattle.tape.specs.declared.replay.Replay as Machine
use Rattle.spi_nor.specs.declared.answer.Answer.{Answer}
use Rattle.spi_nor.specs.declared.call.Call.{Call}
use Rattle.spi_nor.specs.declared.phase.Phase.{Phase}
use Rattle.spi_nor.specs.declared.setup.Setup.{Setup}
use Rattle.nor_driver.specs.Call.{nor_calls}
use Rattle.nor_driver.specs.Settle.{SpiNorFlash, Stepped}
use Rattle.nor_driver.specs.Step.{nor_next}

abbrev pub Replay : Type 0
Replay = Machine.Replay Setup Phase Answer

abbrev pub nor_taped : Taped Replay SpiNorFlash Setup Phase Answer Stepped Call
nor_taped = taped nor_calls nor_next

abbrev pub begun_over : SpiNorFlash → Call → List ℕ → ℕ → ℕ → ℕ → Replay
begun_over = Replaying.begun_over nor_taped

-- A call of every driver over a tape (Replaying.antt).
use Rattle.std.specs.Prelude.{ℕ}
use Rattle.qspi.specs.Frame.{Outcome}
use Rattle.spi_flash.specs.Beginning.{Calls, begins}
use Rattle.spi_flash.specs.Replying.{steps}
use Rattle.spi_flash.specs.Shape.{Then}
use Rattle.tape.specs.Replaying.{Taped}
use Rattle.machine.specs.Shape.{shape}
use Rattle.machine.specs.declared.state.Flash.{Flash}
use Rattle.machine.specs.declared.state.Stepped.{Stepped}
use Rattle.tape.specs.declared.replay.Replay.{Replay}

abbrev pub replay_at : {S P A : Type 0} → Stepped S P A → ℕ → Replay S P A
replay_at stepped at = record { stepped = stepped; at = at }

abbrev pub taped : {S P A C : Type 0} → Calls S P A C → (S → P → Outcome → Then S P A) → Taped (Replay S P A) (Flash S P) S P A (Stepped S P A) C
taped calls next =
    record {
      shape = shape;
      begin = begins shape calls;
      step = steps shape next;
      replay_at = replay_at;
      stepped = λ replay. replay.stepped;
      at = λ replay. replay.at;
    }

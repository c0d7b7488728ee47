-- The statements, of every driver that the code makes of a part's calls and of what follows its transfers.
use mathlib.Core.Path.{refl}
use Rattle.qspi.specs.Frame.{Outcome}
use Rattle.spi_flash.specs.Beginning.{Calls}
use Rattle.spi_flash.specs.Shape.{Then}
use Rattle.machine.specs.Shape.{shape}
use Rattle.machine.proofs.Faithful.{faithful}
use Rattle.tape.specs.Replay.{taped}
use Rattle.tape_runs.specs.Exactly.{Exactly}
use Rattle.tape_runs.specs.Player.{player_of}
use Rattle.tape_runs.specs.Replays.{ReplayRuns}
use Rattle.tape_runs.proofs.Exactly.{exactly}
use Rattle.tape_runs.proofs.Following.{follows}
use Rattle.tape_runs.proofs.Laws.{Follows}
use Rattle.tape_runs.proofs.Replays.{replay-runs}

module _ {S P A C : Type 0} (calls : Calls S P A C) (next : S → P → Outcome → Then S P A) where
  goes-by-its-steps : Follows (player_of (taped calls next))
  goes-by-its-steps =
      let tape = taped calls next in
      follows shape faithful calls next tape.replay_at tape.stepped tape.at (λ x n. refl) (λ x n. refl)

  pub replayed : ReplayRuns (player_of (taped calls next))
  replayed = replay-runs (player_of (taped calls next)) goes-by-its-steps

  pub refused : Exactly (player_of (taped calls next))
  refused = exactly (player_of (taped calls next)) goes-by-its-steps

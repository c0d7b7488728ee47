-- No replay that calls the tape spent ahead of its look keeps its promise.
use mathlib.Core.Path.{refl}
use Rattle.nand_driver.specs.Call as Nand
use Rattle.nor_driver.specs.Call as Nor
use Rattle.nor_tape.specs.Replay.{nor_taped}
use Rattle.replay_runs.specs.Shams.{ReplayShamsFail}
use Rattle.replay_runs.specs.Statements.{nand_taped}
use Rattle.tape_runs.proofs.Shams.{unlooked-driver}

pub replay-shams-fail : ReplayShamsFail
replay-shams-fail = record {
  nor = unlooked-driver nor_taped (λ x n. refl) Nor.not_built;
  nand = unlooked-driver nand_taped (λ x n. refl) Nand.not_built;
}

-- The NAND driver keeps every promise.
-- Assumes nothing.
use Rattle.nand_runs.specs.Promises.{NandPromises}
use Rattle.nand_runs.proofs.AsRust.{general, as-rust}
use Rattle.nand_runs.proofs.ReadPromises.{reads-as-asked}

pub nand-promises : NandPromises
nand-promises = record { general = general; as_rust = as-rust; reads_as_asked = reads-as-asked }

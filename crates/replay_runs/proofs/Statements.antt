-- The statements hold of both drivers, as of every one.
use Rattle.tape_runs.proofs.EveryPart.{replayed as every-replayed, refused as every-refused}
use Rattle.nor_driver.specs.Call.{nor_calls}
use Rattle.nor_driver.specs.Step.{nor_next}
use Rattle.nand_driver.specs.Call.{nand_calls}
use Rattle.nand_driver.specs.Step.{nand_next}
use Rattle.replay_runs.specs.Statements.{Replayed, Refused}

pub replayed : Replayed
replayed = record { nor = every-replayed nor_calls nor_next; nand = every-replayed nand_calls nand_next }

pub refused : Refused
refused = record { nor = every-refused nor_calls nor_next; nand = every-refused nand_calls nand_next }

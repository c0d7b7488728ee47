-- A NAND driver that is built is inside the bounds, with a page of at most 4,096 (docs/SPECIFICATION.md, "Geometry").
use Rattle.flash_runs.specs.Built.{BuiltInside, UsedOnceBuilt}
use Rattle.nand_runs.specs.Run.{nand_driver}

pub record NandBuiltInside : Type 0 where
  pub general : BuiltInside nand_driver (λ setup. setup.geometry.page_size) 4096
  pub witness : UsedOnceBuilt nand_driver

-- A NOR driver that is built is inside the bounds, with a page of at most 512 (docs/SPECIFICATION.md, "Geometry").
use Rattle.flash_runs.specs.Built.{BuiltInside, UsedOnceBuilt}
use Rattle.nor_runs.specs.Run.{nor_driver}

pub record NorBuiltInside : Type 0 where
  pub general : BuiltInside nor_driver (λ setup. setup.device.page_size) 512
  pub witness : UsedOnceBuilt nor_driver

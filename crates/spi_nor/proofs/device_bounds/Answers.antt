use Rattle.spi_nor.proofs.DeviceBounds.{device_bounds}
use Rattle.spi_nor.proofs.device_bounds.Goals as goal

pub returns : goal.returns
returns c = device_bounds

use Rattle.spi_nand.proofs.Geometries.{geometries-hold}
use Rattle.spi_nand.proofs.geometries_hold.Goals as goal

pub returns : goal.returns
returns c = geometries-hold

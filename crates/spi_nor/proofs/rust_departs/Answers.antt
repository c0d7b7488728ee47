use Rattle.spi_nor.proofs.DatasheetAgrees.{rust_departs}
use Rattle.spi_nor.proofs.rust_departs.Goals as goal

pub returns : goal.returns
returns c = rust_departs

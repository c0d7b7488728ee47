use Rattle.spi_nand.proofs.DatasheetAgrees.{rust-departs}
use Rattle.spi_nand.proofs.rust_departs.Goals as goal

pub returns : goal.returns
returns c = rust-departs

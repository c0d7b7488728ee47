use Rattle.spi_nand.proofs.DatasheetAgrees.{datasheet-agrees}
use Rattle.spi_nand.proofs.datasheet_agrees.Goals as goal

pub returns : goal.returns
returns c = datasheet-agrees

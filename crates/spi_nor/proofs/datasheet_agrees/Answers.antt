use Rattle.spi_nor.proofs.DatasheetAgrees.{datasheet_agrees}
use Rattle.spi_nor.proofs.datasheet_agrees.Goals as goal

pub returns : goal.returns
returns c = datasheet_agrees

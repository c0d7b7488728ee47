use Rattle.spi_nor.proofs.WaitTable.{wait-table}
use Rattle.spi_nor.proofs.wait_table.Goals as goal

pub returns : goal.returns
returns c = wait-table

use Rattle.spi_nand.proofs.WaitTable.{wait-table}
use Rattle.spi_nand.proofs.wait_table.Goals as goal

pub returns : goal.returns
returns c = wait-table

use Rattle.spi_nor.proofs.StatusBits.{status_bits}
use Rattle.spi_nor.proofs.status_bits.Goals as goal

pub returns : goal.returns
returns c = status_bits

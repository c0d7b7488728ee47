use Rattle.spi_flash.proofs.Waiting.{wait-in-general}
use Rattle.spi_flash.proofs.wait_in_general.Goals as goal

pub returns : goal.returns
returns c = wait-in-general

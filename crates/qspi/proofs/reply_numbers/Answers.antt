use Rattle.qspi.proofs.Numbers.{numbers}
use Rattle.qspi.proofs.reply_numbers.Goals as goal

pub returns : goal.returns
returns c = numbers

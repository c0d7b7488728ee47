-- The values of an answer, as its driver has them.
use Rattle.std.specs.Prelude.{ℕ, List}
use Rattle.spi_nor.specs.Answer as nor
use Rattle.spi_nand.specs.Answer as nand
use Rattle.flash_calls.specs.declared.given.Answer.{Answer}

abbrev pub answer_values : Answer → List ℕ
answer_values (Answer.Nor answer) = nor.answer_values answer
answer_values (Answer.Nand answer) = nand.answer_values answer

use Rattle.nand_runs.proofs.SameWords.{same-words}
use Rattle.nand_runs.proofs.nand_words_say_the_rusts.Goals as goal

pub returns : goal.returns
returns c = same-words

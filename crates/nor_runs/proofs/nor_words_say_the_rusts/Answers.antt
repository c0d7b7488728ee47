use Rattle.nor_runs.proofs.SameWords.{same-words}
use Rattle.nor_runs.proofs.nor_words_say_the_rusts.Goals as goal

pub returns : goal.returns
returns c = same-words

-- A line has one word at least.
use Rattle.std.proofs.Common.{ℕ, ◌≤◌, List, eqb, arith}
use Rattle.std.proofs.lemmas.List.Splits.{length-slice_split}
use Rattle.case_text.specs.Word.{words_of, words_in}

pub words_some : (line : List ℕ) → 1 ≤ words_of line
unfolding words_of words_in
words_some line = omega (arith, length-slice_split (λ c. eqb c 32) line)

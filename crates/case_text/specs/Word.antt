-- Words of a line.
use Rattle.std.specs.Prelude.{ℕ, ◌-◌, List, [], length, get_or, eqb}
use Rattle.std.specs.List.{position, count_by, slice_split}
use Rattle.std.specs.Option.{unwrap_or}

-- how many characters stand before the first mark
unfoldable pub before_of : ℕ → List ℕ → ℕ
before_of mark s = unwrap_or (position (λ c. eqb c mark) s) (length s)

-- how many characters are the mark
unfoldable pub count_of : ℕ → List ℕ → ℕ
count_of mark s = count_by (λ c. eqb c mark) s

-- "words are parted by single spaces": two spaces part an empty word
unfoldable pub words_in : List ℕ → List (List ℕ)
words_in line = slice_split (λ c. eqb c 32) line

-- past the last word there are empty ones
unfoldable pub word_of : ℕ → List ℕ → List ℕ
word_of k line = get_or (words_in line) k []

unfoldable pub words_of : List ℕ → ℕ
words_of line = length (words_in line)

-- "its length comes last", "the bytes come last"
unfoldable pub last_of : List ℕ → List ℕ
last_of line = word_of (words_of line - 1) line

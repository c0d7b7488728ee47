-- A writer: the slice behind its reference, and the place behind the text in it.
use Rattle.std.specs.Prelude.{ℕ, ◌≡◌, List}
use Rattle.lines.specs.Text.{Text, text_of, appended}
use Rattle.lines.specs.declared.text.Writer.{Writer}

abbrev pub text_in : Writer → Text
text_in writer = text_of writer.room.now writer.len

-- the writer still writes into the same slice: of before and after, which no invariant of one value says
abbrev pub SameRoom : Writer → Writer → Type 0
SameRoom old new = new.room.ghost_name ≡ old.room.ghost_name

-- the text goes on with these bytes
pub record Appends (bytes : List ℕ) (old new : Writer) : Type 0 where
  pub text : text_in new ≡ appended bytes (text_in old)
  pub same : SameRoom old new

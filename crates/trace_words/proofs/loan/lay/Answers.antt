use Rattle.trace_words.specs.Request.{digits_after}
use Rattle.trace_words.specs.Loan.{laid_of}
use Rattle.trace_words.proofs.loan.lay.Goals as goal

pub returns-in-Nothing : goal.returns-in-Nothing
unfolding laid_of
returns-in-Nothing c = simp c.in-Nothing.is

pub returns-in-Buffer : goal.returns-in-Buffer
unfolding laid_of
returns-in-Buffer c = simp (c.in-Buffer.is, ← c.fill.ensures)

pub returns-in-Data : goal.returns-in-Data
unfolding laid_of digits_after
returns-in-Data c = simp (c.in-Data.is, ← c.decode.ensures.room_after, ← c.behind.ensures, ← c.last.ensures)

use Rattle.std.proofs.Common.{◌≡◌, length, take}
use Rattle.std.proofs.lemmas.List.{length-take-le}
use Rattle.trace_words.proofs.Filled.{too_short, filled_whole}
use Rattle.trace_words.proofs.loan.fill.Goals as goal

pub returns-then-n-room : goal.returns-then-n-room
returns-then-n-room c =
    let part : length (take c.args.n c.args.room.now) ≡ c.args.n = length-take-le _ _ c.if-n-room.true in
    rw (c.fill.ensures.after (λ y h. h), part) (filled_whole _ _ c.if-n-room.true)

pub returns-else-n-room : goal.returns-else-n-room
returns-else-n-room c = too_short _ _ c.if-n-room.false

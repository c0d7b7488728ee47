-- What the kit's itoa writes, which is std's decimal.
use Rattle.std.proofs.Common.{◌≡◌, ℕ, ◌<◌, ◌^◌, sym, arith}
use borrow.Author.Tests.{lt-ltb, le-ltb}
use Rattle.std.proofs.lemmas.Fmt.{AppendsLastDigit, decimal_from_appends, length-decimal-le}
use Rattle.std.specs.Fmt.{decimal}
use Rattle.lines.specs.Text.{digits_of, decimal_of}

appends : AppendsLastDigit digits_of
unfolding digits_of
appends = record { one = λ k n h. rw (lt-ltb n 10 h); more = λ k n h. rw (le-ltb n 10 h) }

pub decimal_is : (n : ℕ) → n < 2 ^ 64 → decimal n ≡ decimal_of n
unfolding decimal_of
decimal_is n h = sym (decimal_from_appends digits_of appends 20 n h (length-decimal-le 20 n (omega arith) (omega arith) h))

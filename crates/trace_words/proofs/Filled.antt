-- A room with the filler at its beginning.
use Rattle.std.proofs.Common.{ℕ, ◌-◌, ◌≤◌, ◌<◌, ◌≡◌, ◌++◌, List, ap, sym, arith, zero-add, length, take, drop}
use Rattle.std.proofs.Math.ListN.{replicate, length-replicate}
use Rattle.std.proofs.Math.Seq.{take_all}
use Rattle.qspi.proofs.Tests.{tests}
use Rattle.trace_words.specs.Loan.{filled_of}

pub too_short : (n : ℕ) (room : List ℕ) → length room < n → room ≡ filled_of n room
unfolding filled_of
too_short n room h = simp (length-replicate, tests)

pub filled_whole : (n : ℕ) (room : List ℕ) → n ≤ length room → replicate n 204 ++ drop n room ≡ filled_of n room
unfolding filled_of
filled_whole n room h =
    let k : 0 ≤ length room - n = omega arith in
    let whole : take n (replicate n 204) ≡ replicate n 204 = take_all n (replicate n 204) (simp length-replicate (omega arith)) in
    simp (length-replicate, tests, zero-add) (ap (λ (s : List ℕ). s ++ drop n room) (sym whole))

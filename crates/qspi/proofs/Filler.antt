-- A chunk of filler stays inside its place in the scratch.
use Prim.Native.Nat.{ℕ, ◌≤◌}
use native.Mathlib.Omega.{arith}
use mathlib.Core.Bool.{Bool, true, false}
use mathlib.Core.Path.{◌≡◌, refl}
use lib.Dec.{leb}
use borrow.Author.Tests.{leb-true}
use Rattle.qspi.specs.Choice.{pick}
use Rattle.qspi.specs.Bytes.{filler_length}

pub filler-most : (n : ℕ) → filler_length n ≤ 256
filler-most n = at (leb n 256) refl
  where
    at : (b : Bool) → leb n 256 ≡ b → pick b n 256 ≤ 256
    at true e = leb-true n 256 e
    at false e = omega arith

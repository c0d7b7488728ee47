-- The Rust's tests of a range, `at <= room && n <= room - at`, and its pieces, `(len - done).min(most)`.
use Rattle.std.proofs.Common.{◌≡◌, ℕ, ◌+◌, ◌-◌, ◌≤◌, ◌<◌, Bool, true, false, leb, refl, arith, leb-true, le-leb}
use Rattle.qspi.specs.Choice.{pick}
use Rattle.qspi.proofs.Cases.{by_order}
use Rattle.spi_flash.specs.Range.{range_in_bounds, piece_of}

-- ---- ranges

pub range-told : (room at n : ℕ) → range_in_bounds room at n ≡ true → at + n ≤ room
unfolding range_in_bounds
range-told room at n h = by (leb at room) refl h
  where
    by : (b : Bool) → leb at room ≡ b → pick b (leb n (room - at)) false ≡ true → at + n ≤ room
    by true e l = omega (arith, leb-true at room e, leb-true n (room - at) l)
    by false e l = let z : ◌≡◌ {A = ℕ} 0 1 = cc in omega arith

pub range-in : (room at n : ℕ) → at + n ≤ room → range_in_bounds room at n ≡ true
unfolding range_in_bounds
range-in room at n h = rw (le-leb at room (omega arith)) (le-leb n (room - at) (omega arith))

-- ---- pieces

-- a piece is all that is left, or as much as it may be
pub piece-cases : (G : ℕ → Type 0) (most len done : ℕ) → (len - done ≤ most → G (len - done)) → (most < len - done → G most) → G (piece_of most len done)
piece-cases G most len done all whole =
    by_order (len - done) most
    (λ l. let e : piece_of most len done ≡ len - done = omega arith in rw e (all l))
    (λ l. let e : piece_of most len done ≡ most = omega arith in rw e (whole l))

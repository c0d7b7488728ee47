-- The Rust's loops `while done < len { .. }`, transcribed by fuel: their equation without fuel, and sums over their turns.
use Prim.Native.Nat.{ℕ, zero, suc, ◌-◌, ◌*◌, ◌≤◌, ◌<◌}
use native.Mathlib.Omega.{arith}
use mathlib.Core.Path.{◌≡◌, refl}
use mathlib.Core.List.{List}
use lib.Dec.{ltb}
use borrow.Author.Tests.{ltb-true, ltb-false, lt-ltb, le-ltb}
use Rattle.qspi.proofs.Cases.{by_cases}
use Rattle.qspi.specs.declared.transfer.Transfer.{Transfer}
use Rattle.std.specs.Prelude.{if◌then◌else◌}
use Rattle.spi_flash.specs.Prog.{Prog, ret, ◌>>◌}
use Rattle.spi_flash.specs.Path.{Bounded, Ends}
use Rattle.spi_flash.proofs.Laws.{bounded-more, bounded-ret, bounded-then, ends-ret, ends-then, ends-eq}

abbrev Nothing : Type 0
Nothing = Unit {0}

-- `Turns k done`: from `done` on there are at most k turns
pub record Counts (len : ℕ) (next : ℕ → ℕ) (Turns : ℕ → ℕ → Type 0) : Type 0 where
  pub none : (done : ℕ) → Turns 0 done → len ≤ done
  pub fewer : (k done : ℕ) → done < len → Turns (suc k) done → Turns k (next done)

module _ (len : ℕ) {A : Type 0} (body : ℕ → Prog A) (next : ℕ → ℕ) where
  -- a turn where something is left to do, and the rest behind it
  abbrev pub turn_of : (ℕ → Prog Nothing) → ℕ → Prog Nothing
  turn_of rest done = if ltb done len then (body done >> rest (next done)) else ret tt

  -- a loop by fuel; what stands behind a turn counts only where the turn has gone on
  pub record Fuelled (loop : ℕ → ℕ → Prog Nothing) : Type 0 where
    pub stops : (done : ℕ) → loop zero done ≡ ret tt
    pub turns : (fuel done : ℕ) → loop (suc fuel) done ≡ turn_of (loop fuel) done
    pub goes : (done : ℕ) → done < len → (p q : Prog Nothing) → (done < next done → p ≡ q) → (body done >> p) ≡ (body done >> q)

  module _ (loop : ℕ → ℕ → Prog Nothing) (fuelled : Fuelled loop) where
    -- any fuel not below what is left gives the same loop
    any_fuel : (n m done : ℕ) → len - done ≤ n → len - done ≤ m → loop n done ≡ loop m done
    any_fuel zero zero done a b = refl
    any_fuel zero (suc m) done a b = rw (fuelled.stops done, fuelled.turns m done, le-ltb done len (omega arith))
    any_fuel (suc n) zero done a b = rw (fuelled.stops done, fuelled.turns n done, le-ltb done len (omega arith))
    any_fuel (suc n) (suc m) done a b =
        rw (fuelled.turns n done, fuelled.turns m done)
        (by_cases (ltb done len)
        (λ e. let below = ltb-true done len e in
        rw e (fuelled.goes done below (loop n (next done)) (loop m (next done)) (λ on. any_fuel n m (next done) (omega arith) (omega arith))))
        (λ e. rw e))

    with-fuel : (fuel done : ℕ) → fuel ≡ len - done → loop fuel done ≡ turn_of (λ d. loop (len - d) d) done
    with-fuel zero done z = rw (fuelled.stops done, le-ltb done len (omega arith))
    with-fuel (suc fuel) done z =
        rw (fuelled.turns fuel done, lt-ltb done len (omega arith))
        (fuelled.goes done (omega arith) (loop fuel (next done)) (loop (len - next done) (next done))
        (λ on. any_fuel fuel (len - next done) (next done) (omega arith) (omega arith)))

    -- with what is left for fuel, the loop satisfies the Rust's equation
    pub without-fuel : (done : ℕ) → loop (len - done) done ≡ turn_of (λ d. loop (len - d) d) done
    without-fuel done = with-fuel (len - done) done refl

  -- ---- sums over the turns

  module _ (loop : ℕ → Prog Nothing) (loops : (done : ℕ) → loop done ≡ turn_of loop done) {Turns : ℕ → ℕ → Type 0} (counts : Counts len next Turns) {w : Transfer → ℕ} {n : ℕ} where
    pub bounded-loop : ((done : ℕ) → Bounded w n (body done)) → (k done : ℕ) → Turns k done → Bounded w (k * n) (loop done)
    bounded-loop each zero done t = rw (loops done, le-ltb done len (counts.none done t)) bounded-ret
    bounded-loop each (suc k) done t =
        rw (loops done)
        (by_cases (ltb done len)
        (λ e. rw e (bounded-more (omega arith) (bounded-then (each done) (bounded-loop each k (next done) (counts.fewer k done (ltb-true done len e) t)))))
        (λ e. rw e bounded-ret))

    -- there are exactly k turns, or a turn adds nothing
    pub ends-loop : {given : List ℕ} → ((k done : ℕ) → len ≤ done → Turns k done → k * n ≡ 0) →
        ((k done : ℕ) → done < len → Turns (suc k) done → (a : A) × Ends given w n a (body done)) →
        (k done : ℕ) → Turns k done → Ends given w (k * n) tt (loop done)
    ends-loop spare each zero done t = rw (loops done, le-ltb done len (counts.none done t)) (ends-eq (omega arith) ends-ret)
    ends-loop spare each (suc k) done t =
        rw (loops done)
        (by_cases (ltb done len)
        (λ e. let below = ltb-true done len e in
        rw e (ends-eq (omega arith) (ends-then (each k done below t).1 (ends-loop spare each k (next done) (counts.fewer k done below t)))))
        (λ e. rw e (ends-eq (omega (arith, spare (suc k) done (ltb-false done len e) t)) ends-ret)))

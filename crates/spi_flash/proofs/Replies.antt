-- Replies that fit and give a value: a number's bytes, any bytes for the buffer, the caller's own bytes for a comparison.
use Prim.Native.Nat.{ℕ, zero, suc, ◌+◌, ◌≤◌, ◌<◌}
use native.Mathlib.Omega.{arith}
use mathlib.Core.Bool.{true}
use mathlib.Core.Path.{◌≡◌, refl}
use mathlib.Core.List.{List, [], ◌∷◌}
use lib.Dec.{lit<}
use lib.ListN.{length, take, drop, replicate, length-drop, length-replicate}
use lib.Seq.{length-take-le}
use borrow.Author.Tests.{eq-eqb}
use Rattle.qspi.specs.Bytes.{AllBytes, number_from, begins_of}
use Rattle.qspi.specs.declared.transfer.Sink.{Sink}
use Rattle.spi_flash.specs.Path.{Answers}

zeros-small : (n : ℕ) → AllBytes (replicate n 0)
zeros-small zero = tt
zeros-small (suc n) = (lit< tt, zeros-small n)

zeros-number : (n : ℕ) → number_from 0 (replicate n 0) ≡ 0
zeros-number zero = refl
zeros-number (suc n) = zeros-number n

take-small : (n : ℕ) (bs : List ℕ) → AllBytes bs → AllBytes (take n bs)
take-small zero bs h = tt
take-small (suc n) [] h = tt
take-small (suc n) (b ∷ bs) h = (h.0, take-small n bs h.1)

drop-small : (n : ℕ) (bs : List ℕ) → AllBytes bs → AllBytes (drop n bs)
drop-small zero bs h = h
drop-small (suc n) [] h = tt
drop-small (suc n) (b ∷ bs) h = drop-small n bs h.1

begins : (n : ℕ) (bs : List ℕ) → begins_of (take n bs) bs ≡ true
begins zero bs = refl
begins (suc n) [] = refl
begins (suc n) (b ∷ bs) = rw (eq-eqb b b refl) (begins n bs)

module _ (given : List ℕ) where
  -- a status byte
  pub byte : (b : ℕ) → b < 256 → Answers given 1 Sink.Number b
  byte b h = record { bytes = b ∷ []; size = refl; small = (h, tt); value = omega arith }

  -- an id that is 0
  pub zeros : (n : ℕ) → Answers given n Sink.Number 0
  zeros n = record { bytes = replicate n 0; size = length-replicate n 0; small = zeros-small n; value = zeros-number n }

  pub delivery : (n at : ℕ) → Answers given n (Sink.Buffer at) 0
  delivery n at = record { bytes = replicate n 0; size = length-replicate n 0; small = zeros-small n; value = refl }

  -- a read-back of what was programmed
  pub same_bytes : (n from : ℕ) → AllBytes given → from + n ≤ length given → Answers given n (Sink.Compare from) 1
  same_bytes n from h l = record {
    bytes = take n (drop from given);
    size = length-take-le n (drop from given) (simp length-drop (omega arith));
    small = take-small n (drop from given) (drop-small from given h);
    value = rw (begins n (drop from given)) refl;
  }

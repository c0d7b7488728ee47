-- What a program gives out behind its commands, over all its paths.
use Prim.Native.Nat.{ℕ, ◌≤◌}
use native.Mathlib.Omega.{arith}
use mathlib.Core.Path.{◌≡◌, refl}
use mathlib.Core.List.{[], ◌∷◌}
use Rattle.qspi.specs.Bytes.{filler_length}
use Rattle.qspi.specs.declared.transfer.Payload.{Payload}
use Rattle.qspi.specs.declared.transfer.Body.{Body}
use Rattle.qspi.specs.declared.transfer.Transfer.{Transfer}
use Rattle.spi_flash.specs.Path.{Bounded}
use Rattle.spi_flash.specs.Prog.{Prog, ret, fail, ask, ◌>>=◌, ◌>>◌}
use Rattle.spi_flash.proofs.Unread.{none_first, none-later}
use Rattle.flash_runs.specs.Scratch.{filler, marker, Payloads, callers, stamps, AllOrNone}

-- the next of the payloads is this one, and the rest comes later
abbrev pub PaysBy : Payloads → Payload → (Payloads → Type 0) → Type 0
PaysBy callers (Payload.Data from len) later = later callers
PaysBy (stamps (filler n ∷ xs)) (Payload.Filler m) later = (filler_length m ≡ n) × later (stamps xs)
PaysBy (stamps (marker ∷ xs)) Payload.Marker later = later (stamps xs)
PaysBy _ _ later = ⊥

abbrev pub PaysIn : Payloads → Transfer → (Payloads → Type 0) → Type 0
PaysIn p (Transfer.Framed c (Body.Write payload)) later = PaysBy p payload later
PaysIn p (Transfer.Framed c (Body.QuadWrite payload)) later = PaysBy p payload later
PaysIn p _ later = later p

-- with all or none of it given out at a good end
abbrev pub Pays : {A : Type 0} (all : Payloads) → Payloads → Prog A → Type 0
Pays all p (ret a) = AllOrNone all p
Pays all p (fail e) = Unit {0}
Pays all p (ask t k) = PaysIn p t (λ q. (v : ℕ) → Pays all q (k v))

-- ---- as a weight of transfers

-- all that goes out behind a command; and what of it is not the caller's
abbrev pub payload_weight : Transfer → ℕ
payload_weight (Transfer.Framed c (Body.Write payload)) = 1
payload_weight (Transfer.Framed c (Body.QuadWrite payload)) = 1
payload_weight _ = 0

abbrev stamped : Payload → ℕ
stamped (Payload.Data from len) = 0
stamped (Payload.Filler n) = 1
stamped Payload.Marker = 1

abbrev pub stamp_weight : Transfer → ℕ
stamp_weight (Transfer.Framed c (Body.Write payload)) = stamped payload
stamp_weight (Transfer.Framed c (Body.QuadWrite payload)) = stamped payload
stamp_weight _ = 0

-- none of it is given out
pub none-given : (all : Payloads) → AllOrNone all all
none-given callers = refl
none-given (stamps []) = tt
none-given (stamps (x ∷ xs)) = refl

-- of a call that has all this to give out
module _ (all : Payloads) where
  -- a program that gives out nothing behind its commands, and what follows it
  pays-asked : {A : Type 0} (p : Payloads) (t : Transfer) (k : ℕ → Prog A) → payload_weight t ≤ 0 → ((v : ℕ) → Pays all p (k v)) → Pays all p (ask t k)
  pays-asked p Transfer.Raise k none later = later
  pays-asked p (Transfer.Pause us) k none later = later
  pays-asked p (Transfer.Framed c Body.None) k none later = later
  pays-asked p (Transfer.Framed c (Body.Read n sink)) k none later = later
  pays-asked p (Transfer.Framed c (Body.Write payload)) k none later = absurd (omega arith)
  pays-asked p (Transfer.Framed c (Body.QuadRead tclqv margin n sink)) k none later = later
  pays-asked p (Transfer.Framed c (Body.QuadWrite payload)) k none later = absurd (omega arith)

  pub pays-none : {A : Type 0} (p : Payloads) (x : Prog A) → AllOrNone all p → Bounded payload_weight 0 x → Pays all p x
  pays-none p (ret a) e h = e
  pays-none p (fail error) e h = tt
  pays-none p (ask t k) e h = pays-asked p t k (none_first t k h) (λ v. pays-none p (k v) e (none-later t k h v))

  pub pays-bind : {A B : Type 0} (p : Payloads) (x : Prog A) (f : A → Prog B) → Bounded payload_weight 0 x → ((a : A) → Pays all p (f a)) → Pays all p (x >>= f)
  unfolding ◌>>=◌
  pays-bind p (ret a) f h later = later a
  pays-bind p (fail e) f h later = tt
  pays-bind p (ask t k) f h later = pays-asked p t (λ v. k v >>= f) (none_first t k h) (λ v. pays-bind p (k v) f (none-later t k h v) later)

  pub pays-then : {A B : Type 0} (p : Payloads) (x : Prog A) (y : Prog B) → Bounded payload_weight 0 x → Pays all p y → Pays all p (x >> y)
  unfolding ◌>>◌
  pays-then p x y h later = pays-bind p x (λ a. y) h (λ a. later)

-- a program that gives out the caller's data alone
pays-data : {A : Type 0} (t : Transfer) (k : ℕ → Prog A) → stamp_weight t ≤ 0 → ((v : ℕ) → Pays callers callers (k v)) → Pays callers callers (ask t k)
pays-data Transfer.Raise k none later = later
pays-data (Transfer.Pause us) k none later = later
pays-data (Transfer.Framed c Body.None) k none later = later
pays-data (Transfer.Framed c (Body.Read n sink)) k none later = later
pays-data (Transfer.Framed c (Body.Write (Payload.Data from len))) k none later = later
pays-data (Transfer.Framed c (Body.Write (Payload.Filler n))) k none later = absurd (omega arith)
pays-data (Transfer.Framed c (Body.Write Payload.Marker)) k none later = absurd (omega arith)
pays-data (Transfer.Framed c (Body.QuadRead tclqv margin n sink)) k none later = later
pays-data (Transfer.Framed c (Body.QuadWrite (Payload.Data from len))) k none later = later
pays-data (Transfer.Framed c (Body.QuadWrite (Payload.Filler n))) k none later = absurd (omega arith)
pays-data (Transfer.Framed c (Body.QuadWrite Payload.Marker)) k none later = absurd (omega arith)

pub pays-callers : {A : Type 0} (x : Prog A) → Bounded stamp_weight 0 x → Pays callers callers x
pays-callers (ret a) h = refl
pays-callers (fail e) h = tt
pays-callers (ask t k) h = pays-data t k (none_first t k h) (λ v. pays-callers (k v) (none-later t k h v))

-- ---- what a part of a program gives out

pays-later : {P Q : Payloads → Type 0} → ((q : Payloads) → P q → Q q) → (p : Payloads) (payload : Payload) → PaysBy p payload P → PaysBy p payload Q
pays-later f callers (Payload.Data from len) h = f callers h
pays-later f callers (Payload.Filler n) h = absurd h
pays-later f callers Payload.Marker h = absurd h
pays-later f (stamps []) payload h = absurd h
pays-later f (stamps (filler n ∷ xs)) (Payload.Data from len) h = absurd h
pays-later f (stamps (filler n ∷ xs)) (Payload.Filler m) h = (h.0, f (stamps xs) h.1)
pays-later f (stamps (filler n ∷ xs)) Payload.Marker h = absurd h
pays-later f (stamps (marker ∷ xs)) (Payload.Data from len) h = absurd h
pays-later f (stamps (marker ∷ xs)) (Payload.Filler m) h = absurd h
pays-later f (stamps (marker ∷ xs)) Payload.Marker h = f (stamps xs) h

pays-in-later : {P Q : Payloads → Type 0} → ((q : Payloads) → P q → Q q) → (p : Payloads) (t : Transfer) → PaysIn p t P → PaysIn p t Q
pays-in-later f p Transfer.Raise h = f p h
pays-in-later f p (Transfer.Pause us) h = f p h
pays-in-later f p (Transfer.Framed c Body.None) h = f p h
pays-in-later f p (Transfer.Framed c (Body.Read n sink)) h = f p h
pays-in-later f p (Transfer.Framed c (Body.Write payload)) h = pays-later f p payload h
pays-in-later f p (Transfer.Framed c (Body.QuadRead tclqv margin n sink)) h = f p h
pays-in-later f p (Transfer.Framed c (Body.QuadWrite payload)) h = pays-later f p payload h

pub pays-ended : {A B : Type 0} (all p : Payloads) (x : Prog A) (b : B) → Pays all p x → Pays all p (x >> ret b)
unfolding ◌>>=◌ ◌>>◌
pays-ended all p (ret a) b h = h
pays-ended all p (fail e) b h = tt
pays-ended all p (ask t k) b h = pays-in-later (λ q later v. pays-ended all q (k v) b (later v)) p t h

-- from p down to q, where it comes to its end
abbrev pub Spends : {A : Type 0} → Payloads → Payloads → Prog A → Type 0
Spends p q (ret a) = p ≡ q
Spends p q (fail e) = Unit {0}
Spends p q (ask t k) = PaysIn p t (λ r. (v : ℕ) → Spends r q (k v))

pub pays-spent : {A B : Type 0} (all p q : Payloads) (x : Prog A) (y : Prog B) → Spends p q x → Pays all q y → Pays all p (x >> y)
unfolding ◌>>=◌ ◌>>◌
pays-spent all p q (ret a) y h later = rw h later
pays-spent all p q (fail e) y h later = tt
pays-spent all p q (ask t k) y h later = pays-in-later (λ r rest v. pays-spent all r q (k v) y (rest v) later) p t h

pub spends-then : {A B : Type 0} (p q r : Payloads) (x : Prog A) (y : Prog B) → Spends p q x → Spends q r y → Spends p r (x >> y)
unfolding ◌>>=◌ ◌>>◌
spends-then p q r (ret a) y h later = rw h later
spends-then p q r (fail e) y h later = tt
spends-then p q r (ask t k) y h later = pays-in-later (λ i rest v. spends-then i q r (k v) y (rest v) later) p t h

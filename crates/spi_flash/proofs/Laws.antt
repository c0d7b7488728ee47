-- The laws of paths: what holds of a program's parts holds of the program.
use Prim.Native.Nat.{ℕ, ◌+◌, ◌≤◌}
use native.Mathlib.Omega.{arith}
use native.Mathlib.Nat.{add_assoc, zero-add}
use mathlib.Core.Path.{◌≡◌, refl, ap, sym, subst, ◌∙◌, fun_ext}
use mathlib.Core.List.{List, [], ◌∷◌, ◌++◌}
use mathlib.Core.Bool.{Bool, true, false}
use Rattle.qspi.specs.declared.transfer.Transfer.{Transfer}
use Rattle.spi_flash.specs.declared.error.FlashError.{FlashError}
use Rattle.std.specs.Prelude.{if◌then◌else◌, Ok, Err}
use Rattle.spi_flash.specs.Prog.{Prog, ret, fail, ask, ◌>>=◌, ◌>>◌, refuse, transfer}
use Rattle.spi_flash.specs.Path.{Past, back, End, going, done, failed, spent, asked, Every, Some, Well, Fits, Bounded, Ends}
use Rattle.spi_flash.proofs.Paths.{IfWell, Reaches, AtLeast, Never}

-- ---- programs

pub bind_assoc : {A B C : Type 0} (p : Prog A) (f : A → Prog B) (g : B → Prog C) → (p >>= f) >>= g ≡ p >>= (λ a. f a >>= g)
unfolding ◌>>=◌
bind_assoc (ret a) f g = refl
bind_assoc (fail e) f g = refl
bind_assoc (ask t k) f g = ap (ask t) (fun_ext (λ v. bind_assoc (k v) f g))

pub then-assoc : {A B C : Type 0} (p : Prog A) (q : Prog B) (r : Prog C) → (p >> q >> r) ≡ (p >> (q >> r))
unfolding ◌>>◌
then-assoc p q r = bind_assoc p (λ _. q) (λ _. r)

-- ---- every path

pub every-all : {A : Type 0} (p : Prog A) (Q : List Past → End A → Type 0) → ((xs : List Past) (e : End A) → Q xs e) → Every p Q
every-all (ret a) Q f = f [] (done a)
every-all (fail e) Q f = f [] (failed e)
every-all (ask t k) Q f =
    (f [] (going t), (λ error. f (back t (Err error) ∷ []) (failed (FlashError.Spi error.0))), (λ v. every-all (k v) (λ xs e. Q (back t (Ok v) ∷ xs) e) (λ xs e. f (back t (Ok v) ∷ xs) e)))

pub every-mono : {A : Type 0} (p : Prog A) {P Q : List Past → End A → Type 0} → ((xs : List Past) (e : End A) → P xs e → Q xs e) → Every p P → Every p Q
every-mono (ret a) f h = f [] (done a) h
every-mono (fail e) f h = f [] (failed e) h
every-mono (ask t k) f h =
    (f [] (going t) h.0, (λ error. f (back t (Err error) ∷ []) (failed (FlashError.Spi error.0)) (h.1 error)), (λ v. every-mono (k v) (λ xs e. f (back t (Ok v) ∷ xs) e) (h.2 v)))

pub every-both : {A : Type 0} (p : Prog A) (P Q : List Past → End A → Type 0) → Every p P → Every p Q → Every p (λ xs e. P xs e × Q xs e)
every-both (ret a) P Q h k = (h, k)
every-both (fail e) P Q h k = (h, k)
every-both (ask t k) P Q h l =
    ((h.0, l.0), (λ c. (h.1 c, l.1 c)), (λ v. every-both (k v) (λ xs e. P (back t (Ok v) ∷ xs) e) (λ xs e. Q (back t (Ok v) ∷ xs) e) (h.2 v) (l.2 v)))

-- the statement after `p`, carried over what follows it
pub every_bind : {A B : Type 0} (p : Prog A) (f : A → Prog B) (P : List Past → End A → Type 0) (Q : List Past → End B → Type 0) →
    Every p P →
    ((xs : List Past) (t : Transfer) → P xs (going t) → Q xs (going t)) →
    ((xs : List Past) (e : FlashError) → P xs (failed e) → Q xs (failed e)) →
    ((xs : List Past) (a : A) → P xs (done a) → Every (f a) (λ ys e. Q (xs ++ ys) e)) →
    Every (p >>= f) Q
unfolding ◌>>=◌
every_bind (ret a) f P Q h g l d = d [] a h
every_bind (fail e) f P Q h g l d = l [] e h
every_bind (ask t k) f P Q h g l d = (
  g [] t h.0,
  (λ error. l (back t (Err error) ∷ []) (FlashError.Spi error.0) (h.1 error)),
  (λ v. every_bind (k v) f (λ xs e. P (back t (Ok v) ∷ xs) e) (λ xs e. Q (back t (Ok v) ∷ xs) e) (h.2 v)
      (λ xs u. g (back t (Ok v) ∷ xs) u) (λ xs e. l (back t (Ok v) ∷ xs) e) (λ xs a. d (back t (Ok v) ∷ xs) a)),
)

-- ---- some path

pub some_mono : {A : Type 0} (g : List ℕ) (p : Prog A) {P Q : List Past → End A → Type 0} → ((xs : List Past) (e : End A) → P xs e → Q xs e) → Some g p P → Some g p Q
some_mono g (ret a) f h = f [] (done a) h
some_mono g (fail e) f h = f [] (failed e) h
some_mono g (ask t k) f h = (h.0, h.1, some_mono g (k h.0) (λ xs e. f (back t (Ok h.0) ∷ xs) e) h.2)

shift : {A : Type 0} (P : A → List Past → Type 0) (x : Past) (xs : List Past) (e : End A) → Well P (x ∷ xs) e → Well (λ a ys. P a (x ∷ ys)) xs e
shift P x xs (going t) h = h
shift P x xs (done a) h = h
shift P x xs (failed e) h = h

pub some-bind : {A B : Type 0} (g : List ℕ) (p : Prog A) (f : A → Prog B) (P : A → List Past → Type 0) (Q : List Past → End B → Type 0) →
    Some g p (Well P) →
    ((xs : List Past) (a : A) → P a xs → Some g (f a) (λ ys e. Q (xs ++ ys) e)) →
    Some g (p >>= f) Q
unfolding ◌>>=◌
some-bind g (ret a) f P Q h d = d [] a h
some-bind g (fail e) f P Q h d = absurd h
some-bind g (ask t k) f P Q h d =
    let x = back t (Ok h.0) in
    (h.0, h.1, some-bind g (k h.0) f (λ a xs. P a (x ∷ xs)) (λ xs e. Q (x ∷ xs) e) (some_mono g (k h.0) (shift P x) h.2) (λ xs a. d (x ∷ xs) a))

pub spent-append : (w : Transfer → ℕ) (xs ys : List Past) → spent w (xs ++ ys) ≡ spent w xs + spent w ys
spent-append w [] ys = sym (zero-add (spent w ys))
spent-append w (back t o ∷ xs) ys = ap (λ n. w t + n) (spent-append w xs ys) ∙ sym (add_assoc (w t) (spent w xs) (spent w ys))

-- ---- Bounded

pub bounded-more : {A : Type 0} {w : Transfer → ℕ} {p : Prog A} {b c : ℕ} → b ≤ c → Bounded w b p → Bounded w c p
bounded-more {p = p} l h = record { bound = every-mono p (λ xs e m. omega arith) h.bound }

pub bounded-ret : {A : Type 0} {w : Transfer → ℕ} {a : A} {b : ℕ} → Bounded w b (ret a)
bounded-ret = record { bound = omega arith }

pub bounded-fail : {A : Type 0} {w : Transfer → ℕ} {e : FlashError} {b : ℕ} → Bounded {A = A} w b (fail e)
bounded-fail = record { bound = omega arith }

pub bounded-ask : {A : Type 0} {w : Transfer → ℕ} {t : Transfer} {k : ℕ → Prog A} {b : ℕ} → ((v : ℕ) → Bounded w b (k v)) → Bounded w (w t + b) (ask t k)
bounded-ask {k = k} h = record { bound = (omega arith, (λ c. omega arith), (λ v. every-mono (k v) (λ xs e l. omega arith) (h v).bound)) }

pub bounded-bind : {A B : Type 0} {w : Transfer → ℕ} {p : Prog A} {f : A → Prog B} {b c : ℕ} → Bounded w b p → ((a : A) → Bounded w c (f a)) → Bounded w (b + c) (p >>= f)
bounded-bind {w = w} {p} {f} {b} {c} h k = record {
  bound = every_bind p f (λ xs e. asked w xs e ≤ b) (λ xs e. asked w xs e ≤ b + c) h.bound
      (λ xs t l. omega arith)
      (λ xs e l. omega arith)
      (λ xs a l. every-mono (f a) (λ ys e (m : asked w ys e ≤ c). simp spent-append (omega arith)) (k a).bound);
}

pub bounded-then : {A B : Type 0} {w : Transfer → ℕ} {p : Prog A} {q : Prog B} {b c : ℕ} → Bounded w b p → Bounded w c q → Bounded w (b + c) (p >> q)
unfolding ◌>>◌
bounded-then h k = bounded-bind h (λ a. k)

pub bounded-refuse : {w : Transfer → ℕ} (b : Bool) (e : FlashError) → Bounded w 0 (refuse b e)
unfolding refuse
bounded-refuse true e = bounded-fail
bounded-refuse false e = bounded-ret

pub bounded-if : {A : Type 0} {w : Transfer → ℕ} {n : ℕ} {p q : Prog A} (b : Bool) → Bounded w n p → Bounded w n q → Bounded w n (if b then p else q)
bounded-if true h k = h
bounded-if false h k = k

pub bounded-transfer : {w : Transfer → ℕ} {t : Transfer} → Bounded w (w t) (transfer t)
bounded-transfer = bounded-more (omega arith) (bounded-ask (λ v. bounded-ret {b = 0}))

-- what stands behind a refusal needs its bound only where the test lets it through
pub bounded-guard : {A : Type 0} {w : Transfer → ℕ} {n : ℕ} {p : Prog A} (b : Bool) (e : FlashError) → (b ≡ false → Bounded w n p) → Bounded w n (refuse b e >> p)
unfolding refuse ◌>>◌ ◌>>=◌
bounded-guard true e h = bounded-fail
bounded-guard false e h = h refl

-- the answer adds nothing
pub answered : {A B : Type 0} {w : Transfer → ℕ} {p : Prog A} {n m : ℕ} (f : A → B) → n ≤ m → Bounded w n p → Bounded w m (p >>= (λ a. ret (f a)))
answered f l h = bounded-more (omega arith) (bounded-bind {c = 0} h (λ a. bounded-ret))

pub ended : {A B : Type 0} {w : Transfer → ℕ} {p : Prog A} {n m : ℕ} (a : B) → n ≤ m → Bounded w n p → Bounded w m (p >> ret a)
ended a l h = bounded-more (omega arith) (bounded-then {c = 0} h bounded-ret)

-- ---- Ends and Reaches, on the caller's data

pub ends-ret : {A : Type 0} {g : List ℕ} {w : Transfer → ℕ} {a : A} → Ends g w 0 a (ret a)
ends-ret = record { ends = (refl, refl) }

ends_more : {A : Type 0} (w : Transfer → ℕ) (a : A) (b : ℕ) (t : Transfer) (v : ℕ) (xs : List Past) (e : End A) → Well (λ x ys. (x ≡ a) × (spent w ys ≡ b)) xs e → Well (λ x ys. (x ≡ a) × (spent w ys ≡ w t + b)) (back t (Ok v) ∷ xs) e
ends_more w a b t v xs (going u) m = m
ends_more w a b t v xs (done x) m = (m.0, omega arith)
ends_more w a b t v xs (failed e) m = m

pub ends-ask : {A : Type 0} {g : List ℕ} {w : Transfer → ℕ} {t : Transfer} (k : ℕ → Prog A) {b : ℕ} {a : A} (v : ℕ) → Fits g t v → Ends g w b a (k v) → Ends g w (w t + b) a (ask t k)
ends-ask {g = g} {w} {t} k {b} {a} v h l = record { ends = (v, h, some_mono g (k v) (ends_more w a b t v) l.ends) }

pub reaches-ask : {A : Type 0} {g : List ℕ} {w : Transfer → ℕ} {t : Transfer} (k : ℕ → Prog A) {b : ℕ} (v : ℕ) → Fits g t v → Reaches g w b (k v) → Reaches g w (w t + b) (ask t k)
reaches-ask {g = g} k v h l = record { reach = (v, h, some_mono g (k v) (λ xs e m. omega arith) l.reach) }

at-end : {A : Type 0} (w : Transfer → ℕ) (a : A) (b : ℕ) (xs : List Past) (e : End A) → Well (λ x ys. (x ≡ a) × (spent w ys ≡ b)) xs e → asked w xs e ≡ b
at-end w a b xs (going t) m = absurd m
at-end w a b xs (done x) m = omega arith
at-end w a b xs (failed e) m = absurd m

pub ends-reaches : {A : Type 0} {g : List ℕ} {w : Transfer → ℕ} {p : Prog A} {b : ℕ} {a : A} → Ends g w b a p → Reaches g w b p
ends-reaches {g = g} {w} {p} {b} {a} h = record { reach = some_mono g p (at-end w a b) h.ends }

ends_next : {B : Type 0} (w : Transfer → ℕ) (b c : ℕ) (d : B) (xs : List Past) → spent w xs ≡ b → (ys : List Past) (e : End B) → Well (λ x zs. (x ≡ d) × (spent w zs ≡ c)) ys e → Well (λ x zs. (x ≡ d) × (spent w zs ≡ b + c)) (xs ++ ys) e
ends_next w b c d xs l ys (going t) m = m
ends_next w b c d xs l ys (done x) m = (m.0, simp spent-append (omega arith))
ends_next w b c d xs l ys (failed e) m = m

pub ends-bind : {A B : Type 0} {g : List ℕ} {w : Transfer → ℕ} {p : Prog A} (f : A → Prog B) {b c : ℕ} {a : A} {d : B} → Ends g w b a p → Ends g w c d (f a) → Ends g w (b + c) d (p >>= f)
ends-bind {g = g} {w} {p} f {b} {c} {a} {d} h k = record {
  ends = some-bind g p f (λ x xs. (x ≡ a) × (spent w xs ≡ b)) (Well (λ x xs. (x ≡ d) × (spent w xs ≡ b + c))) h.ends
      (λ xs x m. rw m.0 (some_mono g (f a) (ends_next w b c d xs m.1) k.ends));
}

pub reaches-bind : {A B : Type 0} {g : List ℕ} {w : Transfer → ℕ} {p : Prog A} (f : A → Prog B) {b c : ℕ} {a : A} → Ends g w b a p → Reaches g w c (f a) → Reaches g w (b + c) (p >>= f)
reaches-bind {g = g} {w} {p} f {b} {c} {a} h k = record {
  reach = some-bind g p f (λ x xs. (x ≡ a) × (spent w xs ≡ b)) (λ xs e. asked w xs e ≡ b + c) h.ends
      (λ xs x m. rw m.0 (some_mono g (f a) (λ ys e (l : asked w ys e ≡ c). simp spent-append (omega arith)) k.reach));
}

pub ends-then : {A B : Type 0} {g : List ℕ} {w : Transfer → ℕ} {p : Prog A} {q : Prog B} {b c : ℕ} {a : A} {d : B} → Ends g w b a p → Ends g w c d q → Ends g w (b + c) d (p >> q)
unfolding ◌>>◌
ends-then {q = q} h k = ends-bind (λ _. q) h k

pub reaches_then : {A B : Type 0} {g : List ℕ} {w : Transfer → ℕ} {p : Prog A} {q : Prog B} {b c : ℕ} {a : A} → Ends g w b a p → Reaches g w c q → Reaches g w (b + c) (p >> q)
unfolding ◌>>◌
reaches_then {q = q} h k = reaches-bind (λ _. q) h k

pub reaches-fail : {A : Type 0} {g : List ℕ} {w : Transfer → ℕ} {e : FlashError} → Reaches {A = A} g w 0 (fail e)
reaches-fail = record { reach = refl }

pub ends-eq : {A : Type 0} {g : List ℕ} {w : Transfer → ℕ} {p : Prog A} {a : A} {b c : ℕ} → b ≡ c → Ends g w b a p → Ends g w c a p
ends-eq {g = g} {w} {p} {a} e h = subst (λ n. Ends g w n a p) e h

pub reaches-eq : {A : Type 0} {g : List ℕ} {w : Transfer → ℕ} {p : Prog A} {b c : ℕ} → b ≡ c → Reaches g w b p → Reaches g w c p
reaches-eq {g = g} {w} {p} e h = subst (λ n. Reaches g w n p) e h

pub ends-transfer : {g : List ℕ} {w : Transfer → ℕ} {t : Transfer} (v : ℕ) → Fits g t v → Ends g w (w t) v (transfer t)
ends-transfer v h = ends-eq (omega arith) (ends-ask ret v h ends-ret)

pub ends-refuse : {g : List ℕ} {w : Transfer → ℕ} (c : Bool) (e : FlashError) → c ≡ false → Ends g w 0 tt (refuse c e)
unfolding refuse
ends-refuse c e h = rw h ends-ret

-- a test that lets the call through adds nothing
pub ends-guard : {A : Type 0} {g : List ℕ} {w : Transfer → ℕ} {n : ℕ} {a : A} {p : Prog A} (b : Bool) (e : FlashError) → b ≡ false → Ends g w n a p → Ends g w n a (refuse b e >> p)
unfolding refuse ◌>>◌ ◌>>=◌
ends-guard b e h l = rw h l

-- ---- AtLeast: what holds of the good ends alone

pub if-well-mono : {A : Type 0} (p : Prog A) (P Q : A → List Past → Type 0) → ((a : A) (xs : List Past) → P a xs → Q a xs) → Every p (IfWell P) → Every p (IfWell Q)
if-well-mono {A} p P Q f h = every-mono p at h
  where
    at : (xs : List Past) (e : End A) → IfWell P xs e → IfWell Q xs e
    at xs (going t) m = tt
    at xs (done a) m = f a xs m
    at xs (failed e) m = tt

pub if-well-bind : {A B : Type 0} (p : Prog A) (f : A → Prog B) (P : A → List Past → Type 0) (Q : B → List Past → Type 0) →
    Every p (IfWell P) → ((xs : List Past) (a : A) → P a xs → Every (f a) (IfWell (λ b ys. Q b (xs ++ ys)))) → Every (p >>= f) (IfWell Q)
if-well-bind {A} {B} p f P Q h k = every_bind p f (IfWell P) (IfWell Q) h (λ xs t m. tt) (λ xs e m. tt) (λ xs a m. every-mono (f a) (at xs) (k xs a m))
  where
    at : (xs ys : List Past) (e : End B) → IfWell (λ b zs. Q b (xs ++ zs)) ys e → IfWell Q (xs ++ ys) e
    at xs ys (going t) m = tt
    at xs ys (done a) m = m
    at xs ys (failed e) m = tt

pub if-well-all : {A : Type 0} (p : Prog A) (P : A → List Past → Type 0) → ((a : A) (xs : List Past) → P a xs) → Every p (IfWell P)
if-well-all {A} p P f = every-all p (IfWell P) at
  where
    at : (xs : List Past) (e : End A) → IfWell P xs e
    at xs (going t) = tt
    at xs (done a) = f a xs
    at xs (failed e) = tt

pub at-least-zero : {A : Type 0} {w : Transfer → ℕ} {p : Prog A} → AtLeast w 0 p
at-least-zero {p = p} = record { least = if-well-all p _ (λ a xs. omega arith) }

pub at-least-fail : {A : Type 0} {w : Transfer → ℕ} {b : ℕ} {e : FlashError} → AtLeast {A = A} w b (fail e)
at-least-fail = record { least = tt }

pub at-least-bind : {A B : Type 0} {w : Transfer → ℕ} {p : Prog A} {f : A → Prog B} {b c : ℕ} → AtLeast w b p → ((a : A) → AtLeast w c (f a)) → AtLeast w (b + c) (p >>= f)
at-least-bind {w = w} {p} {f} {b} {c} h k = record {
  least = if-well-bind p f (λ a xs. b ≤ spent w xs) (λ a xs. b + c ≤ spent w xs) h.least
      (λ xs a l. if-well-mono (f a) (λ x ys. c ≤ spent w ys) (λ x ys. b + c ≤ spent w (xs ++ ys)) (λ x ys m. simp spent-append (omega arith)) (k a).least);
}

pub at-least-then : {A B : Type 0} {w : Transfer → ℕ} {p : Prog A} {q : Prog B} {b c : ℕ} → AtLeast w b p → AtLeast w c q → AtLeast w (b + c) (p >> q)
unfolding ◌>>◌
at-least-then h k = at-least-bind h (λ a. k)

pub at-least-transfer : {w : Transfer → ℕ} {t : Transfer} → AtLeast w (w t) (transfer t)
at-least-transfer = record { least = (tt, (λ c. tt), (λ v. omega arith)) }

pub at-least-eq : {A : Type 0} {w : Transfer → ℕ} {p : Prog A} {b c : ℕ} → b ≡ c → AtLeast w b p → AtLeast w c p
at-least-eq {w = w} {p} e h = subst (λ n. AtLeast w n p) e h

-- ---- Never: what never ends well is not gone on from

pub bounded-never : {A B : Type 0} {w : Transfer → ℕ} {p : Prog A} (f : A → Prog B) {b : ℕ} → Never p → Bounded w b p → Bounded w b (p >>= f)
bounded-never {w = w} {p} f {b} n h = record {
  bound = every_bind p f (λ xs e. IfWell (λ a ys. ⊥) xs e × (asked w xs e ≤ b)) (λ xs e. asked w xs e ≤ b) (every-both p (IfWell (λ a ys. ⊥)) (λ xs e. asked w xs e ≤ b) n.never h.bound)
      (λ xs t l. l.1)
      (λ xs e l. l.1)
      (λ xs a l. absurd l.0);
}

pub never-fail : {A : Type 0} {e : FlashError} → Never {A = A} (fail e)
never-fail = record { never = tt }

pub never-left : {A B : Type 0} {p : Prog A} (f : A → Prog B) → Never p → Never (p >>= f)
never-left {p = p} f n = record { never = if-well-bind p f (λ a xs. ⊥) (λ a xs. ⊥) n.never (λ xs a l. absurd l) }

pub never-right : {A B : Type 0} (p : Prog A) {f : A → Prog B} → ((a : A) → Never (f a)) → Never (p >>= f)
never-right p {f} n = record { never = if-well-bind p f (λ a xs. Unit {0}) (λ a xs. ⊥) (if-well-all p (λ a xs. Unit {0}) (λ a xs. tt)) (λ xs a l. (n a).never) }

pub never-then : {A B : Type 0} (p : Prog A) {q : Prog B} → Never q → Never (p >> q)
unfolding ◌>>◌
never-then p n = never-right p (λ a. n)

-- a test that turns the call away
pub never-refused : {A : Type 0} (p : Prog A) (b : Bool) (e : FlashError) → b ≡ true → Never (refuse b e >> p)
unfolding refuse ◌>>◌ ◌>>=◌
never-refused p b e h = rw h never-fail

pub reaches-refused : {A : Type 0} {g : List ℕ} {w : Transfer → ℕ} (p : Prog A) (b : Bool) (e : FlashError) → b ≡ true → Reaches g w 0 (refuse b e >> p)
unfolding refuse ◌>>◌ ◌>>=◌
reaches-refused p b e h = rw h reaches-fail

some-never : {A B : Type 0} (g : List ℕ) (p : Prog A) (f : A → Prog B) (N P : List Past → End A → Type 0) (Q : List Past → End B → Type 0) →
    ((xs : List Past) (a : A) → N xs (done a) → ⊥) →
    ((xs : List Past) (e : FlashError) → P xs (failed e) → Q xs (failed e)) →
    Every p N → Some g p P → Some g (p >>= f) Q
unfolding ◌>>=◌
some-never g (ret a) f N P Q n l h m = absurd (n [] a h)
some-never g (fail e) f N P Q n l h m = l [] e m
some-never g (ask t k) f N P Q n l h m =
    let x = back t (Ok m.0) in
    (m.0, m.1, some-never g (k m.0) f (λ xs e. N (x ∷ xs) e) (λ xs e. P (x ∷ xs) e) (λ xs e. Q (x ∷ xs) e) (λ xs a. n (x ∷ xs) a) (λ xs e. l (x ∷ xs) e) (h.2 m.0) m.2)

pub reaches-never : {A B : Type 0} {g : List ℕ} {w : Transfer → ℕ} {p : Prog A} (f : A → Prog B) {b : ℕ} → Never p → Reaches g w b p → Reaches g w b (p >>= f)
reaches-never {g = g} {w} {p} f {b} n h = record {
  reach = some-never g p f (IfWell (λ a xs. ⊥)) (λ xs e. asked w xs e ≡ b) (λ xs e. asked w xs e ≡ b) (λ xs a m. m) (λ xs e m. omega arith) n.never h.reach;
}

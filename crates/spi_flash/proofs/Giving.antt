-- What a program gives out, in order: a beginning of one list, and all of it at a good end.
use mathlib.Core.Bool.{Bool, true, false}
use mathlib.Core.Path.{◌≡◌, refl, ap, sym, ◌∙◌, subst}
use mathlib.Core.List.{List, [], ◌∷◌, ◌++◌, append_assoc, append-nil}
use Rattle.qspi.specs.declared.transfer.Transfer.{Transfer}
use Rattle.spi_flash.specs.declared.error.FlashError.{FlashError}
use Rattle.std.specs.Prelude.{if◌then◌else◌}
use Rattle.spi_flash.specs.Prog.{Prog, ret, fail, ◌>>=◌, ◌>>◌, refuse, transfer}
use Rattle.spi_flash.specs.Path.{Past, back, End, going, done, failed, Prefix}
use Rattle.spi_flash.proofs.Paths.{seen, Giving, Gives}
use Rattle.spi_flash.proofs.Laws.{every_bind, every-mono}

module _ {X : Type 0} where
  pub prefix-nil : (ys : List X) → Prefix [] ys
  prefix-nil ys = record { rest = ys; whole = refl }

  pub prefix-all : (ys : List X) → Prefix ys ys
  prefix-all ys = record { rest = []; whole = append-nil ys }

  pub prefix-on : (xs zs : List X) {ys : List X} → Prefix xs ys → Prefix xs (ys ++ zs)
  prefix-on xs zs h = record { rest = h.rest ++ zs; whole = sym (append_assoc xs h.rest zs) ∙ ap (λ l. l ++ zs) h.whole }

  pub prefix-after : (ws : List X) {xs ys : List X} → Prefix xs ys → Prefix (ws ++ xs) (ws ++ ys)
  prefix-after ws {xs} h = record { rest = h.rest; whole = append_assoc ws xs h.rest ∙ ap (λ l. ws ++ l) h.whole }

  pub seen-append : (f : Transfer → List X) (xs ys : List Past) → seen f (xs ++ ys) ≡ seen f xs ++ seen f ys
  seen-append f [] ys = refl
  seen-append f (back t o ∷ xs) ys = ap (λ l. f t ++ l) (seen-append f xs ys) ∙ sym (append_assoc (f t) (seen f xs) (seen f ys))

pub gives-ret : {X A : Type 0} {f : Transfer → List X} {a : A} → Gives f [] (ret a)
gives-ret = record { gives = refl }

pub gives-fail : {X A : Type 0} {f : Transfer → List X} {ys : List X} {e : FlashError} → Gives {A = A} f ys (fail e)
gives-fail {ys = ys} = record { gives = prefix-nil ys }

pub gives-transfer : {X : Type 0} {f : Transfer → List X} {t : Transfer} → Gives f (f t) (transfer t)
gives-transfer {f = f} {t} = record { gives = (prefix-all (f t), (λ c. rw append-nil (prefix-all (f t))), (λ v. append-nil (f t))) }

module _ {X A B : Type 0} (f : Transfer → List X) (p : Prog A) (k : A → Prog B) (ys zs : List X) where
  next : (xs : List Past) → seen f xs ≡ ys → (us : List Past) (e : End B) → Giving f zs us e → Giving f (ys ++ zs) (xs ++ us) e
  next xs h us (going t) m = rw (seen-append f xs us, h, append_assoc) (prefix-after ys m)
  next xs h us (done a) m = rw (seen-append f xs us, h, m)
  next xs h us (failed e) m = rw (seen-append f xs us, h) (prefix-after ys m)

  gives-bind' : Gives f ys p → ((a : A) → Gives f zs (k a)) → Gives f (ys ++ zs) (p >>= k)
  gives-bind' h l = record {
    gives = every_bind p k (Giving f ys) (Giving f (ys ++ zs)) h.gives
        (λ xs t m. prefix-on (seen f xs ++ f t) zs m)
        (λ xs e m. prefix-on (seen f xs) zs m)
        (λ xs a m. every-mono (k a) (next xs m) (l a).gives);
  }

pub gives-bind : {X A B : Type 0} {f : Transfer → List X} {p : Prog A} {k : A → Prog B} {ys zs : List X} → Gives f ys p → ((a : A) → Gives f zs (k a)) → Gives f (ys ++ zs) (p >>= k)
gives-bind {f = f} {p} {k} {ys} {zs} h l = gives-bind' f p k ys zs h l

pub gives_then : {X A B : Type 0} {f : Transfer → List X} {p : Prog A} {q : Prog B} {ys zs : List X} → Gives f ys p → Gives f zs q → Gives f (ys ++ zs) (p >> q)
unfolding ◌>>◌
gives_then h k = gives-bind h (λ a. k)

pub gives-refuse : {X : Type 0} {f : Transfer → List X} (b : Bool) (e : FlashError) → Gives f [] (refuse b e)
unfolding refuse
gives-refuse true e = gives-fail
gives-refuse false e = gives-ret

pub gives-if : {X A : Type 0} {f : Transfer → List X} {ys : List X} {p q : Prog A} (b : Bool) → Gives f ys p → Gives f ys q → Gives f ys (if b then p else q)
gives-if true h k = h
gives-if false h k = k

pub gives-eq : {X A : Type 0} {f : Transfer → List X} {p : Prog A} {ys zs : List X} → ys ≡ zs → Gives f ys p → Gives f zs p
gives-eq {f = f} {p} e h = subst (λ l. Gives f l p) e h

pub gives-quiet : {X : Type 0} {f : Transfer → List X} {t : Transfer} → f t ≡ [] → Gives f [] (transfer t)
gives-quiet e = gives-eq e gives-transfer

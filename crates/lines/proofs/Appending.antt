-- Text behind text.
use Rattle.std.proofs.Common.{◌≡◌, ℕ, ◌+◌, ◌<◌, List, [], ◌∷◌, ◌++◌, length, take, get_or, refl, ap, sym, ◌∙◌, append-nil}
use Rattle.std.specs.List.{flat_map}
use Rattle.std.proofs.lemmas.List.{take_more}
use Rattle.std.proofs.lemmas.Grind.{flat_map-append}
use Rattle.lines.specs.Text.{Text, put_of, appended}
use Rattle.lines.specs.Writing.{text_in, Appends}
use Rattle.lines.specs.declared.text.Writer.{Writer}

pub appended_behind : (xs ys : List ℕ) (t : Text) → appended (xs ++ ys) t ≡ appended ys (appended xs t)
unfolding appended
appended_behind [] ys t = refl
appended_behind (x ∷ xs) ys t = appended_behind xs ys (put_of x t)

-- what two writes have appended, as one list
pub both_appended : {xs ys zs : List ℕ} {a b c : Writer} → Appends xs a b → Appends ys b c → zs ≡ xs ++ ys → Appends zs a c
both_appended {xs} {ys} {zs} {a} p q e = record {
  text = q.text ∙ ap (appended ys) p.text ∙ sym (rw e (appended_behind xs ys (text_in a)));
  same = q.same ∙ p.same;
}

-- as many bytes of a list as a loop has come to, and the next
pub one_more : (f : ℕ → List ℕ) (s : List ℕ) (i : ℕ) → i < length s → flat_map f (take (i + 1) s) ≡ flat_map f (take i s) ++ f (get_or s i 0)
one_more f s i h = rw (take_more s i 0 h) (flat_map-append f (take i s) (get_or s i 0 ∷ []) ∙ ap (λ x. flat_map f (take i s) ++ x) (append-nil _))

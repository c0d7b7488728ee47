-- Pieces one behind the other: one more; what they come to where the chip has answered with its contents, and where they are the
-- caller's data.
use Prim.Native.Nat.{ℕ, ◌+◌, ◌≤◌}
use native.Mathlib.Omega.{arith}
use native.Mathlib.Nat.{add-zero}
use mathlib.Core.Path.{◌≡◌, refl, ap, sym, ◌∙◌}
use mathlib.Core.List.{List, [], ◌∷◌, ◌++◌, append-nil, append_assoc}
use lib.ListN.{length, length-append, take, drop}
use Rattle.std.proofs.Math.Seq.{take-add, take-length}
use Rattle.std.proofs.lemmas.List.{drop-drop}
use Rattle.flash_runs.specs.Contents.{contents_from}
use Rattle.flash_runs.proofs.Contents.{contents-append}
use Rattle.nor_runs.specs.Chip.{InTurn, joined, pages, FromChip, SameAsLent}
use Rattle.nor_runs.specs.Observer.{page, Piece}

-- ---- one more

pub joined-more : (ps : List Piece) (p : Piece) → joined (ps ++ p ∷ []) ≡ joined ps ++ p.bytes
joined-more [] p = append-nil p.bytes
joined-more (x ∷ ps) p = ap (λ bs. x.bytes ++ bs) (joined-more ps p) ∙ sym (append_assoc x.bytes (joined ps) p.bytes)

pub pages-more : (ps : List Piece) (p : Piece) → pages (ps ++ p ∷ []) ≡ pages ps ++ page p.place ∷ []
pages-more [] p = refl
pages-more (x ∷ ps) p = ap (λ xs. page x.place ∷ xs) (pages-more ps p)

pub in-turn-more : (ps : List Piece) (p : Piece) (place : ℕ) → InTurn place ps → p.place ≡ place + length (joined ps) → length p.bytes ≤ 65536 → InTurn place (ps ++ p ∷ [])
in-turn-more [] p place h e small = (e ∙ add-zero place, small, tt)
in-turn-more (x ∷ ps) p place h e small =
    (h.0, h.1, in-turn-more ps p (place + length x.bytes) h.2 (e ∙ omega (arith, length-append x.bytes (joined ps))) small)

pub same-more : (ps : List Piece) (p : Piece) (from : ℕ) → SameAsLent from ps → p.bytes ≡ take (length p.bytes) (drop (from + length (joined ps)) p.given) →
    SameAsLent from (ps ++ p ∷ [])
same-more [] p from h e = (e ∙ ap (λ n. take (length p.bytes) (drop n p.given)) (add-zero from), tt)
same-more (x ∷ ps) p from h e =
    let on : from + length (x.bytes ++ joined ps) ≡ from + length x.bytes + length (joined ps) = omega (arith, length-append x.bytes (joined ps)) in
    (h.0, same-more ps p (from + length x.bytes) h.1 (e ∙ ap (λ n. take (length p.bytes) (drop n p.given)) on))

-- ---- what they come to

-- the chip's contents
pub from-chip : (contents : ℕ → ℕ) (ps : List Piece) (place : ℕ) → InTurn place ps → FromChip contents ps → joined ps ≡ contents_from contents place (length (joined ps))
from-chip contents [] place h f = refl
from-chip contents (p ∷ ps) place h f =
    let bytes = contents_from contents in
    let here : p.bytes ≡ bytes place (length p.bytes) = f.0 ∙ ap (λ x. bytes x (length p.bytes)) h.0 in
    let rest = from-chip contents ps (place + length p.bytes) h.2 f.1 in
    let all : bytes place (length (p.bytes ++ joined ps)) ≡ bytes place (length p.bytes) ++ bytes (place + length p.bytes) (length (joined ps)) =
    ap (bytes place) (length-append p.bytes (joined ps)) ∙ contents-append contents place (length p.bytes) (length (joined ps)) in
    ap (λ bs. bs ++ joined ps) here ∙ ap (λ bs. bytes place (length p.bytes) ++ bs) rest ∙ sym all

-- each came beside these data
abbrev pub Beside : List ℕ → List Piece → Type 0
Beside given [] = Unit {0}
Beside given (p ∷ ps) = (p.given ≡ given) × Beside given ps

pub beside-more : (given : List ℕ) (ps : List Piece) (p : Piece) → Beside given ps → p.given ≡ given → Beside given (ps ++ p ∷ [])
beside-more given [] p h e = (e, tt)
beside-more given (x ∷ ps) p h e = (h.0, beside-more given ps p h.1 e)

-- the data, as many as were read back
pub are-data : (given : List ℕ) (ps : List Piece) (from : ℕ) → Beside given ps → SameAsLent from ps → joined ps ≡ take (length (joined ps)) (drop from given)
are-data given [] from b h = refl
are-data given (p ∷ ps) from b h =
    let m = length p.bytes in
    let here : p.bytes ≡ take m (drop from given) = h.0 ∙ ap (λ s. take m (drop from s)) b.0 in
    let rest = are-data given ps (from + m) b.1 h.1 in
    let later : drop (from + m) given ≡ drop m (drop from given) = sym (drop-drop m from given) in
    let all : take (length (p.bytes ++ joined ps)) (drop from given) ≡ take m (drop from given) ++ take (length (joined ps)) (drop m (drop from given)) =
    ap (λ n. take n (drop from given)) (length-append p.bytes (joined ps)) ∙ take-add m (length (joined ps)) (drop from given) in
    ap (λ bs. bs ++ joined ps) here ∙ ap (λ bs. take m (drop from given) ++ bs) (rest ∙ ap (take (length (joined ps))) later) ∙ sym all

pub whole-data : (given : List ℕ) (ps : List Piece) → Beside given ps → SameAsLent 0 ps → length (joined ps) ≡ length given → joined ps ≡ given
whole-data given ps b h e = are-data given ps 0 b h ∙ ap (λ n. take n given) e ∙ take-length given

-- A comparison that comes to 1 has found the caller's data.
use Prim.Native.Nat.{ℕ}
use native.Mathlib.Omega.{arith}
use mathlib.Core.Bool.{Bool, true, false}
use mathlib.Core.Path.{◌≡◌, refl, ap, sym, ◌∙◌}
use mathlib.Core.List.{List, ◌++◌}
use lib.ListN.{length, take, drop}
use lib.Dec.{eqb}
use Rattle.std.proofs.Math.Seq.{take-append_seam}
use Rattle.std.proofs.lemmas.Bool.Decides.{Decides-eqb}
use Rattle.std.proofs.lemmas.Slice.Eq.{starts_is}
use Rattle.qspi.specs.Bytes.{begins_of}
use Rattle.qspi.specs.Choice.{pick}

pub compared : (from : ℕ) (new given : List ℕ) → eqb (pick (begins_of new (drop from given)) 1 0) 0 ≡ false → new ≡ take (length new) (drop from given)
compared from new given h = by (begins_of new (drop from given)) refl h
  where
    by : (b : Bool) → begins_of new (drop from given) ≡ b → eqb (pick b 1 0) 0 ≡ false → new ≡ take (length new) (drop from given)
    by true e k =
        let whole : drop from given ≡ new ++ drop (length new) (drop from given) = (starts_is Decides-eqb (drop from given) new _ refl).0 e in
        sym (ap (take (length new)) whole ∙ take-append_seam new _)
    by false e k = let z : ◌≡◌ {A = ℕ} 0 1 = cc in absurd (omega arith)

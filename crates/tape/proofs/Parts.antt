-- A part of a list, as code takes it and as definitions say it.
use Prim.Native.Nat.{ℕ, zero, suc, ◌+◌, ◌-◌, ◌≤◌}
use mathlib.Core.Path.{◌≡◌, ap, sym, ◌∙◌}
use mathlib.Core.List.{List, [], ◌∷◌}
use native.Mathlib.Nat.{suc-sub-suc, zero-sub, sub-zero, sub-eq-zero_of_le}
use native.Mathlib.Omega.{arith}
use lib.ListN.{length, take, drop}
use lib.Seq.{take-nil, take-take, drop-drop, slice, length-slice}
use borrow.Author.Tests.{le-leb}
use Rattle.std.proofs.lemmas.List.{nil_from_length}
use Rattle.qspi.specs.Bytes.{part_of}
use Rattle.tape.specs.Record.{trailer_at, ahead_of}

pub part_slice : (from to : ℕ) (l : List ℕ) → take (to - from) (drop from l) ≡ slice from to l
part_slice zero to l = rw sub-zero
part_slice (suc from) zero l = rw zero-sub
part_slice (suc from) (suc to) [] = take-nil (suc to - suc from)
part_slice (suc from) (suc to) (b ∷ bs) = rw suc-sub-suc (part_slice from to bs)

-- how many bytes are ahead
pub room : (tape : List ℕ) (at : ℕ) → length (ahead_of tape at) ≡ trailer_at tape - at
unfolding ahead_of
room tape at = length-slice at (trailer_at tape) tape (omega arith)

-- past the trailer there are none
pub none_ahead : (tape : List ℕ) (at : ℕ) → trailer_at tape ≤ at → ahead_of tape at ≡ []
none_ahead tape at h = nil_from_length (ahead_of tape at) (room tape at ∙ sub-eq-zero_of_le h)

-- the bytes ahead of a later position
pub further : (tape : List ℕ) (at n : ℕ) → ahead_of tape (at + n) ≡ drop n (ahead_of tape at)
unfolding ahead_of
further tape at n = sym (drop-drop n at (take (trailer_at tape) tape))

-- a part of the tape that ends before the trailer, among the bytes ahead
pub ahead-part : (tape : List ℕ) (at n : ℕ) → at + n ≤ trailer_at tape → part_of tape at n ≡ take n (ahead_of tape at)
unfolding ahead_of
ahead-part tape at n h =
    rw (le-leb at (length tape) (omega arith), le-leb n (length tape - at) (omega arith))
    (sym (take-take n (trailer_at tape - at) (drop at tape) (omega arith)) ∙ ap (take n) (part_slice at (trailer_at tape) tape))

-- Parts of lent slices, numbers, comparisons and deliveries.
use Rattle.std.specs.Prelude.{ℕ, Bool, nat_eq, fold, ◌+◌, ◌-◌, ◌*◌, ◌%◌, ◌<◌, List, [], ◌∷◌, length, take, drop, set, replicate, leb}
use Rattle.std.specs.List.{starts_with}
use Rattle.std.proofs.Math.Seq.{paste}
use Rattle.qspi.specs.Choice.{pick}
use Rattle.qspi.specs.Command.{scratch_least}
use Rattle.qspi.specs.declared.bus.Part.{Part}

-- len bytes from a place, or none where they run past the end
abbrev pub part_of : List ℕ → ℕ → ℕ → List ℕ
part_of s from len = pick (leb from (length s)) (pick (leb len (length s - from)) (take len (drop from s)) []) []

-- what is sent lies in the scratch or in the caller's data, and is not copied (docs/SPECIFICATION.md, "Lent memory")
abbrev pub sent_of : Part → List ℕ → List ℕ → List ℕ
sent_of (Part.Scratch from len) scratch lent = part_of scratch from len
sent_of (Part.Data from len) scratch lent = part_of lent from len

-- the elements of a slice of bytes
abbrev pub AllBytes : List ℕ → Type 0
AllBytes [] = Unit {0}
AllBytes (b ∷ bs) = (b < 256) × AllBytes bs

-- highest byte first, in 64 bits: u64::from_be_bytes for up to eight bytes
abbrev pub number_from : ℕ → List ℕ → ℕ
number_from value bytes = fold (λ n b. n % 72057594037927936 * 256 + b) value bytes

abbrev pub number_of : List ℕ → ℕ
number_of bytes = number_from 0 bytes

-- the Rust's `buffer[0]` of a register's one byte
abbrev pub byte_of : ℕ → ℕ
byte_of v = v % 256

-- whether the second list begins with the first: the Rust's comparison of its verify array
abbrev pub begins_of : List ℕ → List ℕ → Bool
begins_of s d = starts_with nat_eq d s

-- the buffer with the bytes at a place; unchanged where they do not fit
abbrev pub delivered_of : List ℕ → ℕ → List ℕ → List ℕ
delivered_of buffer at s =
    pick (leb (length s) (length buffer)) (pick (leb at (length buffer - length s)) (paste buffer at s (length s)) buffer) buffer

-- where a delivery ends
abbrev pub end_of : ℕ → ℕ → ℕ → ℕ → ℕ
end_of at n size before = pick (leb n size) (pick (leb at (size - n)) (at + n) before) before

-- a chunk of filler, from place 5 up, 256 bytes at most (docs/SPECIFICATION.md, "Lent memory")
abbrev pub filler_length : ℕ → ℕ
filler_length n = pick (leb n 256) n 256

unfoldable pub with_filler : ℕ → List ℕ → List ℕ
with_filler n scratch =
    pick (leb scratch_least (length scratch)) (paste scratch 5 (replicate (filler_length n) 0xFF) (filler_length n)) scratch

-- the marker, behind the longest filler (docs/SPECIFICATION.md, "Lent memory")
unfoldable pub with_marker : List ℕ → List ℕ
with_marker scratch = pick (leb scratch_least (length scratch)) (set scratch 261 0x00) scratch

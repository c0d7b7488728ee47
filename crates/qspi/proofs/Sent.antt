-- What an action shows is the transfer's bytes, and the rest of the scratch is kept.
use Prim.Native.Nat.{ℕ, suc, ◌+◌, ◌-◌, ◌≤◌, ◌<◌}
use native.Mathlib.Nat.{add-sub_of_le}
use native.Mathlib.Omega.{arith}
use mathlib.Core.Bool.{Bool, true, false, ◌||◌, true≢false}
use mathlib.Core.Logic.{◌⊎◌, inl, inr, ⊎_elim}
use mathlib.Core.Path.{◌≡◌, refl, ap, sym, ◌∙◌}
use mathlib.Core.List.{List, [], ◌∷◌, ◌++◌, append_assoc}
use lib.ListN.{length, get_or, take, drop, set, replicate, length-set, length-append, length-replicate}
use lib.Seq.{sets, sets-eq, length-sets, paste, length-paste, drop-paste, take_at, drop_at, take_all, take-take, take-set-le, set_split, append_snoc, length-take-le, get_or-take, get_or-drop, get_or-set_other}
use lib.Dec.{leb}
use borrow.Author.Tests.{leb-true, leb-false, ltb-false, le-leb}
use Rattle.qspi.specs.Choice.{pick}
use Rattle.qspi.specs.Bytes.{part_of, sent_of, filler_length, with_filler, with_marker}
use Rattle.qspi.specs.Command.{command_bytes, with_command, scratch_least}
use Rattle.qspi.specs.Frame.{action_at, action_of, with_payload, scratch_at, given_scratch, payload_part}
use Rattle.qspi.specs.Shown.{write, shown_of}
use Rattle.qspi.specs.ShownBytes.{payload_bytes, shown_at, within, command_place, payload_place, touched_at, ShownBytes, ScratchKept}
use Rattle.qspi.specs.declared.command.Command.{Command}
use Rattle.qspi.specs.declared.transfer.Payload.{Payload}
use Rattle.qspi.specs.declared.transfer.Body.{Body}
use Rattle.qspi.specs.declared.transfer.Transfer.{Transfer}
use Rattle.qspi.specs.declared.frame.Stage.{Stage}
use Rattle.qspi.proofs.Filler.{filler-most}

-- ---- parts

-- a part that stands between two others
part-between : (a p b : List ℕ) (from len : ℕ) → length a ≡ from → length p ≡ len → part_of (a ++ p ++ b) from len ≡ p
part-between a p b from len ea ep =
    let l : length (a ++ p ++ b) ≡ from + len + length b = simp (length-append, ea, ep) in
    rw (le-leb from (length (a ++ p ++ b)) (omega arith), le-leb len (length (a ++ p ++ b) - from) (omega arith))
    (rw append_assoc (rw (drop_at a (p ++ b) from ea) (take_at p b len ep)))

part-first : (s : List ℕ) (n : ℕ) → n ≤ length s → part_of s 0 n ≡ take n s
part-first s n h = rw (le-leb 0 (length s) (omega arith), le-leb n (length s - 0) (omega arith))

-- lists that agree below a place, or from one on
same-below : (l m : List ℕ) (n i : ℕ) → take n l ≡ take n m → i < n → get_or l i 0 ≡ get_or m i 0
same-below l m n i e h = sym (get_or-take n l i 0 h) ∙ ap (λ (r : List ℕ). get_or r i 0) e ∙ get_or-take n m i 0 h

same_above : (l m : List ℕ) (n i : ℕ) → drop n l ≡ drop n m → n ≤ i → get_or l i 0 ≡ get_or m i 0
same_above l m n i e h =
    let back : n + (i - n) ≡ i = add-sub_of_le h in
    rw back at (sym (get_or-drop n l (i - n) 0) ∙ ap (λ (r : List ℕ). get_or r (i - n) 0) e ∙ get_or-drop n m (i - n) 0)

-- what holds of a scratch that is changed and of one that is kept, where only a long one is changed
if-long : (s changed : List ℕ) (P : List ℕ → Type 0) → (scratch_least ≤ length s → P changed) → P s → P (pick (leb scratch_least (length s)) changed s)
if-long s changed P f k = at (leb scratch_least (length s)) refl
  where
    at : (b : Bool) → leb scratch_least (length s) ≡ b → P (pick b changed s)
    at true e = f (leb-true scratch_least (length s) e)
    at false e = k

-- a place that is not among n from a first one on
outside : (first n i : ℕ) → within first n i ≡ false → (i < first) ⊎ (first + n ≤ i)
outside first n i h = at (leb first i) refl
  where
    at : (b : Bool) → leb first i ≡ b → (i < first) ⊎ (first + n ≤ i)
    at true e = inr (ltb-false i (first + n) (rw e at h))
    at false e = inl (leb-false first i e)

-- ---- the command

pub longest : (c : Command) → length (command_bytes c) ≤ 5
longest (Command.Opcode opcode) = omega arith
longest (Command.Byte opcode byte) = omega arith
longest (Command.RegisterValue opcode register value) = omega arith
longest (Command.Address opcode address) = omega arith
longest (Command.Column opcode column) = omega arith
longest (Command.ColumnDummy opcode column) = omega arith
longest (Command.FourDummies opcode) = omega arith

module _ (c : Command) (s : List ℕ) where
  command-size : length (with_command c s) ≡ length s
  unfolding with_command
  command-size = if-long s (sets s 0 (command_bytes c)) (λ l. length l ≡ length s) (λ _. length-sets s 0 (command_bytes c)) refl

  command-first : scratch_least ≤ length s → take (length (command_bytes c)) (with_command c s) ≡ command_bytes c
  unfolding with_command
  command-first h =
      let vs = command_bytes c in
      rw (le-leb scratch_least (length s) h, sets-eq vs s 0 (omega (arith, longest c)))
      (take_at vs (drop (0 + length vs) s) (length vs) refl)

  command-sent : scratch_least ≤ length s → part_of (with_command c s) 0 (length (command_bytes c)) ≡ command_bytes c
  command-sent h = part-first (with_command c s) (length (command_bytes c)) (omega (arith, longest c, command-size)) ∙ command-first h

-- bytes put from a place on leave those above them
sets-above : (vs l : List ℕ) (at i : ℕ) → at + length vs ≤ i → get_or (sets l at vs) i 0 ≡ get_or l i 0
sets-above [] l at i h = refl
sets-above (v ∷ vs) l at i h = sets-above vs (set l at v) (suc at) i (omega arith) ∙ get_or-set_other l at i v 0 (λ e. omega arith)

command-kept : (c : Command) (s : List ℕ) (i : ℕ) → command_place c i ≡ false → get_or (with_command c s) i 0 ≡ get_or s i 0
unfolding with_command
command-kept c s i h =
    if-long s (sets s 0 (command_bytes c)) (λ l. get_or l i 0 ≡ get_or s i 0)
    (λ _. ⊎_elim (λ w. absurd (omega arith)) (λ w. sets-above (command_bytes c) s 0 i w) (outside 0 (length (command_bytes c)) i h))
    refl

-- ---- the filler and the marker

abbrev ff : ℕ → List ℕ
ff n = replicate (filler_length n) 0xFF

ff-size : (n : ℕ) → length (ff n) ≡ filler_length n
ff-size n = length-replicate (filler_length n) 0xFF

-- a chunk of filler in the scratch
abbrev filled : ℕ → List ℕ → List ℕ
filled n s = paste s 5 (ff n) (filler_length n)

module _ (n : ℕ) (s : List ℕ) (h : scratch_least ≤ length s) where
  filled-size : length (filled n s) ≡ length s
  filled-size = length-paste s 5 (ff n) (filler_length n) (omega (arith, filler-most n)) (omega (arith, ff-size n))

  filled-below : take 5 (filled n s) ≡ take 5 s
  filled-below = rw append_assoc (take_at (take 5 s) _ 5 (length-take-le 5 s (omega arith)))

  filled-above : drop (5 + filler_length n) (filled n s) ≡ drop (5 + filler_length n) s
  filled-above = drop-paste s 5 (ff n) (filler_length n) (omega arith) (omega (arith, ff-size n))

  filled-sent : part_of (filled n s) 5 (filler_length n) ≡ ff n
  filled-sent =
      rw (take_all (filler_length n) (ff n) (omega (arith, ff-size n)))
      (part-between (take 5 s) (ff n) (drop (5 + filler_length n) s) 5 (filler_length n) (length-take-le 5 s (omega arith)) (ff-size n))

marker-sent : (s : List ℕ) → scratch_least ≤ length s → part_of (set s 261 0x00) 261 1 ≡ 0x00 ∷ []
marker-sent s h =
    rw (set_split s 261 0 (omega arith), ← append_snoc)
    (part-between (take 261 s) (0 ∷ []) (drop 262 s) 261 1 (length-take-le 261 s (omega arith)) refl)

-- ---- the payload

payload-size : (p : Payload) (s : List ℕ) → length (with_payload p s) ≡ length s
unfolding with_filler with_marker
payload-size (Payload.Data from len) s = refl
payload-size (Payload.Filler n) s = if-long s (filled n s) (λ l. length l ≡ length s) (filled-size n s) refl
payload-size Payload.Marker s = if-long s (set s 261 0x00) (λ l. length l ≡ length s) (λ _. length-set s 261 0) refl

-- the command's places are below
payload-below : (p : Payload) (s : List ℕ) → take 5 (with_payload p s) ≡ take 5 s
unfolding with_filler with_marker
payload-below (Payload.Data from len) s = refl
payload-below (Payload.Filler n) s = if-long s (filled n s) (λ l. take 5 l ≡ take 5 s) (filled-below n s) refl
payload-below Payload.Marker s = if-long s (set s 261 0x00) (λ l. take 5 l ≡ take 5 s) (λ _. take-set-le 5 s 261 0 (omega arith)) refl

payload-sent : (p : Payload) (s given : List ℕ) → scratch_least ≤ length s → sent_of (payload_part p) (with_payload p s) given ≡ payload_bytes p given
unfolding with_filler with_marker
payload-sent (Payload.Data from len) s given h = refl
payload-sent (Payload.Filler n) s given h = rw (le-leb scratch_least (length s) h) (filled-sent n s h)
payload-sent Payload.Marker s given h = rw (le-leb scratch_least (length s) h) (marker-sent s h)

payload-kept : (p : Payload) (s : List ℕ) (i : ℕ) → payload_place p i ≡ false → get_or (with_payload p s) i 0 ≡ get_or s i 0
unfolding with_filler with_marker
payload-kept (Payload.Data from len) s i h = refl
payload-kept (Payload.Filler n) s i h =
    if-long s (filled n s) (λ l. get_or l i 0 ≡ get_or s i 0)
    (λ long.
    ⊎_elim (same-below (filled n s) s 5 i (filled-below n s long)) (same_above (filled n s) s (5 + filler_length n) i (filled-above n s long))
    (outside 5 (filler_length n) i h))
    refl
payload-kept Payload.Marker s i h =
    if-long s (set s 261 0x00) (λ l. get_or l i 0 ≡ get_or s i 0)
    (λ _. get_or-set_other s 261 i 0 0 (λ e. ⊎_elim (λ w. omega arith) (λ w. omega arith) (outside 261 1 i h)))
    refl

-- a quad write's command is sent as it was put, below the payload
command-behind : (c : Command) (p : Payload) (s : List ℕ) → scratch_least ≤ length s →
    part_of (with_payload p (with_command c s)) 0 (length (command_bytes c)) ≡ command_bytes c
command-behind c p s h =
    let n = length (command_bytes c) in
    let s' = with_command c s in
    part-first (with_payload p s') n (omega (arith, longest c, payload-size p s', command-size c s))
    ∙ sym (take-take n 5 (with_payload p s') (longest c))
    ∙ ap (take n) (payload-below p s')
    ∙ take-take n 5 s' (longest c)
    ∙ command-first c s h

-- ---- the frame

pub shown-bytes : ShownBytes
unfolding action_of given_scratch
shown-bytes = record { shows = λ f scratch given h. at f.stage f.transfer scratch given h }
  where
    at : (stage : Stage) (t : Transfer) (s given : List ℕ) → scratch_least ≤ length s → shown_of (action_at stage t) (scratch_at stage t s) given ≡ shown_at stage t given
    at Stage.Start Transfer.Raise s given h = refl
    at Stage.Start (Transfer.Pause us) s given h = refl
    at Stage.Start (Transfer.Framed c body) s given h = refl
    at Stage.Command Transfer.Raise s given h = refl
    at Stage.Command (Transfer.Pause us) s given h = refl
    at Stage.Command (Transfer.Framed c Body.None) s given h = ap write (command-sent c s h)
    at Stage.Command (Transfer.Framed c (Body.Read n sink)) s given h = ap write (command-sent c s h)
    at Stage.Command (Transfer.Framed c (Body.Write p)) s given h = ap write (command-sent c s h)
    at Stage.Command (Transfer.Framed c (Body.QuadRead tclqv margin n sink)) s given h = refl
    at Stage.Command (Transfer.Framed c (Body.QuadWrite p)) s given h = refl
    at Stage.Payload Transfer.Raise s given h = refl
    at Stage.Payload (Transfer.Pause us) s given h = refl
    at Stage.Payload (Transfer.Framed c Body.None) s given h = refl
    at Stage.Payload (Transfer.Framed c (Body.Read n sink)) s given h = refl
    at Stage.Payload (Transfer.Framed c (Body.Write p)) s given h = ap write (payload-sent p s given h)
    at Stage.Payload (Transfer.Framed c (Body.QuadRead tclqv margin n sink)) s given h = rw (command-sent c s h)
    at Stage.Payload (Transfer.Framed c (Body.QuadWrite p)) s given h =
        cc (command-behind c p s h, payload-sent p (with_command c s) given (omega (arith, command-size c s)))
    at Stage.High t s given h = refl

pub scratch-kept : ScratchKept
unfolding given_scratch
scratch-kept = record { size = λ f s. sized f.stage f.transfer s; kept = λ f s i h. same f.stage f.transfer s i h; longest = longest }
  where
    sized : (stage : Stage) (t : Transfer) (s : List ℕ) → length (scratch_at stage t s) ≡ length s
    sized Stage.Start t s = refl
    sized Stage.Command Transfer.Raise s = refl
    sized Stage.Command (Transfer.Pause us) s = refl
    sized Stage.Command (Transfer.Framed c Body.None) s = command-size c s
    sized Stage.Command (Transfer.Framed c (Body.Read n sink)) s = command-size c s
    sized Stage.Command (Transfer.Framed c (Body.Write p)) s = command-size c s
    sized Stage.Command (Transfer.Framed c (Body.QuadRead tclqv margin n sink)) s = refl
    sized Stage.Command (Transfer.Framed c (Body.QuadWrite p)) s = refl
    sized Stage.Payload Transfer.Raise s = refl
    sized Stage.Payload (Transfer.Pause us) s = refl
    sized Stage.Payload (Transfer.Framed c Body.None) s = refl
    sized Stage.Payload (Transfer.Framed c (Body.Read n sink)) s = refl
    sized Stage.Payload (Transfer.Framed c (Body.Write p)) s = payload-size p s
    sized Stage.Payload (Transfer.Framed c (Body.QuadRead tclqv margin n sink)) s = command-size c s
    sized Stage.Payload (Transfer.Framed c (Body.QuadWrite p)) s = payload-size p (with_command c s) ∙ command-size c s
    sized Stage.High t s = refl

    both : (a b : Bool) → (a || b) ≡ false → (a ≡ false) × (b ≡ false)
    both true b h = absurd (true≢false h)
    both false b h = (refl, h)

    same : (stage : Stage) (t : Transfer) (s : List ℕ) (i : ℕ) → touched_at stage t i ≡ false → get_or (scratch_at stage t s) i 0 ≡ get_or s i 0
    same Stage.Start t s i h = refl
    same Stage.Command Transfer.Raise s i h = refl
    same Stage.Command (Transfer.Pause us) s i h = refl
    same Stage.Command (Transfer.Framed c Body.None) s i h = command-kept c s i h
    same Stage.Command (Transfer.Framed c (Body.Read n sink)) s i h = command-kept c s i h
    same Stage.Command (Transfer.Framed c (Body.Write p)) s i h = command-kept c s i h
    same Stage.Command (Transfer.Framed c (Body.QuadRead tclqv margin n sink)) s i h = refl
    same Stage.Command (Transfer.Framed c (Body.QuadWrite p)) s i h = refl
    same Stage.Payload Transfer.Raise s i h = refl
    same Stage.Payload (Transfer.Pause us) s i h = refl
    same Stage.Payload (Transfer.Framed c Body.None) s i h = refl
    same Stage.Payload (Transfer.Framed c (Body.Read n sink)) s i h = refl
    same Stage.Payload (Transfer.Framed c (Body.Write p)) s i h = payload-kept p s i h
    same Stage.Payload (Transfer.Framed c (Body.QuadRead tclqv margin n sink)) s i h = command-kept c s i h
    same Stage.Payload (Transfer.Framed c (Body.QuadWrite p)) s i h =
        let w = both (command_place c i) (payload_place p i) h in
        payload-kept p (with_command c s) i w.1 ∙ command-kept c s i w.0
    same Stage.High t s i h = refl

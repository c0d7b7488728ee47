-- The bytes that a call reads for its caller, and the caller's buffer (docs/SPECIFICATION.md, "Lent memory"): what is read goes there,
-- but that a register, an id, a marker and a read-back do not.
use Rattle.std.specs.Prelude.{ℕ, ◌+◌, Bool, true, ◌≡◌, List, [], ◌∷◌, ◌++◌, length, drop}
use Rattle.qspi.specs.Choice.{pick}
use Rattle.qspi.specs.Shown.{Shown, low, high, write, read, quad_read, quad_write, delay}
use Rattle.qspi.specs.declared.bus.Reply.{Reply}
use Rattle.spi_flash.specs.Run.{Event, reply, call, Given, act, ended, failed, refused, Entry}
use Rattle.spi_flash.specs.Seen.{lent_to, unless_refused, Taken}

-- ---- the bytes read

-- the bytes of a data reply, if they are the caller's
abbrev pub data_at : Bool → Reply → List ℕ → List ℕ
data_at mine Reply.Done bytes = []
data_at mine Reply.Data bytes = pick mine bytes []
data_at mine (Reply.Error code) bytes = []

abbrev pub data_in : {C : Type 0} → Bool → Event C → List ℕ
data_in mine (reply r bytes l) = data_at mine r bytes
data_in mine (call c l) = []

-- those that a step has taken
abbrev pub read_by : {C A : Type 0} → Bool → Entry C A → List ℕ
read_by mine x = unless_refused x.given (data_in mine x.event) []

-- ---- the buffer

-- as long, and the same from place n on
pub record SameFrom (n : ℕ) (xs ys : List ℕ) : Type 0 where
  pub size : length xs ≡ length ys
  pub kept : drop n xs ≡ drop n ys

-- bytes at the places from 0 on, and the old ones behind them
abbrev pub in_front : List ℕ → List ℕ → List ℕ
in_front bytes old = bytes ++ drop (length bytes) old

-- ---- over a run, by the commands whose data are the caller's

module _ (reads : List ℕ → Bool) where
  -- whether the data that come next are the caller's: the last command tells, and a quad read always asks for them
  abbrev pub mine_after : Shown → Bool → Bool
  mine_after low mine = mine
  mine_after high mine = mine
  mine_after (write bytes) mine = reads bytes
  mine_after (read n) mine = mine
  mine_after (quad_read command tclqv margin n) mine = true
  mine_after (quad_write command payload) mine = mine
  mine_after (delay us) mine = mine

  abbrev pub mine_then : {A : Type 0} → Given A → Bool → Bool
  mine_then (act shown) mine = mine_after shown mine
  mine_then (ended a) mine = mine
  mine_then (failed e) mine = mine
  mine_then (refused e) mine = mine

  unfoldable pub bytes_read : {C A : Type 0} → Bool → List (Entry C A) → List ℕ
  bytes_read mine [] = []
  bytes_read mine (x ∷ xs) = read_by mine x ++ bytes_read (mine_then x.given mine) xs

  -- no step changes a place but those of the bytes read so far, of which there were n before these steps
  unfoldable pub ChangesRead : {C A : Type 0} → Bool → ℕ → List (Entry C A) → Type 0
  ChangesRead mine n [] = Unit {0}
  ChangesRead mine n (x ∷ xs) =
      SameFrom (n + length (read_by mine x)) x.left.buffer (lent_to x.event).buffer ×
      ChangesRead (mine_then x.given mine) (n + length (read_by mine x)) xs

  -- after each step that is taken the buffer holds the bytes read at its start, and behind them what stood there
  unfoldable pub HoldsRead : {C A : Type 0} → Bool → List ℕ → List ℕ → List (Entry C A) → Type 0
  HoldsRead mine old bytes [] = Unit {0}
  HoldsRead mine old bytes (x ∷ xs) =
      Taken x.given (x.left.buffer ≡ in_front (bytes ++ read_by mine x) old) ×
      HoldsRead (mine_then x.given mine) old (bytes ++ read_by mine x) xs

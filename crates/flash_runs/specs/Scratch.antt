-- The scratch and the caller's data over a run (docs/SPECIFICATION.md, "Lent memory"): what a step puts into the scratch is told from the
-- bytes that it gives out, and each other place keeps its byte.
use Rattle.std.specs.Prelude.{ℕ, ◌≤◌, ◌≡◌, List, [], ◌∷◌, length, set, replicate}
use Rattle.std.proofs.lemmas.List.Edits.{sets}
use Rattle.std.proofs.Math.Seq.{paste}
use Rattle.qspi.specs.Bytes.{part_of}
use Rattle.qspi.specs.Shown.{Shown, low, high, write, read, quad_read, quad_write, delay}
use Rattle.spi_flash.specs.Loan.{Lent}
use Rattle.spi_flash.specs.Run.{Given, act, ended, Entry}
use Rattle.spi_flash.specs.Seen.{lent_to}
use Rattle.spi_flash.specs.declared.loan.Takes.{Takes}
use Rattle.flash_runs.specs.Watch.{BusFrame, selected, commanded, frame_after}

-- a command stands at the start
abbrev pub with_command : List ℕ → List ℕ → List ℕ
with_command command scratch = sets scratch 0 command

-- ---- what goes out behind the commands of a call

-- a bad-block mark: FF for a chunk of so many bytes, or the marker
pub data Stamp : Type 0 where
  filler : ℕ → Stamp
  marker : Stamp

-- parts of the caller's data and nothing else; or just these stamps, in turn
pub data Payloads : Type 0 where
  callers : Payloads
  stamps : List Stamp → Payloads

-- by what the call takes
abbrev pub payloads_of : Takes → List Stamp → Payloads
payloads_of (Takes.Data n) xs = callers
payloads_of _ xs = stamps xs

-- behind the next of them
abbrev pub next_payloads : Payloads → Payloads
next_payloads (stamps (x ∷ xs)) = stamps xs
next_payloads payloads = payloads

-- as many bytes FF as the chunk has, at places 5 to 260 at most; or 00 at place 261
abbrev pub PutsStamp : Stamp → (bytes before after : List ℕ) → Type 0
PutsStamp (filler n) bytes before after = (n ≤ 256) × (bytes ≡ replicate n 0xFF) × (after ≡ paste before 5 bytes n)
PutsStamp marker bytes before after = (bytes ≡ 0x00 ∷ []) × (after ≡ set before 261 0x00)

-- a part of the caller's data, which is not copied
pub record PutsPart (bytes given before after : List ℕ) : Type 0 where
  pub from : ℕ
  pub len : ℕ
  pub part : bytes ≡ part_of given from len
  pub kept : after ≡ before

abbrev pub PutsPayload : Payloads → (bytes given before after : List ℕ) → Type 0
PutsPayload callers bytes given before after = PutsPart bytes given before after
PutsPayload (stamps []) bytes given before after = ⊥
PutsPayload (stamps (x ∷ xs)) bytes given before after = PutsStamp x bytes before after

-- ---- one step

-- a command has its opcode, and five bytes at most
abbrev pub IsCommand : List ℕ → Type 0
IsCommand command = (1 ≤ length command) × (length command ≤ 5)

abbrev pub PutsCommand : (command before after : List ℕ) → Type 0
PutsCommand command before after = IsCommand command × (after ≡ with_command command before)

-- the first write since select went low is the command, and at most one more follows; nothing is written while select is high
abbrev pub PutsWrite : BusFrame → Payloads → (bytes given before after : List ℕ) → Type 0
PutsWrite selected payloads bytes given before after = PutsCommand bytes before after
PutsWrite (commanded command) payloads bytes given before after = PutsPayload payloads bytes given before after
PutsWrite _ payloads bytes given before after = ⊥

-- a quad call has its command with it: nothing else is written in its frame
abbrev pub Alone : BusFrame → Type 0 → Type 0
Alone selected P = P
Alone _ P = ⊥

-- a read follows a command
abbrev pub Behind : BusFrame → Type 0 → Type 0
Behind (commanded command) P = P
Behind _ P = ⊥

-- by the action that is given out, on the caller's data
abbrev pub Puts : Shown → BusFrame → Payloads → (given before after : List ℕ) → Type 0
Puts low frame payloads given before after = after ≡ before
Puts high frame payloads given before after = after ≡ before
Puts (write bytes) frame payloads given before after = PutsWrite frame payloads bytes given before after
Puts (read n) frame payloads given before after = Behind frame (after ≡ before)
Puts (quad_read command tclqv margin n) frame payloads given before after = Alone frame (PutsCommand command before after)
Puts (quad_write command payload) frame payloads given before after = Alone frame (IsCommand command × PutsPayload payloads payload given (with_command command before) after)
Puts (delay us) frame payloads given before after = after ≡ before

-- an end and a refusal put nothing
abbrev pub puts_then : {A : Type 0} → Given A → BusFrame → Payloads → (given before after : List ℕ) → Type 0
puts_then (act shown) frame payloads given before after = Puts shown frame payloads given before after
puts_then _ frame payloads given before after = after ≡ before

abbrev pub frame_then : {A : Type 0} → Given A → BusFrame → BusFrame
frame_then (act shown) frame = frame_after shown frame
frame_then _ frame = frame

-- a write behind a command, and a quad write, give out the next of the payloads
abbrev pub payloads_in : BusFrame → Payloads → Payloads
payloads_in (commanded command) payloads = next_payloads payloads
payloads_in _ payloads = payloads

abbrev pub payloads_after : Shown → BusFrame → Payloads → Payloads
payloads_after (write bytes) frame payloads = payloads_in frame payloads
payloads_after (quad_write command payload) frame payloads = next_payloads payloads
payloads_after _ frame payloads = payloads

abbrev pub payloads_then : {A : Type 0} → Given A → BusFrame → Payloads → Payloads
payloads_then (act shown) frame payloads = payloads_after shown frame payloads
payloads_then _ frame payloads = payloads

-- of all that the call has to give out, with this left: no mark is put in part
abbrev pub AllOrNone : (all left : Payloads) → Type 0
AllOrNone all (stamps []) = Unit {0}
AllOrNone all left = left ≡ all

abbrev pub ends_then : {A : Type 0} → Given A → Type 0 → Type 0
ends_then (ended a) P = P
ends_then _ P = Unit {0}

-- of a call that has all this to give out
module _ (all : Payloads) where
  -- a step that was lent this
  pub record StepPuts {A : Type 0} (given : Given A) (frame : BusFrame) (payloads : Payloads) (lent left : Lent) : Type 0 where
    pub scratch : puts_then given frame payloads lent.given lent.scratch left.scratch
    pub callers : left.given ≡ lent.given
    -- a good end
    pub whole : ends_then given (AllOrNone all payloads)

  -- every step of a run
  unfoldable pub PutsOver : {C A : Type 0} → BusFrame → Payloads → List (Entry C A) → Type 0
  PutsOver frame payloads [] = Unit {0}
  PutsOver frame payloads (x ∷ xs) =
      StepPuts x.given frame payloads (lent_to x.event) x.left × PutsOver (frame_then x.given frame) (payloads_then x.given frame payloads) xs

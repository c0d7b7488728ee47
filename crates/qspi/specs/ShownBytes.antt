-- What a transfer shows on the bus, byte for byte (docs/SPECIFICATION.md, "Actions and replies"; the Rust's `command`,
-- `command_then_read` and the quad calls), and what it leaves of the scratch.
use Rattle.std.specs.Prelude.{ℕ, ◌+◌, ◌≤◌, Bool, false, ◌&&◌, ◌||◌, ◌≡◌, List, [], ◌∷◌, length, get_or, replicate, leb, ltb}
use Rattle.qspi.specs.Choice.{pick}
use Rattle.qspi.specs.Bytes.{part_of, filler_length}
use Rattle.qspi.specs.Command.{command_bytes, scratch_least}
use Rattle.qspi.specs.Frame.{is_quad, action_of, given_scratch}
use Rattle.qspi.specs.Shown.{Shown, low, high, write, read, quad_read, quad_write, delay, shown_of}
use Rattle.qspi.specs.declared.command.Command.{Command}
use Rattle.qspi.specs.declared.transfer.Payload.{Payload}
use Rattle.qspi.specs.declared.transfer.Body.{Body}
use Rattle.qspi.specs.declared.transfer.Transfer.{Transfer}
use Rattle.qspi.specs.declared.frame.Stage.{Stage}
use Rattle.qspi.specs.declared.frame.Frame.{Frame}

-- ---- on the bus

-- the bytes behind a command that writes: the caller's, or those of a bad-block mark
abbrev pub payload_bytes : Payload → List ℕ → List ℕ
payload_bytes (Payload.Data from len) given = part_of given from len
payload_bytes (Payload.Filler n) given = replicate (filler_length n) 0xFF
payload_bytes Payload.Marker given = 0x00 ∷ []

-- select goes low; a delay, and a construction's select high, are alone
abbrev pub start_shown : Transfer → Shown
start_shown Transfer.Raise = high
start_shown (Transfer.Pause us) = delay us
start_shown (Transfer.Framed c body) = low

-- the command in a write of its own; the quad calls have it with their data
abbrev pub command_shown : Transfer → Shown
command_shown Transfer.Raise = high
command_shown (Transfer.Pause us) = high
command_shown (Transfer.Framed c body) = pick (is_quad body) high (write (command_bytes c))

-- the read or the write behind it, or the quad call
abbrev pub body_shown : Command → Body → List ℕ → Shown
body_shown c Body.None given = high
body_shown c (Body.Read n sink) given = read n
body_shown c (Body.Write payload) given = write (payload_bytes payload given)
body_shown c (Body.QuadRead tclqv margin n sink) given = quad_read (command_bytes c) tclqv margin n
body_shown c (Body.QuadWrite payload) given = quad_write (command_bytes c) (payload_bytes payload given)

abbrev pub payload_shown : Transfer → List ℕ → Shown
payload_shown Transfer.Raise given = high
payload_shown (Transfer.Pause us) given = high
payload_shown (Transfer.Framed c body) given = body_shown c body given

-- by the stage of the transfer, on the caller's data
abbrev pub shown_at : Stage → Transfer → List ℕ → Shown
shown_at Stage.Start t given = start_shown t
shown_at Stage.Command t given = command_shown t
shown_at Stage.Payload t given = payload_shown t given
shown_at Stage.High t given = high

-- whatever the scratch held before
pub record ShownBytes : Type 0 where
  pub shows : (f : Frame) (scratch given : List ℕ) → scratch_least ≤ length scratch →
      shown_of (action_of f) (given_scratch f scratch) given ≡ shown_at f.stage f.transfer given

-- ---- in the scratch

-- whether place i is one of n places from a first one on
abbrev pub within : ℕ → ℕ → ℕ → Bool
within first n i = leb first i && ltb i (first + n)

-- a command's places, from the scratch's start (docs/SPECIFICATION.md, "Lent memory")
abbrev pub command_place : Command → ℕ → Bool
command_place c i = within 0 (length (command_bytes c)) i

-- those of a bad-block mark: the filler's from 5 on, and the marker's
abbrev pub payload_place : Payload → ℕ → Bool
payload_place (Payload.Data from len) i = false
payload_place (Payload.Filler n) i = within 5 (filler_length n) i
payload_place Payload.Marker i = within 261 1 i

abbrev pub command_touches : Transfer → ℕ → Bool
command_touches Transfer.Raise i = false
command_touches (Transfer.Pause us) i = false
command_touches (Transfer.Framed c body) i = pick (is_quad body) false (command_place c i)

abbrev pub body_touches : Command → Body → ℕ → Bool
body_touches c Body.None i = false
body_touches c (Body.Read n sink) i = false
body_touches c (Body.Write payload) i = payload_place payload i
body_touches c (Body.QuadRead tclqv margin n sink) i = command_place c i
body_touches c (Body.QuadWrite payload) i = command_place c i || payload_place payload i

abbrev pub payload_touches : Transfer → ℕ → Bool
payload_touches Transfer.Raise i = false
payload_touches (Transfer.Pause us) i = false
payload_touches (Transfer.Framed c body) i = body_touches c body i

abbrev pub touched_at : Stage → Transfer → ℕ → Bool
touched_at Stage.Start t i = false
touched_at Stage.Command t i = command_touches t i
touched_at Stage.Payload t i = payload_touches t i
touched_at Stage.High t i = false

-- the places that the step that gives the action out may change
abbrev pub touched : Frame → ℕ → Bool
touched f i = touched_at f.stage f.transfer i

-- all other places keep their bytes (docs/SPECIFICATION.md, "Lent memory")
pub record ScratchKept : Type 0 where
  pub size : (f : Frame) (scratch : List ℕ) → length (given_scratch f scratch) ≡ length scratch
  pub kept : (f : Frame) (scratch : List ℕ) (i : ℕ) → touched f i ≡ false → get_or (given_scratch f scratch) i 0 ≡ get_or scratch i 0
  -- a command ends before the filler starts
  pub longest : (c : Command) → length (command_bytes c) ≤ 5

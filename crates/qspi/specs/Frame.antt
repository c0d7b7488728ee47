-- One transfer, action by action (docs/SPECIFICATION.md, "Actions and replies"; the Rust's `command` and `command_then_read`).
use Rattle.std.specs.Prelude.{ℕ, Bool, true, false, Option, Some, None, Result, Ok, Err, List, length, drop}
use Rattle.qspi.specs.Choice.{pick}
use Rattle.qspi.specs.Bus.{fits_of}
use Rattle.qspi.specs.Command.{command_bytes, with_command}
use Rattle.qspi.specs.Bytes.{number_of, begins_of, delivered_of, end_of, filler_length, with_filler, with_marker}
use Rattle.qspi.specs.declared.bus.Action.{Action}
use Rattle.qspi.specs.declared.bus.BusError.{BusError}
use Rattle.qspi.specs.declared.bus.Part.{Part}
use Rattle.qspi.specs.declared.bus.Reply.{Reply}
use Rattle.qspi.specs.declared.command.Command.{Command}
use Rattle.qspi.specs.declared.transfer.Payload.{Payload}
use Rattle.qspi.specs.declared.transfer.Sink.{Sink}
use Rattle.qspi.specs.declared.transfer.Body.{Body}
use Rattle.qspi.specs.declared.transfer.Transfer.{Transfer}
use Rattle.qspi.specs.declared.frame.Stage.{Stage}
use Rattle.qspi.specs.declared.frame.Frame.{Frame}
use Rattle.qspi.specs.declared.frame.Advanced.{Advanced}
use Rattle.qspi.specs.declared.frame.Exchanged.{Exchanged}

-- what a transfer came to: the number that was read, or the code of a failed bus call
abbrev pub Outcome : Type 0
Outcome = Result ℕ BusError

-- the result of an exchange, and the lent bytes after it
pub record AfterExchange : Type 0 where
  pub exchanged : Exchanged
  pub scratch : List ℕ
  pub buffer : List ℕ

abbrev pub exchanged_to : Exchanged → List ℕ → List ℕ → AfterExchange
exchanged_to x scratch buffer = record { exchanged = x; scratch = scratch; buffer = buffer }

-- ---- the actions of a transfer

unfoldable pub first_of : Transfer → Frame
first_of t = record { transfer = t; stage = Stage.Start; outcome = Ok 0 }

abbrev pub payload_part : Payload → Part
payload_part (Payload.Data from len) = Part.Data from len
payload_part (Payload.Filler n) = Part.Scratch 5 (filler_length n)
payload_part Payload.Marker = Part.Scratch 261 1

abbrev pub command_part : Command → Part
command_part command = Part.Scratch 0 (length (command_bytes command))

-- a quad call has the command with its data
abbrev pub is_quad : Body → Bool
is_quad Body.None = false
is_quad (Body.Read n sink) = false
is_quad (Body.Write payload) = false
is_quad (Body.QuadRead tclqv margin n sink) = true
is_quad (Body.QuadWrite payload) = true

abbrev pub start_action : Transfer → Action
start_action Transfer.Raise = Action.SelectHigh
start_action (Transfer.Pause us) = Action.Delay us
start_action (Transfer.Framed c body) = Action.SelectLow

abbrev pub command_action : Transfer → Action
command_action Transfer.Raise = Action.SelectHigh
command_action (Transfer.Pause us) = Action.SelectHigh
command_action (Transfer.Framed c body) = pick (is_quad body) Action.SelectHigh (Action.Write (command_part c))

-- what follows the command, if anything does
abbrev pub body_action : Command → Body → Action
body_action c Body.None = Action.SelectHigh
body_action c (Body.Read n sink) = Action.Read n
body_action c (Body.Write payload) = Action.Write (payload_part payload)
body_action c (Body.QuadRead tclqv margin n sink) = Action.QuadRead (command_part c) tclqv margin n
body_action c (Body.QuadWrite payload) = Action.QuadWrite (command_part c) (payload_part payload)

abbrev pub payload_action : Transfer → Action
payload_action Transfer.Raise = Action.SelectHigh
payload_action (Transfer.Pause us) = Action.SelectHigh
payload_action (Transfer.Framed c body) = body_action c body

abbrev pub action_at : Stage → Transfer → Action
action_at Stage.Start t = start_action t
action_at Stage.Command t = command_action t
action_at Stage.Payload t = payload_action t
action_at Stage.High t = Action.SelectHigh

-- the action that is out
unfoldable pub action_of : Frame → Action
action_of f = action_at f.stage f.transfer

-- ---- the scratch in the step that gives the action out

abbrev pub with_payload : Payload → List ℕ → List ℕ
with_payload (Payload.Data from len) s = s
with_payload (Payload.Filler n) s = with_filler n s
with_payload Payload.Marker s = with_marker s

abbrev pub with_command_of : Transfer → List ℕ → List ℕ
with_command_of Transfer.Raise s = s
with_command_of (Transfer.Pause us) s = s
with_command_of (Transfer.Framed c body) s = pick (is_quad body) s (with_command c s)

abbrev pub with_body : Command → Body → List ℕ → List ℕ
with_body c Body.None s = s
with_body c (Body.Read n sink) s = s
with_body c (Body.Write payload) s = with_payload payload s
with_body c (Body.QuadRead tclqv margin n sink) s = with_command c s
with_body c (Body.QuadWrite payload) s = with_payload payload (with_command c s)

abbrev pub with_payload_of : Transfer → List ℕ → List ℕ
with_payload_of Transfer.Raise s = s
with_payload_of (Transfer.Pause us) s = s
with_payload_of (Transfer.Framed c body) s = with_body c body s

abbrev pub scratch_at : Stage → Transfer → List ℕ → List ℕ
scratch_at Stage.Start t s = s
scratch_at Stage.Command t s = with_command_of t s
scratch_at Stage.Payload t s = with_payload_of t s
scratch_at Stage.High t s = s

unfoldable pub given_scratch : Frame → List ℕ → List ℕ
given_scratch f s = scratch_at f.stage f.transfer s

-- ---- the replies

abbrev pub after_start : Transfer → Option Stage
after_start Transfer.Raise = None
after_start (Transfer.Pause us) = None
after_start (Transfer.Framed c body) = Some (pick (is_quad body) Stage.Payload Stage.Command)

-- a command of its own is followed by its body, where it has one
abbrev pub body_stage : Body → Stage
body_stage Body.None = Stage.High
body_stage (Body.Read n sink) = Stage.Payload
body_stage (Body.Write payload) = Stage.Payload
body_stage (Body.QuadRead tclqv margin n sink) = Stage.High
body_stage (Body.QuadWrite payload) = Stage.High

abbrev pub after_command : Transfer → Stage
after_command Transfer.Raise = Stage.High
after_command (Transfer.Pause us) = Stage.High
after_command (Transfer.Framed c body) = body_stage body

abbrev pub next_stage : Transfer → Stage → Option Stage
next_stage t Stage.Start = after_start t
next_stage t Stage.Command = Some (after_command t)
next_stage t Stage.Payload = Some Stage.High
next_stage t Stage.High = None

abbrev pub body_sink : Body → Sink
body_sink Body.None = Sink.Number
body_sink (Body.Read n sink) = sink
body_sink (Body.Write payload) = Sink.Number
body_sink (Body.QuadRead tclqv margin n sink) = sink
body_sink (Body.QuadWrite payload) = Sink.Number

abbrev pub sink_of : Transfer → Sink
sink_of Transfer.Raise = Sink.Number
sink_of (Transfer.Pause us) = Sink.Number
sink_of (Transfer.Framed c body) = body_sink body

-- the number that a data reply comes to: registers and ids, nothing for the buffer, 1 for equal bytes
abbrev pub value_of : Sink → List ℕ → List ℕ → ℕ
value_of Sink.Number bytes lent = number_of bytes
value_of (Sink.Buffer at) bytes lent = 0
value_of (Sink.Compare from) bytes lent = pick (begins_of bytes (drop from lent)) 1 0

abbrev pub frame_at : Transfer → Stage → Outcome → Frame
frame_at t stage outcome = record { transfer = t; stage = stage; outcome = outcome }

abbrev pub moved_on : Transfer → Option Stage → Outcome → Advanced
moved_on t (Some stage) outcome = Advanced.More (frame_at t stage outcome)
moved_on t None outcome = Advanced.Over outcome

abbrev pub advanced_at : Frame → Reply → List ℕ → List ℕ → Advanced
advanced_at f Reply.Done bytes lent = moved_on f.transfer (next_stage f.transfer f.stage) f.outcome
advanced_at f Reply.Data bytes lent =
    moved_on f.transfer (next_stage f.transfer f.stage) (Ok (value_of (sink_of f.transfer) bytes lent))
advanced_at f (Reply.Error code) bytes lent = moved_on f.transfer (Some Stage.High) (Err (record { 0 = code }))

-- where the frame goes: behind an error select is raised, and the frame is over (docs/SPECIFICATION.md, "Actions and replies")
unfoldable pub advanced_of : Frame → Reply → List ℕ → List ℕ → Advanced
advanced_of f reply bytes lent = advanced_at f reply bytes lent

abbrev pub taken_into : Sink → List ℕ → List ℕ → List ℕ
taken_into Sink.Number bytes buffer = buffer
taken_into (Sink.Buffer at) bytes buffer = delivered_of buffer at bytes
taken_into (Sink.Compare from) bytes buffer = buffer

abbrev pub taken_at : Reply → Sink → List ℕ → List ℕ → List ℕ
taken_at Reply.Done sink bytes buffer = buffer
taken_at Reply.Data sink bytes buffer = taken_into sink bytes buffer
taken_at (Reply.Error code) sink bytes buffer = buffer

-- the caller's buffer: only what is read for the caller goes there (docs/SPECIFICATION.md, "Lent memory")
unfoldable pub taken_in : Frame → Reply → List ℕ → List ℕ → List ℕ
taken_in f reply bytes buffer = taken_at reply (sink_of f.transfer) bytes buffer

abbrev pub delivered_into : Sink → ℕ → ℕ → ℕ → ℕ
delivered_into Sink.Number n size before = before
delivered_into (Sink.Buffer at) n size before = end_of at n size before
delivered_into (Sink.Compare from) n size before = before

abbrev pub delivered_at : Reply → Sink → ℕ → ℕ → ℕ → ℕ
delivered_at Reply.Done sink n size before = before
delivered_at Reply.Data sink n size before = delivered_into sink n size before
delivered_at (Reply.Error code) sink n size before = before

-- how many bytes of the buffer are delivered, of a reply of n bytes and a buffer of that size
unfoldable pub delivered_by : Frame → Reply → ℕ → ℕ → ℕ → ℕ
delivered_by f reply n size before = delivered_at reply (sink_of f.transfer) n size before

-- ---- one reply to the action that is out

abbrev pub gave : Advanced → List ℕ → List ℕ → AfterExchange
gave (Advanced.More f) scratch buffer = exchanged_to (Exchanged.Gave f (action_of f)) (given_scratch f scratch) buffer
gave (Advanced.Over outcome) scratch buffer = exchanged_to (Exchanged.Over outcome) scratch buffer

unfoldable pub exchange_of : Frame → Reply → List ℕ → List ℕ → List ℕ → List ℕ → AfterExchange
exchange_of f reply bytes scratch buffer lent =
    pick (fits_of (action_of f) reply (length bytes))
    (gave (advanced_of f reply bytes lent) scratch (taken_in f reply bytes buffer))
    (exchanged_to Exchanged.Misfit scratch buffer)

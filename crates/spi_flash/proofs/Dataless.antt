-- Transfers that do not look at the caller's data show and come to the same, whatever data are lent.
use Rattle.std.specs.Prelude.{Ok}
use Prim.Native.Nat.{ℕ, ◌≤◌}
use native.Mathlib.Omega.{arith}
use mathlib.Core.Path.{◌≡◌, refl, ap}
use mathlib.Core.List.{List}
use Rattle.qspi.specs.ShownBytes.{payload_bytes, body_shown, shown_at}
use Rattle.qspi.specs.Frame.{Outcome, sink_of, value_of, frame_at, moved_on, next_stage, advanced_at}
use Rattle.qspi.specs.declared.bus.Reply.{Reply}
use Rattle.qspi.specs.declared.command.Command.{Command}
use Rattle.qspi.specs.declared.transfer.Payload.{Payload}
use Rattle.qspi.specs.declared.transfer.Sink.{Sink}
use Rattle.qspi.specs.declared.transfer.Body.{Body}
use Rattle.qspi.specs.declared.transfer.Transfer.{Transfer}
use Rattle.qspi.specs.declared.frame.Stage.{Stage}

-- ---- the looks at the caller's data, as a weight of transfers

abbrev pub payload_data : Payload → ℕ
payload_data (Payload.Data from len) = 1
payload_data (Payload.Filler n) = 0
payload_data Payload.Marker = 0

abbrev pub sink_data : Sink → ℕ
sink_data Sink.Number = 0
sink_data (Sink.Buffer at) = 0
sink_data (Sink.Compare from) = 1

abbrev pub body_data : Body → ℕ
body_data Body.None = 0
body_data (Body.Read n sink) = sink_data sink
body_data (Body.Write payload) = payload_data payload
body_data (Body.QuadRead tclqv margin n sink) = sink_data sink
body_data (Body.QuadWrite payload) = payload_data payload

abbrev pub data_uses : Transfer → ℕ
data_uses Transfer.Raise = 0
data_uses (Transfer.Pause us) = 0
data_uses (Transfer.Framed c body) = body_data body

-- ---- a transfer on other data

-- one that does on data d what it does on the data given
pub record Agrees (t : Transfer) (d given : List ℕ) : Type 0 where
  pub shows : (stage : Stage) → shown_at stage t d ≡ shown_at stage t given
  pub goes : (stage : Stage) (o : Outcome) (r : Reply) (bytes : List ℕ) → advanced_at (frame_at t stage o) r bytes d ≡ advanced_at (frame_at t stage o) r bytes given

pub agrees-same : (t : Transfer) {d given : List ℕ} → d ≡ given → Agrees t d given
agrees-same t e = record { shows = λ stage. ap (shown_at stage t) e; goes = λ stage o r bytes. ap (advanced_at (frame_at t stage o) r bytes) e }

module _ (d given : List ℕ) where
  same-payload : (p : Payload) → payload_data p ≤ 0 → payload_bytes p d ≡ payload_bytes p given
  same-payload (Payload.Data from len) h = absurd (omega arith)
  same-payload (Payload.Filler n) h = refl
  same-payload Payload.Marker h = refl

  same-value : (sink : Sink) (bytes : List ℕ) → sink_data sink ≤ 0 → value_of sink bytes d ≡ value_of sink bytes given
  same-value Sink.Number bytes h = refl
  same-value (Sink.Buffer at) bytes h = refl
  same-value (Sink.Compare from) bytes h = absurd (omega arith)

  same-body : (c : Command) (body : Body) → body_data body ≤ 0 → body_shown c body d ≡ body_shown c body given
  same-body c Body.None h = refl
  same-body c (Body.Read n sink) h = refl
  same-body c (Body.Write payload) h = rw (same-payload payload h) refl
  same-body c (Body.QuadRead tclqv margin n sink) h = refl
  same-body c (Body.QuadWrite payload) h = rw (same-payload payload h) refl

  same-shown : (stage : Stage) (t : Transfer) → data_uses t ≤ 0 → shown_at stage t d ≡ shown_at stage t given
  same-shown Stage.Start t h = refl
  same-shown Stage.Command t h = refl
  same-shown Stage.Payload Transfer.Raise h = refl
  same-shown Stage.Payload (Transfer.Pause us) h = refl
  same-shown Stage.Payload (Transfer.Framed c body) h = same-body c body h
  same-shown Stage.High t h = refl

  -- what is read is compared with nothing
  same-sink : (t : Transfer) → data_uses t ≤ 0 → sink_data (sink_of t) ≤ 0
  same-sink Transfer.Raise h = h
  same-sink (Transfer.Pause us) h = h
  same-sink (Transfer.Framed c Body.None) h = h
  same-sink (Transfer.Framed c (Body.Read n sink)) h = h
  same-sink (Transfer.Framed c (Body.Write payload)) h = omega arith
  same-sink (Transfer.Framed c (Body.QuadRead tclqv margin n sink)) h = h
  same-sink (Transfer.Framed c (Body.QuadWrite payload)) h = omega arith

  pub agrees-none : (t : Transfer) → data_uses t ≤ 0 → Agrees t d given
  agrees-none t h = record { shows = λ stage. same-shown stage t h; goes = goes }
    where
      goes : (stage : Stage) (o : Outcome) (r : Reply) (bytes : List ℕ) → advanced_at (frame_at t stage o) r bytes d ≡ advanced_at (frame_at t stage o) r bytes given
      goes stage o Reply.Done bytes = refl
      goes stage o Reply.Data bytes = ap (λ v. moved_on t (next_stage t stage) (Ok v)) (same-value (sink_of t) bytes (same-sink t h))
      goes stage o (Reply.Error code) bytes = refl

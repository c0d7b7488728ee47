-- The weights of the transfers: their delays, their actions, what is read into the caller's buffer, the looks at the caller's data, and
-- what goes out behind commands.
use Prim.Native.Nat.{ℕ, ◌≤◌}
use native.Mathlib.Omega.{arith}
use Rattle.qspi.specs.declared.command.Command.{Command}
use Rattle.qspi.specs.declared.transfer.Body.{Body}
use Rattle.qspi.specs.declared.transfer.Payload.{Payload}
use Rattle.qspi.specs.declared.transfer.Sink.{Sink}
use Rattle.qspi.specs.declared.transfer.Transfer.{Transfer}
use Rattle.spi_flash.specs.Path.{delays, Bounded}
use Rattle.spi_flash.proofs.Paths.{actions}
use Rattle.spi_flash.specs.Prog.{Prog}
use Rattle.spi_flash.proofs.Dataless.{payload_data, sink_data, data_uses}
use Rattle.spi_flash.proofs.Unread.{buffer_reads}
use Rattle.flash_runs.proofs.Payloads.{payload_weight, stamp_weight}
use Rattle.flash_runs.specs.Weight.{Figures, action_figures}

module _ {O : Type 0} where
  -- so much for a read, by where its bytes go
  abbrev pub sunk : Figures O → Sink → ℕ
  sunk x Sink.Number = x.moved
  sunk x (Sink.Buffer at) = x.fill
  sunk x (Sink.Compare from) = x.given

  -- so much for a write, by where its bytes come from
  abbrev pub paid : Figures O → Payload → ℕ
  paid x (Payload.Data from len) = x.given
  paid x (Payload.Filler n) = x.stamp
  paid x Payload.Marker = x.stamp

  abbrev pub carried : Figures O → Body → ℕ
  carried x Body.None = x.send
  carried x (Body.Read n sink) = sunk x sink
  carried x (Body.Write payload) = paid x payload
  carried x (Body.QuadRead tclqv margin n sink) = sunk x sink
  carried x (Body.QuadWrite payload) = paid x payload

  -- a weight of the transfers that these figures bound, with the program of a wait
  pub record Weighs {A : Type 0} (w : Transfer → ℕ) (x : Figures O) (wait : O → Prog A) : Type 0 where
    pub raised : w Transfer.Raise ≤ x.raise
    pub framed : (c : Command) (body : Body) → w (Transfer.Framed c body) ≤ carried x body
    pub waited : (operation : O) → Bounded w (x.waits operation) (wait operation)

  -- ---- the delays are those of the waits

  abbrev pub delay_figures : (O → ℕ) → Figures O
  delay_figures waits = record { raise = 0; send = 0; moved = 0; given = 0; fill = 0; stamp = 0; waits = waits }

  -- ---- what fills the caller's buffer is read for the caller

  abbrev pub read_figures : Figures O
  read_figures = record { raise = 0; send = 0; moved = 0; given = 0; fill = 1; stamp = 0; waits = λ operation. 0 }

  -- ---- only what is sent for the caller, or compared, looks at the caller's data

  abbrev pub data_figures : Figures O
  data_figures = record { raise = 0; send = 0; moved = 0; given = 1; fill = 0; stamp = 0; waits = λ operation. 0 }

  -- ---- what goes out behind commands; and what of it is a mark

  abbrev pub payload_figures : Figures O
  payload_figures = record { raise = 0; send = 0; moved = 0; given = 1; fill = 0; stamp = 1; waits = λ operation. 0 }

  abbrev pub stamp_figures : Figures O
  stamp_figures = record { raise = 0; send = 0; moved = 0; given = 0; fill = 0; stamp = 1; waits = λ operation. 0 }

  module _ {A : Type 0} (wait : O → Prog A) where
    pub delays-weigh : (waits : O → ℕ) → ((operation : O) → Bounded delays (waits operation) (wait operation)) → Weighs delays (delay_figures waits) wait
    delays-weigh waits h = record { raised = omega arith; framed = λ c body. omega arith; waited = h }

    pub actions-weigh : (waits : O → ℕ) → ((operation : O) → Bounded actions (waits operation) (wait operation)) → Weighs actions (action_figures waits) wait
    actions-weigh waits h = record { raised = omega arith; framed = framed; waited = h }
      where
        four : (sink : Sink) → 4 ≤ sunk (action_figures waits) sink
        four Sink.Number = omega arith
        four (Sink.Buffer at) = omega arith
        four (Sink.Compare from) = omega arith

        four-paid : (payload : Payload) → 4 ≤ paid (action_figures waits) payload
        four-paid (Payload.Data from len) = omega arith
        four-paid (Payload.Filler n) = omega arith
        four-paid Payload.Marker = omega arith

        framed : (c : Command) (body : Body) → actions (Transfer.Framed c body) ≤ carried (action_figures waits) body
        framed c Body.None = omega arith
        framed c (Body.Read n sink) = four sink
        framed c (Body.Write payload) = omega (arith, four-paid payload)
        framed c (Body.QuadRead tclqv margin n sink) = omega (arith, four sink)
        framed c (Body.QuadWrite payload) = omega (arith, four-paid payload)

    pub reads-weigh : ((operation : O) → Bounded buffer_reads 0 (wait operation)) → Weighs buffer_reads read_figures wait
    reads-weigh h = record { raised = omega arith; framed = framed; waited = h }
      where
        sinks : (c : Command) (n : ℕ) (sink : Sink) → buffer_reads (Transfer.Framed c (Body.Read n sink)) ≤ sunk read_figures sink
        sinks c n Sink.Number = omega arith
        sinks c n (Sink.Buffer at) = omega arith
        sinks c n (Sink.Compare from) = omega arith

        framed : (c : Command) (body : Body) → buffer_reads (Transfer.Framed c body) ≤ carried read_figures body
        framed c Body.None = omega arith
        framed c (Body.Read n sink) = sinks c n sink
        framed c (Body.Write payload) = omega arith
        framed c (Body.QuadRead tclqv margin n sink) = sinks c n sink
        framed c (Body.QuadWrite payload) = omega arith

    pub data-weigh : ((operation : O) → Bounded data_uses 0 (wait operation)) → Weighs data_uses data_figures wait
    data-weigh h = record { raised = omega arith; framed = framed; waited = h }
      where
        sinks : (sink : Sink) → sink_data sink ≤ sunk data_figures sink
        sinks Sink.Number = omega arith
        sinks (Sink.Buffer at) = omega arith
        sinks (Sink.Compare from) = omega arith

        payloads : (payload : Payload) → payload_data payload ≤ paid data_figures payload
        payloads (Payload.Data from len) = omega arith
        payloads (Payload.Filler n) = omega arith
        payloads Payload.Marker = omega arith

        framed : (c : Command) (body : Body) → data_uses (Transfer.Framed c body) ≤ carried data_figures body
        framed c Body.None = omega arith
        framed c (Body.Read n sink) = sinks sink
        framed c (Body.Write payload) = payloads payload
        framed c (Body.QuadRead tclqv margin n sink) = sinks sink
        framed c (Body.QuadWrite payload) = payloads payload

    -- what goes out behind commands, and what of it is a bad-block mark
    pub payloads-weigh : ((operation : O) → Bounded payload_weight 0 (wait operation)) → Weighs payload_weight payload_figures wait
    payloads-weigh h = record { raised = omega arith; framed = framed; waited = h }
      where
        written : (payload : Payload) → 1 ≤ paid payload_figures payload
        written (Payload.Data from len) = omega arith
        written (Payload.Filler n) = omega arith
        written Payload.Marker = omega arith

        framed : (c : Command) (body : Body) → payload_weight (Transfer.Framed c body) ≤ carried payload_figures body
        framed c Body.None = omega arith
        framed c (Body.Read n sink) = omega arith
        framed c (Body.Write payload) = written payload
        framed c (Body.QuadRead tclqv margin n sink) = omega arith
        framed c (Body.QuadWrite payload) = written payload

    pub stamps-weigh : ((operation : O) → Bounded stamp_weight 0 (wait operation)) → Weighs stamp_weight stamp_figures wait
    stamps-weigh h = record { raised = omega arith; framed = framed; waited = h }
      where
        written : (c : Command) (payload : Payload) → stamp_weight (Transfer.Framed c (Body.Write payload)) ≤ paid stamp_figures payload
        written c (Payload.Data from len) = omega arith
        written c (Payload.Filler n) = omega arith
        written c Payload.Marker = omega arith

        framed : (c : Command) (body : Body) → stamp_weight (Transfer.Framed c body) ≤ carried stamp_figures body
        framed c Body.None = omega arith
        framed c (Body.Read n sink) = omega arith
        framed c (Body.Write payload) = written c payload
        framed c (Body.QuadRead tclqv margin n sink) = omega arith
        framed c (Body.QuadWrite payload) = written c payload

-- What is put into the scratch, over every run of the machine: the bytes that a step gives out, at their places, and behind commands what
-- the program has to give out.
use Rattle.std.specs.Prelude.{Ok, Err}
use native.Mathlib.Omega.{arith}
use Prim.Native.Nat.{ℕ, ◌≤◌}
use mathlib.Core.Bool.{true}
use mathlib.Core.Path.{◌≡◌, refl, sym, subst}
use mathlib.Core.List.{List, [], ◌∷◌}
use lib.ListN.{length}
use lib.Seq.{length-sets}
use borrow.Author.Tests.{le-leb}
use Rattle.qspi.specs.Bus.{fits_of}
use Rattle.qspi.specs.Bytes.{with_filler, with_marker}
use Rattle.qspi.specs.Command as Command
use Rattle.qspi.specs.Command.{command_bytes, scratch_least}
use Rattle.qspi.proofs.Cases.{by_cases}
use Rattle.qspi.proofs.Filler.{filler-most}
use Rattle.qspi.specs.Frame.{Outcome, first_of, action_of, next_stage, frame_at, moved_on, advanced_at, advanced_of, taken_in, gave, exchange_of, with_payload, scratch_at, given_scratch}
use Rattle.qspi.specs.ShownBytes.{payload_bytes, start_shown, shown_at}
use Rattle.qspi.proofs.Sent.{longest, shown-bytes}
use Rattle.qspi.specs.declared.bus.Reply.{Reply}
use Rattle.qspi.specs.declared.command.Command as Declared
use Rattle.qspi.specs.declared.transfer.Payload.{Payload}
use Rattle.qspi.specs.declared.transfer.Body.{Body}
use Rattle.qspi.specs.declared.transfer.Transfer.{Transfer}
use Rattle.qspi.specs.declared.frame.Advanced.{Advanced}
use Rattle.qspi.specs.declared.frame.Frame.{Frame}
use Rattle.qspi.specs.declared.frame.Stage.{Stage}
use Rattle.spi_flash.specs.declared.loan.Takes.{Takes}
use Rattle.spi_flash.specs.Loan.{Lent, ready_for, lent_as}
use Rattle.spi_flash.specs.Run.{Event, reply, call, Moved, goes_on}
use Rattle.spi_flash.proofs.Machine.{Decision, more, well, bad, Config, out, rest, settle, moved, machine, tree, Onward, Simulates}
use Rattle.spi_flash.specs.Prog.{Prog, ask}
use Rattle.spi_flash.proofs.OnBus.{false≢true}
use Rattle.spi_flash.proofs.Performs.{first-shown, long-scratch}
use Rattle.flash_runs.specs.Watch.{BusFrame, selected, commanded, wrote_in, frame_after}
use Rattle.flash_runs.specs.Scratch.{with_command, filler, marker, Payloads, callers, stamps, next_payloads, PutsPayload, IsCommand, Puts, frame_then, payloads_after, payloads_then, StepPuts, PutsOver}
use Rattle.flash_runs.proofs.Payloads.{PaysBy, Pays}

-- ---- one action

abbrev Long : List ℕ → Type 0
Long scratch = scratch_least ≤ length scratch

puts-command : (c : Declared.Command) (s : List ℕ) → Long s → Command.with_command c s ≡ with_command (command_bytes c) s
unfolding Command.with_command
puts-command c s h = rw (le-leb scratch_least (length s) h)

has-opcode : (c : Declared.Command) → 1 ≤ length (command_bytes c)
has-opcode (Declared.Command.Opcode opcode) = omega arith
has-opcode (Declared.Command.Byte opcode byte) = omega arith
has-opcode (Declared.Command.RegisterValue opcode register value) = omega arith
has-opcode (Declared.Command.Address opcode address) = omega arith
has-opcode (Declared.Command.Column opcode column) = omega arith
has-opcode (Declared.Command.ColumnDummy opcode column) = omega arith
has-opcode (Declared.Command.FourDummies opcode) = omega arith

is-command : (c : Declared.Command) → IsCommand (command_bytes c)
is-command c = (has-opcode c, longest c)

module _ (all : Payloads) {A : Type 0} (k : ℕ → Prog A) where
  -- what is left to give out behind a transfer
  abbrev Later : Payloads → Type 0
  Later p = (v : ℕ) → Pays all p (k v)

  abbrev PaysOn : Payloads → Outcome → Type 0
  PaysOn p (Ok v) = Later p
  PaysOn p (Err error) = Unit {0}

  pays-on : (p : Payloads) (o : Outcome) → Later p → PaysOn p o
  pays-on p (Ok v) h = h
  pays-on p (Err error) h = tt

  -- the next payload is put at its place
  pays-payload : (p : Payloads) (payload : Payload) (given s : List ℕ) → Long s → PaysBy p payload Later →
      PutsPayload p (payload_bytes payload given) given s (with_payload payload s) × Later (next_payloads p)
  unfolding with_filler with_marker
  pays-payload callers (Payload.Data from len) given s long h = (record { from = from; len = len; part = refl; kept = refl }, h)
  pays-payload callers (Payload.Filler n) given s long h = absurd h
  pays-payload callers Payload.Marker given s long h = absurd h
  pays-payload (stamps []) payload given s long h = absurd h
  pays-payload (stamps (filler n ∷ xs)) (Payload.Data from len) given s long h = absurd h
  pays-payload (stamps (filler n ∷ xs)) (Payload.Filler m) given s long h =
      rw (sym h.0) ((filler-most m, refl, rw (le-leb scratch_least (length s) long)), h.1)
  pays-payload (stamps (filler n ∷ xs)) Payload.Marker given s long h = absurd h
  pays-payload (stamps (marker ∷ xs)) (Payload.Data from len) given s long h = absurd h
  pays-payload (stamps (marker ∷ xs)) (Payload.Filler m) given s long h = absurd h
  pays-payload (stamps (marker ∷ xs)) Payload.Marker given s long h = ((refl, rw (le-leb scratch_least (length s) long)), h)

  -- ---- the frame on the bus while an action is out

  command-written : (c : Declared.Command) → wrote_in selected (command_bytes c) ≡ commanded (command_bytes c)
  command-written (Declared.Command.Opcode opcode) = refl
  command-written (Declared.Command.Byte opcode byte) = refl
  command-written (Declared.Command.RegisterValue opcode register value) = refl
  command-written (Declared.Command.Address opcode address) = refl
  command-written (Declared.Command.Column opcode column) = refl
  command-written (Declared.Command.ColumnDummy opcode column) = refl
  command-written (Declared.Command.FourDummies opcode) = refl

  -- a command of its own is behind no quad call
  abbrev CommandedAt : Declared.Command → Body → BusFrame → Type 0
  CommandedAt c (Body.QuadRead tclqv margin n sink) frame = ⊥
  CommandedAt c (Body.QuadWrite payload) frame = ⊥
  CommandedAt c _ frame = frame ≡ commanded (command_bytes c)

  abbrev FramedAt : Stage → Transfer → BusFrame → Type 0
  FramedAt Stage.Start (Transfer.Framed c body) frame = frame ≡ selected
  FramedAt Stage.Command (Transfer.Framed c body) frame = CommandedAt c body frame
  FramedAt _ t frame = Unit {0}

  -- and what is left to give out
  abbrev PaysAt : Payloads → Stage → Transfer → Outcome → Type 0
  PaysAt p Stage.Start t o = Pays all p (ask t k)
  PaysAt p Stage.Command t o = Pays all p (ask t k)
  PaysAt p Stage.Payload t o = Later p
  PaysAt p Stage.High t o = PaysOn p o

  pub record Stands (frame : BusFrame) (p : Payloads) (stage : Stage) (t : Transfer) (o : Outcome) : Type 0 where
    pub framed : FramedAt stage t frame
    pub pays : PaysAt p stage t o

  pub first-stands : (t : Transfer) (frame : BusFrame) (p : Payloads) (o : Outcome) → Pays all p (ask t k) →
      Stands (frame_after (start_shown t) frame) (payloads_after (start_shown t) frame p) Stage.Start t o
  first-stands Transfer.Raise frame p o h = record { framed = tt; pays = h }
  first-stands (Transfer.Pause us) frame p o h = record { framed = tt; pays = h }
  first-stands (Transfer.Framed c body) frame p o h = record { framed = refl; pays = h }

  -- ---- one reply

  module _ (given s : List ℕ) (long : Long s) (frame : BusFrame) (p : Payloads) where
    -- the action of a stage puts its bytes, and what is behind it stands right
    abbrev PutsAt : Stage → Transfer → Outcome → Type 0
    PutsAt stage t o =
        let shown = shown_at stage t given in
        Puts shown frame p given s (scratch_at stage t s) × Stands (frame_after shown frame) (payloads_after shown frame p) stage t o

    -- wherever a reply takes it
    abbrev PutsBy : Advanced → Type 0
    PutsBy (Advanced.More g) = PutsAt g.stage g.transfer g.outcome
    PutsBy (Advanced.Over o) = PaysOn p o

    raised : (t : Transfer) (o : Outcome) → PaysOn p o → PutsAt Stage.High t o
    raised t o h = (refl, record { framed = tt; pays = h })

    after-start : (t : Transfer) (o : Outcome) → FramedAt Stage.Start t frame → Pays all p (ask t k) → PutsBy (moved_on t (next_stage t Stage.Start) o)
    after-start Transfer.Raise o f h = pays-on p o h
    after-start (Transfer.Pause us) o f h = pays-on p o h
    after-start (Transfer.Framed c Body.None) o f h = rw f ((is-command c, puts-command c s long), record { framed = command-written c; pays = h })
    after-start (Transfer.Framed c (Body.Read n sink)) o f h = rw f ((is-command c, puts-command c s long), record { framed = command-written c; pays = h })
    after-start (Transfer.Framed c (Body.Write payload)) o f h = rw f ((is-command c, puts-command c s long), record { framed = command-written c; pays = h })
    after-start (Transfer.Framed c (Body.QuadRead tclqv margin n sink)) o f h = rw f ((is-command c, puts-command c s long), record { framed = tt; pays = h })
    after-start (Transfer.Framed c (Body.QuadWrite payload)) o f h =
        let put = pays-payload p payload given (with_command (command_bytes c) s) (rw (length-sets s 0 (command_bytes c)) long) h in
        rw (f, puts-command c s long) ((is-command c, put.0), record { framed = tt; pays = put.1 })

    after-command : (t : Transfer) (o : Outcome) → FramedAt Stage.Command t frame → Pays all p (ask t k) → PutsBy (moved_on t (next_stage t Stage.Command) o)
    after-command Transfer.Raise o f h = raised Transfer.Raise o (pays-on p o h)
    after-command (Transfer.Pause us) o f h = raised (Transfer.Pause us) o (pays-on p o h)
    after-command (Transfer.Framed c Body.None) o f h = raised (Transfer.Framed c Body.None) o (pays-on p o h)
    after-command (Transfer.Framed c (Body.Read n sink)) o f h = rw f (refl, record { framed = tt; pays = h })
    after-command (Transfer.Framed c (Body.Write payload)) o f h =
        let put = pays-payload p payload given s long h in
        rw f (put.0, record { framed = tt; pays = put.1 })
    after-command (Transfer.Framed c (Body.QuadRead tclqv margin n sink)) o f h = absurd f
    after-command (Transfer.Framed c (Body.QuadWrite payload)) o f h = absurd f

    puts-by : (stage : Stage) (t : Transfer) (o : Outcome) (r : Reply) (bytes : List ℕ) → Stands frame p stage t o → fits_of (action_of (frame_at t stage o)) r (length bytes) ≡ true →
        PutsBy (advanced_at (frame_at t stage o) r bytes given)
    unfolding fits_of action_of
    puts-by stage t o (Reply.Error code) bytes h fits = raised t _ tt
    puts-by Stage.Start t o Reply.Done bytes h fits = after-start t o h.framed h.pays
    puts-by Stage.Start t o Reply.Data bytes h fits = after-start t _ h.framed h.pays
    puts-by Stage.Command t o Reply.Done bytes h fits = after-command t o h.framed h.pays
    puts-by Stage.Command t o Reply.Data bytes h fits = after-command t _ h.framed h.pays
    puts-by Stage.Payload t o Reply.Done bytes h fits = raised t o (pays-on p o h.pays)
    puts-by Stage.Payload t o Reply.Data bytes h fits = raised t _ h.pays
    puts-by Stage.High t o Reply.Done bytes h fits = h.pays
    puts-by Stage.High t o Reply.Data bytes h fits = absurd (false≢true fits)

-- the first action of a transfer is no write
first-puts : (t : Transfer) (frame : BusFrame) (p : Payloads) (given scratch : List ℕ) → Puts (start_shown t) frame p given scratch scratch
first-puts Transfer.Raise frame p given scratch = refl
first-puts (Transfer.Pause us) frame p given scratch = refl
first-puts (Transfer.Framed c body) frame p given scratch = refl

-- ---- every run

module _ (all : Payloads) (C : Type 0) {S A : Type 0} (Valid : S → Type 0) (next : S → Outcome → Decision S A) (k : Takes) (meaning : S → ℕ → Prog A) (sim : Simulates Valid next meaning) where
  -- what is said of a step and of those behind it
  abbrev PutsFrom : List (Event C) → BusFrame → Payloads → Lent → Moved (Config S) A → Type 0
  PutsFrom es frame p l m = StepPuts all m.given frame p l m.left × PutsOver all (frame_then m.given frame) (payloads_then m.given frame p) (goes_on (machine next C) m.flash es)

  abbrev Putting : List (Event C) → Type 0
  Putting es = (s : S) (t : Transfer) (stage : Stage) (o : Outcome) (frame : BusFrame) (p : Payloads) → Valid s → Stands all (meaning s) frame p stage t o →
      PutsOver all frame p (goes_on (machine next C) (out k s (frame_at t stage o)) es)

  rest-puts : (es : List (Event C)) (frame : BusFrame) (p : Payloads) → PutsOver all frame p (goes_on (machine next C) rest es)
  unfolding goes_on PutsOver
  rest-puts [] frame p = tt
  rest-puts (call c l ∷ es) frame p = tt
  rest-puts (reply r bytes l ∷ es) frame p = (record { scratch = refl; callers = refl; whole = tt }, rest-puts es frame p)

  pub settled-puts : (es : List (Event C)) → Putting es → (d : Decision S A) (frame : BusFrame) (p : Payloads) (l : Lent) (buffer : List ℕ) → Onward Valid d → Pays all p (tree meaning d) →
      PutsFrom es frame p l (settle k d (lent_as l.scratch buffer l))
  unfolding first_of
  settled-puts es ih (more t s) frame p l buffer w h =
      rw (first-shown t l.scratch l.given)
      (record { scratch = first-puts t frame p l.given l.scratch; callers = refl; whole = tt }, ih s t Stage.Start (Ok 0) _ _ w (first-stands all (meaning s) t frame p (Ok 0) h))
  settled-puts es ih (well a) frame p l buffer w h = (record { scratch = refl; callers = refl; whole = h }, rest-puts es frame p)
  settled-puts es ih (bad e) frame p l buffer w h = (record { scratch = refl; callers = refl; whole = tt }, rest-puts es frame p)

  module _ (es : List (Event C)) (ih : Putting es) (s : S) (w : Valid s) (f : Frame) (frame : BusFrame) (p : Payloads) (r : Reply) (bytes : List ℕ) (l : Lent) (ready : ready_for k l ≡ true) where
    abbrev delivered : List ℕ
    delivered = taken_in f r bytes l.buffer

    abbrev long : Long l.scratch
    long = long-scratch k l ready

    goes : (o : Outcome) → PaysOn all (meaning s) p o → Onward Valid (next s o) × Pays all p (tree meaning (next s o))
    goes (Ok v) h = (sim.keeps s v w, subst (Pays all p) (sim.on_value s v w) (h v))
    goes (Err error) h = rw (sim.on_failure s error) (tt, tt)

    fitting-puts : (x : Advanced) → PutsBy all (meaning s) l.given l.scratch long frame p x →
        PutsFrom es frame p l (moved next k s f (gave x l.scratch delivered).exchanged l (gave x l.scratch delivered).scratch (gave x l.scratch delivered).buffer)
    unfolding given_scratch
    fitting-puts (Advanced.More g) h =
        rw (shown-bytes.shows g l.scratch l.given long) (record { scratch = h.0; callers = refl; whole = tt }, ih s g.transfer g.stage g.outcome _ _ w h.1)
    fitting-puts (Advanced.Over o) h = settled-puts es ih (next s o) frame p l delivered (goes o h).0 (goes o h).1

  pub puts-over : (es : List (Event C)) → Putting es
  unfolding goes_on PutsOver exchange_of advanced_of
  puts-over [] s t stage o frame p w h = tt
  puts-over (call c l ∷ es) s t stage o frame p w h = (record { scratch = refl; callers = refl; whole = tt }, puts-over es s t stage o frame p w h)
  puts-over (reply r bytes l ∷ es) s t stage o frame p w h =
      let f = frame_at t stage o in
      by_cases (ready_for k l)
      (λ ready. by_cases (fits_of (action_of f) r (length bytes))
      (λ fits. rw (ready, fits)
      (fitting-puts es (puts-over es) s w f frame p r bytes l ready (advanced_of f r bytes l.given)
      (puts-by all (meaning s) l.given l.scratch (long-scratch k l ready) frame p stage t o r bytes h fits)))
      (λ fits. rw (ready, fits) (record { scratch = refl; callers = refl; whole = tt }, puts-over es s t stage o frame p w h)))
      (λ ready. rw ready (record { scratch = refl; callers = refl; whole = tt }, puts-over es s t stage o frame p w h))

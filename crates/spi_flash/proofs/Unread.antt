-- A program that reads nothing into the caller's buffer leaves it alone, over every run.
use Rattle.std.specs.Prelude.{Ok, Err}
use Prim.Native.Nat.{ℕ, zero, suc, ◌+◌, ◌≤◌}
use native.Mathlib.Omega.{arith}
use mathlib.Core.Bool.{Bool, true, false, not}
use mathlib.Core.Path.{◌≡◌, refl, subst}
use mathlib.Core.List.{List, [], ◌∷◌}
use lib.ListN.{length}
use lib.Dec.{leb}
use Rattle.qspi.specs.Choice.{pick}
use Rattle.qspi.specs.Bus.{fits_of}
use Rattle.qspi.specs.Frame.{Outcome, first_of, action_of, sink_of, taken_into, taken_at, taken_in, exchanged_to, advanced_of, gave, exchange_of}
use Rattle.qspi.specs.declared.bus.Reply.{Reply}
use Rattle.qspi.specs.declared.command.Command.{Command}
use Rattle.qspi.specs.declared.transfer.Sink.{Sink}
use Rattle.qspi.specs.declared.transfer.Transfer.{Transfer}
use Rattle.qspi.specs.declared.frame.Advanced.{Advanced}
use Rattle.qspi.specs.declared.frame.Exchanged.{Exchanged}
use Rattle.qspi.specs.declared.frame.Frame.{Frame}
use Rattle.spi_flash.specs.declared.loan.Takes.{Takes}
use Rattle.spi_flash.specs.declared.wait.Timings.{Timings}
use Rattle.spi_flash.specs.Loan.{Lent, lent_as}
use Rattle.spi_flash.specs.Number.{number_transfer}
use Rattle.spi_flash.specs.Prog.{Prog, ask}
use Rattle.spi_flash.specs.WaitLaw.{wait_loop, waiting, delayed_wait, prompt_wait}
use Rattle.spi_flash.specs.Path.{Bounded}
use Rattle.spi_flash.specs.Run.{Event, reply, call, Moved, goes_on}
use Rattle.spi_flash.proofs.Machine.{Decision, more, well, bad, Config, out, rest, settle, moved, machine, tree, Onward, Simulates}
use Rattle.spi_flash.specs.Seen.{KeepsBuffer}
use Rattle.spi_flash.proofs.Laws.{every-mono, bounded-more, bounded-ret, bounded-fail, bounded-bind, bounded-then, bounded-if, bounded-transfer}
use Rattle.spi_flash.proofs.Runs.{heard-view}

-- the reads into the buffer, as a weight of transfers
abbrev pub sink_reads : Sink → ℕ
sink_reads Sink.Number = 0
sink_reads (Sink.Buffer at) = 1
sink_reads (Sink.Compare from) = 0

abbrev pub buffer_reads : Transfer → ℕ
buffer_reads t = sink_reads (sink_of t)

-- ---- a program that is bounded by 0 does nothing of that weight

pub none_first : {A : Type 0} {w : Transfer → ℕ} (t : Transfer) (k : ℕ → Prog A) → Bounded w 0 (ask t k) → w t ≤ 0
none_first t k h = let l = h.bound.0 in omega arith

pub none-later : {A : Type 0} {w : Transfer → ℕ} (t : Transfer) (k : ℕ → Prog A) → Bounded w 0 (ask t k) → (v : ℕ) → Bounded w 0 (k v)
none-later t k h v = record { bound = every-mono (k v) (λ xs e l. omega arith) (h.bound.2 v) }

-- a wait reads a register and pauses, and does nothing else
module _ (w : Transfer → ℕ) (looks : (c : Command) → w (number_transfer c 1) ≤ 0) (pauses : (us : ℕ) → w (Transfer.Pause us) ≤ 0) (status : Command) (busy : ℕ → Bool) (t : Timings) where
  none-looping : (fuel waited : ℕ) → Bounded w 0 (wait_loop status busy fuel t waited)
  unfolding wait_loop
  none-looping zero waited = bounded-fail
  none-looping (suc fuel) waited =
      bounded-more (omega arith)
      (bounded-bind {b = 0} {c = 0} (bounded-more (looks status) bounded-transfer)
      (λ s. bounded-if (not (busy s)) bounded-ret
      (bounded-if (leb t.timeout_us waited) bounded-fail
      (bounded-more (omega arith) (bounded-then {b = 0} {c = 0} (bounded-more (pauses t.poll_us) bounded-transfer) (none-looping fuel (waited + t.poll_us)))))))

  pub none-waiting : Bounded w 0 (prompt_wait status busy t)
  unfolding prompt_wait waiting
  none-waiting = none-looping _ 0

  pub none-delayed : Bounded w 0 (delayed_wait status busy t)
  unfolding delayed_wait waiting
  none-delayed = bounded-more (omega arith) (bounded-then {b = 0} {c = 0} (bounded-more (pauses t.initial_us) bounded-transfer) (none-looping _ _))

module _ (status : Command) (busy : ℕ → Bool) (t : Timings) where
  pub unread-wait : Bounded buffer_reads 0 (prompt_wait status busy t)
  unread-wait = none-waiting buffer_reads (λ c. omega arith) (λ us. omega arith) status busy t

  pub unread-delayed : Bounded buffer_reads 0 (delayed_wait status busy t)
  unread-delayed = none-delayed buffer_reads (λ c. omega arith) (λ us. omega arith) status busy t

-- ---- the buffer in one step

kept-into : (sink : Sink) (bytes buffer : List ℕ) → sink_reads sink ≤ 0 → taken_into sink bytes buffer ≡ buffer
kept-into Sink.Number bytes buffer h = refl
kept-into (Sink.Buffer at) bytes buffer h = absurd (omega arith)
kept-into (Sink.Compare from) bytes buffer h = refl

kept_at : (r : Reply) (sink : Sink) (bytes buffer : List ℕ) → sink_reads sink ≤ 0 → taken_at r sink bytes buffer ≡ buffer
kept_at Reply.Done sink bytes buffer h = refl
kept_at Reply.Data sink bytes buffer h = kept-into sink bytes buffer h
kept_at (Reply.Error code) sink bytes buffer h = refl

kept_by : (f : Frame) (r : Reply) (bytes scratch buffer given : List ℕ) → buffer_reads f.transfer ≤ 0 → (exchange_of f r bytes scratch buffer given).buffer ≡ buffer
unfolding exchange_of taken_in
kept_by f r bytes scratch buffer given h = at (fits_of (action_of f) r (length bytes)) (advanced_of f r bytes given)
  where
    at : (fits : Bool) (a : Advanced) → (pick fits (gave a scratch (taken_in f r bytes buffer)) (exchanged_to Exchanged.Misfit scratch buffer)).buffer ≡ buffer
    at true (Advanced.More g) = kept_at r (sink_of f.transfer) bytes buffer h
    at true (Advanced.Over o) = kept_at r (sink_of f.transfer) bytes buffer h
    at false a = refl

-- ---- over every run

module _ {S A C : Type 0} (Valid : S → Type 0) (next : S → Outcome → Decision S A) (k : Takes) (meaning : S → ℕ → Prog A) (sim : Simulates Valid next meaning) where
  rest-keeps : (es : List (Event C)) → KeepsBuffer (goes_on (machine next C) rest es)
  unfolding goes_on KeepsBuffer
  rest-keeps [] = tt
  rest-keeps (call c l ∷ es) = tt
  rest-keeps (reply r bytes l ∷ es) = (refl, rest-keeps es)

  abbrev Keeps : List (Event C) → Type 0
  Keeps es = (s : S) (f : Frame) → Valid s → Bounded buffer_reads 0 (ask f.transfer (meaning s)) → KeepsBuffer (goes_on (machine next C) (out k s f) es)

  -- what is said of a step that was lent a buffer
  abbrev KeepsBy : List (Event C) → List ℕ → Moved (Config S) A → Type 0
  KeepsBy es buffer m = (m.left.buffer ≡ buffer) × KeepsBuffer (goes_on (machine next C) m.flash es)

  settled-keeps : (es : List (Event C)) → Keeps es → (d : Decision S A) (l : Lent) (buffer : List ℕ) → l.buffer ≡ buffer → Onward Valid d → Bounded buffer_reads 0 (tree meaning d) →
      KeepsBy es buffer (settle k d l)
  unfolding first_of
  settled-keeps es ih (more t s) l buffer e w h = (e, ih s (first_of t) w h)
  settled-keeps es ih (well a) l buffer e w h = (e, rest-keeps es)
  settled-keeps es ih (bad x) l buffer e w h = (e, rest-keeps es)

  over-keeps : (es : List (Event C)) → Keeps es → (s : S) (t : Transfer) (o : Outcome) (l : Lent) (buffer : List ℕ) → l.buffer ≡ buffer → Valid s → Bounded buffer_reads 0 (ask t (meaning s)) →
      KeepsBy es buffer (settle k (next s o) l)
  over-keeps es ih s t (Ok v) l buffer e w h =
      settled-keeps es ih (next s (Ok v)) l buffer e (sim.keeps s v w) (subst (Bounded buffer_reads 0) (sim.on_value s v w) (none-later t (meaning s) h v))
  over-keeps es ih s t (Err error) l buffer e w h = rw (sim.on_failure s error) (e, rest-keeps es)

  pub keeps-buffer : (es : List (Event C)) → Keeps es
  unfolding goes_on KeepsBuffer
  keeps-buffer [] s f w h = tt
  keeps-buffer (call c l ∷ es) s f w h = (refl, keeps-buffer es s f w h)
  keeps-buffer (reply r bytes l ∷ es) s f w h =
      let x = exchange_of f r bytes l.scratch l.buffer l.given in
      let kept = kept_by f r bytes l.scratch l.buffer l.given (none_first f.transfer (meaning s) h) in
      heard-view k f r bytes l
      (λ y. KeepsBy es l.buffer (moved next k s f y l x.scratch x.buffer))
      (refl, keeps-buffer es s f w h)
      (λ g e. (kept, keeps-buffer es s g w (rw e.same h)))
      (λ o c. over-keeps es (keeps-buffer es) s f.transfer o (lent_as x.scratch x.buffer l) l.buffer kept w h)

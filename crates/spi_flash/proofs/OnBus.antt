-- The frames of a transfer are the Rust's bus calls: a reply that fits does to both the same.
use Rattle.std.specs.Prelude.{Ok, Err}
use Prim.Native.Nat.{ℕ}
use native.Mathlib.Omega.{arith}
use mathlib.Core.Bool.{true, false}
use mathlib.Core.Path.{◌≡◌, refl, sym, subst}
use mathlib.Core.List.{List}
use lib.ListN.{length}
use Rattle.qspi.specs.Bus.{awaits_of, fits_at}
use Rattle.qspi.specs.Command.{command_bytes}
use Rattle.qspi.specs.Shown.{high, write, read, quad_read, quad_write}
use Rattle.qspi.specs.ShownBytes.{payload_bytes, start_shown, shown_at}
use Rattle.qspi.specs.Frame.{Outcome, action_at, start_action, sink_of, value_of, taken_at, frame_at, advanced_at}
use Rattle.qspi.specs.declared.bus.Awaits.{Awaits}
use Rattle.qspi.specs.declared.bus.Reply.{Reply}
use Rattle.qspi.specs.declared.transfer.Sink.{Sink}
use Rattle.qspi.specs.declared.transfer.Body.{Body}
use Rattle.qspi.specs.declared.transfer.Transfer.{Transfer}
use Rattle.qspi.specs.declared.frame.Stage.{Stage}
use Rattle.qspi.specs.declared.frame.Advanced.{Advanced}
use Rattle.spi_flash.specs.declared.error.FlashError.{FlashError}
use Rattle.spi_flash.specs.Run.{Answer}
use Rattle.spi_flash.specs.OnBus.{BusProg, answers, stops, does, ◌>>=◌, ◌>>◌, Result, ok, result_at, plain, sending, stored, reading, question, if_ok, framed, framed_then, on_bus, performed}

pub false≢true : false ≡ true → ⊥
false≢true h = let z : ◌≡◌ {A = ℕ} 0 1 = cc in omega arith

abbrev pub answer_of : Reply → List ℕ → Answer
answer_of r bytes = record { kind = r; bytes = bytes }

-- the frames that a call comes to
abbrev pub Reached : Stage → Transfer → Type 0
Reached Stage.Start t = Unit {0}
Reached Stage.Command Transfer.Raise = ⊥
Reached Stage.Command (Transfer.Pause us) = ⊥
Reached Stage.Command (Transfer.Framed c Body.None) = Unit {0}
Reached Stage.Command (Transfer.Framed c (Body.Read n sink)) = Unit {0}
Reached Stage.Command (Transfer.Framed c (Body.Write payload)) = Unit {0}
Reached Stage.Command (Transfer.Framed c (Body.QuadRead tclqv margin n sink)) = ⊥
Reached Stage.Command (Transfer.Framed c (Body.QuadWrite payload)) = ⊥
Reached Stage.Payload Transfer.Raise = ⊥
Reached Stage.Payload (Transfer.Pause us) = ⊥
Reached Stage.Payload (Transfer.Framed c Body.None) = ⊥
Reached Stage.Payload (Transfer.Framed c (Body.Read n sink)) = Unit {0}
Reached Stage.Payload (Transfer.Framed c (Body.Write payload)) = Unit {0}
Reached Stage.Payload (Transfer.Framed c (Body.QuadRead tclqv margin n sink)) = Unit {0}
Reached Stage.Payload (Transfer.Framed c (Body.QuadWrite payload)) = Unit {0}
Reached Stage.High t = Unit {0}

-- nothing has come of the transfer before its last action
abbrev pub Fresh : Stage → Outcome → Type 0
Fresh Stage.Start o = o ≡ Ok 0
Fresh Stage.Command o = o ≡ Ok 0
Fresh Stage.Payload o = o ≡ Ok 0
Fresh Stage.High o = Unit {0}

abbrev pub Proper : Stage → Transfer → Outcome → Type 0
Proper stage t o = Reached stage t × Fresh stage o

-- select and the delay are answered by done
pub done-at-start : (t : Transfer) → awaits_of (start_action t) ≡ Awaits.Done
done-at-start Transfer.Raise = refl
done-at-start (Transfer.Pause us) = refl
done-at-start (Transfer.Framed c Body.None) = refl
done-at-start (Transfer.Framed c (Body.Read n sink)) = refl
done-at-start (Transfer.Framed c (Body.Write payload)) = refl
done-at-start (Transfer.Framed c (Body.QuadRead tclqv margin n sink)) = refl
done-at-start (Transfer.Framed c (Body.QuadWrite payload)) = refl

-- ---- what is left of a transfer behind the action that is out

module _ {A : Type 0} (given : List ℕ) (then : ℕ → BusProg A) where
  -- select is high again
  abbrev pub concluded : Outcome → BusProg A
  concluded (Ok v) = then v
  concluded (Err error) = stops (FlashError.Spi error.0)

  -- the result is known, select is low
  pub closes : Result → BusProg (List ℕ)
  closes result = plain high >> question result

  abbrev valued : Sink → BusProg (List ℕ) → BusProg A
  valued sink p = (p >>= (λ bytes. answers (value_of sink bytes given))) >>= then

  abbrev plainly : BusProg (List ℕ) → BusProg A
  plainly p = (p >> answers 0) >>= then

  abbrev behind_start : Transfer → BusProg A
  behind_start Transfer.Raise = then 0
  behind_start (Transfer.Pause us) = then 0
  behind_start (Transfer.Framed c Body.None) = plainly (sending (write (command_bytes c)) >>= closes)
  behind_start (Transfer.Framed c (Body.Read n sink)) = valued sink (sending (write (command_bytes c)) >>= (λ result. if_ok result (reading (read n) sink) >>= closes))
  behind_start (Transfer.Framed c (Body.Write payload)) =
      plainly (sending (write (command_bytes c)) >>= (λ result. if_ok result (sending (write (payload_bytes payload given))) >>= closes))
  behind_start (Transfer.Framed c (Body.QuadRead tclqv margin n sink)) = valued sink (reading (quad_read (command_bytes c) tclqv margin n) sink >>= closes)
  behind_start (Transfer.Framed c (Body.QuadWrite payload)) = plainly (sending (quad_write (command_bytes c) (payload_bytes payload given)) >>= closes)

  abbrev behind_command : Transfer → Result → BusProg A
  behind_command Transfer.Raise result = then 0
  behind_command (Transfer.Pause us) result = then 0
  behind_command (Transfer.Framed c Body.None) result = plainly (closes result)
  behind_command (Transfer.Framed c (Body.Read n sink)) result = valued sink (if_ok result (reading (read n) sink) >>= closes)
  behind_command (Transfer.Framed c (Body.Write payload)) result = plainly (if_ok result (sending (write (payload_bytes payload given))) >>= closes)
  behind_command (Transfer.Framed c (Body.QuadRead tclqv margin n sink)) result = then 0
  behind_command (Transfer.Framed c (Body.QuadWrite payload)) result = then 0

  abbrev behind_payload : Transfer → Result → BusProg A
  behind_payload Transfer.Raise result = then 0
  behind_payload (Transfer.Pause us) result = then 0
  behind_payload (Transfer.Framed c Body.None) result = then 0
  behind_payload (Transfer.Framed c (Body.Read n sink)) result = valued sink (stored result sink >>= closes)
  behind_payload (Transfer.Framed c (Body.Write payload)) result = plainly (closes result)
  behind_payload (Transfer.Framed c (Body.QuadRead tclqv margin n sink)) result = valued sink (stored result sink >>= closes)
  behind_payload (Transfer.Framed c (Body.QuadWrite payload)) result = plainly (closes result)

  abbrev pub behind : Stage → Transfer → Outcome → Answer → BusProg A
  behind Stage.Start t o r = behind_start t
  behind Stage.Command t o r = behind_command t (result_at r.kind r.bytes)
  behind Stage.Payload t o r = behind_payload t (result_at r.kind r.bytes)
  behind Stage.High t o r = concluded o

  -- a transfer as the Rust makes it, and as its frame begins
  pub starts : (t : Transfer) → on_bus given t >>= then ≡ does (start_shown t) (behind Stage.Start t (Ok 0))
  unfolding on_bus framed framed_then closes ◌>>=◌ ◌>>◌
  starts Transfer.Raise = refl
  starts (Transfer.Pause us) = refl
  starts (Transfer.Framed c Body.None) = refl
  starts (Transfer.Framed c (Body.Read n sink)) = refl
  starts (Transfer.Framed c (Body.Write payload)) = refl
  starts (Transfer.Framed c (Body.QuadRead tclqv margin n sink)) = refl
  starts (Transfer.Framed c (Body.QuadWrite payload)) = refl

  -- the frame goes on, or the transfer is over
  abbrev pub onward : Advanced → BusProg A
  onward (Advanced.More g) = does (shown_at g.stage g.transfer given) (behind g.stage g.transfer g.outcome)
  onward (Advanced.Over o) = concluded o

  abbrev pub Goes : Advanced → Type 0
  Goes (Advanced.More g) = Proper g.stage g.transfer g.outcome
  Goes (Advanced.Over o) = Unit {0}

  -- a reply that fits does to the program what it does to the frame
  pub record Follows (stage : Stage) (t : Transfer) (o : Outcome) (r : Reply) (bytes : List ℕ) : Type 0 where
    pub proper : Goes (advanced_at (frame_at t stage o) r bytes given)
    pub same : (rs : List Answer) (buffer : List ℕ) → performed (behind stage t o (answer_of r bytes)) rs buffer ≡
        performed (onward (advanced_at (frame_at t stage o) r bytes given)) rs (taken_at r (sink_of t) bytes buffer)

  started : (t : Transfer) (bytes : List ℕ) → Follows Stage.Start t (Ok 0) Reply.Done bytes
  unfolding on_bus reading closes ◌>>=◌ ◌>>◌
  started Transfer.Raise bytes = record { proper = tt; same = λ rs b. refl }
  started (Transfer.Pause us) bytes = record { proper = tt; same = λ rs b. refl }
  started (Transfer.Framed c Body.None) bytes = record { proper = (tt, refl); same = λ rs b. refl }
  started (Transfer.Framed c (Body.Read n sink)) bytes = record { proper = (tt, refl); same = λ rs b. refl }
  started (Transfer.Framed c (Body.Write payload)) bytes = record { proper = (tt, refl); same = λ rs b. refl }
  started (Transfer.Framed c (Body.QuadRead tclqv margin n sink)) bytes = record { proper = (tt, refl); same = λ rs b. refl }
  started (Transfer.Framed c (Body.QuadWrite payload)) bytes = record { proper = (tt, refl); same = λ rs b. refl }

  commanded : (t : Transfer) → Reached Stage.Command t → (r : Reply) (bytes : List ℕ) →
      fits_at (awaits_of (action_at Stage.Command t)) r (length bytes) ≡ true → Follows Stage.Command t (Ok 0) r bytes
  unfolding reading closes ◌>>=◌ ◌>>◌
  commanded Transfer.Raise p r bytes fit = absurd p
  commanded (Transfer.Pause us) p r bytes fit = absurd p
  commanded (Transfer.Framed c Body.None) p Reply.Done bytes fit = record { proper = (tt, tt); same = λ rs b. refl }
  commanded (Transfer.Framed c Body.None) p Reply.Data bytes fit = absurd (false≢true fit)
  commanded (Transfer.Framed c Body.None) p (Reply.Error code) bytes fit = record { proper = (tt, tt); same = λ rs b. refl }
  commanded (Transfer.Framed c (Body.Read n sink)) p Reply.Done bytes fit = record { proper = (tt, refl); same = λ rs b. refl }
  commanded (Transfer.Framed c (Body.Read n sink)) p Reply.Data bytes fit = absurd (false≢true fit)
  commanded (Transfer.Framed c (Body.Read n sink)) p (Reply.Error code) bytes fit = record { proper = (tt, tt); same = λ rs b. refl }
  commanded (Transfer.Framed c (Body.Write payload)) p Reply.Done bytes fit = record { proper = (tt, refl); same = λ rs b. refl }
  commanded (Transfer.Framed c (Body.Write payload)) p Reply.Data bytes fit = absurd (false≢true fit)
  commanded (Transfer.Framed c (Body.Write payload)) p (Reply.Error code) bytes fit = record { proper = (tt, tt); same = λ rs b. refl }
  commanded (Transfer.Framed c (Body.QuadRead tclqv margin n sink)) p r bytes fit = absurd p
  commanded (Transfer.Framed c (Body.QuadWrite payload)) p r bytes fit = absurd p

  -- bytes that were read, to each sink
  got : (sink : Sink) (bytes : List ℕ) (rs : List Answer) (buffer : List ℕ) → performed (valued sink (stored (ok bytes) sink >>= closes)) rs buffer ≡
      performed (does high (λ r. then (value_of sink bytes given))) rs (taken_at Reply.Data sink bytes buffer)
  unfolding performed closes ◌>>=◌ ◌>>◌
  got Sink.Number bytes rs buffer = refl
  got (Sink.Buffer at) bytes rs buffer = refl
  got (Sink.Compare from) bytes rs buffer = refl

  paid : (t : Transfer) → Reached Stage.Payload t → (r : Reply) (bytes : List ℕ) →
      fits_at (awaits_of (action_at Stage.Payload t)) r (length bytes) ≡ true → Follows Stage.Payload t (Ok 0) r bytes
  unfolding closes ◌>>=◌ ◌>>◌
  paid Transfer.Raise p r bytes fit = absurd p
  paid (Transfer.Pause us) p r bytes fit = absurd p
  paid (Transfer.Framed c Body.None) p r bytes fit = absurd p
  paid (Transfer.Framed c (Body.Read n sink)) p Reply.Done bytes fit = absurd (false≢true fit)
  paid (Transfer.Framed c (Body.Read n sink)) p Reply.Data bytes fit = record { proper = (tt, tt); same = λ rs b. got sink bytes rs b }
  paid (Transfer.Framed c (Body.Read n sink)) p (Reply.Error code) bytes fit = record { proper = (tt, tt); same = λ rs b. refl }
  paid (Transfer.Framed c (Body.Write payload)) p Reply.Done bytes fit = record { proper = (tt, tt); same = λ rs b. refl }
  paid (Transfer.Framed c (Body.Write payload)) p Reply.Data bytes fit = absurd (false≢true fit)
  paid (Transfer.Framed c (Body.Write payload)) p (Reply.Error code) bytes fit = record { proper = (tt, tt); same = λ rs b. refl }
  paid (Transfer.Framed c (Body.QuadRead tclqv margin n sink)) p Reply.Done bytes fit = absurd (false≢true fit)
  paid (Transfer.Framed c (Body.QuadRead tclqv margin n sink)) p Reply.Data bytes fit = record { proper = (tt, tt); same = λ rs b. got sink bytes rs b }
  paid (Transfer.Framed c (Body.QuadRead tclqv margin n sink)) p (Reply.Error code) bytes fit = record { proper = (tt, tt); same = λ rs b. refl }
  paid (Transfer.Framed c (Body.QuadWrite payload)) p Reply.Done bytes fit = record { proper = (tt, tt); same = λ rs b. refl }
  paid (Transfer.Framed c (Body.QuadWrite payload)) p Reply.Data bytes fit = absurd (false≢true fit)
  paid (Transfer.Framed c (Body.QuadWrite payload)) p (Reply.Error code) bytes fit = record { proper = (tt, tt); same = λ rs b. refl }

  pub follows : (stage : Stage) (t : Transfer) (o : Outcome) → Proper stage t o → (r : Reply) (bytes : List ℕ) →
      fits_at (awaits_of (action_at stage t)) r (length bytes) ≡ true → Follows stage t o r bytes
  follows Stage.Start t o p Reply.Done bytes fit = subst (λ x. Follows Stage.Start t x Reply.Done bytes) (sym p.1) (started t bytes)
  follows Stage.Start t o p Reply.Data bytes fit = absurd (false≢true (subst (λ a. fits_at a Reply.Data (length bytes) ≡ true) (done-at-start t) fit))
  follows Stage.Start t o p (Reply.Error code) bytes fit = absurd (false≢true (subst (λ a. fits_at a (Reply.Error code) (length bytes) ≡ true) (done-at-start t) fit))
  follows Stage.Command t o p r bytes fit = subst (λ x. Follows Stage.Command t x r bytes) (sym p.1) (commanded t p.0 r bytes fit)
  follows Stage.Payload t o p r bytes fit = subst (λ x. Follows Stage.Payload t x r bytes) (sym p.1) (paid t p.0 r bytes fit)
  follows Stage.High t o p Reply.Done bytes fit = record { proper = tt; same = λ rs b. refl }
  follows Stage.High t o p Reply.Data bytes fit = absurd (false≢true fit)
  follows Stage.High t o p (Reply.Error code) bytes fit = absurd (false≢true fit)

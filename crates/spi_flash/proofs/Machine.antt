-- The machine that the theory of runs is about, to which every driver comes down: a state that decides on the next transfer, and one
-- frame of it on the bus.
use Rattle.std.specs.Prelude.{ℕ, Bool, true, false, ◌≡◌, List, [], ◌∷◌, Ok, Err}
use Rattle.qspi.specs.Choice.{pick}
use Rattle.qspi.specs.Shown.{shown_of}
use Rattle.qspi.specs.declared.bus.BusError.{BusError}
use Rattle.qspi.specs.Frame.{Outcome, first_of, action_of, exchange_of}
use Rattle.qspi.specs.declared.bus.Reply.{Reply}
use Rattle.qspi.specs.declared.transfer.Transfer.{Transfer}
use Rattle.qspi.specs.declared.frame.Frame.{Frame}
use Rattle.qspi.specs.declared.frame.Exchanged.{Exchanged}
use Rattle.spi_flash.specs.declared.error.FlashError.{FlashError}
use Rattle.spi_flash.specs.declared.loan.Takes.{Takes}
use Rattle.spi_flash.specs.Loan.{Lent, ready_for, lent_as}
use Rattle.spi_flash.specs.Prog.{Prog, ret, fail, ask}
use Rattle.spi_flash.specs.Path.{Past, back, End, going, done, failed}
use Rattle.spi_flash.specs.Run.{Event, reply, call, act, Moved, System}
use Rattle.spi_flash.specs.Run as Run

-- what follows a transfer: another one, or the call's end
pub data Decision (S A : Type 0) : Type 0 where
  more : Transfer → S → Decision S A
  well : A → Decision S A
  bad : FlashError → Decision S A

-- a call under way, with what it takes; or none
pub data Config (S : Type 0) : Type 0 where
  out : Takes → S → Frame → Config S
  rest : Config S

-- ---- one step

-- what a reply does to the frame that is out; lent bytes that are not fit for a step count as a reply that is not
abbrev pub heard : Takes → Frame → Reply → List ℕ → Lent → Exchanged
heard k f r bytes l = pick (ready_for k l) (exchange_of f r bytes l.scratch l.buffer l.given).exchanged Exchanged.Misfit

abbrev pub refusing : {F A : Type 0} → FlashError → F → Lent → Moved F A
refusing e f l = record { given = Run.refused e; flash = f; left = l }

-- gives out the first action of the next transfer, or ends the call; a command is put into the scratch only later
abbrev pub settle : {S A : Type 0} → Takes → Decision S A → Lent → Moved (Config S) A
settle k (more t s) l = record { given = act (shown_of (action_of (first_of t)) l.scratch l.given); flash = out k s (first_of t); left = l }
settle k (well a) l = record { given = Run.ended a; flash = rest; left = l }
settle k (bad e) l = record { given = Run.failed e; flash = rest; left = l }

module _ {S A : Type 0} (next : S → Outcome → Decision S A) where
  abbrev pub moved : Takes → S → Frame → Exchanged → Lent → List ℕ → List ℕ → Moved (Config S) A
  moved k s f Exchanged.Misfit l scratch buffer = refusing FlashError.Misfit (out k s f) l
  moved k s f (Exchanged.Gave g a) l scratch buffer =
      record { given = act (shown_of a scratch l.given); flash = out k s g; left = lent_as scratch buffer l }
  moved k s f (Exchanged.Over outcome) l scratch buffer = settle k (next s outcome) (lent_as scratch buffer l)

  abbrev pub answered : Config S → Reply → List ℕ → Lent → Moved (Config S) A
  answered (out k s f) r bytes l =
      moved k s f (heard k f r bytes l) l
      (exchange_of f r bytes l.scratch l.buffer l.given).scratch
      (exchange_of f r bytes l.scratch l.buffer l.given).buffer
  answered rest r bytes l = refusing FlashError.OutOfTurn rest l

  abbrev pub is_out : Config S → Bool
  is_out (out k s f) = true
  is_out rest = false

  -- a call begun meanwhile is refused
  abbrev pub machine : (C : Type 0) → System (Config S) C A
  machine C = record { begin = λ c call l. refusing FlashError.OutOfTurn c l; answer = answered; running = is_out }

-- ---- the program that a machine follows

abbrev pub tree : {S A : Type 0} → (S → ℕ → Prog A) → Decision S A → Prog A
tree meaning (more t s) = ask t (meaning s)
tree meaning (well a) = ret a
tree meaning (bad e) = fail e

-- what holds of the state that a decision goes on with
abbrev pub Onward : {S A : Type 0} → (S → Type 0) → Decision S A → Type 0
Onward Valid (more t s) = Valid s
Onward Valid (well a) = Unit {0}
Onward Valid (bad e) = Unit {0}

-- on the states that a call can come to, the machine does what is left of the program
pub record Simulates {S A : Type 0} (Valid : S → Type 0) (next : S → Outcome → Decision S A) (meaning : S → ℕ → Prog A) : Type 0 where
  pub on_value : (s : S) (v : ℕ) → Valid s → meaning s v ≡ tree meaning (next s (Ok v))
  pub on_failure : (s : S) (error : BusError) → next s (Err error) ≡ bad (FlashError.Spi error.0)
  pub keeps : (s : S) (v : ℕ) → Valid s → Onward Valid (next s (Ok v))

-- ---- the path that a run takes through it

pub record Trail (A : Type 0) : Type 0 where
  pub past : List Past
  pub stop : End A

abbrev pub push : {A : Type 0} → Past → Trail A → Trail A
push x t = record { past = x ∷ t.past; stop = t.stop }

abbrev pub decided_trail : {S A : Type 0} → Decision S A → (Transfer → S → Trail A) → Trail A
decided_trail (more t s) fresh = fresh t s
decided_trail (well a) fresh = record { past = []; stop = done a }
decided_trail (bad e) fresh = record { past = []; stop = failed e }

module _ {S A : Type 0} (next : S → Outcome → Decision S A) where
  abbrev pub heard_trail : S → Frame → Exchanged → (Frame → Trail A) → (Transfer → S → Trail A) → Trail A
  heard_trail s f Exchanged.Misfit same fresh = same f
  heard_trail s f (Exchanged.Gave g a) same fresh = same g
  heard_trail s f (Exchanged.Over outcome) same fresh = push (back f.transfer outcome) (decided_trail (next s outcome) fresh)

  unfoldable pub trail : {C : Type 0} → Takes → S → Frame → List (Event C) → Trail A
  trail k s f [] = record { past = []; stop = going f.transfer }
  trail k s f (call c l ∷ es) = trail k s f es
  trail k s f (reply r bytes l ∷ es) =
      heard_trail s f (heard k f r bytes l) (λ g. trail k s g es) (λ t s'. trail k s' (first_of t) es)

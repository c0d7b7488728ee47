-- What an action shows to the bus: itself, with the bytes of the parts that it names.
use Rattle.std.specs.Prelude.{ℕ, List}
use Rattle.qspi.specs.Bytes.{sent_of}
use Rattle.qspi.specs.declared.bus.Action.{Action}

-- an action and all that it asks for (docs/SPECIFICATION.md, "Actions and replies")
pub data Shown : Type 0 where
  low high : Shown
  write : List ℕ → Shown
  read : ℕ → Shown
  quad_read : (command : List ℕ) (tclqv margin n : ℕ) → Shown
  quad_write : (command payload : List ℕ) → Shown
  delay : ℕ → Shown

-- with the scratch as the step left it, and the caller's data
abbrev pub shown_of : Action → List ℕ → List ℕ → Shown
shown_of Action.SelectLow scratch lent = low
shown_of Action.SelectHigh scratch lent = high
shown_of (Action.Write part) scratch lent = write (sent_of part scratch lent)
shown_of (Action.Read n) scratch lent = read n
shown_of (Action.QuadRead command tclqv margin n) scratch lent = quad_read (sent_of command scratch lent) tclqv margin n
shown_of (Action.QuadWrite command payload) scratch lent = quad_write (sent_of command scratch lent) (sent_of payload scratch lent)
shown_of (Action.Delay us) scratch lent = delay us

-- the microseconds that an action asks
abbrev pub delay_of : Shown → ℕ
delay_of low = 0
delay_of high = 0
delay_of (write bytes) = 0
delay_of (read n) = 0
delay_of (quad_read command tclqv margin n) = 0
delay_of (quad_write command payload) = 0
delay_of (delay us) = us

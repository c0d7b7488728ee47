-- What both drivers are made of: a state in its parts, what a step gives, what follows a transfer and what a call is. The code
-- has structs and enums for them (machine); how a driver steps is said over what stands here (Settling, Beginning, Replying).
use Rattle.std.specs.Prelude.{ℕ, Bool}
use Rattle.qspi.specs.declared.frame.Frame.{Frame}
use Rattle.qspi.specs.declared.bus.Action.{Action}
use Rattle.qspi.specs.declared.transfer.Transfer.{Transfer}
use Rattle.spi_flash.specs.declared.error.FlashError.{FlashError}
use Rattle.spi_flash.specs.declared.loan.Takes.{Takes}

-- F is a driver's state, S what the Rust's struct holds, P the phases, A the answers, G what a step gives with the state after it

-- what follows a transfer: another one and the phase while it is out, or the call's end
pub data Then (S P A : Type 0) : Type 0 where
  go : S → Transfer → P → Then S P A
  end : S → A → Then S P A
  fail : FlashError → Then S P A

-- what a call is to a driver at rest: a construction, with what stands in the struct before the id is known; a look at what the
-- driver holds; its release; or a use of the bus, with what it takes and begins with
pub data Opening (S P A : Type 0) : Type 0 where
  constructing : S → Opening S P A
  telling : A → Opening S P A
  releasing : Opening S P A
  working : Takes → Then S P A → Opening S P A

-- a call under way: its phase, the frame that is out, and what it takes; or none
pub record Job (P : Type 0) : Type 0 where
  pub phase : P
  pub frame : Frame
  pub takes : Takes

abbrev pub job_of : {P : Type 0} → P → Frame → Takes → Job P
job_of phase frame takes = record { phase = phase; frame = frame; takes = takes }

pub data Running (P : Type 0) : Type 0 where
  idle : Running P
  busy : Job P → Running P

-- what a step gives: an action for the host; the call's success; the failure of a call that had begun; or a refusal, which changes
-- nothing
pub data Given (A : Type 0) : Type 0 where
  acts : Action → Given A
  ends : A → Given A
  fails refuses : FlashError → Given A

-- a driver's own state and its own steps, to which the state is passed by value
pub record Shape (F S P A G : Type 0) : Type 0 where
  pub setup : F → S
  -- the last construction begun has succeeded
  pub built : F → Bool
  -- bytes that the last call begun has put into the caller's buffer
  pub delivered : F → ℕ
  pub running : F → Running P
  -- the state at rest, and with a transfer out
  pub resting : S → Bool → ℕ → F
  pub busy_with : S → Bool → ℕ → P → Frame → Takes → F
  -- what was given, and the state after it
  pub given : G → Given A
  pub after : G → F
  -- each thing that can be given
  pub acting : F → Action → G
  pub ended : F → A → G
  pub failed : F → FlashError → G
  pub refused : F → FlashError → G

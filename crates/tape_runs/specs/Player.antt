-- A driver over a tape, as the statements on replays see it.
use Rattle.std.specs.Prelude.{ℕ, List, length}
use Rattle.qspi.specs.declared.frame.Frame.{Frame}
use Rattle.spi_flash.specs.Loan.{Lent, lent_as}
use Rattle.spi_flash.specs.Run.{System}
use Rattle.spi_flash.specs.Shape.{Running, idle, busy, Given}
use Rattle.spi_flash.specs.declared.loan.Takes.{Takes}
use Rattle.flash_runs.specs.Driver.{Left}
use Rattle.flash_runs.specs.System.{last_of, system_of}
use Rattle.tape.specs.Replaying as Replaying
use Rattle.tape.specs.Replaying.{Taped, begun_over, advanced_over}

-- the replay behind a step, and what is left in the lent bytes
pub record Played (R : Type 0) : Type 0 where
  pub replay : R
  pub left : Lent

-- the frame that a running call has on the bus, with what the call takes
pub data Awaited : Type 0 where
  nothing : Awaited
  frame : Takes → Frame → Awaited

-- a driver's own steps, and its replays: the functions `begin` and `advance` over a tape, and what a replay holds
pub record Player (R F C A : Type 0) : Type 0 where
  pub system : System F C A
  pub awaited : F → Awaited
  pub begin : F → C → List ℕ → Lent → R
  pub advance : R → List ℕ → Lent → Played R
  pub flash : R → F
  -- what the driver gave last, with all that an end leaves behind
  pub last : R → Given A
  -- the position of the reader's next record
  pub at : R → ℕ

-- ---- each driver as one

abbrev pub awaited_in : {P : Type 0} → Running P → Awaited
awaited_in idle = nothing
awaited_in (busy job) = frame job.takes job.frame

abbrev pub played_as : {R : Type 0} → Replaying.Played R → Lent → Played R
played_as p l = record { replay = p.replay; left = lent_as p.scratch p.buffer l }

-- `begin` and `advance` over a tape, over the driver's own steps
abbrev pub player_of : {R F S P A G C : Type 0} → Taped R F S P A G C → Player R F C (Left S A)
player_of taped =
    record {
      system = system_of taped.shape taped.begin taped.step;
      awaited = λ flash. awaited_in (taped.shape.running flash);
      begin = λ flash call tape l. begun_over taped flash call tape (length l.scratch) (length l.buffer) (length l.given);
      advance = λ r tape l. played_as (advanced_over taped r tape l.scratch l.buffer l.given) l;
      flash = λ r. taped.shape.after (taped.stepped r);
      last = λ r. last_of taped.shape (taped.stepped r);
      at = λ r. taped.at r;
    }

-- How each call begins, and how it is turned away: 13, 14, 12, then the Rust's own (docs/SPECIFICATION.md, "Refusals and numbers").
use Rattle.std.specs.Prelude.{ℕ, Bool, true, false, Result, Ok, Err}
use Rattle.qspi.specs.Choice.{pick}
use Rattle.qspi.specs.declared.transfer.Transfer.{Transfer}
use Rattle.spi_flash.specs.declared.error.FlashError.{FlashError}
use Rattle.spi_flash.specs.declared.loan.Takes.{Takes}
use Rattle.spi_flash.specs.Entry.{entry_of}
use Rattle.spi_flash.specs.Shape.{Then, go, end, fail, Opening, constructing, telling, releasing, working, Running, idle, busy, Shape}
use Rattle.spi_flash.specs.Settling.{settled}

-- what a driver's calls C are, on what the struct holds, with a buffer and data of these lengths
pub record Calls (S P A C : Type 0) : Type 0 where
  pub opening : S → C → ℕ → ℕ → Opening S P A
  -- the phase of a construction that has raised select, and the answer of a call that answers nothing
  pub raised : P
  pub done : A
  -- whether what it holds is inside the bounds (docs/SPECIFICATION.md, "Geometry")
  pub in_bounds : S → Bool

module _ {F S P A G : Type 0} (shape : Shape F S P A G) where
  -- the accessors take no scratch and change nothing
  unfoldable pub told : F → A → G
  told flash answer = pick (shape.built flash) (shape.ended flash answer) (shape.refused flash FlashError.OutOfTurn)

  -- a call that may begin comes to this
  abbrev pub entered : F → Result (Unit {0}) FlashError → G → G
  entered flash (Ok _) x = x
  entered flash (Err error) x = shape.refused flash error

  -- a call that begins has delivered nothing yet
  abbrev pub fresh_call : F → F
  fresh_call flash = shape.resting (shape.setup flash) (shape.built flash) 0

  -- a call that is turned away ahead of its first action has not begun
  unfoldable pub opened : F → Takes → Then S P A → G
  opened flash takes (go setup transfer phase) = settled shape (fresh_call flash) takes (go setup transfer phase)
  opened flash takes (end setup answer) = settled shape (fresh_call flash) takes (end setup answer)
  opened flash takes (fail error) = shape.refused flash error

module _ {F S P A G C : Type 0} (shape : Shape F S P A G) (calls : Calls S P A C) where
  -- `cs.set_high()`, with which a construction begins
  abbrev pub raising : S → G
  raising setup = settled shape (shape.resting setup false 0) Takes.Nothing (go setup Transfer.Raise calls.raised)

  -- a construction may begin whenever no call is running; from its first action on the driver is not built
  unfoldable pub constructed : F → S → ℕ → G
  constructed flash setup scratch = entered shape flash (entry_of true scratch (calls.in_bounds setup)) (raising setup)

  -- free leaves the driver not built: the Rust moves the value away
  unfoldable pub freed : F → G
  freed flash =
      pick (shape.built flash)
      (shape.ended (shape.resting (shape.setup flash) false (shape.delivered flash)) calls.done)
      (shape.refused flash FlashError.OutOfTurn)

  -- a use of the bus
  unfoldable pub begun : F → ℕ → Takes → Then S P A → G
  begun flash scratch takes then = entered shape flash (entry_of (shape.built flash) scratch (calls.in_bounds (shape.setup flash))) (opened shape flash takes then)

  -- ---- every call, with the lengths of what is lent: scratch, buffer, data

  -- each call by what it is to a driver at rest
  unfoldable pub at_rest : F → Opening S P A → ℕ → G
  at_rest flash (constructing setup) s = constructed flash setup s
  at_rest flash (telling answer) s = told shape flash answer
  at_rest flash releasing s = freed flash
  at_rest flash (working takes then) s = begun flash s takes then

  abbrev pub begin_at : Running P → F → C → ℕ → ℕ → ℕ → G
  begin_at idle flash call s b d = at_rest flash (calls.opening (shape.setup flash) call b d) s
  begin_at (busy job) flash call s b d = shape.refused flash FlashError.OutOfTurn

  -- a call begun during another is 13
  unfoldable pub begins : F → C → ℕ → ℕ → ℕ → G
  begins flash call s b d = begin_at (shape.running flash) flash call s b d

-- A step: one reply to the action that is out (docs/SPECIFICATION.md, "Actions and replies").
use Rattle.std.specs.Prelude.{ℕ, List, length, take}
use Rattle.qspi.specs.declared.bus.Action.{Action}
use Rattle.qspi.specs.declared.bus.Reply.{Reply}
use Rattle.qspi.specs.Frame.{Outcome, AfterExchange, delivered_by}
use Rattle.qspi.specs.declared.frame.Exchanged.{Exchanged}
use Rattle.qspi.specs.declared.frame.Frame.{Frame}
use Rattle.spi_flash.specs.Loan.{exchange_for}
use Rattle.spi_flash.specs.declared.error.FlashError.{FlashError}
use Rattle.spi_flash.specs.Shape.{Then, Job, Running, idle, busy, Shape}
use Rattle.spi_flash.specs.Settling.{settled}

-- the result of a step, and the lent bytes after it
pub record AfterStep (G : Type 0) : Type 0 where
  pub stepped : G
  pub scratch : List ℕ
  pub buffer : List ℕ

abbrev pub stepped_to : {G : Type 0} → G → List ℕ → List ℕ → AfterStep G
stepped_to x scratch buffer = record { stepped = x; scratch = scratch; buffer = buffer }

-- over what follows each transfer of the driver
module _ {F S P A G : Type 0} (shape : Shape F S P A G) (next : S → P → Outcome → Then S P A) where
  -- another action of the transfer that is out
  abbrev pub gave : F → Job P → Frame → ℕ → Action → G
  gave flash job frame delivered action =
      shape.acting (shape.busy_with (shape.setup flash) (shape.built flash) delivered job.phase frame job.takes) action

  -- the transfer that was out is over
  abbrev pub over : F → Job P → Outcome → G
  over flash job outcome = settled shape flash job.takes (next (shape.setup flash) job.phase outcome)

  -- what does not fit is 14; what fits brings the transfer on, or ends it
  abbrev pub exchanged : F → Job P → ℕ → Exchanged → G
  exchanged flash job delivered Exchanged.Misfit = shape.refused flash FlashError.Misfit
  exchanged flash job delivered (Exchanged.Gave frame action) = gave flash job frame delivered action
  exchanged flash job delivered (Exchanged.Over outcome) = over flash job outcome

  -- and the lent bytes as the exchange leaves them
  abbrev pub afterwards : F → Job P → ℕ → AfterExchange → AfterStep G
  afterwards flash job delivered x = stepped_to (exchanged flash job delivered x.exchanged) x.scratch x.buffer

  -- a reply in a call under way
  abbrev pub proceeds : F → Job P → Reply → List ℕ → List ℕ → List ℕ → List ℕ → AfterStep G
  proceeds flash job reply bytes scratch buffer lent =
      afterwards flash job (delivered_by job.frame reply (length bytes) (length buffer) (shape.delivered flash))
      (exchange_for job.takes job.frame reply bytes scratch buffer lent)

  abbrev pub step_at : Running P → F → Reply → List ℕ → List ℕ → List ℕ → List ℕ → AfterStep G
  step_at idle flash reply bytes scratch buffer lent = stepped_to (shape.refused flash FlashError.OutOfTurn) scratch buffer
  step_at (busy job) flash reply bytes scratch buffer lent = proceeds flash job reply bytes scratch buffer lent

  -- a reply with none expected is 13
  unfoldable pub steps : F → Reply → List ℕ → List ℕ → List ℕ → List ℕ → AfterStep G
  steps flash reply bytes scratch buffer lent = step_at (shape.running flash) flash reply bytes scratch buffer lent

-- the part of the caller's buffer that holds the bytes read by the last call begun
abbrev pub delivered_in : {F S P A G : Type 0} → Shape F S P A G → F → List ℕ → List ℕ
delivered_in shape flash buffer = take (shape.delivered flash) buffer

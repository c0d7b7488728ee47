-- The driver that both drivers are: the step machine of spi_flash over a plain state, on what is lent.
use Prim.Native.Nat.{ℕ}
use mathlib.Core.Bool.{Bool}
use mathlib.Core.List.{List}
use lib.ListN.{length}
use Rattle.qspi.specs.declared.bus.Reply.{Reply}
use Rattle.qspi.specs.Frame.{Outcome, AfterExchange}
use Rattle.qspi.specs.declared.frame.Exchanged.{Exchanged}
use Rattle.spi_flash.specs.Beginning as Beginning
use Rattle.spi_flash.specs.Beginning.{Calls}
use Rattle.spi_flash.specs.Loan.{Lent}
use Rattle.spi_flash.proofs.Machine.{Decision, more, well, bad}
use Rattle.spi_flash.specs.Replying as Replying
use Rattle.spi_flash.specs.Run.{Moved, System}
use Rattle.spi_flash.specs.Settling as Settling
use Rattle.spi_flash.specs.Shape.{Given, acts, ends, fails, refuses, Shape}
pub use Rattle.spi_flash.specs.Shape.{Then, go, end, fail, Opening, constructing, telling, releasing, working, Job, job_of, Running, idle, busy}
use Rattle.spi_flash.specs.declared.loan.Takes.{Takes}
pub use Rattle.spi_flash.proofs.Faithful.{Flash, flash_of}
use Rattle.flash_runs.specs.Driver.{Left, leaving}
use Rattle.flash_runs.specs.System.{left_with, moved_as, system_of}
pub use Rattle.flash_runs.specs.System.{is_busy}

-- what makes a driver, but for its bounds: what follows a transfer, and what its calls are
pub record Parts (S P A C : Type 0) : Type 0 where
  pub next : S → P → Outcome → Then S P A
  pub opening : S → C → ℕ → ℕ → Opening S P A
  pub raised : P
  pub done : A

abbrev pub parts_of : {S P A C : Type 0} → Calls S P A C → (S → P → Outcome → Then S P A) → Parts S P A C
parts_of calls next = record { next = next; opening = calls.opening; raised = calls.raised; done = calls.done }

abbrev pub calls_of : {S P A C : Type 0} → Parts S P A C → (S → Bool) → Calls S P A C
calls_of parts in_bounds = record { opening = parts.opening; raised = parts.raised; done = parts.done; in_bounds = in_bounds }

-- ---- its state

pub record Stepped (S P A : Type 0) : Type 0 where
  pub flash : Flash S P
  pub given : Given A

abbrev pub plain : {S P A : Type 0} → Shape (Flash S P) S P A (Stepped S P A)
plain =
    record {
      setup = λ flash. flash.setup;
      built = λ flash. flash.built;
      delivered = λ flash. flash.delivered;
      running = λ flash. flash.running;
      resting = λ setup built delivered. flash_of setup built delivered idle;
      busy_with = λ setup built delivered phase frame takes. flash_of setup built delivered (busy (job_of phase frame takes));
      given = λ x. x.given;
      after = λ x. x.flash;
      acting = λ flash action. record { flash = flash; given = acts action };
      ended = λ flash answer. record { flash = flash; given = ends answer };
      failed = λ flash error. record { flash = flash; given = fails error };
      refused = λ flash error. record { flash = flash; given = refuses error };
    }

-- where a call stands, with what the driver holds, and what is decided there
pub record Place (S P : Type 0) : Type 0 where
  pub setup : S
  pub phase : P

abbrev pub place : {S P : Type 0} → S → P → Place S P
place setup phase = record { setup = setup; phase = phase }

abbrev pub decide : {S P A : Type 0} → Then S P A → Decision (Place S P) (Left S A)
decide (go setup t phase) = more t (place setup phase)
decide (end setup answer) = well (leaving setup answer)
decide (fail error) = bad error

-- ---- its steps, on what is lent

abbrev pub Step : (S P A : Type 0) → Type 0
Step S P A = Moved (Flash S P) (Left S A)

abbrev pub settled : {S P A : Type 0} → Flash S P → Takes → Then S P A → Lent → Step S P A
settled flash takes x l = left_with plain (Settling.settled plain flash takes x) l

abbrev pub told : {S P A : Type 0} → Flash S P → A → Lent → Step S P A
told flash answer l = left_with plain (Beginning.told plain flash answer) l

abbrev pub opened : {S P A : Type 0} → Flash S P → Takes → Then S P A → Lent → Step S P A
opened flash takes x l = left_with plain (Beginning.opened plain flash takes x) l

module _ {S P A C : Type 0} (parts : Parts S P A C) where
  abbrev pub decide_next : Place S P → Outcome → Decision (Place S P) (Left S A)
  decide_next s o = decide (parts.next s.setup s.phase o)

  -- what a reply does
  abbrev pub exchanged : Flash S P → Job P → ℕ → Exchanged → Lent → Step S P A
  exchanged flash job delivered x l = left_with plain (Replying.exchanged plain parts.next flash job delivered x) l

  abbrev pub afterwards : Flash S P → Job P → ℕ → AfterExchange → Lent → Step S P A
  afterwards flash job delivered x l = moved_as plain (Replying.afterwards plain parts.next flash job delivered x) l

  abbrev pub proceeds : Flash S P → Job P → Reply → List ℕ → Lent → Step S P A
  proceeds flash job r bytes l = moved_as plain (Replying.proceeds plain parts.next flash job r bytes l.scratch l.buffer l.given) l

  abbrev pub answer_at : Running P → Flash S P → Reply → List ℕ → Lent → Step S P A
  answer_at running flash r bytes l = moved_as plain (Replying.step_at plain parts.next running flash r bytes l.scratch l.buffer l.given) l

  -- how a call begins
  module _ (in_bounds : S → Bool) where
    abbrev calls : Calls S P A C
    calls = calls_of parts in_bounds

    abbrev pub freed : Flash S P → Lent → Step S P A
    freed flash l = left_with plain (Beginning.freed plain calls flash) l

    abbrev pub constructed : Flash S P → S → Lent → Step S P A
    constructed flash fresh l = left_with plain (Beginning.constructed plain calls flash fresh (length l.scratch)) l

    abbrev pub begun : Flash S P → Takes → Then S P A → Lent → Step S P A
    begun flash takes then l = left_with plain (Beginning.begun plain calls flash (length l.scratch) takes then) l

    abbrev pub opened_as : Flash S P → Opening S P A → Lent → Step S P A
    opened_as flash x l = left_with plain (Beginning.at_rest plain calls flash x (length l.scratch)) l

    abbrev pub begin_at : Running P → Flash S P → C → Lent → Step S P A
    begin_at running flash call l =
        left_with plain (Beginning.begin_at plain calls running flash call (length l.scratch) (length l.buffer) (length l.given)) l

    abbrev pub general : System (Flash S P) C (Left S A)
    general =
        system_of plain (λ flash. Beginning.begin_at plain calls flash.running flash) (λ flash. Replying.step_at plain parts.next flash.running flash)

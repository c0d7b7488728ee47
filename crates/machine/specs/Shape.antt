-- Every driver as the step machine has it (specs/Shape.antt of spi_flash).
use Rattle.std.specs.Prelude.{ℕ, Bool, Option, Some, None, Ok, Err}
use Rattle.qspi.specs.declared.frame.Frame.{Frame}
use Rattle.qspi.specs.declared.bus.Action.{Action}
use Rattle.spi_flash.specs.Shape as Shape
use Rattle.spi_flash.specs.Shape.{go, end, fail, constructing, telling, releasing, working, job_of, idle, busy, acts, ends, fails, refuses}
use Rattle.spi_flash.specs.declared.error.FlashError.{FlashError}
use Rattle.spi_flash.specs.declared.loan.Takes.{Takes}
use Rattle.machine.specs.declared.state.Flash.{Flash}
use Rattle.machine.specs.declared.state.Given.{Given}
use Rattle.machine.specs.declared.state.Job.{Job}
use Rattle.machine.specs.declared.state.Stepped.{Stepped}
use Rattle.machine.specs.declared.then.Next.{Next}
use Rattle.machine.specs.declared.then.Opening.{Opening}
use Rattle.machine.specs.Then.{Then}

-- ---- the code's own types as the machine's

module _ {S P A : Type 0} where
  abbrev pub then_as : Then S P A → Shape.Then S P A
  then_as (Ok (Next.Go setup transfer phase)) = go setup transfer phase
  then_as (Ok (Next.End setup answer)) = end setup answer
  then_as (Err error) = fail error

  abbrev pub opening_as : Opening S P A → Shape.Opening S P A
  opening_as (Opening.Constructs setup) = constructing setup
  opening_as (Opening.Tells answer) = telling answer
  opening_as Opening.Releases = releasing
  opening_as (Opening.Uses takes then) = working takes (then_as then)

module _ {P : Type 0} where
  abbrev pub job_as : Job P → Shape.Job P
  job_as job = job_of job.phase job.frame job.takes

  abbrev pub running_as : Option (Job P) → Shape.Running P
  running_as None = idle
  running_as (Some job) = busy (job_as job)

abbrev pub given_as : {A : Type 0} → Given A → Shape.Given A
given_as (Given.Act action) = acts action
given_as (Given.Ended answer) = ends answer
given_as (Given.Failed error) = fails error
given_as (Given.Refused error) = refuses error

-- ---- its values

module _ {S P : Type 0} where
  abbrev pub flash_of : S → Bool → ℕ → Option (Job P) → Flash S P
  flash_of setup built delivered running = record { setup = setup; built = built; delivered = delivered; running = running }

  abbrev pub busy_of : S → Bool → ℕ → P → Frame → Takes → Flash S P
  busy_of setup built delivered phase frame takes =
      flash_of setup built delivered (Some (record { phase = phase; frame = frame; takes = takes }))

module _ {S P A : Type 0} where
  abbrev pub stepped_of : Flash S P → Given A → Stepped S P A
  stepped_of flash given = record { flash = flash; given = given }

  abbrev pub started_of : Flash S P → Action → Stepped S P A
  started_of flash action = stepped_of flash (Given.Act action)

  abbrev pub refused_of : Flash S P → FlashError → Stepped S P A
  refused_of flash error = stepped_of flash (Given.Refused error)

  abbrev pub shape : Shape.Shape (Flash S P) S P A (Stepped S P A)
  shape =
      record {
        setup = λ flash. flash.setup;
        built = λ flash. flash.built;
        delivered = λ flash. flash.delivered;
        running = λ flash. running_as flash.running;
        resting = λ setup built delivered. flash_of setup built delivered None;
        busy_with = busy_of;
        given = λ stepped. given_as stepped.given;
        after = λ stepped. stepped.flash;
        acting = started_of;
        ended = λ flash answer. stepped_of flash (Given.Ended answer);
        failed = λ flash error. stepped_of flash (Given.Failed error);
        refused = refused_of;
      }

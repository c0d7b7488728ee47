-- A driver's own structs and enums stand for the parts that its shape makes of them.
use Prim.Native.Nat.{ℕ}
use mathlib.Core.Bool.{Bool}
use mathlib.Core.Path.{◌≡◌}
use Rattle.qspi.specs.declared.bus.Action.{Action}
use Rattle.qspi.specs.declared.frame.Frame.{Frame}
use Rattle.spi_flash.specs.Shape.{job_of, Running, idle, busy, Given, acts, ends, fails, refuses, Shape}
use Rattle.spi_flash.specs.declared.error.FlashError.{FlashError}
use Rattle.spi_flash.specs.declared.loan.Takes.{Takes}

-- a state that is nothing but its parts
pub record Flash (S P : Type 0) : Type 0 where
  pub setup : S
  pub built : Bool
  pub delivered : ℕ
  pub running : Running P

abbrev pub flash_of : {S P : Type 0} → S → Bool → ℕ → Running P → Flash S P
flash_of setup built delivered running = record { setup = setup; built = built; delivered = delivered; running = running }

module _ {F S P A G : Type 0} (shape : Shape F S P A G) where
  -- a driver's state in its parts, and put together again
  abbrev pub viewed : F → Flash S P
  viewed flash = flash_of (shape.setup flash) (shape.built flash) (shape.delivered flash) (shape.running flash)

  abbrev together : S → Bool → ℕ → Running P → F
  together setup built delivered idle = shape.resting setup built delivered
  together setup built delivered (busy job) = shape.busy_with setup built delivered job.phase job.frame job.takes

  abbrev pub back : Flash S P → F
  back flash = together flash.setup flash.built flash.delivered flash.running

  pub record Gives (x : G) (what : Given A) (flash : F) : Type 0 where
    pub given : shape.given x ≡ what
    pub after : shape.after x ≡ flash

  pub record Faithful : Type 0 where
    pub resting : (setup : S) (built : Bool) (delivered : ℕ) → viewed (shape.resting setup built delivered) ≡ flash_of setup built delivered idle
    pub out : (setup : S) (built : Bool) (delivered : ℕ) (phase : P) (frame : Frame) (takes : Takes) →
        viewed (shape.busy_with setup built delivered phase frame takes) ≡ flash_of setup built delivered (busy (job_of phase frame takes))
    -- there is nothing else in a state
    pub whole : (flash : F) → back (viewed flash) ≡ flash
    pub acting : (flash : F) (action : Action) → Gives (shape.acting flash action) (acts action) flash
    pub ended : (flash : F) (answer : A) → Gives (shape.ended flash answer) (ends answer) flash
    pub failed : (flash : F) (error : FlashError) → Gives (shape.failed flash error) (fails error) flash
    pub refused : (flash : F) (error : FlashError) → Gives (shape.refused flash error) (refuses error) flash

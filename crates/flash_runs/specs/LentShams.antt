-- Sham drivers against what is promised of lent bytes and of refusals (docs/SPECIFICATION.md, "Shams"): each is the driver, but for one kind
-- of its steps, or for a step more.
use Rattle.std.specs.Prelude.{Bool, true, false, ◌&&◌, if◌then◌else◌, [], length, set, replicate}
use Rattle.qspi.specs.Shown.{Shown, high, low, write}
use Rattle.spi_flash.specs.Loan.{Lent}
use Rattle.spi_flash.specs.Run.{Given, act, ended, failed, refused, Moved}
use Rattle.spi_flash.specs.Seen.{unless_refused}
use Rattle.spi_flash.specs.declared.error.FlashError.{FlashError}
use Rattle.flash_runs.specs.Driver.{Driver}
use Rattle.flash_runs.specs.LentBytes.{LentBytes}
use Rattle.flash_runs.specs.Refusals.{RefusesJust, RefusalsKeep}
use Rattle.flash_runs.specs.Shams.{in_place, altered}

-- the buffer is filled with 00
abbrev pub wiped : Lent → Lent
wiped l = record { scratch = l.scratch; buffer = replicate (length l.buffer) 0x00; given = l.given }

-- a byte behind all that is ever put into the scratch
abbrev pub scribbled : Lent → Lent
scribbled l = record { scratch = set l.scratch 263 0xFF; buffer = l.buffer; given = l.given }

-- at a good end; with a refusal
abbrev pub at_end : {A B : Type 0} → Given A → (changed same : B) → B
at_end (ended a) changed same = changed
at_end _ changed same = same

abbrev pub with_refusal : {A B : Type 0} → Given A → (changed same : B) → B
with_refusal (refused e) changed same = changed
with_refusal _ changed same = same

abbrev pub lowered : Shown → Shown
lowered high = low
lowered shown = shown

abbrev pub lowered_in : {A : Type 0} → Given A → Given A
lowered_in (act shown) = act (lowered shown)
lowered_in given = given

abbrev pub renamed : {A : Type 0} → Given A → Given A
renamed (failed e) = failed FlashError.Timeout
renamed given = given

abbrev pub misnamed : {A : Type 0} → Given A → Given A
misnamed (refused e) = refused FlashError.Timeout
misnamed given = given

abbrev pub is_low : {A : Type 0} → Given A → Bool
is_low (act low) = true
is_low _ = false

abbrev pub is_write : {A : Type 0} → Given A → Bool
is_write (act (write bytes)) = true
is_write _ = false

-- a step of the driver, remembered with whether select has just gone low
abbrev pub remembered : {F A : Type 0} → (selected : Bool) → Moved F A → Moved (F × Bool) A
remembered selected m = record { given = m.given; flash = (m.flash, unless_refused m.given (is_low m.given) selected); left = m.left }

-- ahead of a command that is a write of its own, a write of no bytes, whose reply the driver takes for that to select low
abbrev pub ahead_empty : {F A : Type 0} → F × Bool → Lent → Moved F A → Moved (F × Bool) A
ahead_empty flash l m =
    if flash.1 && is_write m.given then record { given = act (write []); flash = (flash.0, false); left = l } else remembered flash.1 m

module _ {F C S A : Type 0} (driver : Driver F C S A) where
  -- it wipes the buffer at a good end; it writes into the scratch there
  abbrev pub wiping : Driver F C S A
  wiping = altered driver (λ m. record { given = m.given; flash = m.flash; left = at_end m.given (wiped m.left) m.left })

  abbrev pub scribbling : Driver F C S A
  scribbling = altered driver (λ m. record { given = m.given; flash = m.flash; left = at_end m.given (scribbled m.left) m.left })

  -- it never raises select
  abbrev pub lowering : Driver F C S A
  lowering = altered driver (λ m. record { given = lowered_in m.given; flash = m.flash; left = m.left })

  -- it fails with one code, whatever the bus said
  abbrev pub renaming : Driver F C S A
  renaming = altered driver (λ m. record { given = renamed m.given; flash = m.flash; left = m.left })

  -- with a refusal it wipes the buffer; forgets what it is; says another number
  abbrev pub spoiling : Driver F C S A
  spoiling = altered driver (λ m. record { given = m.given; flash = m.flash; left = with_refusal m.given (wiped m.left) m.left })

  abbrev pub forgetting : Driver F C S A
  forgetting = altered driver (λ m. record { given = m.given; flash = with_refusal m.given driver.fresh m.flash; left = m.left })

  abbrev pub misnaming : Driver F C S A
  misnaming = altered driver (λ m. record { given = misnamed m.given; flash = m.flash; left = m.left })

  -- it gives out a write of no bytes ahead of each command that is a write of its own
  abbrev pub stuttering : Driver (F × Bool) C S A
  stuttering =
      in_place driver (record {
        system = record {
          begin = λ flash call l. remembered flash.1 (driver.system.begin flash.0 call l);
          answer = λ flash r bytes l. ahead_empty flash l (driver.system.answer flash.0 r bytes l);
          running = λ flash. driver.system.running flash.0;
        };
        setup = λ flash. driver.setup flash.0;
        built = λ flash. driver.built flash.0;
        delivered = λ flash. driver.delivered flash.0;
        fresh = (driver.fresh, false);
      })

  pub record LentShamsFail : Type 0 where
    pub wiping : LentBytes wiping → ⊥
    pub scribbling : LentBytes scribbling → ⊥
    pub lowering : LentBytes lowering → ⊥
    pub renaming : LentBytes renaming → ⊥
    pub stuttering : LentBytes stuttering → ⊥
    pub spoiling : RefusalsKeep spoiling → ⊥
    pub forgetting : RefusalsKeep forgetting → ⊥
    pub misnaming : RefusesJust misnaming → ⊥

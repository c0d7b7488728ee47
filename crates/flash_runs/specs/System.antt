-- A driver as it is stepped: its own `begin` and `step`, with the bytes that an action shows and the driver that an end leaves behind.
use Rattle.std.specs.Prelude.{ℕ, Bool, true, false, List, length}
use Rattle.qspi.specs.Shown.{shown_of}
use Rattle.qspi.specs.declared.bus.Reply.{Reply}
use Rattle.spi_flash.specs.Loan.{Lent, lent_as}
use Rattle.spi_flash.specs.Replying as Replying
use Rattle.spi_flash.specs.Run as Run
use Rattle.spi_flash.specs.Run.{Moved, System}
use Rattle.spi_flash.specs.Shape.{Running, idle, busy, Given, acts, ends, fails, refuses, Shape}
use Rattle.flash_runs.specs.Driver.{Left, leaving}

-- what was given, with what the Rust's struct holds at the call's end
abbrev pub leaving_in : {S A : Type 0} → S → Given A → Given (Left S A)
leaving_in setup (acts action) = acts action
leaving_in setup (ends answer) = ends (leaving setup answer)
leaving_in setup (fails error) = fails error
leaving_in setup (refuses error) = refuses error

-- and with the bytes that an action shows, of a scratch and the caller's data
abbrev pub shown_as : {A : Type 0} → Given A → List ℕ → List ℕ → Run.Given A
shown_as (acts action) scratch lent = Run.act (shown_of action scratch lent)
shown_as (ends a) scratch lent = Run.ended a
shown_as (fails error) scratch lent = Run.failed error
shown_as (refuses error) scratch lent = Run.refused error

abbrev pub is_busy : {P : Type 0} → Running P → Bool
is_busy idle = false
is_busy (busy job) = true

module _ {F S P A G : Type 0} (shape : Shape F S P A G) where
  -- what a step gives, with what the struct holds behind it
  abbrev pub last_of : G → Given (Left S A)
  last_of x = leaving_in (shape.setup (shape.after x)) (shape.given x)

  -- a step that leaves these lent bytes
  abbrev pub left_with : G → Lent → Moved F (Left S A)
  left_with x l = record { given = shown_as (last_of x) l.scratch l.given; flash = shape.after x; left = l }

  abbrev pub moved_as : Replying.AfterStep G → Lent → Moved F (Left S A)
  moved_as m l = left_with m.stepped (lent_as m.scratch m.buffer l)

  -- `begin`, which changes nothing that is lent, and `step`
  abbrev pub system_of : {C : Type 0} → (F → C → ℕ → ℕ → ℕ → G) → (F → Reply → List ℕ → List ℕ → List ℕ → List ℕ → Replying.AfterStep G) → System F C (Left S A)
  system_of begin step =
      record {
        begin = λ flash call l. left_with (begin flash call (length l.scratch) (length l.buffer) (length l.given)) l;
        answer = λ flash r bytes l. moved_as (step flash r bytes l.scratch l.buffer l.given) l;
        running = λ flash. is_busy (shape.running flash);
      }

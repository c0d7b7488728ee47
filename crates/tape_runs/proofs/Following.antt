-- A driver's replay goes by the driver's own steps.
use Prim.Native.Nat.{ℕ}
use mathlib.Core.Path.{◌≡◌, refl, ap}
use mathlib.Core.List.{List, []}
use Rattle.qspi.specs.Bus.{on_bus}
use Rattle.qspi.specs.declared.bus.Reply.{Reply}
use Rattle.qspi.proofs.Cases.{by_cases}
use Rattle.qspi.specs.Frame.{Outcome}
use Rattle.spi_flash.specs.Beginning.{Calls, begins}
use Rattle.spi_flash.specs.Loan.{Lent}
use Rattle.spi_flash.specs.Replying.{step_at, steps}
use Rattle.spi_flash.specs.Shape.{Then, Running, Given, acts, ends, fails, refuses, Shape}
use Rattle.spi_flash.specs.declared.error.FlashError.{FlashError}
use Rattle.spi_flash.proofs.Faithful.{viewed, Faithful}
use Rattle.flash_runs.specs.Driver.{Left}
use Rattle.flash_runs.specs.System.{leaving_in, shown_as, last_of, left_with, moved_as}
use Rattle.flash_runs.proofs.General.{parts_of}
use Rattle.flash_runs.proofs.Shapes.{answers_at}
use Rattle.tape.specs.Judge.{first_of}
use Rattle.tape.specs.Record.{taken_at, spent_of}
use Rattle.tape.specs.Replaying.{Taped, begun_over, played_at, plain_over, record_over, advanced_then, advanced_over}
use Rattle.tape_runs.specs.Player.{awaited_in, played_as, Player, player_of}
use Rattle.tape_runs.proofs.Hearing.{general-hears}
use Rattle.tape_runs.proofs.Laws.{Hears, Stands, Steps, Moves, Follows}

module _ {R F S P A G C : Type 0} (shape : Shape F S P A G) (faithful : Faithful shape) (calls : Calls S P A C) (next : S → P → Outcome → Then S P A)
    (replay_at : G → ℕ → R) (stepped : R → G) (at : R → ℕ) (holds : (x : G) (n : ℕ) → stepped (replay_at x n) ≡ x) (stands_at : (x : G) (n : ℕ) → at (replay_at x n) ≡ n) where
  abbrev taped : Taped R F S P A G C
  taped = record { shape = shape; begin = begins shape calls; step = steps shape next; replay_at = replay_at; stepped = stepped; at = at }

  abbrev player : Player R F C (Left S A)
  player = player_of taped

  -- a replay that holds what a step of the driver came to
  stands : (x : G) (n : ℕ) (left : Lent) → Stands player (replay_at x n) n (left_with shape x left)
  stands x n left = record {
    flash = ap shape.after (holds x n);
    shown = ap (λ y. shown_as (last_of shape y) left.scratch left.given) (holds x n);
    at = stands_at x n;
  }

  stepping : (flash : F) (kind : Reply) (bytes : List ℕ) (l : Lent) (n : ℕ) →
      Steps player (played_as (played_at taped n (steps shape next flash kind bytes l.scratch l.buffer l.given)) l) flash kind bytes l n
  stepping flash kind bytes l n = record { stands = stands _ n _; left = refl }

  -- with no record left
  spent : (flash : F) (n : ℕ) → last_of shape (stepped (replay_at (shape.refused flash FlashError.TapeSpent) n)) ≡ refuses FlashError.TapeSpent
  spent flash n = rw (holds (shape.refused flash FlashError.TapeSpent) n, (faithful.refused flash FlashError.TapeSpent).given) refl

  moves : (given : Given A) (setup : S) (r : R) (tape : List ℕ) (l : Lent) →
      Moves player (leaving_in setup given) (played_as (advanced_then taped given r tape l.scratch l.buffer l.given) l) r tape l
  unfolding advanced_then plain_over record_over
  moves (acts action) setup r tape l =
      by_cases (on_bus action)
      (λ bus. by_cases (spent_of (taken_at tape (at r)).given)
      (λ none. rw (bus, none) (record { last = spent _ _; left = refl }))
      (λ some. rw (bus, some) (stepping (shape.after (stepped r)) _ _ l _)))
      (λ bus. rw bus (stepping (shape.after (stepped r)) Reply.Done [] l (at r)))
  moves (ends answer) setup r tape l = tt
  moves (fails error) setup r tape l = tt
  moves (refuses error) setup r tape l = tt

  hears : (running : Running P) (flash : F) (kind : Reply) (bytes : List ℕ) (l : Lent) →
      Hears (awaited_in running) kind bytes l (moved_as shape (step_at shape next running flash kind bytes l.scratch l.buffer l.given) l).given
  hears running flash kind bytes l =
      rw (answers_at shape faithful calls next running flash kind bytes l).given (general-hears (parts_of calls next) running (viewed shape flash) kind bytes l)

  pub follows : Follows player
  unfolding begun_over advanced_over steps
  follows = record {
    begins = λ tape accepted flash c l. rw accepted (stands _ (first_of tape) l);
    moves = λ r tape l. moves (shape.given (stepped r)) (shape.setup (shape.after (stepped r))) r tape l;
    hears = λ flash kind bytes l. hears (shape.running flash) flash kind bytes l;
  }

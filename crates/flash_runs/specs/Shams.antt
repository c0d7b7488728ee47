-- Sham drivers (docs/SPECIFICATION.md, "Shams"): none of them keeps the promises. A sham may hold what it likes, step as it likes and say of
-- itself what it likes; the calls, the Rust's program and the figures that it is held against are the driver's. Sham runs of a NAND read are
-- in specs/Shams.antt of nand_runs.
use Rattle.std.specs.Prelude.{ℕ, Bool, true, ◌≡◌, List}
use Rattle.qspi.specs.Bytes.{AllBytes}
use Rattle.spi_flash.specs.Loan.{Lent, ready_for}
use Rattle.spi_flash.specs.Prog.{Prog, ask}
use Rattle.spi_flash.specs.Run.{Event, Given, act, ended, failed, refused, Moved, System}
use Rattle.flash_runs.specs.Driver.{Left, leaving, Driver, takes_at, program_at, bound_at, ends_at, flash_after}
use Rattle.flash_runs.specs.Refusals.{ToldByHistory}
use Rattle.flash_runs.specs.SameAsRust.{Usable, SameAsRust}
use Rattle.flash_runs.specs.WithinBound.{Begun, WithinBound}

-- a program that uses the bus
abbrev pub Asks : {A : Type 0} → Prog A → Type 0
Asks (ask t k) = Unit {0}
Asks _ = ⊥

-- ---- what a sham brings of its own

-- how it is stepped, what its state says of the Rust's struct and of the buffer, and the state before any construction
pub record Subject (G C S A : Type 0) : Type 0 where
  pub system : System G C (Left S A)
  pub setup : G → S
  pub built : G → Bool
  pub delivered : G → List ℕ → List ℕ
  pub fresh : G

module _ {F C S A : Type 0} (driver : Driver F C S A) where
  -- held against what the driver is held against
  abbrev pub in_place : {G : Type 0} → Subject G C S A → Driver G C S A
  in_place sham =
      record {
        system = sham.system;
        setup = sham.setup;
        built = sham.built;
        fresh = sham.fresh;
        delivered = sham.delivered;
        sort = driver.sort;
        in_bounds = driver.in_bounds;
        program = driver.program;
        delay_bound = driver.delay_bound;
        most_actions = driver.most_actions;
        can_end = driver.can_end;
        reads = driver.reads;
        stamps = driver.stamps;
      }

  -- the driver, but for its bounds on delays
  abbrev pub bounding : (S → C → ℕ → ℕ → ℕ) → Driver F C S A
  bounding bound = record driver { delay_bound = bound }

  -- but for which calls it says can end well
  abbrev pub ending : (S → C → ℕ → ℕ → Bool) → Driver F C S A
  ending can = record driver { can_end = can }

  -- but for what each of its steps comes to
  abbrev pub altered : (Moved F (Left S A) → Moved F (Left S A)) → Driver F C S A
  altered f =
      record driver {
        system = record {
          begin = λ flash call l. f (driver.system.begin flash call l);
          answer = λ flash r bytes l. f (driver.system.answer flash r bytes l);
          running = driver.system.running;
        };
      }

-- one result for all, after honest traffic
abbrev pub answered_as : {S A : Type 0} → A → Given (Left S A) → Given (Left S A)
answered_as answer (act shown) = act shown
answered_as answer (ended left) = ended (leaving left.setup answer)
answered_as answer (failed e) = failed e
answered_as answer (refused e) = refused e

abbrev pub one_result : {F C S A : Type 0} → Driver F C S A → A → Driver F C S A
one_result driver answer = altered driver (λ m. record { given = answered_as answer m.given; flash = m.flash; left = m.left })

-- ---- kinds of sham

abbrev pub Refuses : {A : Type 0} → Given A → Type 0
Refuses (refused e) = Unit {0}
Refuses _ = ⊥

abbrev pub Succeeds : {A : Type 0} → Given A → Type 0
Succeeds (ended a) = Unit {0}
Succeeds _ = ⊥

module _ {F C S A : Type 0} (driver : Driver F C S A) where
  -- every request is refused, with whatever number
  abbrev pub RefusesAll : Type 0
  RefusesAll = (flash : F) (call : C) (l : Lent) → Refuses (driver.system.begin flash call l).given

  -- every request succeeds with no traffic
  abbrev pub ClaimsAll : Type 0
  ClaimsAll = (flash : F) (call : C) (l : Lent) → Succeeds (driver.system.begin flash call l).given

  -- running for ever, once a call has begun
  abbrev pub RunsForEver : Type 0
  RunsForEver = (flash : F) (call : C) (l : Lent) (es : List (Event C)) → Begun driver flash call l → driver.system.running (flash_after driver flash call l es) ≡ true

  -- a call that the Rust takes to the bus
  pub record ForTheBus (flash : F) (call : C) (l : Lent) : Type 0 where
    pub usable : Usable driver flash call l
    pub asks : Asks (program_at driver (driver.setup flash) call l)

-- ---- the statement

-- of shams with states G
pub record ShamsFail {F C S A : Type 0} (driver : Driver F C S A) (G : Type 0) : Type 0 where
  pub refusing : (sham : Subject G C S A) → RefusesAll (in_place driver sham) → ToldByHistory (in_place driver sham) → SameAsRust (in_place driver sham) → ⊥
  pub claiming : (sham : Subject G C S A) → ClaimsAll (in_place driver sham) → ToldByHistory (in_place driver sham) → SameAsRust (in_place driver sham) → ⊥
  -- nor is there one call that the Rust takes to the bus and the sham does not
  pub silent : (sham : Subject G C S A) (flash : G) (call : C) (l : Lent) → ForTheBus (in_place driver sham) flash call l →
      (Begun (in_place driver sham) flash call l → ⊥) → SameAsRust (in_place driver sham) → ⊥
  pub running_on : (sham : Subject G C S A) → RunsForEver (in_place driver sham) → ToldByHistory (in_place driver sham) → SameAsRust (in_place driver sham) →
      WithinBound (in_place driver sham) → ⊥
  -- a bound that is no sum of the delays given out: no other is kept and reached
  pub other_bounds : (bound : S → C → ℕ → ℕ → ℕ) → WithinBound (bounding driver bound) → (flash : F) (call : C) (l : Lent) → AllBytes l.given →
      ready_for (takes_at driver call l) l ≡ true → Begun driver flash call l → bound_at (bounding driver bound) flash call l ≡ bound_at driver flash call l
  -- a good end that is promised where there is none, or denied where there is one
  pub endings : (can : S → C → ℕ → ℕ → Bool) → WithinBound (ending driver can) → (flash : F) (call : C) (l : Lent) → AllBytes l.given →
      ready_for (takes_at driver call l) l ≡ true → Begun driver flash call l → ends_at (ending driver can) flash call l ≡ ends_at driver flash call l

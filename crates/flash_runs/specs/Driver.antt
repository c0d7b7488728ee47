-- A driver as the statements speak of it: what is stepped, what the Rust's struct holds, what each call is, and the figures
-- (docs/SPECIFICATION.md, "Runs" and "Waits and bounds").
use Rattle.std.specs.Prelude.{ℕ, Bool, true, false, List, length}
use Rattle.spi_flash.specs.Loan.{Lent}
use Rattle.spi_flash.specs.Prog.{Prog}
use Rattle.spi_flash.specs.Run.{Event, Entry, System, run_of, call_of, state_after}
use Rattle.spi_flash.specs.declared.loan.Takes.{Takes}
use Rattle.flash_runs.specs.Scratch.{Stamp}

-- the answer of a call, and what the Rust's struct holds afterwards
pub record Left (S A : Type 0) : Type 0 where
  pub answer : A
  pub setup : S

abbrev pub leaving : {S A : Type 0} → S → A → Left S A
leaving setup answer = record { answer = answer; setup = setup }

-- ---- what a call is

-- its construction, with what stands in the struct before the id is known; a look at what it holds; its release; or a use of the bus,
-- with what it takes beside the scratch
pub data Sort (S : Type 0) : Type 0 where
  constructs : S → Sort S
  tells releases : Sort S
  uses : Takes → Sort S

abbrev pub takes_of : {S : Type 0} → Sort S → Takes
takes_of (constructs fresh) = Takes.Nothing
takes_of tells = Takes.Nothing
takes_of releases = Takes.Nothing
takes_of (uses takes) = takes

-- whether that is the caller's buffer
abbrev pub takes_buffer : Takes → Bool
takes_buffer Takes.Nothing = false
takes_buffer (Takes.Buffer n) = true
takes_buffer (Takes.Data n) = false

-- what the call works on: a construction on what it is given, any other call on what the driver holds
abbrev pub works_on : {S : Type 0} → Sort S → S → S
works_on (constructs fresh) held = fresh
works_on tells held = held
works_on releases held = held
works_on (uses takes) held = held

-- ---- the driver

-- F its state, C its calls, S what the Rust's struct holds, A its answers; the two lengths are those of the buffer and of the data
pub record Driver (F C S A : Type 0) : Type 0 where
  -- `begin` and `step`
  pub system : System F C (Left S A)
  -- what the struct holds, and whether there is one: the last construction begun has succeeded
  pub setup : F → S
  pub built : F → Bool
  -- a driver before any construction
  pub fresh : F
  -- the part of the caller's buffer that has been filled (docs/SPECIFICATION.md, "Lent memory")
  pub delivered : F → List ℕ → List ℕ
  pub sort : C → ℕ → ℕ → Sort S
  -- what may stand in the struct (docs/SPECIFICATION.md, "Geometry")
  pub in_bounds : S → Bool
  -- the program that the driver follows
  pub program : S → C → ℕ → ℕ → Prog (Left S A)
  -- the largest sum of delays that the call asks for, which some replies bring it to; and a number of actions that it does not pass, which
  -- need not be the largest
  pub delay_bound : S → C → ℕ → ℕ → ℕ
  pub most_actions : S → C → ℕ → ℕ → ℕ
  -- whether the call, once begun, ends well on some replies
  pub can_end : S → C → ℕ → ℕ → Bool
  -- the commands whose data go to the caller
  pub reads : List ℕ → Bool
  -- what the call writes that is not the caller's: a bad-block mark
  pub stamps : S → C → List Stamp

-- ---- a call of it, on these lent bytes

module _ {F C S A : Type 0} (driver : Driver F C S A) where
  abbrev pub sort_at : C → Lent → Sort S
  sort_at call l = driver.sort call (length l.buffer) (length l.given)

  abbrev pub takes_at : C → Lent → Takes
  takes_at call l = takes_of (sort_at call l)

  abbrev pub program_at : S → C → Lent → Prog (Left S A)
  program_at setup call l = driver.program setup call (length l.buffer) (length l.given)

  abbrev pub bound_at : F → C → Lent → ℕ
  bound_at flash call l = driver.delay_bound (driver.setup flash) call (length l.buffer) (length l.given)

  abbrev pub most_actions_at : F → C → Lent → ℕ
  most_actions_at flash call l = driver.most_actions (driver.setup flash) call (length l.buffer) (length l.given)

  abbrev pub ends_at : F → C → Lent → Bool
  ends_at flash call l = driver.can_end (driver.setup flash) call (length l.buffer) (length l.given)

  -- what the call works on is inside the bounds
  abbrev pub bounded_at : F → C → Lent → Bool
  bounded_at flash call l = driver.in_bounds (works_on (sort_at call l) (driver.setup flash))

  -- its run, which a call that ends at once has not; its steps, the end at once among them; and the driver that they leave
  abbrev pub run_at : F → C → Lent → List (Event C) → List (Entry C (Left S A))
  run_at flash call l es = run_of driver.system flash call l es

  abbrev pub steps_at : F → C → Lent → List (Event C) → List (Entry C (Left S A))
  steps_at flash call l es = call_of driver.system flash call l es

  abbrev pub flash_after : F → C → Lent → List (Event C) → F
  flash_after flash call l es = state_after driver.system (driver.system.begin flash call l).flash es

-- What a host lends at each step (docs/SPECIFICATION.md, "Lent memory").
use Rattle.std.specs.Prelude.{ℕ, ◌≡◌, List, length}
use Rattle.qspi.specs.declared.loan.Lengths.{Lengths}
use Rattle.qspi.specs.declared.loan.Loan.{Loan}

-- a definition at the bytes that a loan lends: scratch, buffer and data
abbrev pub lending : {A : Type 0} → (List ℕ → List ℕ → List ℕ → A) → Loan → A
lending f loan = f loan.scratch.now loan.buffer.now loan.«data».now

-- a definition at the bytes that a step may change: scratch and buffer
abbrev pub returning : {A : Type 0} → (List ℕ → List ℕ → A) → Loan → A
returning f loan = f loan.scratch.now loan.buffer.now

-- the same memory is lent, with the same data: of before and after, which no invariant of one value says
pub record SameLoan (old new : Loan) : Type 0 where
  pub scratch : new.scratch.ghost_name ≡ old.scratch.ghost_name
  pub buffer : new.buffer.ghost_name ≡ old.buffer.ghost_name
  pub «data» : new.«data» ≡ old.«data»

-- how long the scratch, the buffer and the data are
abbrev pub lengths_at : ℕ → ℕ → ℕ → Lengths
lengths_at scratch buffer given = record { scratch = scratch; buffer = buffer; «data» = given }

-- the lengths of what a loan lends
abbrev pub lengths_of : Loan → Lengths
lengths_of loan = lengths_at (length loan.scratch.now) (length loan.buffer.now) (length loan.«data».now)

-- What the parts of a call weigh, for a bound on any figure of its transfers (docs/SPECIFICATION.md, "Waits and bounds").
use Rattle.std.specs.Prelude.{ℕ}

-- to raise select; to send a command; to read a number; to send the caller's data or compare with them; to fill the caller's buffer; to
-- send the bytes of a mark; to wait for one of the operations O
pub record Figures (O : Type 0) : Type 0 where
  pub raise : ℕ
  pub send : ℕ
  pub moved : ℕ
  pub given : ℕ
  pub fill : ℕ
  pub stamp : ℕ
  pub waits : O → ℕ

-- actions: 1 to raise select, 3 to send a command, at most 4 for a transfer with data, so that the sum may pass what is given out
abbrev pub action_figures : {O : Type 0} → (O → ℕ) → Figures O
action_figures waits = record { raise = 1; send = 3; moved = 4; given = 4; fill = 4; stamp = 4; waits = waits }

-- The rule of a wait (docs/SPECIFICATION.md, "Waits and bounds"; the Rust's two functions `wait_ready`).
use Rattle.std.specs.Prelude.{ℕ, ◌+◌, ◌-◌, Bool, leb, eqb}
use Rattle.qspi.specs.Choice.{pick}
use Rattle.spi_flash.specs.declared.wait.Timings.{Timings}
use Rattle.spi_flash.specs.declared.wait.Wait.{Wait}

-- the first delay, or a look at once where that is 0
unfoldable pub first_wait : Timings → Wait
first_wait t = pick (eqb t.initial_us 0) Wait.Look (Wait.Pause t.initial_us t.initial_us)

-- the largest number of 32 bits, at which the Rust's saturating_add stops
abbrev pub u32_max : ℕ
u32_max = 4294967295

abbrev pub saturating_add : ℕ → ℕ → ℕ
saturating_add a b = pick (leb b (u32_max - a)) (a + b) u32_max

-- busy: another delay, or the refusal once the sum has come to the limit
abbrev pub busy_wait : Timings → ℕ → Wait
busy_wait t waited = pick (leb t.timeout_us waited) Wait.Timeout (Wait.Pause t.poll_us (saturating_add waited t.poll_us))

unfoldable pub next_wait : Timings → ℕ → Bool → Wait
next_wait t waited busy = pick busy (busy_wait t waited) Wait.Ready

-- Ranges of a part, and the pieces in which many bytes go (nor/driver.rs, nand/driver.rs).
use Rattle.std.specs.Prelude.{ℕ, ◌-◌, min, Bool, false, nat_le, Result, Ok, Err}
use Rattle.qspi.specs.Choice.{pick}
use Rattle.spi_flash.specs.declared.error.FlashError.{FlashError}
use Rattle.spi_flash.specs.declared.range.Span.{Span}

-- range_in_bounds: offset <= capacity && length <= capacity - offset
unfoldable pub range_in_bounds : ℕ → ℕ → ℕ → Bool
range_in_bounds capacity offset n = pick (nat_le offset capacity) (nat_le n (capacity - offset)) false

-- check_page, check_cache_range, check_range: `Ok(())`, or OutOfBounds
abbrev pub checked : Bool → Result (Unit {0}) FlashError
checked in_bounds = pick in_bounds (Ok tt) (Err FlashError.OutOfBounds)

-- (bytes.len() - done).min(most)
abbrev pub piece_of : ℕ → ℕ → ℕ → ℕ
piece_of most len done = min (len - done) most

-- where a call over many bytes stands
abbrev pub span : {O : Type 0} → O → ℕ → ℕ → Span O
span offset len done = record { offset = offset; len = len; done = done }

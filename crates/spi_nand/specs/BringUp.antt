-- Whose part a read or a write of a register is (the Rust's `bring_up` calls what is also a call of its own).
use Rattle.std.specs.Prelude.{Bool, true, false}

abbrev pub in_bring_up : Bool
in_bring_up = true

abbrev pub its_own : Bool
its_own = false

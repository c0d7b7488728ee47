-- What a call's beginning looks at of all that is lent, and what `delivered` shows behind it (docs/SPECIFICATION.md, "Lent memory").
use Rattle.std.specs.Prelude.{ℕ, Bool, false, ◌≡◌, List, [], length, ltb}
use Rattle.qspi.specs.Choice.{pick}
use Rattle.qspi.specs.Command.{scratch_least}
use Rattle.spi_flash.specs.Loan.{Lent}
use Rattle.spi_flash.specs.Run.{Moved}
use Rattle.spi_flash.specs.declared.loan.Takes.{Takes}
use Rattle.flash_runs.specs.Driver.{Sort, tells, releases, takes_of, takes_buffer}

-- ---- what it looks at

-- whether the scratch is too short; a call that does not use the bus takes none
abbrev pub short_scratch : {S : Type 0} → Sort S → Lent → Bool
short_scratch tells l = false
short_scratch releases l = false
short_scratch _ l = ltb (length l.scratch) scratch_least

-- alike in the length of the buffer or of the data, where the call takes one of them
abbrev pub SameTaken : Takes → Lent → Lent → Type 0
SameTaken Takes.Nothing l m = Unit {0}
SameTaken (Takes.Buffer n) l m = length l.buffer ≡ length m.buffer
SameTaken (Takes.Data n) l m = length l.given ≡ length m.given

-- alike in all that a beginning looks at
pub record SameLooked {S : Type 0} (sort : Sort S) (l m : Lent) : Type 0 where
  pub taken : SameTaken (takes_of sort) l m
  pub scratch : short_scratch sort l ≡ short_scratch sort m

-- the same is given, and the driver left is the same
pub record SameStep {F A : Type 0} (x y : Moved F A) : Type 0 where
  pub given : x.given ≡ y.given
  pub flash : x.flash ≡ y.flash

-- ---- what `delivered` shows

-- behind a beginning that is not refused, where it showed the bytes `before`: a construction and a use of the bus begin with none
abbrev pub first_delivered : {S : Type 0} → Sort S → List ℕ → List ℕ
first_delivered tells before = before
first_delivered releases before = before
first_delivered _ before = []

-- of the bytes read so far, by what the call takes: none where it takes no buffer
abbrev pub callers_bytes : Takes → List ℕ → List ℕ
callers_bytes takes bytes = pick (takes_buffer takes) bytes []

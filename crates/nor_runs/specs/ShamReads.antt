-- Sham NOR drivers that go to the bus as the driver does, but for one lie (docs/SPECIFICATION.md, "Shams"): none of them delivers what the
-- chip holds, or has read back what it says it has.
use Rattle.std.specs.Prelude.{ℕ, ◌==◌, List, [], ◌∷◌, length, replicate, if◌then◌else◌}
use Rattle.qspi.specs.Shown.{write}
use Rattle.spi_flash.specs.Loan.{Lent}
use Rattle.spi_flash.specs.Run.{Given, act, ended, failed}
use Rattle.spi_flash.specs.declared.error.FlashError.{FlashError}
use Rattle.flash_runs.specs.Driver.{leaving, Driver}
use Rattle.flash_runs.specs.Shams.{Subject, in_place, altered, ClaimsAll}
use Rattle.spi_nor.specs.Opcode.{READ}
use Rattle.spi_nor.specs.declared.answer.Answer.{Answer}
use Rattle.spi_nor.specs.declared.call.Call.{Call}
use Rattle.spi_nor.specs.declared.setup.Setup.{Setup}
use Rattle.nor_driver.specs.Settle.{SpiNorFlash}
use Rattle.nor_runs.specs.Chip.{DeliversTheChip}
use Rattle.nor_runs.specs.Program.{Left}
use Rattle.nor_runs.specs.Run.{nor_driver}
use Rattle.nor_runs.specs.Shams.{Memory}

-- ---- every piece read from place 0

abbrev pub from_zero : List ℕ → List ℕ
from_zero (opcode ∷ a ∷ b ∷ c ∷ []) = if opcode == READ then READ ∷ 0 ∷ 0 ∷ 0 ∷ [] else opcode ∷ a ∷ b ∷ c ∷ []
from_zero bytes = bytes

abbrev pub misled : Given Left → Given Left
misled (act (write bytes)) = act (write (from_zero bytes))
misled given = given

abbrev pub misreading : Driver SpiNorFlash Call Setup Answer
misreading = altered nor_driver (λ m. record { given = misled m.given; flash = m.flash; left = m.left })

-- ---- the caller's buffer left full of zeros

abbrev pub zeros : Lent → Lent
zeros l = record l { buffer = replicate (length l.buffer) 0 }

abbrev pub unfilled : Driver SpiNorFlash Call Setup Answer
unfilled = altered nor_driver (λ m. record { given = m.given; flash = m.flash; left = zeros m.left })

-- ---- a page that reads back otherwise passes

abbrev pub passed : Setup → Given Left → Given Left
passed setup (failed FlashError.VerifyFailed) = ended (leaving setup Answer.Done)
passed setup given = given

abbrev pub uncompared : Driver SpiNorFlash Call Setup Answer
uncompared = altered nor_driver (λ m. record { given = passed m.flash.setup m.given; flash = m.flash; left = m.left })

-- ---- the statement

pub record ShamReadsFail : Type 0 where
  pub misreading : DeliversTheChip misreading → ⊥
  -- all of its traffic is lawful
  pub unfilled : DeliversTheChip unfilled → ⊥
  pub uncompared : DeliversTheChip uncompared → ⊥
  -- success with no traffic
  pub claiming : (sham : Subject Memory Call Setup Answer) → ClaimsAll (in_place nor_driver sham) → DeliversTheChip (in_place nor_driver sham) → ⊥

-- The numbers of the errors (docs/SPECIFICATION.md, "Refusals and numbers"); 0 is success.
use Rattle.std.specs.Prelude.{ℕ, List, [], ◌∷◌}
use Rattle.spi_flash.specs.declared.error.FlashError.{FlashError}
use Rattle.spi_flash.specs.declared.error.NorFlashErrorKind.{NorFlashErrorKind}

abbrev pub error_number : FlashError → ℕ
error_number (FlashError.Spi code) = 1
error_number FlashError.Timeout = 2
error_number FlashError.NotAligned = 3
error_number FlashError.InvalidLength = 4
error_number FlashError.OutOfBounds = 5
error_number FlashError.VerifyFailed = 6
error_number FlashError.WriteEnableFailed = 7
error_number FlashError.UncorrectableEcc = 8
error_number FlashError.EraseFailed = 9
error_number FlashError.ProgramFailed = 10
error_number FlashError.NotSupported = 11
error_number FlashError.InvalidGeometry = 12
error_number FlashError.OutOfTurn = 13
error_number FlashError.Misfit = 14
error_number FlashError.MalformedTape = 15
error_number FlashError.TapeSpent = 16

-- the values beside the number: a bus error has its code
abbrev pub error_values : FlashError → List ℕ
error_values (FlashError.Spi code) = code ∷ []
error_values _ = []

-- the Rust's FlashError::nor_flash_kind; the added refusals are Other
abbrev pub kind_of : FlashError → NorFlashErrorKind
kind_of FlashError.NotAligned = NorFlashErrorKind.NotAligned
kind_of FlashError.InvalidLength = NorFlashErrorKind.NotAligned
kind_of FlashError.OutOfBounds = NorFlashErrorKind.OutOfBounds
kind_of _ = NorFlashErrorKind.Other

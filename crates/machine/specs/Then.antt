-- What a call is, and what follows each of its transfers, as the code makes them.
use Rattle.std.specs.Prelude.{ℕ, Result, Ok}
use Rattle.qspi.specs.declared.transfer.Transfer.{Transfer}
use Rattle.spi_flash.specs.declared.error.FlashError.{FlashError}
use Rattle.spi_flash.specs.declared.loan.Takes.{Takes}
use Rattle.machine.specs.declared.then.Next.{Next}
use Rattle.machine.specs.declared.then.Opening.{Opening}

abbrev pub Then : (S P A : Type 0) → Type 0
Then S P A = Result (Next S P A) FlashError

module _ {S P A : Type 0} where
  -- a transfer, and where the call stands while it is out
  abbrev pub go_to : S → Transfer → P → Then S P A
  go_to setup transfer phase = Ok (Next.Go setup transfer phase)

  -- `Ok(..)`
  abbrev pub end_with : S → A → Then S P A
  end_with setup answer = Ok (Next.End setup answer)

  -- a call that takes nothing, the caller's buffer, the caller's data
  abbrev pub plain : Then S P A → Opening S P A
  plain then = Opening.Uses Takes.Nothing then

  abbrev pub filling : ℕ → Then S P A → Opening S P A
  filling n then = Opening.Uses (Takes.Buffer n) then

  abbrev pub sending : ℕ → Then S P A → Opening S P A
  sending n then = Opening.Uses (Takes.Data n) then

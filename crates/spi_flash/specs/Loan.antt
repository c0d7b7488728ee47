-- What a call takes of what a host lends at each step (docs/SPECIFICATION.md, "Lent memory").
use Rattle.std.specs.Prelude.{ℕ, Bool, true, false, List, length, ltb, eqb}
use Rattle.qspi.specs.Choice.{pick}
use Rattle.qspi.specs.Command.{scratch_least}
use Rattle.qspi.specs.declared.bus.Reply.{Reply}
use Rattle.qspi.specs.Frame.{AfterExchange, exchanged_to, exchange_of}
use Rattle.qspi.specs.declared.frame.Exchanged.{Exchanged}
use Rattle.qspi.specs.declared.frame.Frame.{Frame}
use Rattle.spi_flash.specs.declared.loan.Takes.{Takes}

-- what the call takes is as long as at its beginning; otherwise it is 14 (docs/SPECIFICATION.md, "Refusals and numbers")
abbrev pub length_kept : Takes → ℕ → ℕ → Bool
length_kept Takes.Nothing buffer given = true
length_kept (Takes.Buffer n) buffer given = eqb buffer n
length_kept (Takes.Data n) buffer given = eqb given n

unfoldable pub ready_of : Takes → ℕ → ℕ → ℕ → Bool
ready_of takes scratch buffer given = pick (ltb scratch scratch_least) false (length_kept takes buffer given)

-- a reply to the action that is out: lent bytes that are not fit for it change nothing
unfoldable pub exchange_for : Takes → Frame → Reply → List ℕ → List ℕ → List ℕ → List ℕ → AfterExchange
exchange_for takes frame reply bytes scratch buffer given =
    pick (ready_of takes (length scratch) (length buffer) (length given)) (exchange_of frame reply bytes scratch buffer given)
    (exchanged_to Exchanged.Misfit scratch buffer)

-- the scratch, the buffer and the data that a step is lent
pub record Lent : Type 0 where
  pub scratch : List ℕ
  pub buffer : List ℕ
  pub given : List ℕ

-- what is lent, with this scratch and this buffer
abbrev pub lent_as : List ℕ → List ℕ → Lent → Lent
lent_as scratch buffer l = record { scratch = scratch; buffer = buffer; given = l.given }

abbrev pub ready_for : Takes → Lent → Bool
ready_for takes l = ready_of takes (length l.scratch) (length l.buffer) (length l.given)

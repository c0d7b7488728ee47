-- What a program does where a host hands it any events and passes over those that do not fit: the Rust's side of a run, told from the
-- events alone, and not from what a driver takes (docs/SPECIFICATION.md, "Actions and replies" and "Runs").
use Rattle.std.specs.Prelude.{ℕ, Bool, ◌&&◌, List, [], ◌∷◌, length}
use Rattle.qspi.specs.Bus.{fits_at}
use Rattle.qspi.specs.Bytes.{delivered_of}
use Rattle.qspi.specs.Choice.{pick}
use Rattle.qspi.specs.Shown.{Shown}
use Rattle.qspi.specs.declared.bus.Reply.{Reply}
use Rattle.spi_flash.specs.Loan.{Lent, ready_for}
use Rattle.spi_flash.specs.OnBus.{BusProg, answers, stops, does, fills}
use Rattle.spi_flash.specs.Run.{Event, reply, call, act, ended, failed}
use Rattle.spi_flash.specs.Seen.{Did, did}
use Rattle.spi_flash.specs.declared.loan.Takes.{Takes}
use Rattle.flash_runs.specs.Refusals.{awaits}

-- a reply to the action that is out, with lent bytes that are fit for the call
abbrev pub fits_out : Takes → Shown → Lent → Reply → ℕ → Bool
fits_out takes shown l r n = ready_for takes l && fits_at (awaits shown) r n

-- another call begun meanwhile never fits
unfoldable pub heeding : {C A : Type 0} → Takes → BusProg A → List (Event C) → List ℕ → List (Did A)
heeding takes (answers a) es buffer = did (ended a) buffer ∷ []
heeding takes (stops e) es buffer = did (failed e) buffer ∷ []
heeding takes (fills at bytes p) es buffer = heeding takes p es (delivered_of buffer at bytes)
heeding takes (does shown k) [] buffer = did (act shown) buffer ∷ []
heeding takes (does shown k) (call c l ∷ es) buffer = heeding takes (does shown k) es buffer
heeding takes (does shown k) (reply r bytes l ∷ es) buffer =
    pick (fits_out takes shown l r (length bytes))
    (did (act shown) buffer ∷ heeding takes (k (record { kind = r; bytes = bytes })) es buffer)
    (heeding takes (does shown k) es buffer)

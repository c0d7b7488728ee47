-- The shams that break what is promised of lent bytes and of refusals.
use Prim.Native.Nat.{ℕ}
use native.Mathlib.Omega.{arith}
use mathlib.Core.Bool.{Bool, true, false, true≢false}
use mathlib.Core.Path.{refl, ap, sym}
use mathlib.Core.List.{List, [], ◌∷◌}
use lib.ListN.{get_or}
use Rattle.std.specs.Prelude.{None}
use Rattle.qspi.specs.Bus.{fits_of}
use Rattle.qspi.specs.Command.{with_command}
use Rattle.qspi.specs.Frame.{first_of, action_of, given_scratch, advanced_of, taken_in, delivered_by, exchange_of}
use Rattle.qspi.specs.declared.bus.Reply.{Reply}
use Rattle.spi_flash.specs.Beginning.{opened, begun, at_rest, begins}
use Rattle.spi_flash.specs.Entry.{entry_of}
use Rattle.spi_flash.specs.Loan.{Lent, ready_of, exchange_for}
use Rattle.spi_flash.specs.Replying.{steps}
use Rattle.spi_flash.specs.Run as Run
use Rattle.spi_flash.specs.Run.{Given, goes_on, run_of, Event}
use Rattle.spi_flash.specs.Seen.{KeepsBuffer, EndsHigh}
use Rattle.spi_flash.specs.Settling.{settled}
use Rattle.spi_flash.specs.declared.error.FlashError.{FlashError}
use Rattle.flash_runs.specs.LentBytes.{LentBytes}
use Rattle.flash_runs.specs.LentShams.{wiping, scribbling, lowering, renaming, stuttering, spoiling, forgetting, misnaming, LentShamsFail}
use Rattle.flash_runs.specs.Refusals.{RefusesJust, RefusalsKeep}
use Rattle.flash_runs.specs.Scratch.{PutsOver}
use Rattle.flash_runs.specs.Watch.{StopsOnError}
use Rattle.flash_runs.proofs.Shams.{lending, done, got}
use Rattle.spi_nor.specs.Config.{single_config, in_bounds_of}
use Rattle.spi_nor.specs.declared.call.Call.{Call}
use Rattle.nor_steps.specs.Opening.{opening_of}
use Rattle.nor_driver.specs.Call.{fresh_setup, not_built}
use Rattle.nor_driver.specs.Next.{after_phase, next_of}
use Rattle.nor_driver.specs.Settle.{SpiNorFlash, flash_of}
use Rattle.nor_runs.specs.Run.{nor_driver}

-- a driver that is built
abbrev built : SpiNorFlash
built = flash_of (fresh_setup single_config) true 0 None

-- a status register that reads 0; and a bus error there
abbrev reading : List ℕ → List (Event Call)
reading buffer = done buffer ∷ done buffer ∷ got (0 ∷ []) buffer ∷ done buffer ∷ []

abbrev failing : List (Event Call)
failing = done [] ∷ Run.reply (Reply.Error 3) [] (lending []) ∷ done [] ∷ []

abbrev one : List ℕ
one = 1 ∷ []

abbrev no_scratch : Lent
no_scratch = record { scratch = []; buffer = []; given = [] }

abbrev is_timeout : {A : Type 0} → Given A → Bool
is_timeout (Run.failed FlashError.Timeout) = true
is_timeout (Run.refused FlashError.Timeout) = true
is_timeout _ = false

wipes : LentBytes (wiping nor_driver) → ⊥
unfolding run_of goes_on begins at_rest begun opened settled entry_of steps opening_of in_bounds_of first_of action_of exchange_for exchange_of ready_of fits_of advanced_of taken_in given_scratch with_command delivered_by next_of after_phase KeepsBuffer
wipes kept =
    let h = kept.keeps built Call.ReadStatus1 (lending one) (reading one) refl in
    let e = ap (λ xs. get_or xs 0 0) h.1.1.1.1.0 in
    omega (arith, e)

scribbles : LentBytes (scribbling nor_driver) → ⊥
unfolding run_of goes_on begins at_rest begun opened settled entry_of steps opening_of in_bounds_of first_of action_of exchange_for exchange_of ready_of fits_of advanced_of taken_in given_scratch with_command delivered_by next_of after_phase PutsOver
scribbles kept =
    let h = kept.scratch built Call.ReadStatus1 (lending []) (reading []) in
    let e = ap (λ xs. get_or xs 263 0) h.1.1.1.1.0.scratch in
    omega (arith, e)

lowers : LentBytes (lowering nor_driver) → ⊥
unfolding run_of goes_on begins at_rest begun opened settled entry_of steps opening_of in_bounds_of first_of action_of exchange_for exchange_of ready_of fits_of advanced_of taken_in given_scratch with_command delivered_by next_of after_phase EndsHigh
lowers kept = true≢false (sym (kept.ends_high built Call.ReadStatus1 (lending []) (reading [])))

renames : LentBytes (renaming nor_driver) → ⊥
unfolding run_of goes_on begins at_rest begun opened settled entry_of steps opening_of in_bounds_of first_of action_of exchange_for exchange_of ready_of fits_of advanced_of taken_in given_scratch with_command delivered_by next_of after_phase StopsOnError
renames kept =
    let h = kept.stops_on_error built Call.ReadStatus1 (lending []) failing in
    true≢false (ap is_timeout h.1.1.1.0)

stutters : LentBytes (stuttering nor_driver) → ⊥
unfolding run_of goes_on begins at_rest begun opened settled entry_of steps opening_of in_bounds_of first_of action_of exchange_for exchange_of ready_of fits_of advanced_of taken_in given_scratch with_command delivered_by next_of after_phase PutsOver
stutters kept =
    let h = kept.scratch (built, false) Call.ReadStatus1 (lending []) (reading []) in
    omega (arith, h.1.0.scratch.0.0)

spoils : RefusalsKeep (spoiling nor_driver) → ⊥
unfolding run_of goes_on begins at_rest begun opened settled entry_of steps opening_of in_bounds_of first_of action_of exchange_for exchange_of ready_of fits_of advanced_of taken_in given_scratch with_command delivered_by next_of after_phase
spoils kept =
    let e = ap (λ l. get_or l.buffer 0 0) (kept.calls not_built Call.ReadStatus1 (lending one) FlashError.OutOfTurn refl).1 in
    omega (arith, e)

forgets : RefusalsKeep (forgetting nor_driver) → ⊥
unfolding run_of goes_on begins at_rest begun opened settled entry_of steps opening_of in_bounds_of first_of action_of exchange_for exchange_of ready_of fits_of advanced_of taken_in given_scratch with_command delivered_by next_of after_phase
forgets kept = true≢false (sym (ap (λ flash. flash.built) (kept.calls built Call.ReadStatus1 no_scratch FlashError.Misfit refl).0))

misnames : RefusesJust (misnaming nor_driver) → ⊥
unfolding run_of goes_on begins at_rest begun opened settled entry_of steps opening_of in_bounds_of first_of action_of exchange_for exchange_of ready_of fits_of advanced_of taken_in given_scratch with_command delivered_by next_of after_phase
misnames kept = true≢false (ap is_timeout (kept.calls not_built Call.ReadStatus1 (lending [])))

pub lent-shams-fail : LentShamsFail nor_driver
lent-shams-fail = record {
  wiping = wipes;
  scribbling = scribbles;
  lowering = lowers;
  renaming = renames;
  stuttering = stutters;
  spoiling = spoils;
  forgetting = forgets;
  misnaming = misnames;
}

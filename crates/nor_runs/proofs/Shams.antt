-- No sham NOR driver keeps its promise.
use Prim.Native.Nat.{ℕ}
use native.Mathlib.Omega.{arith}
use mathlib.Core.Bool.{true, false, true≢false}
use mathlib.Core.Path.{◌≡◌, refl, ap, sym, ◌∙◌}
use mathlib.Core.List.{List, [], ◌∷◌}
use Rattle.std.specs.Prelude.{None}
use Rattle.spi_flash.specs.Loan.{Lent}
use Rattle.qspi.specs.Bus.{fits_of}
use Rattle.qspi.specs.Command.{with_command}
use Rattle.qspi.specs.Frame.{first_of, action_of, given_scratch, advanced_of, taken_in, delivered_by, exchange_of}
use Rattle.spi_flash.specs.Beginning.{opened, begun, at_rest, begins}
use Rattle.spi_flash.specs.Entry.{entry_of}
use Rattle.spi_flash.specs.Loan.{ready_of, exchange_for}
use Rattle.spi_flash.specs.Prog.{◌>>=◌, ◌>>◌}
use Rattle.spi_flash.specs.Range.{range_in_bounds}
use Rattle.spi_flash.specs.Replying.{steps}
use Rattle.spi_flash.specs.Settling.{settled}
use Rattle.spi_flash.specs.Wait.{first_wait}
use Rattle.spi_nor.specs.Opcode.{timings_of}
use Rattle.spi_nor.specs.Config.{in_bounds_of}
use Rattle.spi_nor.specs.Transfer.{task_transfer, task_operation, multiple_of}
use Rattle.nor_steps.specs.Erase.{erase_unit}
use Rattle.nor_steps.specs.Opening.{opening_of}
use Rattle.nor_driver.specs.Next.{after_phase, next_of}
use Rattle.nor_driver.specs.Wait.{latched_then, wait_then, writing_then}
use Rattle.spi_flash.specs.Run.{goes_on, call_of, Event, Entry, Fitting}
use Rattle.spi_flash.specs.Seen.{told, SameData, Undisturbed}
use Rattle.spi_nor.specs.Config.{single_config}
use Rattle.spi_nor.specs.Answer.{answer_values}
use Rattle.spi_nor.specs.declared.answer.Answer.{Answer}
use Rattle.spi_nor.specs.declared.call.Call.{Call}
use Rattle.spi_nor.specs.declared.setup.Setup.{Setup}
use Rattle.flash_runs.specs.Driver.{Left, Driver, steps_at}
use Rattle.flash_runs.specs.SameAsRust.{Regular, SameAsRust}
use Rattle.flash_runs.specs.Shams.{one_result}
use Rattle.flash_runs.proofs.Shams.{told-alike, lending, done, got, acts_last, last_value, Constructible, shams-fail}
use Rattle.nor_driver.specs.Call.{fresh_setup}
use Rattle.nor_driver.specs.Settle.{SpiNorFlash, flash_of}
use Rattle.nor_runs.specs.Program.{program_of}
use Rattle.nor_runs.specs.Rust.{with-config}
use Rattle.nor_runs.specs.Run.{nor_driver}
use Rattle.nor_runs.specs.Shams.{Memory, hasty, NorShamsFail}
use Rattle.nor_runs.proofs.LentShams.{lent-shams-fail}
use Rattle.nor_runs.proofs.Promises.{nor-promises}

-- a driver that is built
abbrev built : SpiNorFlash
built = flash_of (fresh_setup single_config) true 0 None

abbrev lent : Lent
lent = lending []

-- ---- Timeout before looking

abbrev erasing : List (Event Call)
erasing = done [] ∷ done [] ∷ done [] ∷ done [] ∷ done [] ∷ got (2 ∷ []) [] ∷ done [] ∷ done [] ∷ done [] ∷ done [] ∷ []

abbrev erases : Driver SpiNorFlash Call Setup Answer → List (Entry Call (Left Setup Answer))
erases driver = steps_at driver built (Call.EraseSector 0) lent erasing

hasty-told : acts_last (told (erases hasty)) ≡ false
unfolding call_of goes_on told Fitting SameData Undisturbed begins at_rest begun opened settled entry_of steps opening_of erase_unit multiple_of range_in_bounds in_bounds_of first_of action_of exchange_for exchange_of ready_of fits_of advanced_of taken_in given_scratch with_command delivered_by next_of after_phase writing_then latched_then task_transfer task_operation timings_of first_wait wait_then
hasty-told = refl

driver-told : acts_last (told (erases nor_driver)) ≡ true
unfolding call_of goes_on told Fitting SameData Undisturbed begins at_rest begun opened settled entry_of steps opening_of erase_unit multiple_of range_in_bounds in_bounds_of first_of action_of exchange_for exchange_of ready_of fits_of advanced_of taken_in given_scratch with_command delivered_by next_of after_phase writing_then latched_then task_transfer task_operation timings_of first_wait wait_then
driver-told = refl

erases-regular : Regular nor_driver built (Call.EraseSector 0) lent erasing
unfolding call_of goes_on told Fitting SameData Undisturbed begins at_rest begun opened settled entry_of steps opening_of erase_unit multiple_of range_in_bounds in_bounds_of first_of action_of exchange_for exchange_of ready_of fits_of advanced_of taken_in given_scratch with_command delivered_by next_of after_phase writing_then latched_then task_transfer task_operation timings_of first_wait wait_then
erases-regular = record {
  usable = record { idle = refl; ready = (refl, omega arith); bounds = refl };
  fitting = tt;
  same_data = (refl, (refl, (refl, (refl, (refl, (refl, (refl, (refl, (refl, (refl, (refl, tt)))))))))));
  undisturbed = (refl, (refl, (refl, (refl, (refl, (refl, (refl, (refl, (refl, (refl, (refl, tt)))))))))));
}

hasty-regular : Regular hasty built (Call.EraseSector 0) lent erasing
unfolding call_of goes_on told Fitting SameData Undisturbed begins at_rest begun opened settled entry_of steps opening_of erase_unit multiple_of range_in_bounds in_bounds_of first_of action_of exchange_for exchange_of ready_of fits_of advanced_of taken_in given_scratch with_command delivered_by next_of after_phase writing_then latched_then task_transfer task_operation timings_of first_wait wait_then
hasty-regular = record {
  usable = record { idle = refl; ready = (refl, omega arith); bounds = refl };
  fitting = tt;
  same_data = (refl, (refl, (refl, (refl, (refl, (refl, (refl, (refl, (refl, (refl, (refl, tt)))))))))));
  undisturbed = (refl, (refl, (refl, (refl, (refl, (refl, (refl, (refl, (refl, (refl, (refl, tt)))))))))));
}

hasty-fails : SameAsRust hasty → ⊥
hasty-fails kept =
    true≢false
    (sym driver-told
    ∙ ap acts_last (sym (told-alike nor_driver hasty nor-promises.same_as_rust kept built (Call.EraseSector 0) lent erasing erases-regular hasty-regular refl))
    ∙ hasty-told)

-- ---- one result for all

-- a status register that reads so
abbrev reading : ℕ → List (Event Call)
reading byte = done [] ∷ done [] ∷ got (byte ∷ []) [] ∷ done [] ∷ []

abbrev reads : Driver SpiNorFlash Call Setup Answer → ℕ → List (Entry Call (Left Setup Answer))
reads driver byte = steps_at driver built Call.ReadStatus1 lent (reading byte)

reads-regular : (byte : ℕ) → Regular nor_driver built Call.ReadStatus1 lent (reading byte)
unfolding call_of goes_on told Fitting SameData Undisturbed begins at_rest begun opened settled entry_of steps opening_of in_bounds_of first_of action_of exchange_for exchange_of ready_of fits_of advanced_of taken_in given_scratch with_command delivered_by next_of after_phase
reads-regular byte = record {
  usable = record { idle = refl; ready = (refl, omega arith); bounds = refl };
  fitting = tt;
  same_data = (refl, (refl, (refl, (refl, (refl, tt)))));
  undisturbed = (refl, (refl, (refl, (refl, (refl, tt)))));
}

module _ (answer : Answer) where
  abbrev sham : Driver SpiNorFlash Call Setup Answer
  sham = one_result nor_driver answer

  sham-regular : (byte : ℕ) → Regular sham built Call.ReadStatus1 lent (reading byte)
  unfolding call_of goes_on told Fitting SameData Undisturbed begins at_rest begun opened settled entry_of steps opening_of in_bounds_of first_of action_of exchange_for exchange_of ready_of fits_of advanced_of taken_in given_scratch with_command delivered_by next_of after_phase
  sham-regular byte = record {
    usable = record { idle = refl; ready = (refl, omega arith); bounds = refl };
    fitting = tt;
    same_data = (refl, (refl, (refl, (refl, (refl, tt)))));
    undisturbed = (refl, (refl, (refl, (refl, (refl, tt)))));
  }

  alike : SameAsRust sham → (byte : ℕ) → last_value answer_values (told (reads sham byte)) ≡ last_value answer_values (told (reads nor_driver byte))
  alike kept byte =
      ap (last_value answer_values) (told-alike nor_driver sham nor-promises.same_as_rust kept built Call.ReadStatus1 lent (reading byte) (reads-regular byte) (sham-regular byte) refl)

  -- whatever was read, the sham answers the same
  same-answers : last_value answer_values (told (reads sham 0)) ≡ last_value answer_values (told (reads sham 1))
  unfolding call_of goes_on told Fitting SameData Undisturbed begins at_rest begun opened settled entry_of steps opening_of in_bounds_of first_of action_of exchange_for exchange_of ready_of fits_of advanced_of taken_in given_scratch with_command delivered_by next_of after_phase
  same-answers = refl

  reads-zero : last_value answer_values (told (reads nor_driver 0)) ≡ 0
  unfolding call_of goes_on told Fitting SameData Undisturbed begins at_rest begun opened settled entry_of steps opening_of in_bounds_of first_of action_of exchange_for exchange_of ready_of fits_of advanced_of taken_in given_scratch with_command delivered_by next_of after_phase
  reads-zero = refl

  reads-one : last_value answer_values (told (reads nor_driver 1)) ≡ 1
  unfolding call_of goes_on told Fitting SameData Undisturbed begins at_rest begun opened settled entry_of steps opening_of in_bounds_of first_of action_of exchange_for exchange_of ready_of fits_of advanced_of taken_in given_scratch with_command delivered_by next_of after_phase
  reads-one = refl

  one-result-fails : SameAsRust sham → ⊥
  one-result-fails kept = omega (arith, reads-zero, reads-one, alike kept 0, same-answers, alike kept 1)

-- ---- all of them

constructible : Constructible nor_driver Call.New lent
unfolding program_of with-config ready_of in_bounds_of ◌>>=◌ ◌>>◌
constructible = record {
  fresh = fresh_setup single_config;
  sorted = refl;
  long = omega arith;
  ready = refl;
  inside = refl;
  small = tt;
  asks = λ held. tt;
  can = λ held. refl;
}

pub nor-shams-fail : NorShamsFail
nor-shams-fail = record {
  general = shams-fail nor_driver Memory Call.New lent constructible nor-promises.within_bound;
  lent = lent-shams-fail;
  hasty = hasty-fails;
  one_result = one-result-fails;
}

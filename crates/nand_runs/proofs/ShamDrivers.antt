-- No sham NAND driver keeps its promise.
use Prim.Native.Nat.{ℕ, zero, suc, ◌+◌, ◌-◌}
use native.Mathlib.Omega.{arith}
use mathlib.Core.Bool.{true, false, true≢false}
use mathlib.Core.Path.{◌≡◌, refl, ap, sym, ◌∙◌}
use mathlib.Core.List.{List, [], ◌∷◌}
use lib.ListN.{length}
use lib.Dec.{eqb}
use Rattle.std.specs.Prelude.{None}
use Rattle.qspi.specs.Bus.{fits_of}
use Rattle.qspi.specs.Command.{with_command}
use Rattle.qspi.specs.Frame.{first_of, action_of, given_scratch, advanced_of, taken_in, delivered_by, exchange_of}
use Rattle.spi_flash.specs.Beginning.{opened, begun, at_rest, begins}
use Rattle.spi_flash.specs.Entry.{entry_of}
use Rattle.spi_flash.specs.Loan.{Lent, ready_of, exchange_for}
use Rattle.spi_flash.specs.Prog.{◌>>=◌, ◌>>◌}
use Rattle.spi_flash.specs.Range.{range_in_bounds}
use Rattle.spi_flash.specs.Replying.{steps}
use Rattle.spi_flash.specs.Run as Run
use Rattle.spi_flash.specs.Run.{Moved, Given, at_once, goes_on, call_of, Event, Entry, Fitting}
use Rattle.spi_flash.specs.Seen.{told, SameData, Undisturbed}
use Rattle.spi_flash.specs.Settling.{settled}
use Rattle.spi_flash.specs.Wait.{first_wait, next_wait}
use Rattle.spi_nand.specs.Answer.{answer_values}
use Rattle.spi_nand.specs.Config.{W25N01GV, single_config, page_count_of, capacity_of, cache_size_of, in_bounds}
use Rattle.spi_nand.specs.Opcode.{timings_of}
use Rattle.spi_nand.specs.Status.{busy_of, verdict_of}
use Rattle.spi_nand.specs.Transfer.{cache_read_transfer, task_operation, in_cache, in_range, place_of, chunk_of}
use Rattle.spi_nand.specs.declared.config.NandGeometry.{NandGeometry}
use Rattle.spi_nand.specs.declared.answer.Answer.{Answer}
use Rattle.spi_nand.specs.declared.call.Call.{Call}
use Rattle.spi_nand.specs.declared.setup.Setup.{Setup}
use Rattle.flash_runs.specs.Driver.{Left, Driver, steps_at}
use Rattle.flash_runs.specs.Refusals.{ToldByHistory}
use Rattle.flash_runs.specs.SameAsRust.{Regular, SameAsRust}
use Rattle.flash_runs.specs.Shams.{Subject, in_place, one_result, Succeeds, ClaimsAll}
use Rattle.flash_runs.specs.Watch.{watched, Succeeded}
use Rattle.flash_runs.proofs.Shams.{told-alike, lending, done, got, acts_last, last_value, Constructible, shams-fail}
use Rattle.nand_steps.specs.Cache.{read_cache_then, piece_then}
use Rattle.nand_steps.specs.Opening.{opening_of}
use Rattle.nand_steps.specs.Page.{page_read_then, accepted_then, loaded_then, judged_then}
use Rattle.nand_steps.specs.Read.{read_from, read_then}
use Rattle.nand_driver.specs.Call.{fresh_setup}
use Rattle.nand_driver.specs.Next.{answered_then, after_phase, next_of}
use Rattle.nand_driver.specs.Settle.{SpiNandFlash, flash_of}
use Rattle.nand_driver.specs.Wait.{resume_task, judge_task, wait_then, waiting_then}
use Rattle.nand_runs.specs.Bound.{first_touched, last_touched, pages_touched}
use Rattle.nand_runs.specs.Observer.{unseen, observer}
use Rattle.nand_runs.specs.Program.{rust_program}
use Rattle.nand_runs.specs.Promises.{ReadsAsAsked}
use Rattle.nand_runs.specs.ReadSeen.{up_from, touched}
use Rattle.nand_runs.specs.Rust.{with-config, bring-up, reset-and-identify, reset}
use Rattle.nand_runs.specs.Run.{sort_of, nand_driver}
use Rattle.nand_runs.specs.ShamDrivers.{Memory, hasty, rest_claimed, NandShamsFail}
use Rattle.nand_runs.proofs.LentShams.{lent-shams-fail}
use Rattle.nand_runs.proofs.Promises.{nand-promises}

-- a driver that is built
abbrev built : SpiNandFlash
built = flash_of (fresh_setup single_config) true 0 None

-- ---- Timeout before looking

abbrev resetting : List (Event Call)
resetting = done [] ∷ done [] ∷ done [] ∷ done [] ∷ []

abbrev resets : Driver SpiNandFlash Call Setup Answer → List (Entry Call (Left Setup Answer))
resets driver = steps_at driver built Call.Reset (lending []) resetting

hasty-told : acts_last (told (resets hasty)) ≡ false
unfolding sort_of call_of goes_on told Fitting SameData Undisturbed begins at_rest begun opened settled entry_of steps opening_of in_bounds page_count_of first_of action_of exchange_for exchange_of ready_of fits_of advanced_of taken_in given_scratch with_command delivered_by next_of after_phase waiting_then wait_then timings_of task_operation first_wait
hasty-told = refl

driver-told : acts_last (told (resets nand_driver)) ≡ true
unfolding sort_of call_of goes_on told Fitting SameData Undisturbed begins at_rest begun opened settled entry_of steps opening_of in_bounds page_count_of first_of action_of exchange_for exchange_of ready_of fits_of advanced_of taken_in given_scratch with_command delivered_by next_of after_phase waiting_then wait_then timings_of task_operation first_wait
driver-told = refl

resets-regular : Regular nand_driver built Call.Reset (lending []) resetting
unfolding sort_of call_of goes_on told Fitting SameData Undisturbed begins at_rest begun opened settled entry_of steps opening_of in_bounds page_count_of first_of action_of exchange_for exchange_of ready_of fits_of advanced_of taken_in given_scratch with_command delivered_by next_of after_phase waiting_then wait_then timings_of task_operation first_wait
resets-regular = record {
  usable = record { idle = refl; ready = (refl, omega arith); bounds = refl };
  fitting = tt;
  same_data = (refl, (refl, (refl, (refl, (refl, tt)))));
  undisturbed = (refl, (refl, (refl, (refl, (refl, tt)))));
}

hasty-regular : Regular hasty built Call.Reset (lending []) resetting
unfolding sort_of call_of goes_on told Fitting SameData Undisturbed begins at_rest begun opened settled entry_of steps opening_of in_bounds page_count_of first_of action_of exchange_for exchange_of ready_of fits_of advanced_of taken_in given_scratch with_command delivered_by next_of after_phase waiting_then wait_then timings_of task_operation first_wait
hasty-regular = record {
  usable = record { idle = refl; ready = (refl, omega arith); bounds = refl };
  fitting = tt;
  same_data = (refl, (refl, (refl, (refl, (refl, tt)))));
  undisturbed = (refl, (refl, (refl, (refl, (refl, tt)))));
}

hasty-fails : SameAsRust hasty → ⊥
hasty-fails kept =
    true≢false
    (sym driver-told
    ∙ ap acts_last (sym (told-alike nand_driver hasty nand-promises.general.same_as_rust kept built Call.Reset (lending []) resetting resets-regular hasty-regular refl))
    ∙ hasty-told)

-- ---- one result for all

-- a status register that reads so
abbrev reading : ℕ → List (Event Call)
reading byte = done [] ∷ done [] ∷ got (byte ∷ []) [] ∷ done [] ∷ []

abbrev reads : Driver SpiNandFlash Call Setup Answer → ℕ → List (Entry Call (Left Setup Answer))
reads driver byte = steps_at driver built Call.ReadStatus (lending []) (reading byte)

reads-regular : (byte : ℕ) → Regular nand_driver built Call.ReadStatus (lending []) (reading byte)
unfolding sort_of call_of goes_on told Fitting SameData Undisturbed begins at_rest begun opened settled entry_of steps opening_of in_bounds page_count_of first_of action_of exchange_for exchange_of ready_of fits_of advanced_of taken_in given_scratch with_command delivered_by next_of after_phase answered_then
reads-regular byte = record {
  usable = record { idle = refl; ready = (refl, omega arith); bounds = refl };
  fitting = tt;
  same_data = (refl, (refl, (refl, (refl, (refl, tt)))));
  undisturbed = (refl, (refl, (refl, (refl, (refl, tt)))));
}

module _ (answer : Answer) where
  abbrev sham : Driver SpiNandFlash Call Setup Answer
  sham = one_result nand_driver answer

  sham-regular : (byte : ℕ) → Regular sham built Call.ReadStatus (lending []) (reading byte)
  unfolding sort_of call_of goes_on told Fitting SameData Undisturbed begins at_rest begun opened settled entry_of steps opening_of in_bounds page_count_of first_of action_of exchange_for exchange_of ready_of fits_of advanced_of taken_in given_scratch with_command delivered_by next_of after_phase answered_then
  sham-regular byte = record {
    usable = record { idle = refl; ready = (refl, omega arith); bounds = refl };
    fitting = tt;
    same_data = (refl, (refl, (refl, (refl, (refl, tt)))));
    undisturbed = (refl, (refl, (refl, (refl, (refl, tt)))));
  }

  alike : SameAsRust sham → (byte : ℕ) → last_value answer_values (told (reads sham byte)) ≡ last_value answer_values (told (reads nand_driver byte))
  alike kept byte =
      ap (last_value answer_values)
      (told-alike nand_driver sham nand-promises.general.same_as_rust kept built Call.ReadStatus (lending []) (reading byte) (reads-regular byte) (sham-regular byte) refl)

  -- whatever was read, the sham answers the same
  same-answers : last_value answer_values (told (reads sham 0)) ≡ last_value answer_values (told (reads sham 1))
  unfolding sort_of call_of goes_on told Fitting SameData Undisturbed begins at_rest begun opened settled entry_of steps opening_of in_bounds page_count_of first_of action_of exchange_for exchange_of ready_of fits_of advanced_of taken_in given_scratch with_command delivered_by next_of after_phase answered_then
  same-answers = refl

  reads-zero : last_value answer_values (told (reads nand_driver 0)) ≡ 0
  unfolding sort_of call_of goes_on told Fitting SameData Undisturbed begins at_rest begun opened settled entry_of steps opening_of in_bounds page_count_of first_of action_of exchange_for exchange_of ready_of fits_of advanced_of taken_in given_scratch with_command delivered_by next_of after_phase answered_then
  reads-zero = refl

  reads-one : last_value answer_values (told (reads nand_driver 1)) ≡ 1
  unfolding sort_of call_of goes_on told Fitting SameData Undisturbed begins at_rest begun opened settled entry_of steps opening_of in_bounds page_count_of first_of action_of exchange_for exchange_of ready_of fits_of advanced_of taken_in given_scratch with_command delivered_by next_of after_phase answered_then
  reads-one = refl

  one-result-fails : SameAsRust sham → ⊥
  one-result-fails kept = omega (arith, reads-zero, reads-one, alike kept 0, same-answers, alike kept 1)

-- ---- the first page loaded, the rest claimed

-- two bytes at 2,047: page 0 is loaded, judged and read
abbrev empty : List ℕ
empty = 0 ∷ 0 ∷ []

abbrev half : List ℕ
half = 161 ∷ 0 ∷ []

abbrev looking : List (Event Call) → List (Event Call)
looking later = done empty ∷ done empty ∷ got (0 ∷ []) empty ∷ done empty ∷ later

abbrev loading : List (Event Call)
loading =
    done empty ∷ done empty ∷ done empty ∷ done empty ∷
    looking (looking (done empty ∷ done empty ∷ got (161 ∷ []) empty ∷ done half ∷ []))

abbrev loads : Driver SpiNandFlash Call Setup Answer → List (Entry Call (Left Setup Answer))
loads driver = steps_at driver built (Call.Read 2047) (lending empty) loading

rest-told : acts_last (told (loads rest_claimed)) ≡ false
unfolding sort_of call_of goes_on told Fitting SameData Undisturbed begins at_rest begun opened settled entry_of steps opening_of in_bounds page_count_of first_of action_of exchange_for exchange_of ready_of fits_of advanced_of taken_in given_scratch with_command delivered_by next_of after_phase capacity_of cache_size_of read_then read_from page_read_then in_range in_cache range_in_bounds place_of chunk_of piece_then read_cache_then cache_read_transfer accepted_then loaded_then judged_then verdict_of busy_of resume_task judge_task waiting_then wait_then timings_of task_operation first_wait next_wait
rest-told = refl

true-told : acts_last (told (loads nand_driver)) ≡ true
unfolding sort_of call_of goes_on told Fitting SameData Undisturbed begins at_rest begun opened settled entry_of steps opening_of in_bounds page_count_of first_of action_of exchange_for exchange_of ready_of fits_of advanced_of taken_in given_scratch with_command delivered_by next_of after_phase capacity_of cache_size_of read_then read_from page_read_then in_range in_cache range_in_bounds place_of chunk_of piece_then read_cache_then cache_read_transfer accepted_then loaded_then judged_then verdict_of busy_of resume_task judge_task waiting_then wait_then timings_of task_operation first_wait next_wait
true-told = refl

true-regular : Regular nand_driver built (Call.Read 2047) (lending empty) loading
unfolding sort_of call_of goes_on told Fitting SameData Undisturbed begins at_rest begun opened settled entry_of steps opening_of in_bounds page_count_of first_of action_of exchange_for exchange_of ready_of fits_of advanced_of taken_in given_scratch with_command delivered_by next_of after_phase capacity_of cache_size_of read_then read_from page_read_then in_range in_cache range_in_bounds place_of chunk_of piece_then read_cache_then cache_read_transfer accepted_then loaded_then judged_then verdict_of busy_of resume_task judge_task waiting_then wait_then timings_of task_operation first_wait next_wait
true-regular = record {
  usable = record { idle = refl; ready = (refl, omega arith); bounds = refl };
  fitting = tt;
  same_data = (refl, (refl, (refl, (refl, (refl, (refl, (refl, (refl, (refl, (refl, (refl, (refl, (refl, (refl, (refl, (refl, (refl, tt)))))))))))))))));
  undisturbed = (refl, (refl, (refl, (refl, (refl, (refl, (refl, (refl, (refl, (refl, (refl, (refl, (refl, (refl, (refl, (refl, (refl, tt)))))))))))))))));
}

rest-regular : Regular rest_claimed built (Call.Read 2047) (lending empty) loading
unfolding sort_of call_of goes_on told Fitting SameData Undisturbed begins at_rest begun opened settled entry_of steps opening_of in_bounds page_count_of first_of action_of exchange_for exchange_of ready_of fits_of advanced_of taken_in given_scratch with_command delivered_by next_of after_phase capacity_of cache_size_of read_then read_from page_read_then in_range in_cache range_in_bounds place_of chunk_of piece_then read_cache_then cache_read_transfer accepted_then loaded_then judged_then verdict_of busy_of resume_task judge_task waiting_then wait_then timings_of task_operation first_wait next_wait
rest-regular = record {
  usable = record { idle = refl; ready = (refl, omega arith); bounds = refl };
  fitting = tt;
  same_data = (refl, (refl, (refl, (refl, (refl, (refl, (refl, (refl, (refl, (refl, (refl, (refl, (refl, (refl, (refl, (refl, (refl, tt)))))))))))))))));
  undisturbed = (refl, (refl, (refl, (refl, (refl, (refl, (refl, (refl, (refl, (refl, (refl, (refl, (refl, (refl, (refl, (refl, (refl, tt)))))))))))))))));
}

rest-beside-rust : SameAsRust rest_claimed → ⊥
rest-beside-rust kept =
    true≢false
    (sym true-told
    ∙ ap acts_last (sym (told-alike nand_driver rest_claimed nand-promises.general.same_as_rust kept built (Call.Read 2047) (lending empty) loading true-regular rest-regular refl))
    ∙ rest-told)

-- one load was seen, and two pages are touched
rest-succeeded : Succeeded (loads rest_claimed)
unfolding sort_of call_of goes_on told Fitting SameData Undisturbed begins at_rest begun opened settled entry_of steps opening_of in_bounds page_count_of first_of action_of exchange_for exchange_of ready_of fits_of advanced_of taken_in given_scratch with_command delivered_by next_of after_phase capacity_of cache_size_of read_then read_from page_read_then in_range in_cache range_in_bounds place_of chunk_of piece_then read_cache_then cache_read_transfer accepted_then loaded_then judged_then verdict_of busy_of resume_task judge_task waiting_then wait_then timings_of task_operation first_wait next_wait Succeeded
rest-succeeded = tt

rest-loads : eqb (length (watched observer unseen (loads rest_claimed)).loads) 1 ≡ true
unfolding sort_of call_of goes_on told Fitting SameData Undisturbed begins at_rest begun opened settled entry_of steps opening_of in_bounds page_count_of first_of action_of exchange_for exchange_of ready_of fits_of advanced_of taken_in given_scratch with_command delivered_by next_of after_phase capacity_of cache_size_of read_then read_from page_read_then in_range in_cache range_in_bounds place_of chunk_of piece_then read_cache_then cache_read_transfer accepted_then loaded_then judged_then verdict_of busy_of resume_task judge_task waiting_then wait_then timings_of task_operation first_wait next_wait watched
rest-loads = refl

both-touched : eqb (length (touched W25N01GV 2047 2)) 1 ≡ false
unfolding pages_touched
both-touched = refl

rest-on-bus : ReadsAsAsked rest_claimed → ⊥
rest-on-bus kept =
    let seen = kept.read built 2047 (lending empty) loading refl in
    true≢false (sym rest-loads ∙ ap (λ xs. eqb (length xs) 1) (seen.whole rest-succeeded).loads ∙ both-touched)

-- ---- success with no traffic, told from the bus

up-from-length : (a n : ℕ) → length (up_from a n) ≡ n
up-from-length a zero = refl
up-from-length a (suc n) = ap suc (up-from-length (suc a) n)

-- a byte touches a page
some-page : (g : NandGeometry) → length (touched g 0 1) ≡ 0 → ⊥
unfolding pages_touched
some-page g h = omega (arith, up-from-length (first_touched g 0) (last_touched g 0 1 - first_touched g 0 + 1), h)

module _ (sham : Subject Memory Call Setup Answer) where
  abbrev judged : Driver Memory Call Setup Answer
  judged = in_place nand_driver sham

  abbrev lent : Lent
  lent = lending (0 ∷ [])

  abbrev begin : Moved Memory (Left Setup Answer)
  begin = sham.system.begin sham.fresh (Call.Read 0) lent

  -- an entry with the end alone
  abbrev only : Given (Left Setup Answer) → List (Entry Call (Left Setup Answer))
  only g = record { event = Run.call (Call.Read 0) lent; given = at_once g; left = begin.left } ∷ []

  ends-silent : (g : Given (Left Setup Answer)) → Succeeds g → Succeeded (only g) × (length (watched observer unseen (only g)).loads ≡ 0)
  unfolding Succeeded watched
  ends-silent (Run.act shown) h = absurd h
  ends-silent (Run.ended a) h = (tt, refl)
  ends-silent (Run.failed e) h = absurd h
  ends-silent (Run.refused e) h = absurd h

  claiming-fails : ClaimsAll judged → ToldByHistory judged → ReadsAsAsked judged → ⊥
  unfolding call_of goes_on
  claiming-fails claims history kept =
      let seen = kept.read sham.fresh 0 lent [] history.at_rest in
      let ends = ends-silent begin.given (claims sham.fresh (Call.Read 0) lent) in
      some-page (sham.setup sham.fresh).geometry (sym (ap length (seen.whole ends.0).loads) ∙ ends.1)

-- ---- all of them

constructible : Constructible nand_driver Call.New (lending [])
unfolding sort_of rust_program with-config bring-up reset-and-identify reset ready_of in_bounds page_count_of ◌>>=◌ ◌>>◌
constructible = record {
  fresh = fresh_setup single_config;
  sorted = refl;
  long = omega arith;
  ready = refl;
  inside = refl;
  small = tt;
  asks = λ held. tt;
  can = λ held. refl;
}

pub nand-shams-fail : NandShamsFail
nand-shams-fail = record {
  general = shams-fail nand_driver Memory Call.New (lending []) constructible nand-promises.general.within_bound;
  lent = lent-shams-fail;
  claiming = claiming-fails;
  rest_beside_rust = rest-beside-rust;
  rest_on_bus = rest-on-bus;
  hasty = hasty-fails;
  one_result = one-result-fails;
}

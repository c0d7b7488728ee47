-- No sham NOR driver delivers the chip: of each, one run is computed.
use Prim.Native.Nat.{ℕ}
use native.Mathlib.Omega.{arith}
use mathlib.Core.Bool.{true}
use mathlib.Core.Path.{◌≡◌, refl, ap}
use mathlib.Core.List.{List, [], ◌∷◌}
use lib.ListN.{replicate}
use Rattle.std.specs.Prelude.{None, Some}
use Rattle.qspi.specs.declared.bus.Reply.{Reply}
use Rattle.qspi.specs.Bus.{fits_of}
use Rattle.qspi.specs.Command.{with_command}
use Rattle.qspi.specs.Frame.{first_of, action_of, given_scratch, advanced_of, taken_in, delivered_by, exchange_of}
use Rattle.spi_flash.specs.Beginning.{opened, begun, at_rest, begins}
use Rattle.spi_flash.specs.Entry.{entry_of}
use Rattle.spi_flash.specs.Loan.{Lent, ready_of, exchange_for}
use Rattle.spi_flash.specs.Range.{range_in_bounds}
use Rattle.spi_flash.specs.Replying as Replying
use Rattle.spi_flash.specs.Run.{Event, reply, Given, act, ended, failed, refused, run_of, call_of, goes_on}
use Rattle.spi_flash.specs.Seen.{Undisturbed}
use Rattle.spi_flash.specs.Settling.{settled}
use Rattle.spi_flash.specs.Wait.{first_wait, next_wait}
use Rattle.spi_nor.specs.Config.{in_bounds_of, single_config}
use Rattle.spi_nor.specs.Opcode.{timings_of}
use Rattle.spi_nor.specs.Transfer.{place_of, chunk_of, page_of, read_transfer, program_transfer, task_transfer, task_operation, multiple_of}
use Rattle.nor_steps.specs.Opening.{opening_of}
use Rattle.nor_steps.specs.Read.{read_then, read_from}
use Rattle.nor_steps.specs.Write.{write_then, program_from, verify_then, verified_then}
use Rattle.nor_driver.specs.Call.{fresh_setup}
use Rattle.nor_driver.specs.Next.{after_phase, next_of}
use Rattle.nor_driver.specs.Settle.{SpiNorFlash, flash_of}
use Rattle.nor_driver.specs.Wait.{latched_then, resume_task, wait_then, writing_then}
use Rattle.spi_nor.specs.declared.call.Call.{Call}
use Rattle.spi_nor.specs.declared.answer.Answer.{Answer}
use Rattle.spi_nor.specs.declared.setup.Setup.{Setup}
use Rattle.flash_runs.specs.Contents.{buffer_after, steps}
use Rattle.flash_runs.specs.Reading.{bytes_read}
use Rattle.flash_runs.specs.Shams.{Subject, in_place, ClaimsAll, Succeeds}
use Rattle.nor_runs.specs.Program.{Left}
use Rattle.nor_runs.specs.Run.{nor_driver}
use Rattle.nor_runs.specs.Shams.{Memory}
use Rattle.flash_runs.specs.Watch.{watched, Succeeded}
use Rattle.nor_runs.specs.Chip.{DeliversTheChip}
use Rattle.nor_runs.specs.ShamReads.{misreading, uncompared, unfilled, ShamReadsFail}

abbrev first : List ℕ → ℕ
first [] = 0
first (x ∷ xs) = x

-- ---- every piece read from place 0

abbrev lent : List ℕ → List ℕ → Lent
lent buffer given = record { scratch = replicate 264 0; buffer = buffer; given = given }

abbrev built : SpiNorFlash
built = flash_of (fresh_setup single_config) true 0 None

abbrev done : Lent → Event Call
done l = reply Reply.Done [] l

abbrev got : List ℕ → Lent → Event Call
got bytes l = reply Reply.Data bytes l

abbrev one_place : Lent
one_place = lent (0 ∷ []) []

-- a byte is read at place 5: once its command has gone out, it is asked for
misreading-fails : DeliversTheChip misreading → ⊥
unfolding watched run_of goes_on begins at_rest begun opened settled entry_of Replying.steps opening_of read_then read_from range_in_bounds in_bounds_of place_of chunk_of read_transfer first_of action_of exchange_for exchange_of ready_of fits_of advanced_of taken_in given_scratch with_command delivered_by next_of after_phase
misreading-fails h =
    let next = (h.read built 5 one_place (done one_place ∷ done one_place ∷ [])).seen.next in
    omega (arith, next)

-- ---- the buffer left full of zeros

-- the byte that has come is 1
unfilled-fails : DeliversTheChip unfilled → ⊥
unfolding watched Succeeded Undisturbed buffer_after run_of call_of goes_on begins at_rest begun opened settled entry_of Replying.steps opening_of read_then read_from range_in_bounds in_bounds_of place_of chunk_of read_transfer first_of action_of exchange_for exchange_of ready_of fits_of advanced_of taken_in given_scratch with_command delivered_by next_of after_phase
unfilled-fails h =
    let delivers = (h.read built 5 one_place (done one_place ∷ done one_place ∷ got (1 ∷ []) one_place ∷ done one_place ∷ [])).delivers (λ place. 1) (refl, tt) in
    omega (arith, ap first (delivers.fills tt (refl, (refl, (refl, (refl, (refl, tt)))))))

-- ---- a page that reads back otherwise passes

-- a part with a page of one byte, which is written as 1 and reads back as 0
abbrev small_page : SpiNorFlash
small_page = flash_of (fresh_setup (record { quad = None; device = Some (record { capacity = 16777216; sector_size = 4096; block_size = 65536; page_size = 1 }) })) true 0 None

abbrev one_byte : Lent
one_byte = lent [] (1 ∷ [])

abbrev command_sent : List (Event Call) → List (Event Call)
command_sent rest = done one_byte ∷ done one_byte ∷ done one_byte ∷ rest

abbrev read_as : ℕ → List (Event Call) → List (Event Call)
read_as byte rest = done one_byte ∷ done one_byte ∷ got (byte ∷ []) one_byte ∷ done one_byte ∷ rest

-- write enable, the latch, the program, a look that finds the part ready, and the read-back
abbrev writing : List (Event Call)
writing = command_sent (read_as 2 (done one_byte ∷ command_sent (read_as 0 (read_as 0 []))))

uncompared-fails : DeliversTheChip uncompared → ⊥
unfolding watched Succeeded call_of goes_on begins at_rest begun opened settled entry_of Replying.steps opening_of write_then program_from verify_then verified_then multiple_of range_in_bounds in_bounds_of place_of page_of read_transfer program_transfer task_transfer task_operation timings_of first_wait next_wait first_of action_of exchange_for exchange_of ready_of fits_of advanced_of taken_in given_scratch with_command delivered_by next_of after_phase latched_then resume_task wait_then writing_then
uncompared-fails h =
    let same = ((h.write small_page 0 one_byte writing).ended tt).as_lent tt in
    omega (arith, ap first same.0)

-- ---- a driver that claims every success at once

module _ (sham : Subject Memory Call Setup Answer) (claims : ClaimsAll (in_place nor_driver sham)) (delivers : DeliversTheChip (in_place nor_driver sham)) where
  abbrev first_given : Given Left
  first_given = (sham.system.begin sham.fresh (Call.Read 0) one_place).given

  no_byte : (g : Given Left) → first_given ≡ g → Succeeds g → ⊥
  unfolding call_of goes_on Succeeded bytes_read
  no_byte (act shown) e h = h
  no_byte (failed x) e h = h
  no_byte (refused x) e h = h
  no_byte (ended a) e h =
      let read = delivers.read sham.fresh 0 one_place [] in
      let well : Succeeded (steps (in_place nor_driver sham) sham.fresh (Call.Read 0) one_place []) = rw e tt in
      let whole = (read.ended well).whole well in
      omega (arith, rw e at whole)

  claiming : ⊥
  claiming = no_byte first_given refl (claims sham.fresh (Call.Read 0) one_place)

pub sham-reads-fail : ShamReadsFail
sham-reads-fail = record { misreading = misreading-fails; unfilled = unfilled-fails; uncompared = uncompared-fails; claiming = claiming }

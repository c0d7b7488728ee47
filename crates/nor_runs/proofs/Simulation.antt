-- The driver's phases do what the Rust's calls do.
use Rattle.spi_nor.specs.declared.config.NorQuadConfig.{NorQuadConfig}
use Prim.Native.Nat.{ℕ, ◌+◌}
use mathlib.Core.Bool.{Bool, true, not}
use mathlib.Core.Path.{◌≡◌, refl, ap, sym, ◌∙◌}
use lib.Dec.{ltb, leb, eqb}
use borrow.Author.Tests.{leb-true, leb-false, le-ltb, lt-ltb}
use Rattle.qspi.specs.Transfer.{command_only}
use Rattle.qspi.specs.declared.transfer.Transfer.{Transfer}
use Rattle.std.specs.Prelude.{if◌then◌else◌, Option, Some, None}
use Rattle.spi_flash.specs.Prog.{Prog, ret, fail, ask, ◌>>=◌, ◌>>◌, refuse, transfer}
use Rattle.spi_flash.specs.Wait.{first_wait, next_wait}
use Rattle.spi_flash.specs.WaitLaw.{waiting, prompt_wait}
use Rattle.spi_flash.proofs.Machine.{more, tree, Simulates}
use Rattle.spi_flash.specs.declared.error.FlashError.{FlashError}
use Rattle.spi_flash.specs.declared.wait.Wait.{Wait}
use Rattle.qspi.proofs.Cases.{by_cases}
use Rattle.spi_flash.proofs.Laws.{bind_assoc, then-assoc}
use Rattle.spi_flash.proofs.Waiting.{wait-in-general}
use Rattle.flash_runs.proofs.Looking.{looked, no_wrap}
use Rattle.spi_nor.specs.Opcode.{timings_of}
use Rattle.spi_nor.specs.Status.{busy_of, write_enabled_of, quad_enabled1_of, quad_enabled2_of, with_quad1_of, with_quad2_of, without_quad1_of, without_quad2_of, unprotected1_of, unprotected2_of}
use Rattle.spi_nor.specs.Command.{write_enable_command, read_status1_command, read_status2_command, read_id_command, read_unique_id_command}
use Rattle.spi_nor.specs.Transfer.{place_of, chunk_of, page_of, task_transfer, task_operation, multiple_of, unit_size, step_kind, after_unit}
use Rattle.qspi.specs.Bytes.{byte_of}
use Rattle.nor_driver.specs.Next.{after_phase, next_of}
use Rattle.spi_flash.specs.Range.{range_in_bounds, span}
use Rattle.spi_flash.specs.Number.{number_transfer}
use Rattle.nor_steps.specs.Register.{id_of, known_as, built_then, identified_then}
use Rattle.nor_steps.specs.Read.{read_from}
use Rattle.nor_steps.specs.Write.{program_from, verify_then, verified_then}
use Rattle.nor_driver.specs.Wait.{latched_then, resume_task, wait_then, writing_then}
use Rattle.nor_steps.specs.Erase.{erase_unit, erase_from}
use Rattle.nor_steps.specs.Protection.{unprotect_first, unprotect_second}
use Rattle.nor_runs.specs.Rust.{Nothing, busy_value, read-status1, read-status2, is-busy, wait-ready, write-enable, write-status1, write-status2, jedec-id, unique-id, quad-enabled, enable-quad, disable-quad, Unprotected, unprotect, quad-if}
use Rattle.nor_runs.proofs.AsCoded.{reading, read_back, page-program, writing, erase-unit, erasing, with-config}
use Rattle.nor_driver.specs.Call.{fresh_setup}
use Rattle.nor_runs.specs.Program.{Left, leaving}
use Rattle.spi_nor.specs.Config.{in_bounds_of}
use Rattle.spi_nor.proofs.WaitTable.{wait-table}
use Rattle.spi_nor.proofs.DeviceBounds.{device_bounds}
use Rattle.nor_runs.proofs.Loops.{reading-loop, writing-loop, erasing-loop}
use Rattle.spi_nor.specs.declared.config.SpiNorConfig.{SpiNorConfig}
use Rattle.spi_nor.specs.declared.phase.EraseKind.{EraseKind}
use Rattle.spi_nor.specs.declared.phase.Phase.{Phase}
use Rattle.spi_nor.specs.declared.phase.Task.{Task}
use Rattle.spi_nor.specs.declared.phase.WriteStep.{WriteStep}
use Rattle.spi_nor.specs.declared.answer.Answer.{Answer}
use Rattle.spi_nor.specs.declared.setup.Setup.{Setup}
use Rattle.spi_nor.specs.declared.opcode.Operation.{Operation}
use Rattle.nor_runs.proofs.Places.{Place, place, decide, decide_next, Valid}
use Rattle.nor_runs.proofs.Keeps.{keeps}

-- ---- what the Rust still does

abbrev pub DONE : Setup → Prog Left
DONE s = ret (leaving s Answer.Done)

-- the write of a task: write_enable, the command, wait_ready
abbrev wait_of : Task → Prog Nothing
wait_of task = wait-ready (task_operation task)

abbrev sends : Setup → Task → Prog Nothing
sends s task = write-enable >> (transfer (task_transfer s task) >> wait_of task)

set1 : ℕ → Prog Nothing
set1 after1 = if quad_enabled1_of after1 then ret tt else fail FlashError.NotSupported

verify1 : Prog Nothing
verify1 = read-status1 >>= set1

enable1 : Prog Nothing
enable1 = do
  status1 ← read-status1
  write-status1 (with_quad1_of status1)
  verify1

after2-enabled : ℕ → Prog Nothing
after2-enabled after2 = if quad_enabled2_of after2 then ret tt else enable1

enable2 : Bool → Prog Nothing
enable2 enabled =
    if enabled then ret tt else do
      status2 ← read-status2
      write-status2 (with_quad2_of status2)
      after2 ← read-status2
      after2-enabled after2

-- disable_quad behind its two writes
cleared2 : ℕ → Prog Nothing
cleared2 after2 = if quad_enabled2_of after2 then fail FlashError.NotSupported else ret tt

cleared1 : ℕ → Prog Nothing
cleared1 after1 = if quad_enabled1_of after1 then fail FlashError.NotSupported else ret tt

-- unprotect behind its two writes
reread : ℕ → Prog Unprotected
reread before = do
  after ← read-status1
  ret (record { before = before; after = after })

second : ℕ → ℕ → Prog Unprotected
second before sr2 = do
  if not (eqb (unprotected2_of sr2) sr2) then write-status2 (unprotected2_of sr2) else ret tt
  reread before

told : Setup → Unprotected → Prog Left
told s u = ret (leaving s (Answer.Unprotected u.before u.after))

-- page_program behind its wait, and the pages after it
verified : ℕ → Prog Nothing
verified same = refuse (eqb same 0) FlashError.VerifyFailed

-- around the write of a task
context : Setup → Task → Prog Nothing → Prog Left
context s (Task.EnableQuad2 status2) p = (p >> (read-status2 >>= after2-enabled)) >> DONE s
context s (Task.EnableQuad1 status1) p = (p >> verify1) >> DONE s
context s (Task.DisableQuad2 status2) p = (p >> (read-status2 >>= cleared2)) >> DONE s
context s (Task.DisableQuad1 status1) p = (p >> (read-status1 >>= cleared1)) >> DONE s
context s (Task.Unprotect1 before status2) p = (p >> second before status2) >>= told s
context s (Task.Unprotect2 before status2) p = (p >> reread before) >>= told s
context s (Task.PageProgram at) p =
    ((p >> (read_back s (place_of at.offset at.done) (page_of s.device at.len at.done) at.done >>= verified))
    >> writing s at.offset at.len (at.done + page_of s.device at.len at.done))
    >> DONE s
context s (Task.Erase kind address end) p = (p >> erasing s (after_unit s.device kind address) end) >> DONE s

latch : ℕ → Prog Nothing
latch status1 = refuse (not (write_enabled_of status1)) FlashError.WriteEnableFailed

pub meaning_at : Setup → Phase → ℕ → Prog Left
meaning_at s Phase.Raised v = do
  built ← (do
    w ← transfer (number_transfer read_id_command 3)
    refuse (ltb 512 (known_as s w).device.page_size) FlashError.NotSupported
    quad-if s.config.quad
    ret (known_as s w))
  DONE built
meaning_at s Phase.Identify v = do
  built ← (do
    refuse (ltb 512 (known_as s v).device.page_size) FlashError.NotSupported
    quad-if s.config.quad
    ret (known_as s v))
  DONE built
meaning_at s Phase.Status1 v = ret (leaving s (Answer.Byte (byte_of v)))
meaning_at s Phase.Status2 v = ret (leaving s (Answer.Byte (byte_of v)))
meaning_at s Phase.Busy v = ret (leaving s (Answer.Flag (busy_of (byte_of v))))
meaning_at s Phase.JedecId v = ret (leaving s (Answer.Id (id_of v)))
meaning_at s Phase.UniqueId v = ret (leaving s (Answer.UniqueId v))
meaning_at s Phase.QuadEnabled2 v =
    (if quad_enabled2_of (byte_of v) then ret true else (read-status1 >>= (λ b. ret (quad_enabled1_of b)))) >>= (λ e. ret (leaving s (Answer.Flag e)))
meaning_at s Phase.QuadEnabled1 v = ret (leaving s (Answer.Flag (quad_enabled1_of (byte_of v))))
meaning_at s Phase.EnableCheck2 v =
    ((if quad_enabled2_of (byte_of v) then ret true else (read-status1 >>= (λ b. ret (quad_enabled1_of b)))) >>= enable2) >> DONE s
meaning_at s Phase.EnableCheck1 v = enable2 (quad_enabled1_of (byte_of v)) >> DONE s
meaning_at s Phase.EnableRead2 v = context s (Task.EnableQuad2 (byte_of v)) (sends s (Task.EnableQuad2 (byte_of v)))
meaning_at s Phase.EnableVerify2 v = after2-enabled (byte_of v) >> DONE s
meaning_at s Phase.EnableRead1 v = context s (Task.EnableQuad1 (byte_of v)) (sends s (Task.EnableQuad1 (byte_of v)))
meaning_at s Phase.EnableVerify1 v = set1 (byte_of v) >> DONE s
meaning_at s Phase.DisableRead2 v =
    (if quad_enabled2_of (byte_of v)
    then (write-status2 (without_quad2_of (byte_of v)) >> (read-status2 >>= cleared2))
    else (read-status1 >>= (λ b. if not (quad_enabled1_of b) then ret tt else (write-status1 (without_quad1_of b) >> (read-status1 >>= cleared1)))))
    >> DONE s
meaning_at s Phase.DisableVerify2 v = cleared2 (byte_of v) >> DONE s
meaning_at s Phase.DisableRead1 v =
    (if not (quad_enabled1_of (byte_of v)) then ret tt else (write-status1 (without_quad1_of (byte_of v)) >> (read-status1 >>= cleared1))) >> DONE s
meaning_at s Phase.DisableVerify1 v = cleared1 (byte_of v) >> DONE s
meaning_at s Phase.UnprotectRead1 v =
    (read-status2 >>= (λ sr2. (if not (eqb (unprotected1_of (byte_of v)) (byte_of v)) then write-status1 (unprotected1_of (byte_of v)) else ret tt) >> second (byte_of v) sr2)) >>= told s
meaning_at s (Phase.UnprotectRead2 before) v =
    ((if not (eqb (unprotected1_of before) before) then write-status1 (unprotected1_of before) else ret tt) >> second before (byte_of v)) >>= told s
meaning_at s (Phase.UnprotectAfter before) v = told s (record { before = before; after = byte_of v })
meaning_at s (Phase.Reading p) v = reading s p.offset p.len (p.done + chunk_of p.len p.done) >> DONE s
meaning_at s (Phase.Verifying p) v = (verified v >> writing s p.offset p.len (p.done + page_of s.device p.len p.done)) >> DONE s
meaning_at s (Phase.Writing task WriteStep.Enable) v = context s task ((read-status1 >>= latch) >> (transfer (task_transfer s task) >> wait_of task))
meaning_at s (Phase.Writing task WriteStep.Latch) v = context s task (latch (byte_of v) >> (transfer (task_transfer s task) >> wait_of task))
meaning_at s (Phase.Writing task WriteStep.Command) v = context s task (wait_of task)
meaning_at s (Phase.Writing task (WriteStep.Look waited)) v = context s task (looked read_status1_command busy_value (timings_of (task_operation task)) waited v)
meaning_at s (Phase.Writing task (WriteStep.Pause waited)) v = context s task (waiting read_status1_command busy_value (timings_of (task_operation task)) waited)

abbrev pub meaning : Place → ℕ → Prog Left
meaning s v = meaning_at s.setup s.phase v

-- ---- a transfer goes through the context, and so does a failure

under : (s : Setup) (task : Task) (t : Transfer) (k : ℕ → Prog Nothing) → context s task (ask t k) ≡ ask t (λ v. context s task (k v))
unfolding context ◌>>=◌ ◌>>◌
under s (Task.EnableQuad2 x) t k = refl
under s (Task.EnableQuad1 x) t k = refl
under s (Task.DisableQuad2 x) t k = refl
under s (Task.DisableQuad1 x) t k = refl
under s (Task.Unprotect1 x y) t k = refl
under s (Task.Unprotect2 x y) t k = refl
under s (Task.PageProgram p) t k = refl
under s (Task.Erase kind address end) t k = refl

through : (s : Setup) (task : Task) (e : FlashError) → context s task (fail e) ≡ fail e
unfolding context ◌>>=◌ ◌>>◌
through s (Task.EnableQuad2 x) e = refl
through s (Task.EnableQuad1 x) e = refl
through s (Task.DisableQuad2 x) e = refl
through s (Task.DisableQuad1 x) e = refl
through s (Task.Unprotect1 x y) e = refl
through s (Task.Unprotect2 x y) e = refl
through s (Task.PageProgram p) e = refl
through s (Task.Erase kind address end) e = refl

-- a task begins with its write enable
enables : (s : Setup) (task : Task) → context s task (sends s task) ≡ tree meaning (more (command_only write_enable_command) (place s (Phase.Writing task WriteStep.Enable)))
unfolding meaning_at write-enable latch ◌>>=◌ ◌>>◌
enables s task = under s task _ _

-- ---- the wait

waits : (s : Setup) (task : Task) (waited : ℕ) → context s task (waiting read_status1_command busy_value (timings_of (task_operation task)) waited)
    ≡ tree meaning (more (number_transfer read_status1_command 1) (place s (Phase.Writing task (WriteStep.Look waited))))
unfolding meaning_at looked ◌>>=◌ ◌>>◌
waits s task waited =
    ap (context s task) ((wait-in-general.loop read_status1_command busy_value (timings_of (task_operation task)) (wait-table.rule (task_operation task)).poll).loops waited)
    ∙ under s task _ _

-- the NOR's waits look at once
prompt : (operation : Operation) → first_wait (timings_of operation) ≡ Wait.Look
unfolding first_wait timings_of
prompt Operation.PageProgram = refl
prompt Operation.SectorErase = refl
prompt Operation.BlockErase = refl
prompt Operation.StatusWrite = refl

-- ---- what follows, in the order of the phases

latches : (s : Setup) (task : Task) (v : ℕ) → meaning_at s (Phase.Writing task WriteStep.Latch) v ≡ tree meaning (decide (latched_then s task (byte_of v)))
unfolding meaning_at latch latched_then refuse ◌>>=◌ ◌>>◌
latches s task v = by_cases (write_enabled_of (byte_of v)) (λ e. rw e (under s task _ _)) (λ e. rw e (through s task FlashError.WriteEnableFailed))

enable-check2 : (s : Setup) (v : ℕ) → meaning_at s Phase.EnableCheck2 v ≡ tree meaning (decide (after_phase s Phase.EnableCheck2 v))
unfolding meaning_at after_phase enable2 ◌>>=◌ ◌>>◌
enable-check2 s v = by_cases (quad_enabled2_of (byte_of v)) (λ e. rw e) (λ e. rw e)

enable-check1 : (s : Setup) (v : ℕ) → meaning_at s Phase.EnableCheck1 v ≡ tree meaning (decide (after_phase s Phase.EnableCheck1 v))
unfolding meaning_at after_phase enable2 context write-status2 task_transfer task_operation ◌>>=◌ ◌>>◌
enable-check1 s v = by_cases (quad_enabled1_of (byte_of v)) (λ e. rw e) (λ e. rw e)

enable-verify2 : (s : Setup) (v : ℕ) → meaning_at s Phase.EnableVerify2 v ≡ tree meaning (decide (after_phase s Phase.EnableVerify2 v))
unfolding meaning_at after_phase after2-enabled enable1 context verify1 write-status1 task_transfer task_operation ◌>>=◌ ◌>>◌
enable-verify2 s v = by_cases (quad_enabled2_of (byte_of v)) (λ e. rw e) (λ e. rw e)

enable-verify1 : (s : Setup) (v : ℕ) → meaning_at s Phase.EnableVerify1 v ≡ tree meaning (decide (after_phase s Phase.EnableVerify1 v))
unfolding meaning_at after_phase set1 ◌>>=◌ ◌>>◌
enable-verify1 s v = by_cases (quad_enabled1_of (byte_of v)) (λ e. rw e) (λ e. rw e)

quad-flag : (s : Setup) (v : ℕ) → meaning_at s Phase.QuadEnabled2 v ≡ tree meaning (decide (after_phase s Phase.QuadEnabled2 v))
unfolding meaning_at after_phase ◌>>=◌ ◌>>◌
quad-flag s v = by_cases (quad_enabled2_of (byte_of v)) (λ e. rw e) (λ e. rw e)

disable-read2 : (s : Setup) (v : ℕ) → meaning_at s Phase.DisableRead2 v ≡ tree meaning (decide (after_phase s Phase.DisableRead2 v))
unfolding meaning_at after_phase context write-status2 task_transfer task_operation ◌>>=◌ ◌>>◌
disable-read2 s v =
    by_cases (quad_enabled2_of (byte_of v))
    (λ e. rw e (enables s (Task.DisableQuad2 (byte_of v))))
    (λ e. rw e)

disable-verify2 : (s : Setup) (v : ℕ) → meaning_at s Phase.DisableVerify2 v ≡ tree meaning (decide (after_phase s Phase.DisableVerify2 v))
unfolding meaning_at after_phase cleared2 ◌>>=◌ ◌>>◌
disable-verify2 s v = by_cases (quad_enabled2_of (byte_of v)) (λ e. rw e) (λ e. rw e)

disable-read1 : (s : Setup) (v : ℕ) → meaning_at s Phase.DisableRead1 v ≡ tree meaning (decide (after_phase s Phase.DisableRead1 v))
unfolding meaning_at after_phase context write-status1 task_transfer task_operation ◌>>=◌ ◌>>◌
disable-read1 s v =
    by_cases (quad_enabled1_of (byte_of v))
    (λ e. rw e (enables s (Task.DisableQuad1 (byte_of v))))
    (λ e. rw e)

disable-verify1 : (s : Setup) (v : ℕ) → meaning_at s Phase.DisableVerify1 v ≡ tree meaning (decide (after_phase s Phase.DisableVerify1 v))
unfolding meaning_at after_phase cleared1 ◌>>=◌ ◌>>◌
disable-verify1 s v = by_cases (quad_enabled1_of (byte_of v)) (λ e. rw e) (λ e. rw e)

unprotects2 : (s : Setup) (before sr2 : ℕ) → second before sr2 >>= told s ≡ tree meaning (decide (unprotect_second s before sr2))
unfolding meaning_at unprotect_second second reread context write-status2 task_transfer task_operation told ◌>>=◌ ◌>>◌
unprotects2 s before sr2 =
    by_cases (eqb (unprotected2_of sr2) sr2)
    (λ e. rw e)
    (λ e. rw e (enables s (Task.Unprotect2 before sr2)))

unprotects1 : (s : Setup) (before v : ℕ) → meaning_at s (Phase.UnprotectRead2 before) v ≡ tree meaning (decide (unprotect_first s before (byte_of v)))
unfolding meaning_at unprotect_first context write-status1 task_transfer task_operation ◌>>=◌ ◌>>◌
unprotects1 s before v =
    by_cases (eqb (unprotected1_of before) before)
    (λ e. rw e (unprotects2 s before (byte_of v)))
    (λ e. rw e (enables s (Task.Unprotect1 before (byte_of v))))

-- ---- the loops

pub starts : {A : Type 0} (a : A) → ret (tt {0}) >> ret a ≡ ret a
unfolding ◌>>=◌ ◌>>◌
starts a = refl

finishes : (s : Setup) → ret (tt {0}) >> DONE s ≡ DONE s
unfolding ◌>>=◌ ◌>>◌
finishes s = refl

pub reads_on : (s : Setup) (offset len done : ℕ) → reading s offset len done >> DONE s ≡ tree meaning (decide (read_from s offset len done))
unfolding read_from meaning_at ◌>>=◌ ◌>>◌
reads_on s offset len done = rw (reading-loop s offset len done) (by_cases (ltb done len) (λ e. rw e) (λ e. rw e))

module _ (s : Setup) (valid : in_bounds_of s.device ≡ true) where
  -- page_program is a task, and its read-back
  page-task : (offset len done : ℕ) → page-program s (place_of offset done) done (page_of s.device len done)
      ≡ sends s (Task.PageProgram (span offset len done)) >> (read_back s (place_of offset done) (page_of s.device len done) done >>= verified)
  unfolding page-program verified task_transfer task_operation
  page-task offset len done =
      let task = Task.PageProgram (span offset len done) in
      sym (then-assoc write-enable (transfer (task_transfer s task) >> wait_of task) (read_back s (place_of offset done) (page_of s.device len done) done >>= verified)
      ∙ ap (λ p. write-enable >> p) (then-assoc (transfer (task_transfer s task)) (wait_of task) (read_back s (place_of offset done) (page_of s.device len done) done >>= verified)))

  pub writes-on : (offset len done : ℕ) → writing s offset len done >> DONE s ≡ tree meaning (decide (program_from s offset len done))
  unfolding program_from context
  writes-on offset len done =
      rw (writing-loop s (device_bounds.accepted s.device valid).least_page offset len done, page-task offset len done)
      (by_cases (ltb done len) (λ e. rw e (enables s (Task.PageProgram (span offset len done)))) (λ e. rw e (finishes s)))

  verifies : (offset len done : ℕ) →
      ((read_back s (place_of offset done) (page_of s.device len done) done >>= verified) >> writing s offset len (done + page_of s.device len done)) >> DONE s
      ≡ tree meaning (decide (verify_then s offset len done))
  unfolding verify_then read_back refuse meaning_at ◌>>=◌ ◌>>◌
  verifies offset len done =
      by_cases (range_in_bounds s.device.capacity (place_of offset done) (page_of s.device len done)) (λ e. rw e) (λ e. rw e)

  verified-page : (offset len done v : ℕ) → meaning_at s (Phase.Verifying (span offset len done)) v ≡ tree meaning (decide (verified_then s offset len done v))
  unfolding meaning_at verified_then verified refuse ◌>>=◌ ◌>>◌
  verified-page offset len done v =
      by_cases (eqb v 0) (λ e. rw e) (λ e. rw e (writes-on offset len (done + page_of s.device len done)))

  pub erases-unit : (kind : EraseKind) (address end : ℕ) → (erase-unit s kind address >> erasing s (after_unit s.device kind address) end) >> DONE s
      ≡ tree meaning (decide (erase_unit s kind address end))
  unfolding erase_unit erase-unit refuse context task_transfer task_operation ◌>>=◌ ◌>>◌
  erases-unit kind address end =
      by_cases (range_in_bounds s.device.capacity address (unit_size s.device kind))
      (λ e. by_cases (multiple_of address (unit_size s.device kind)) (λ d. rw (e, d) (enables s (Task.Erase kind address end))) (λ d. rw (e, d)))
      (λ e. rw e)

  pub erases-on : (address end : ℕ) → erasing s address end >> DONE s ≡ tree meaning (decide (erase_from s address end))
  unfolding erase_from
  erases-on address end =
      rw (erasing-loop s valid address end)
      (by_cases (ltb address end) (λ e. rw e (erases-unit (step_kind s.device address end) address end)) (λ e. rw e (finishes s)))

  -- the end of a task's wait
  resumes : (task : Task) → context s task (ret tt) ≡ tree meaning (decide (resume_task s task))
  unfolding context resume_task meaning_at verify1 reread ◌>>=◌ ◌>>◌
  resumes (Task.EnableQuad2 x) = refl
  resumes (Task.EnableQuad1 x) = refl
  resumes (Task.DisableQuad2 x) = refl
  resumes (Task.DisableQuad1 x) = refl
  resumes (Task.Unprotect1 before status2) = unprotects2 s before status2
  resumes (Task.Unprotect2 before status2) = refl
  resumes (Task.PageProgram p) = verifies p.offset p.len p.done
  resumes (Task.Erase kind address end) = erases-on (after_unit s.device kind address) end

  looks : (task : Task) (waited v : ℕ) → meaning_at s (Phase.Writing task (WriteStep.Look waited)) v ≡ tree meaning (decide (after_phase s (Phase.Writing task (WriteStep.Look waited)) v))
  unfolding meaning_at after_phase writing_then wait_then next_wait looked ◌>>=◌ ◌>>◌
  looks task waited v =
      let t = timings_of (task_operation task) in
      by_cases (busy_value v)
      (λ e. by_cases (leb t.timeout_us waited)
      (λ d. rw (e, d) (through s task FlashError.Timeout))
      (λ d. rw (e, d, no_wrap t waited (wait-table.rule (task_operation task)).fits d) (under s task _ _)))
      (λ e. rw e (resumes task))

  sent : (task : Task) (v : ℕ) → meaning_at s (Phase.Writing task WriteStep.Command) v ≡ tree meaning (decide (after_phase s (Phase.Writing task WriteStep.Command) v))
  unfolding meaning_at after_phase writing_then wait_then wait-ready prompt_wait
  sent task v = rw (prompt (task_operation task)) (waits s task 0)

-- ---- construction

bind-then : (p : Prog Nothing) (s : Setup) → (p >> ret s) >>= DONE ≡ p >> DONE s
unfolding ◌>>=◌ ◌>>◌
bind-then p s = bind_assoc p (λ x. ret s) DONE

quad-starts : (s : Setup) → enable-quad >> DONE s ≡ tree meaning (more (number_transfer read_status2_command 1) (place s Phase.EnableCheck2))
unfolding enable-quad quad-enabled enable2 after2-enabled enable1 verify1 set1 meaning_at ◌>>=◌ ◌>>◌
quad-starts s = refl

single-built : (s : Setup) → (ret (tt {0}) >> ret s) >>= DONE ≡ DONE s
unfolding ◌>>=◌ ◌>>◌
single-built s = refl

quad-built : (quad : Option NorQuadConfig) (s : Setup) → (quad-if quad >> ret s) >>= DONE ≡ tree meaning (decide (built_then quad s))
quad-built None s = single-built s
quad-built (Some q) s = bind-then enable-quad s ∙ quad-starts s

identifies : (s : Setup) (v : ℕ) → meaning_at s Phase.Identify v ≡ tree meaning (decide (identified_then s v))
unfolding meaning_at identified_then refuse ◌>>=◌ ◌>>◌
identifies s v =
    let page = (known_as s v).device.page_size in
    by_cases (leb page 512)
    (λ e. rw (e, le-ltb 512 page (leb-true page 512 e)) (quad-built s.config.quad (known_as s v)))
    (λ e. rw (e, lt-ltb 512 page (leb-false page 512 e)))

-- ---- every phase

follows : (s : Setup) → in_bounds_of s.device ≡ true → (phase : Phase) (v : ℕ) → meaning_at s phase v ≡ tree meaning (decide (after_phase s phase v))
unfolding meaning_at after_phase writing_then reread told ◌>>=◌ ◌>>◌
follows s valid Phase.Raised v = refl
follows s valid Phase.Identify v = identifies s v
follows s valid Phase.Status1 v = refl
follows s valid Phase.Status2 v = refl
follows s valid Phase.Busy v = refl
follows s valid Phase.JedecId v = refl
follows s valid Phase.UniqueId v = refl
follows s valid Phase.QuadEnabled2 v = quad-flag s v
follows s valid Phase.QuadEnabled1 v = refl
follows s valid Phase.EnableCheck2 v = enable-check2 s v
follows s valid Phase.EnableCheck1 v = enable-check1 s v
follows s valid Phase.EnableRead2 v = enables s (Task.EnableQuad2 (byte_of v))
follows s valid Phase.EnableVerify2 v = enable-verify2 s v
follows s valid Phase.EnableRead1 v = enables s (Task.EnableQuad1 (byte_of v))
follows s valid Phase.EnableVerify1 v = enable-verify1 s v
follows s valid Phase.DisableRead2 v = disable-read2 s v
follows s valid Phase.DisableVerify2 v = disable-verify2 s v
follows s valid Phase.DisableRead1 v = disable-read1 s v
follows s valid Phase.DisableVerify1 v = disable-verify1 s v
follows s valid Phase.UnprotectRead1 v = refl
follows s valid (Phase.UnprotectRead2 before) v = unprotects1 s before v
follows s valid (Phase.UnprotectAfter before) v = refl
follows s valid (Phase.Reading p) v = reads_on s p.offset p.len (p.done + chunk_of p.len p.done)
follows s valid (Phase.Verifying p) v = verified-page s valid p.offset p.len p.done v
follows s valid (Phase.Writing task WriteStep.Enable) v = under s task _ _
follows s valid (Phase.Writing task WriteStep.Latch) v = latches s task v
follows s valid (Phase.Writing task WriteStep.Command) v = sent s valid task v
follows s valid (Phase.Writing task (WriteStep.Look waited)) v = looks s valid task waited v
follows s valid (Phase.Writing task (WriteStep.Pause waited)) v = waits s task waited

pub simulates : Simulates Valid decide_next meaning
unfolding next_of
simulates = record {
  on_value = λ s v valid. follows s.setup valid s.phase v;
  on_failure = λ s code. refl;
  keeps = λ s v valid. keeps s.setup valid s.phase v;
}

-- ---- the calls as begun

abbrev pub Starts : Setup → Transfer → Phase → Prog Left → Type 0
Starts s t phase p = p ≡ ask t (meaning (place s phase))

pub record Beginnings (s : Setup) : Type 0 where
  pub construction : (config : SpiNorConfig) → Starts (fresh_setup config) Transfer.Raise Phase.Raised (with-config config >>= DONE)
  pub status1 : Starts s (number_transfer read_status1_command 1) Phase.Status1 (read-status1 >>= (λ b. ret (leaving s (Answer.Byte b))))
  pub status2 : Starts s (number_transfer read_status2_command 1) Phase.Status2 (read-status2 >>= (λ b. ret (leaving s (Answer.Byte b))))
  pub busy : Starts s (number_transfer read_status1_command 1) Phase.Busy (is-busy >>= (λ b. ret (leaving s (Answer.Flag b))))
  pub id : Starts s (number_transfer read_id_command 3) Phase.JedecId (jedec-id >>= (λ i. ret (leaving s (Answer.Id i))))
  pub unique_id : Starts s (number_transfer read_unique_id_command 8) Phase.UniqueId (unique-id >>= (λ v. ret (leaving s (Answer.UniqueId v))))
  pub quad_enabled : Starts s (number_transfer read_status2_command 1) Phase.QuadEnabled2 (quad-enabled >>= (λ e. ret (leaving s (Answer.Flag e))))
  pub enable_quad : Starts s (number_transfer read_status2_command 1) Phase.EnableCheck2 (enable-quad >> DONE s)
  pub disable_quad : Starts s (number_transfer read_status2_command 1) Phase.DisableRead2 (disable-quad >> DONE s)
  pub unprotected : Starts s (number_transfer read_status1_command 1) Phase.UnprotectRead1 (unprotect >>= (λ u. ret (leaving s (Answer.Unprotected u.before u.after))))

pub beginnings : (s : Setup) → Beginnings s
unfolding meaning_at with-config is-busy jedec-id unique-id quad-enabled disable-quad cleared2 cleared1 unprotect second reread told ◌>>=◌ ◌>>◌
beginnings s = record {
  construction = λ config. refl;
  status1 = refl;
  status2 = refl;
  busy = refl;
  id = refl;
  unique_id = refl;
  quad_enabled = refl;
  enable_quad = quad-starts s;
  disable_quad = refl;
  unprotected = refl;
}

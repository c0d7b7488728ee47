-- The driver's phases do what the Rust's calls do.
use Rattle.spi_flash.specs.Range.{span}
use Rattle.spi_nand.specs.declared.config.NandQuadConfig.{NandQuadConfig}
use Prim.Native.Nat.{ℕ, ◌+◌, ◌%◌, ◌≤◌}
use mathlib.Core.Bool.{Bool, true, false, not}
use mathlib.Core.Path.{◌≡◌, refl, ap, sym, ◌∙◌, fun_ext}
use lib.Bits.{bit_or}
use lib.Dec.{ltb, leb, eqb}
use borrow.Author.Tests.{eq-eqb}
use Rattle.qspi.specs.Transfer.{command_only}
use Rattle.qspi.specs.Choice.{pick}
use Rattle.qspi.specs.declared.command.Command.{Command}
use Rattle.qspi.specs.declared.transfer.Payload.{Payload}
use Rattle.qspi.specs.declared.transfer.Sink.{Sink}
use Rattle.qspi.specs.declared.transfer.Body.{Body}
use Rattle.qspi.specs.declared.transfer.Transfer.{Transfer}
use Rattle.qspi.proofs.Cases.{by_cases}
use Rattle.std.specs.Prelude.{if◌then◌else◌, Err, Option, Some, None}
use Rattle.spi_flash.specs.Prog.{Prog, ret, fail, ask, ◌>>=◌, ◌>>◌, refuse, transfer}
use Rattle.spi_flash.specs.Wait.{first_wait, next_wait}
use Rattle.spi_flash.specs.WaitLaw.{waiting, delayed_wait}
use Rattle.spi_flash.proofs.Machine.{more, tree, Simulates}
use Rattle.spi_flash.specs.declared.error.FlashError.{FlashError}
use Rattle.spi_flash.specs.declared.wait.Wait.{Wait}
use Rattle.spi_flash.proofs.Laws.{bind_assoc, then-assoc}
use Rattle.spi_flash.proofs.Waiting.{wait-in-general}
use Rattle.spi_nand.specs.Command.{get_feature_command, set_feature_command, write_enable_command, page_read_command, program_execute_command, block_erase_command}
use Rattle.spi_nand.specs.Config.{in_bounds, page_count_of, first_page_of, with_quad, wanted_for}
use Rattle.spi_nand.specs.Opcode.{REG-STATUS, REG-CONFIGURATION, REG-BLOCK-PROTECTION, timings_of}
use Rattle.spi_nand.specs.Status.{busy_value, status_of, write_enabled_of, erase_failed_of, program_failed_of, verdict_of, configuration_of, protection_of, configuration_byte, quad_enabled_of, with_bits, ECC-ENABLE, BUFFER-READ, QUAD-ENABLE, OPERATIONAL, same_configuration, is_unlocked}
use Rattle.spi_nand.specs.declared.opcode.Operation.{Operation}
use Rattle.spi_nand.specs.declared.status.Configuration.{Configuration}
use Rattle.spi_nand.specs.declared.status.Protection.{Protection}
use Rattle.spi_nand.specs.declared.status.Status.{Status}
use Rattle.spi_nand.proofs.Geometries.{geometries-hold}
use Rattle.spi_nand.proofs.WaitTable.{wait-table}
use Rattle.spi_nand.specs.Transfer.{register_transfer, cache_load_transfer, in_cache, page_at, place_of, column_at, chunk_of, filler_of, task_operation}
use Rattle.spi_nand.specs.declared.phase.Asked.{Asked}
use Rattle.spi_nand.specs.declared.phase.EnableFor.{EnableFor}
use Rattle.spi_nand.specs.declared.phase.EraseFor.{EraseFor}
use Rattle.spi_nand.specs.declared.phase.LoadFor.{LoadFor}
use Rattle.spi_nand.specs.declared.phase.MarkerFor.{MarkerFor}
use Rattle.spi_nand.specs.declared.phase.EnableStep.{EnableStep}
use Rattle.spi_nand.specs.declared.phase.Phase.{Phase}
use Rattle.spi_nand.specs.declared.phase.WaitStep.{WaitStep}
use Rattle.spi_nand.specs.declared.phase.ProgramFor.{ProgramFor}
use Rattle.spi_nand.specs.declared.phase.RegisterFor.{RegisterFor}
use Rattle.spi_nand.specs.declared.phase.ResetFor.{ResetFor}
use Rattle.spi_nand.specs.declared.phase.Task.{Task}
use Rattle.spi_nand.specs.declared.setup.Setup.{Setup}
use Rattle.nand_steps.specs.Register.{id_of, geometry_for, identified_then, configured_then, configure_then, check_configuration, unprotected_then, unprotect_then, disable_quad, quad_disabled, written_then}
use Rattle.nand_steps.specs.Go.{go_to, send, enable}
use Rattle.nand_steps.specs.Cache.{within, read_cache_then, piece_then, compared_then, load_program_then}
use Rattle.nand_steps.specs.Page.{load_then, page_read_then, is_bad_then, accepted_then, loaded_then, judged_then, program_then, after_program, programmed_then}
use Rattle.nand_steps.specs.Read.{read_from}
use Rattle.nand_steps.specs.Block.{erase_then, after_erase, erased_then, marker_then, fill_from}
use Rattle.nand_steps.specs.Then.{Then}
use Rattle.nand_driver.specs.Wait.{reset_then, resume_task, judge_task, wait_then, waiting_then}
use Rattle.nand_driver.specs.Next.{enabled_then, latched_then, enabling_then, identify_then, answered_then, after_phase, next_of}
use Rattle.spi_nand.specs.declared.config.NandJedecId.{NandJedecId}
use Rattle.nand_runs.specs.Rust.{equals, Nothing, MAX-VERIFY-PAGE-SIZE, quad-wanted, wanted-of, uncorrectable, read-status, read-configuration, read-protection, wait-ready, write-enable, write-register, reset, jedec-id, load-page}
use Rattle.nand_runs.proofs.AsCoded.{page-read, read-cache, load-program-data, program-execute, read-page, erase-block, reading, is-bad-block, filling}
use Rattle.nand_runs.specs.Program.{Left}
use Rattle.nand_runs.proofs.ReadLoop.{reading-loop}
use Rattle.nand_runs.proofs.FillLoop.{filling-loop}
use Rattle.flash_runs.proofs.General.{place, decide_next}
use Rattle.flash_runs.proofs.Looking.{looked, no_wrap}
use Rattle.nand_runs.proofs.Places.{parts, decide, Valid}
use Rattle.nand_runs.proofs.Keeps.{keeps}
use Rattle.nand_runs.proofs.Meaning.{DONE, latch, compared, bad, confirmed, confirm, program-on, marker-on, fill_on, mark_on, marker-read, verify-on, program-page, read-on, accepted, judged, loaded, after-program, programmed, after-erase, erased, brought-up, unprotected, unprotect-on, configured, check-configured, configure-on, check-disabled, disable-on, written, identified, identify, reset-done, resumed, task-judged, enabled, answered, meaning_at, meaning}

-- ---- the cache

pub reads-cache : (s : Setup) (column n : ℕ) (sink : Sink) (phase : Phase) (f : ℕ → Prog Left) → f ≡ meaning (place s phase) →
    read-cache s column n sink >>= f ≡ tree meaning (decide (read_cache_then s column n sink phase))
unfolding read-cache read_cache_then refuse ◌>>=◌ ◌>>◌
reads-cache s column n sink phase f e = rw e (by_cases (in_cache s.geometry column n) (λ h. rw h) (λ h. rw h))

pub loads-cache : (s : Setup) (column n : ℕ) (payload : Payload) (phase : Phase) (p : Prog Left) → ((v : ℕ) → meaning (place s phase) v ≡ p) →
    load-program-data s column n payload >> p ≡
    tree meaning (decide (pick (in_cache s.geometry column n) (go_to s (cache_load_transfer s.config column payload) phase) (Err FlashError.OutOfBounds)))
unfolding load-program-data refuse ◌>>=◌ ◌>>◌
loads-cache s column n payload phase p e =
    by_cases (in_cache s.geometry column n)
    (λ h. rw h (ap (ask (cache_load_transfer s.config column payload)) (fun_ext (λ v. sym (e v)))))
    (λ h. rw h)

-- ---- a command and its wait

pub sends : (s : Setup) (c : Command) (task : Task) → (transfer (Transfer.Framed c Body.None) >> wait-ready (task_operation task)) >> resumed s task
    ≡ tree meaning (more (Transfer.Framed c Body.None) (place s (Phase.Waiting task WaitStep.Command)))
unfolding meaning_at ◌>>=◌ ◌>>◌
sends s c task = refl

pub enables : (s : Setup) (why : EnableFor) → write-enable >> enabled s why ≡ tree meaning (more (command_only write_enable_command) (place s (Phase.Enabling why EnableStep.Command)))
unfolding write-enable meaning_at latch ◌>>=◌ ◌>>◌
enables s why = refl

waits : (s : Setup) (task : Task) (waited : ℕ) → waiting (get_feature_command REG-STATUS) busy_value (timings_of (task_operation task)) waited >> resumed s task
    ≡ tree meaning (more (register_transfer REG-STATUS) (place s (Phase.Waiting task (WaitStep.Look waited))))
unfolding meaning_at looked ◌>>=◌ ◌>>◌
waits s task waited =
    ap (λ p. p >> resumed s task) ((wait-in-general.loop (get_feature_command REG-STATUS) busy_value (timings_of (task_operation task)) (wait-table.rule (task_operation task)).poll).loops waited)

-- the NAND's waits ask their first delay
delayed : (operation : Operation) → first_wait (timings_of operation) ≡ Wait.Pause (timings_of operation).initial_us (timings_of operation).initial_us
unfolding first_wait timings_of
delayed Operation.Reset = refl
delayed Operation.PageRead = refl
delayed Operation.Program = refl
delayed Operation.Erase = refl
delayed Operation.WriteRegister = refl

sent : (s : Setup) (task : Task) (v : ℕ) →
    meaning_at s (Phase.Waiting task WaitStep.Command) v ≡ tree meaning (decide (after_phase s (Phase.Waiting task WaitStep.Command) v))
unfolding meaning_at after_phase waiting_then wait_then wait-ready delayed_wait ◌>>=◌ ◌>>◌
sent s task v = rw (delayed (task_operation task)) refl

-- ---- a test that lets pass or refuses

abbrev judging : Bool → Prog Left → Prog Left
judging test p = if test then p else fail FlashError.OutOfBounds

tested : {A : Type 0} (test : Bool) (p : Prog A) (f : A → Prog Left) (r : Prog Left) → p >>= f ≡ r → (refuse (not test) FlashError.OutOfBounds >> p) >>= f ≡ judging test r
unfolding refuse ◌>>=◌ ◌>>◌
tested true p f r h = h
tested false p f r h = refl

within-is : (test : Bool) (x : Then) → judging test (tree meaning (decide x)) ≡ tree meaning (decide (within test x))
within-is true x = refl
within-is false x = refl

-- ---- loads, programs and erases, with what follows them

module _ (s : Setup) where
  -- a status and its test, with what follows
  pub status-then : (check : Status → Prog Nothing) (p : Prog Left) → (read-status >>= check) >> p ≡ read-status >>= (λ status. check status >> p)
  unfolding ◌>>◌
  status-then check p = bind_assoc read-status check (λ u. p)

  pub page-reads : (page : ℕ) (why : LoadFor) → loaded s why ≡ read-status >>= judged s why → page-read s page >> accepted s why ≡ tree meaning (decide (page_read_then s page why))
  unfolding page-read page_read_then load-page judged task_operation resumed ◌>>◌
  page-reads page why e =
      tested (ltb page (page_count_of s.geometry)) _ (λ u. accepted s why) _
      (then-assoc (load-page page) (read-status >>= (λ status. refuse (uncorrectable (verdict_of status)) FlashError.UncorrectableEcc)) (accepted s why)
      ∙ ap (λ p. load-page page >> p) (status-then (λ status. refuse (uncorrectable (verdict_of status)) FlashError.UncorrectableEcc) (accepted s why) ∙ sym e)
      ∙ sends s (page_read_command page) (Task.Load why))
      ∙ within-is (ltb page (page_count_of s.geometry)) (load_then s page why)

  -- is_bad_block, for any reason
  pub looks-bad : (block : ℕ) (why : MarkerFor) → is-bad-block s block >>= marker-read s why ≡ tree meaning (decide (is_bad_then s block why))
  unfolding is-bad-block is_bad_then load-page loaded accepted task_operation resumed ◌>>=◌ ◌>>◌
  looks-bad block why =
      let first = first_page_of s.geometry block in
      let spare = read-cache s s.geometry.page_size 1 Sink.Number in
      tested (ltb block s.geometry.block_count) _ (marker-read s why) _
      (bind_assoc (load-page first) (λ u. spare >>= (λ marker. ret (bad marker))) (marker-read s why)
      ∙ ap (λ p. load-page first >> p) (bind_assoc spare (λ marker. ret (bad marker)) (marker-read s why) ∙ reread spare)
      ∙ sends s (page_read_command first) (Task.Load (LoadFor.Marker why)))
      ∙ within-is (ltb block s.geometry.block_count) (load_then s first (LoadFor.Marker why))
    where
      reread : (spare : Prog ℕ) → spare >>= (λ marker. ret (bad marker) >>= marker-read s why) ≡ spare >>= (λ marker. marker-read s why (bad marker))
      reread spare = refl

  pub programs : (page : ℕ) (why : ProgramFor) → program-execute s page >> after-program s why ≡ tree meaning (decide (program_then s page why))
  unfolding program-execute program_then programmed task_operation resumed ◌>>◌
  programs page why =
      let judge : Status → Prog Nothing = λ status. refuse (program_failed_of status) FlashError.ProgramFailed in
      let sending = transfer (command_only (program_execute_command page)) in
      tested (ltb page (page_count_of s.geometry)) _ (λ u. after-program s why) _
      (then-assoc sending (wait-ready Operation.Program >> (read-status >>= judge)) (after-program s why)
      ∙ ap (λ p. sending >> p) (then-assoc (wait-ready Operation.Program) (read-status >>= judge) (after-program s why) ∙ ap (λ p. wait-ready Operation.Program >> p) (status-then judge (after-program s why)))
      ∙ sym (then-assoc sending (wait-ready Operation.Program) (read-status >>= programmed s why))
      ∙ sends s (program_execute_command page) (Task.Program why))
      ∙ within-is (ltb page (page_count_of s.geometry)) (send s (program_execute_command page) (Task.Program why))

  pub erases : (block : ℕ) (why : EraseFor) → erase-block s block >> after-erase s why ≡ tree meaning (decide (erase_then s block why))
  unfolding erase-block erase_then erased enabled ◌>>◌
  erases block why =
      let judge : Status → Prog Nothing = λ status. refuse (erase_failed_of status) FlashError.EraseFailed in
      let sending = transfer (command_only (block_erase_command (first_page_of s.geometry block))) in
      tested (ltb block s.geometry.block_count) _ (λ u. after-erase s why) _
      (then-assoc write-enable (sending >> (wait-ready Operation.Erase >> (read-status >>= judge))) (after-erase s why)
      ∙ ap (λ p. write-enable >> p)
      (then-assoc sending (wait-ready Operation.Erase >> (read-status >>= judge)) (after-erase s why)
      ∙ ap (λ p. sending >> p) (then-assoc (wait-ready Operation.Erase) (read-status >>= judge) (after-erase s why) ∙ ap (λ p. wait-ready Operation.Erase >> p) (status-then judge (after-erase s why)))
      ∙ sym (then-assoc sending (wait-ready Operation.Erase) (read-status >>= erased s why)))
      ∙ enables s (EnableFor.Erase block why))
      ∙ within-is (ltb block s.geometry.block_count) (enable s (EnableFor.Erase block why))

-- write_register and what follows it
pub registers : (s : Setup) (register value : ℕ) (why : RegisterFor) → write-register register value >> written s why
    ≡ tree meaning (more (command_only write_enable_command) (place s (Phase.Enabling (EnableFor.Register register value why) EnableStep.Command)))
unfolding write-register enabled
registers s register value why = then-assoc write-enable _ (written s why) ∙ enables s (EnableFor.Register register value why)

-- ---- behind a status

latches : (s : Setup) (why : EnableFor) (v : ℕ) → enabled s why ≡ tree meaning (decide (enabled_then s why)) →
    meaning_at s (Phase.Enabling why EnableStep.Latch) v ≡ tree meaning (decide (latched_then s why (status_of (v % 256))))
unfolding meaning_at latch latched_then refuse ◌>>=◌ ◌>>◌
latches s why v e = by_cases (write_enabled_of (status_of (v % 256))) (λ h. rw h e) (λ h. rw h)

judges : (s : Setup) (why : LoadFor) (status : Status) → accepted s why ≡ tree meaning (decide (accepted_then s why)) →
    judged s why status ≡ tree meaning (decide (judged_then s why status))
unfolding judged judged_then refuse ◌>>=◌ ◌>>◌
judges s why status e = by_cases (uncorrectable (verdict_of status)) (λ h. rw h) (λ h. rw (h, e))

compares : (s : Setup) (v : ℕ) → compared s v ≡ tree meaning (decide (compared_then s v))
unfolding compared compared_then refuse ◌>>=◌ ◌>>◌
compares s v = by_cases (eqb v 0) (λ h. rw h) (λ h. rw h)

-- ---- the registers

configures : (s : Setup) (before : Configuration) (within : Bool) → configured s before within ≡ tree meaning (decide (configured_then s before within))
unfolding configured configured_then meaning_at answered read-protection ◌>>=◌ ◌>>◌
configures s before false = refl
configures s before true = refl

same-wanted : (s : Setup) (before : Configuration) → wanted_for s.config before ≡ wanted-of s.config before
unfolding wanted_for
same-wanted s before = at s.config.quad (with_bits before (bit_or ECC-ENABLE BUFFER-READ) (configuration_byte OPERATIONAL))
  where
    at : (q : Option NandQuadConfig) (c : Configuration) → with_quad q c ≡ quad-wanted q c
    at None c = refl
    at (Some q) c = refl

configures-on : (s : Setup) (within : Bool) (before : Configuration) → configure-on s within before ≡ tree meaning (decide (configure_then s before within))
unfolding configure-on configure_then written equals same_configuration ◌>>=◌ ◌>>◌
configures-on s within before = rw (same-wanted s before)
    (by_cases (same_configuration (wanted-of s.config before) before)
    (λ h. rw h (configures s before within))
    (λ h. rw h (then-assoc (write-register _ _) _ (configured s before within) ∙ registers s _ _ (RegisterFor.Configure before within))))

checks-configured : (s : Setup) (before : Configuration) (within : Bool) (after : Configuration) →
    check-configured s before after >> configured s before within ≡ tree meaning (decide (check_configuration s before within after))
unfolding check-configured check_configuration equals same_configuration refuse ◌>>=◌ ◌>>◌
checks-configured s before within after = rw (same-wanted s before)
    (by_cases (same_configuration after (wanted-of s.config before)) (λ h. rw h (configures s before within)) (λ h. rw h))

unprotects : (s : Setup) (before : Protection) (within : Bool) → unprotected s before within ≡ tree meaning (decide (unprotected_then s before within))
unfolding unprotected unprotected_then meaning_at answered read-configuration ◌>>=◌ ◌>>◌
unprotects s before false = refl
unprotects s before true = refl

unprotects-on : (s : Setup) (within : Bool) (before : Protection) → unprotect-on s within before ≡ tree meaning (decide (unprotect_then s before within))
unfolding unprotect-on unprotect_then written ◌>>=◌ ◌>>◌
unprotects-on s within before =
    by_cases (is_unlocked before)
    (λ h. rw h (unprotects s before within))
    (λ h. rw h (registers s REG-BLOCK-PROTECTION 0 (RegisterFor.Unprotect before within)))

disables-on : (s : Setup) (before : Configuration) → disable-on s before ≡ tree meaning (decide (disable_quad s before))
unfolding disable-on disable_quad written ◌>>=◌ ◌>>◌
disables-on s before =
    by_cases (quad_enabled_of before)
    (λ h. rw h (then-assoc (write-register REG-CONFIGURATION (configuration_byte (with_bits before QUAD-ENABLE 0))) (read-configuration >>= check-disabled) (DONE s) ∙ registers s REG-CONFIGURATION (configuration_byte (with_bits before QUAD-ENABLE 0)) RegisterFor.DisableQuad))
    (λ h. rw h)

checks-disabled : (s : Setup) (after : Configuration) → check-disabled after >> DONE s ≡ tree meaning (decide (quad_disabled s after))
unfolding check-disabled quad_disabled refuse ◌>>=◌ ◌>>◌
checks-disabled s after = by_cases (quad_enabled_of after) (λ h. rw h) (λ h. rw h)

writes-on : (s : Setup) (why : RegisterFor) → written s why ≡ tree meaning (decide (written_then s why))
unfolding written written_then meaning_at answered read-configuration ◌>>=◌ ◌>>◌
writes-on s RegisterFor.Call = refl
writes-on s (RegisterFor.Configure before within) = refl
writes-on s RegisterFor.DisableQuad = refl
writes-on s (RegisterFor.Unprotect before within) = unprotects s before within

identifies : (s : Setup) (id : NandJedecId) → identified s id ≡ tree meaning (decide (identified_then s id))
unfolding identified identified_then meaning_at answered read-configuration ◌>>=◌ ◌>>◌
identifies s id = by_cases (leb (geometry_for s id).page_size MAX-VERIFY-PAGE-SIZE) (λ h. rw h) (λ h. rw h)

identifies-within : (s : Setup) (within : Bool) (id : NandJedecId) → identify s within id ≡ tree meaning (decide (identify_then s id within))
unfolding identify identify_then
identifies-within s false id = refl
identifies-within s true id = identifies s id

-- ---- the loops

pub finishes : (p : Prog Left) → ret (tt {0}) >> p ≡ p
unfolding ◌>>=◌ ◌>>◌
finishes p = refl

fills-on : (s : Setup) (block column : ℕ) → fill_on s block column ≡ tree meaning (decide (fill_from s block column))
unfolding fill_on fill_from load_program_then marker-on meaning_at
fills-on s block column =
    let page = s.geometry.page_size in
    let n = filler_of s.geometry column in
    rw (filling-loop s column)
    (by_cases (ltb column page)
    (λ h. rw h
    (then-assoc (load-program-data s column n (Payload.Filler n)) (filling s (column + n)) (marker-on s block)
    ∙ loads-cache s column n (Payload.Filler n) (Phase.LoadingFiller block column) (fill_on s block (column + n)) (λ v. refl)))
    (λ h. rw h (finishes (marker-on s block) ∙ loads-cache s page 1 Payload.Marker (Phase.LoadingMarker block) (program-on s block) (λ v. refl))))

-- ---- the meanings that reads go on with

reading-cache : (s : Setup) → (λ v. DONE s) ≡ meaning (place s Phase.ReadingCache)
unfolding meaning_at
reading-cache s = refl

comparing : (s : Setup) → compared s ≡ meaning (place s Phase.Comparing)
unfolding meaning_at
comparing s = refl

reading-marker : (s : Setup) (why : MarkerFor) → (λ marker. marker-read s why (bad marker)) ≡ meaning (place s (Phase.ReadingMarker why))
unfolding meaning_at
reading-marker s why = refl

reading-piece : (s : Setup) (offset len done : ℕ) → (λ v. read-on s offset len (done + chunk_of s.geometry offset len done)) ≡ meaning (place s (Phase.Reading (span offset len done)))
unfolding meaning_at
reading-piece s offset len done = refl

module _ (s : Setup) (valid : in_bounds s.geometry ≡ true) where
  some : 1 ≤ s.geometry.page_size
  some = (geometries-hold.bounded s.geometry valid).page

  pub reads_on : (offset len done : ℕ) → read-on s offset len done ≡ tree meaning (decide (read_from s offset len done))
  unfolding read-on read_from accepted loaded
  reads_on offset len done =
      let page = page_at s.geometry (place_of offset done) in
      let n = chunk_of s.geometry offset len done in
      let piece = read-cache s (column_at s.geometry (place_of offset done)) n (Sink.Buffer done) in
      rw (reading-loop s some offset len done)
      (by_cases (ltb done len)
      (λ h. rw h
      (then-assoc (page-read s page) (piece >> reading s offset len (done + n)) (DONE s)
      ∙ ap (λ p. page-read s page >> p) (then-assoc piece (reading s offset len (done + n)) (DONE s))
      ∙ page-reads s page (LoadFor.Read (span offset len done)) refl))
      (λ h. rw h (finishes (DONE s))))

  -- ---- what each reason comes to

  accepts : (why : LoadFor) → accepted s why ≡ tree meaning (decide (accepted_then s why))
  unfolding accepted accepted_then piece_then ◌>>◌
  accepts LoadFor.PageRead = refl
  accepts LoadFor.ReadPage = reads-cache s 0 s.geometry.page_size (Sink.Buffer 0) Phase.ReadingCache (λ v. DONE s) (reading-cache s)
  accepts LoadFor.Verify = reads-cache s 0 s.geometry.page_size (Sink.Compare 0) Phase.Comparing (compared s) (comparing s)
  accepts (LoadFor.Marker why) = reads-cache s s.geometry.page_size 1 Sink.Number (Phase.ReadingMarker why) (λ marker. marker-read s why (bad marker)) (reading-marker s why)
  accepts (LoadFor.Read p) =
      reads-cache s (column_at s.geometry (place_of p.offset p.done)) (chunk_of s.geometry p.offset p.len p.done) (Sink.Buffer p.done) (Phase.Reading p)
      (λ v. read-on s p.offset p.len (p.done + chunk_of s.geometry p.offset p.len p.done)) (reading-piece s p.offset p.len p.done)

  loads-on : (why : LoadFor) → loaded s why ≡ tree meaning (decide (loaded_then s why))
  unfolding loaded loaded_then meaning_at task-judged read-status ◌>>=◌ ◌>>◌
  loads-on LoadFor.PageRead = refl
  loads-on LoadFor.ReadPage = refl
  loads-on LoadFor.Verify = refl
  loads-on (LoadFor.Marker why) = accepts (LoadFor.Marker why)
  loads-on (LoadFor.Read p) = refl

  -- write_page's read-back: its length is a page
  verifies : (page : ℕ) → verify-on s page ≡ tree meaning (decide (page_read_then s page LoadFor.Verify))
  unfolding verify-on read-page refuse accepted loaded ◌>>=◌ ◌>>◌
  verifies page =
      rw (eq-eqb s.geometry.page_size s.geometry.page_size refl)
      (bind_assoc (page-read s page) (λ u. read-cache s 0 s.geometry.page_size (Sink.Compare 0)) (compared s)
      ∙ page-reads s page LoadFor.Verify refl)

  confirms : (block : ℕ) → confirm s block ≡ tree meaning (decide (is_bad_then s block MarkerFor.Confirm))
  unfolding confirm marker-read
  confirms block = looks-bad s block MarkerFor.Confirm

  programs-after : (why : ProgramFor) → after-program s why ≡ tree meaning (decide (after_program s why))
  unfolding after-program
  programs-after ProgramFor.Call = refl
  programs-after (ProgramFor.WritePage page) = verifies page
  programs-after (ProgramFor.MarkBad block) = confirms block

  programs-on : (why : ProgramFor) (status : Status) → programmed s why status ≡ tree meaning (decide (programmed_then s why status))
  unfolding programmed programmed_then refuse ◌>>=◌ ◌>>◌
  programs-on why status = by_cases (program_failed_of status) (λ h. rw h) (λ h. rw (h, programs-after why))

  erases-after : (why : EraseFor) → after-erase s why ≡ tree meaning (decide (after_erase s why))
  unfolding after-erase mark_on enabled
  erases-after EraseFor.Call = refl
  erases-after (EraseFor.MarkBad block) = enables s (EnableFor.MarkBad block)

  erases-on : (why : EraseFor) (status : Status) → erased s why status ≡ tree meaning (decide (erased_then s why status))
  unfolding erased erased_then refuse ◌>>=◌ ◌>>◌
  erases-on why status = by_cases (erase_failed_of status) (λ h. rw h) (λ h. rw (h, erases-after why))

  markers : (why : MarkerFor) (v : ℕ) → marker-read s why (bad v) ≡ tree meaning (decide (marker_then s why (v % 256)))
  unfolding marker-read marker_then confirmed refuse after-erase ◌>>=◌ ◌>>◌
  markers MarkerFor.Call v = refl
  markers (MarkerFor.Check block) v = by_cases (eqb (v % 256) 0xFF) (λ h. rw h (erases s block (EraseFor.MarkBad block))) (λ h. rw h)
  markers MarkerFor.Confirm v = by_cases (eqb (v % 256) 0xFF) (λ h. rw h) (λ h. rw h)

  -- the end of a task's wait
  resets : (why : ResetFor) → reset-done s why ≡ tree meaning (decide (reset_then s why))
  unfolding reset-done reset_then jedec-id meaning_at answered ◌>>=◌ ◌>>◌
  resets ResetFor.Reset = refl
  resets (ResetFor.Identify within) = refl

  resumes : (task : Task) → resumed s task ≡ tree meaning (decide (resume_task s task))
  unfolding resumed resume_task read-status meaning_at task-judged ◌>>=◌ ◌>>◌
  resumes (Task.Reset why) = resets why
  resumes (Task.Register why) = writes-on s why
  resumes (Task.Load why) = loads-on why
  resumes (Task.Program why) = refl
  resumes (Task.Erase why) = refl

  judges-task : (task : Task) (status : Status) → task-judged s task status ≡ tree meaning (decide (judge_task s task status))
  unfolding task-judged judge_task
  judges-task (Task.Reset why) status = resets why
  judges-task (Task.Register why) status = writes-on s why
  judges-task (Task.Load why) status = judges s why status (accepts why)
  judges-task (Task.Program why) status = programs-on why status
  judges-task (Task.Erase why) status = erases-on why status

  looks : (task : Task) (waited v : ℕ) → meaning_at s (Phase.Waiting task (WaitStep.Look waited)) v ≡ tree meaning (decide (after_phase s (Phase.Waiting task (WaitStep.Look waited)) v))
  unfolding meaning_at after_phase waiting_then wait_then next_wait looked ◌>>=◌ ◌>>◌
  looks task waited v =
      let t = timings_of (task_operation task) in
      by_cases (busy_value v)
      (λ e. by_cases (leb t.timeout_us waited)
      (λ d. rw (e, d))
      (λ d. rw (e, d, no_wrap t waited (wait-table.rule (task_operation task)).fits d)))
      (λ e. rw e (resumes task))

  -- write_enable has set the latch
  enables-on : (why : EnableFor) → enabled s why ≡ tree meaning (decide (enabled_then s why))
  unfolding enabled enabled_then load_program_then resumed task_operation meaning_at
  enables-on EnableFor.Call = refl
  enables-on (EnableFor.Register register value why) = sends s (set_feature_command register value) (Task.Register why)
  enables-on (EnableFor.WritePage page) =
      loads-cache s 0 s.geometry.page_size (Payload.Data 0 s.geometry.page_size) (Phase.LoadingPage page) (program-page s page) (λ v. refl)
  enables-on (EnableFor.Erase block why) = sends s (block_erase_command (first_page_of s.geometry block)) (Task.Erase why)
  enables-on (EnableFor.MarkBad block) = fills-on s block 0

  answers : (asked : Asked) (v : ℕ) → answered s asked v ≡ tree meaning (decide (answered_then s asked v))
  unfolding answered answered_then brought-up
  answers Asked.Status v = refl
  answers Asked.Configuration v = refl
  answers Asked.Protection v = refl
  answers (Asked.Id within) v = identifies-within s within (id_of v)
  answers (Asked.Configure within) v = configures-on s within (configuration_of (v % 256))
  answers (Asked.Configured before within) v = checks-configured s before within (configuration_of (v % 256))
  answers (Asked.Unprotect within) v = unprotects-on s within (protection_of (v % 256))
  answers Asked.BroughtUp v = refl
  answers Asked.DisableQuad v = disables-on s (configuration_of (v % 256))
  answers Asked.QuadDisabled v = checks-disabled s (configuration_of (v % 256))

  -- ---- every phase

  raises : (v : ℕ) → meaning_at s Phase.Raised v ≡ tree meaning (decide (after_phase s Phase.Raised v))
  unfolding meaning_at after_phase reset resumed reset-done identify task_operation ◌>>=◌ ◌>>◌
  raises v = refl

  follows : (phase : Phase) (v : ℕ) → meaning_at s phase v ≡ tree meaning (decide (after_phase s phase v))
  unfolding meaning_at after_phase enabling_then waiting_then program-page program-on after-program latch read-status ◌>>=◌ ◌>>◌
  follows Phase.Raised v = raises v
  follows (Phase.Asking asked) v = answers asked v
  follows (Phase.Enabling why EnableStep.Command) v = refl
  follows (Phase.Enabling why EnableStep.Latch) v = latches s why v (enables-on why)
  follows (Phase.Waiting task WaitStep.Command) v = sent s task v
  follows (Phase.Waiting task (WaitStep.Look waited)) v = looks task waited v
  follows (Phase.Waiting task (WaitStep.Pause waited)) v = waits s task waited
  follows (Phase.Waiting task WaitStep.Verdict) v = judges-task task (status_of (v % 256))
  follows Phase.ReadingCache v = refl
  follows Phase.Comparing v = compares s v
  follows (Phase.ReadingMarker why) v = markers why v
  follows (Phase.Reading p) v = reads_on p.offset p.len (p.done + chunk_of s.geometry p.offset p.len p.done)
  follows Phase.LoadingData v = refl
  follows (Phase.LoadingPage page) v = programs s page (ProgramFor.WritePage page)
  follows (Phase.LoadingFiller block column) v = fills-on s block (column + filler_of s.geometry column)
  follows (Phase.LoadingMarker block) v = programs s (first_page_of s.geometry block) (ProgramFor.MarkBad block)

pub simulates : Simulates Valid (decide_next parts) meaning
unfolding next_of
simulates = record {
  on_value = λ s v valid. follows s.setup valid s.phase v;
  on_failure = λ s code. refl;
  keeps = λ s v valid. keeps s.setup valid s.phase v;
}

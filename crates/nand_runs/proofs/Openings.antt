-- Each call begins as the Rust's program of it does.
use Prim.Native.Nat.{ℕ, ◌%◌}
use mathlib.Core.Bool.{Bool, true, false, not}
use mathlib.Core.Path.{◌≡◌, refl, ap, sym, ◌∙◌, fun_ext}
use lib.Dec.{ltb, eqb}
use borrow.Author.Tests.{eqb-true}
use Rattle.qspi.specs.declared.transfer.Payload.{Payload}
use Rattle.qspi.specs.declared.transfer.Sink.{Sink}
use Rattle.qspi.proofs.Cases.{by_cases}
use Rattle.spi_flash.proofs.Laws.{bind_assoc, then-assoc}
use Rattle.spi_flash.proofs.Machine.{tree}
use Rattle.std.specs.Prelude.{if◌then◌else◌}
use Rattle.spi_flash.specs.Prog.{Prog, ret, fail, ask, ◌>>=◌, ◌>>◌, refuse}
use Rattle.spi_flash.specs.declared.error.FlashError.{FlashError}
use Rattle.flash_runs.specs.Driver.{leaving}
use Rattle.spi_nand.specs.Command.{reset_command}
use Rattle.spi_nand.specs.Config.{page_count_of, in_bounds, first_page_of}
use Rattle.spi_nand.specs.Opcode.{REG-STATUS, REG-CONFIGURATION, REG-BLOCK-PROTECTION}
use Rattle.spi_nand.specs.Status.{configuration_of, configuration_byte, protection_of, is_unlocked}
use Rattle.spi_nand.specs.declared.status.Configuration.{Configuration}
use Rattle.spi_nand.specs.declared.status.Protection.{Protection}
use Rattle.spi_nand.specs.declared.answer.Answer.{Answer}
use Rattle.spi_nand.specs.Transfer.{register_transfer, in_range, task_operation}
use Rattle.spi_nand.specs.declared.phase.Asked.{Asked}
use Rattle.spi_nand.specs.declared.phase.EnableFor.{EnableFor}
use Rattle.spi_nand.specs.declared.phase.EraseFor.{EraseFor}
use Rattle.spi_nand.specs.declared.phase.LoadFor.{LoadFor}
use Rattle.spi_nand.specs.declared.phase.MarkerFor.{MarkerFor}
use Rattle.spi_nand.specs.declared.phase.Phase.{Phase}
use Rattle.spi_nand.specs.declared.phase.ProgramFor.{ProgramFor}
use Rattle.spi_nand.specs.declared.phase.RegisterFor.{RegisterFor}
use Rattle.spi_nand.specs.declared.phase.ResetFor.{ResetFor}
use Rattle.spi_nand.specs.declared.phase.Task.{Task}
use Rattle.spi_nand.specs.declared.setup.Setup.{Setup}
use Rattle.nand_steps.specs.Go.{ask as ask_then, ask_id, send, enable}
use Rattle.nand_steps.specs.Cache.{read_cache_then, load_program_then}
use Rattle.nand_steps.specs.Page.{page_read_then, is_bad_then, program_then, read_page_then, write_page_then}
use Rattle.nand_steps.specs.Read.{read_then}
use Rattle.nand_steps.specs.Block.{erase_then}
use Rattle.nand_runs.specs.Rust.{equals, Nothing, wanted-of, read-status, read-configuration, read-protection, write-enable, write-register, disable-quad, reset, jedec-id, reset-and-identify, ensure-configuration, unprotect}
use Rattle.nand_runs.proofs.AsCoded.{page-read, read-cache, load-program-data, program-execute, read-page, write-page, erase-block, read, is-bad-block, filling, mark-bad-block}
use Rattle.nand_runs.specs.Program.{Left}
use Rattle.nand_runs.proofs.Places.{decide}
use Rattle.nand_runs.proofs.Meaning.{DONE, compared, confirmed, confirm, program-on, marker-on, fill_on, mark_on, marker-read, verify-on, program-page, read-on, accepted, loaded, after-program, after-erase, written, identify, reset-done, resumed, enabled, configured, check-configured, configure-on, unprotected, unprotect-on, check-disabled, disable-on, answered, meaning_at, meaning}
use Rattle.nand_runs.proofs.Simulation.{reads-cache, loads-cache, sends, enables, registers, page-reads, looks-bad, programs, erases, reads_on}

-- ---- registers and ids

module _ (s : Setup) where
  pub disables : disable-quad >> DONE s ≡ tree meaning (decide (ask_then s REG-CONFIGURATION Asked.DisableQuad))
  unfolding disable-quad read-configuration disable-on check-disabled answered meaning_at ◌>>=◌ ◌>>◌
  disables = refl

  pub tells-status : read-status >>= (λ status. ret (leaving s (Answer.Status status))) ≡ tree meaning (decide (ask_then s REG-STATUS Asked.Status))
  unfolding read-status answered meaning_at ◌>>=◌ ◌>>◌
  tells-status = refl

  pub tells-configuration : read-configuration >>= (λ c. ret (leaving s (Answer.Configuration c))) ≡ tree meaning (decide (ask_then s REG-CONFIGURATION Asked.Configuration))
  unfolding read-configuration answered meaning_at ◌>>=◌ ◌>>◌
  tells-configuration = refl

  pub tells-protection : read-protection >>= (λ p. ret (leaving s (Answer.Protection p))) ≡ tree meaning (decide (ask_then s REG-BLOCK-PROTECTION Asked.Protection))
  unfolding read-protection answered meaning_at ◌>>=◌ ◌>>◌
  tells-protection = refl

  pub tells-id : jedec-id >>= (λ id. ret (leaving s (Answer.Id id))) ≡ tree meaning (decide (ask_id s false))
  unfolding jedec-id answered identify meaning_at ◌>>=◌ ◌>>◌
  tells-id = refl

  pub writes-register : (register value : ℕ) → write-register register value >> DONE s ≡ tree meaning (decide (enable s (EnableFor.Register register value RegisterFor.Call)))
  unfolding written
  writes-register register value = registers s register value RegisterFor.Call

  pub enables-write : write-enable >> DONE s ≡ tree meaning (decide (enable s EnableFor.Call))
  unfolding enabled
  enables-write = enables s EnableFor.Call

  pub resets : reset >> DONE s ≡ tree meaning (decide (send s reset_command (Task.Reset ResetFor.Reset)))
  unfolding reset resumed reset-done task_operation
  resets = sends s reset_command (Task.Reset ResetFor.Reset)

  pub identifies : reset-and-identify >>= (λ id. ret (leaving s (Answer.Id id))) ≡ tree meaning (decide (send s reset_command (Task.Reset (ResetFor.Identify false))))
  unfolding reset-and-identify reset resumed reset-done identify task_operation ◌>>◌
  identifies =
      bind_assoc reset (λ u. jedec-id) (λ id. ret (leaving s (Answer.Id id)))
      ∙ sends s reset_command (Task.Reset (ResetFor.Identify false))

  pub configures : ensure-configuration s.config >>= (λ before. ret (leaving s (Answer.Configuration before)))
      ≡ tree meaning (decide (ask_then s REG-CONFIGURATION (Asked.Configure false)))
  unfolding ensure-configuration read-configuration answered configure-on configured check-configured meaning_at ◌>>=◌ ◌>>◌
  configures =
      ap (ask (register_transfer REG-CONFIGURATION))
      (fun_ext (λ v. bind_assoc (writing (configuration_of (v % 256))) (λ u. ret (configuration_of (v % 256))) (λ before. ret (leaving s (Answer.Configuration before)))))
    where
      writing : Configuration → Prog Nothing
      writing before =
          if not (equals (wanted-of s.config before) before)
          then (write-register REG-CONFIGURATION (configuration_byte (wanted-of s.config before))
          >> (read-configuration >>= (λ after. refuse (not (equals after (wanted-of s.config before))) FlashError.NotSupported)))
          else ret tt

  pub unprotects : unprotect >>= (λ before. ret (leaving s (Answer.Protection before)))
      ≡ tree meaning (decide (ask_then s REG-BLOCK-PROTECTION (Asked.Unprotect false)))
  unfolding unprotect read-protection answered unprotect-on unprotected meaning_at ◌>>=◌ ◌>>◌
  unprotects =
      ap (ask (register_transfer REG-BLOCK-PROTECTION))
      (fun_ext (λ v. bind_assoc (writing (protection_of (v % 256))) (λ u. ret (protection_of (v % 256))) (λ before. ret (leaving s (Answer.Protection before)))))
    where
      writing : Protection → Prog Nothing
      writing before = if not (is_unlocked before) then write-register REG-BLOCK-PROTECTION 0x00 else ret tt

  -- ---- pages

  pub loads-page : (page : ℕ) → page-read s page >> DONE s ≡ tree meaning (decide (page_read_then s page LoadFor.PageRead))
  unfolding accepted loaded
  loads-page page = page-reads s page LoadFor.PageRead refl

  pub reads-from-cache : (column n : ℕ) → read-cache s column n (Sink.Buffer 0) >> DONE s ≡ tree meaning (decide (read_cache_then s column n (Sink.Buffer 0) Phase.ReadingCache))
  unfolding meaning_at ◌>>◌
  reads-from-cache column n = reads-cache s column n (Sink.Buffer 0) Phase.ReadingCache (λ v. DONE s) refl

  pub loads-data : (column n : ℕ) → load-program-data s column n (Payload.Data 0 n) >> DONE s ≡ tree meaning (decide (load_program_then s column (Payload.Data 0 n) Phase.LoadingData))
  unfolding load_program_then meaning_at
  loads-data column n = loads-cache s column n (Payload.Data 0 n) Phase.LoadingData (DONE s) (λ v. refl)

  pub executes : (page : ℕ) → program-execute s page >> DONE s ≡ tree meaning (decide (program_then s page ProgramFor.Call))
  unfolding after-program
  executes page = programs s page ProgramFor.Call

  pub reads-page : (page n : ℕ) → read-page s page n (Sink.Buffer 0) >> DONE s ≡ tree meaning (decide (read_page_then s page n))
  unfolding read-page read_page_then refuse accepted loaded ◌>>=◌ ◌>>◌
  reads-page page n =
      by_cases (eqb n s.geometry.page_size)
      (λ h. rw h
      (bind_assoc (page-read s page) (λ u. read-cache s 0 n (Sink.Buffer 0)) (λ v. DONE s)
      ∙ ap (λ m. page-read s page >> (read-cache s 0 m (Sink.Buffer 0) >> DONE s)) (eqb-true n s.geometry.page_size h)
      ∙ page-reads s page LoadFor.ReadPage refl))
      (λ h. rw h)

  -- write_page behind its tests
  abbrev page-written : ℕ → ℕ → Prog Nothing
  page-written page n = do
    write-enable
    load-program-data s 0 n (Payload.Data 0 n)
    program-execute s page
    same ← read-page s page s.geometry.page_size (Sink.Compare 0)
    refuse (eqb same 0) FlashError.VerifyFailed

  writes-whole : (page : ℕ) → page-written page s.geometry.page_size >> DONE s ≡ tree meaning (decide (enable s (EnableFor.WritePage page)))
  unfolding enabled program-page verify-on compared ◌>>◌
  writes-whole page =
      let size = s.geometry.page_size in
      let load = load-program-data s 0 size (Payload.Data 0 size) in
      let back = read-page s page size (Sink.Compare 0) in
      let judge : ℕ → Prog Nothing = λ same. refuse (eqb same 0) FlashError.VerifyFailed in
      then-assoc write-enable (load >> (program-execute s page >> (back >>= judge))) (DONE s)
      ∙ ap (λ p. write-enable >> p)
      (then-assoc load (program-execute s page >> (back >>= judge)) (DONE s)
      ∙ ap (λ p. load >> p)
      (then-assoc (program-execute s page) (back >>= judge) (DONE s) ∙ ap (λ p. program-execute s page >> p) (bind_assoc back judge (λ u. DONE s))))
      ∙ enables s (EnableFor.WritePage page)

  pub writes-page : (page n : ℕ) → write-page s page n >> DONE s ≡ tree meaning (decide (write_page_then s page n))
  unfolding write-page write_page_then refuse ◌>>=◌ ◌>>◌
  writes-page page n =
      by_cases (eqb n s.geometry.page_size)
      (λ h. by_cases (ltb page (page_count_of s.geometry))
      (λ k. rw (h, k) (ap (λ m. page-written page m >> DONE s) (eqb-true n s.geometry.page_size h) ∙ writes-whole page))
      (λ k. rw (h, k)))
      (λ h. rw h)

  -- ---- blocks

  pub erases-block : (block : ℕ) → erase-block s block >> DONE s ≡ tree meaning (decide (erase_then s block EraseFor.Call))
  unfolding after-erase
  erases-block block = erases s block EraseFor.Call

  pub tells-bad : (block : ℕ) → is-bad-block s block >>= (λ marked. ret (leaving s (Answer.Flag marked))) ≡ tree meaning (decide (is_bad_then s block MarkerFor.Call))
  unfolding marker-read
  tells-bad block = looks-bad s block MarkerFor.Call

  -- mark_bad_block behind its first look
  abbrev marked-after : ℕ → Prog Nothing
  marked-after block = do
    erase-block s block
    write-enable
    filling s 0
    load-program-data s s.geometry.page_size 1 Payload.Marker
    program-execute s (first_page_of s.geometry block)
    marked ← is-bad-block s block
    refuse (not marked) FlashError.VerifyFailed

  marks-after : (block : ℕ) → marked-after block >> DONE s ≡ erase-block s block >> mark_on s block
  unfolding mark_on fill_on marker-on program-on confirm confirmed ◌>>◌
  marks-after block =
      let marker = load-program-data s s.geometry.page_size 1 Payload.Marker in
      let execute = program-execute s (first_page_of s.geometry block) in
      let judge : Bool → Prog Nothing = λ marked. refuse (not marked) FlashError.VerifyFailed in
      let last = is-bad-block s block >>= judge in
      then-assoc (erase-block s block) (write-enable >> (filling s 0 >> (marker >> (execute >> last)))) (DONE s)
      ∙ ap (λ p. erase-block s block >> p)
      (then-assoc write-enable (filling s 0 >> (marker >> (execute >> last))) (DONE s)
      ∙ ap (λ p. write-enable >> p)
      (then-assoc (filling s 0) (marker >> (execute >> last)) (DONE s)
      ∙ ap (λ p. filling s 0 >> p)
      (then-assoc marker (execute >> last) (DONE s)
      ∙ ap (λ p. marker >> p) (then-assoc execute last (DONE s) ∙ ap (λ p. execute >> p) (bind_assoc (is-bad-block s block) judge (λ u. DONE s))))))

  -- its test is made again by is_bad_block
  tested-twice : (test : Bool) (p : Prog Nothing) (q : Prog Left) → p >> DONE s ≡ q → (test ≡ false → q ≡ fail FlashError.OutOfBounds) →
      (refuse (not test) FlashError.OutOfBounds >> p) >> DONE s ≡ q
  unfolding refuse ◌>>=◌ ◌>>◌
  tested-twice true p q h k = h
  tested-twice false p q h k = sym (k refl)

  no_block : (block : ℕ) (why : MarkerFor) → ltb block s.geometry.block_count ≡ false → tree meaning (decide (is_bad_then s block why)) ≡ fail FlashError.OutOfBounds
  unfolding is_bad_then
  no_block block why h = rw h refl

  marks-checked : (block : ℕ) (marked : Bool) → (if marked then ret tt else marked-after block) >> DONE s ≡ marker-read s (MarkerFor.Check block) marked
  unfolding marker-read ◌>>=◌ ◌>>◌
  marks-checked block true = refl
  marks-checked block false = marks-after block

  pub marks : (block : ℕ) → mark-bad-block s block >> DONE s ≡ tree meaning (decide (is_bad_then s block (MarkerFor.Check block)))
  unfolding mark-bad-block ◌>>◌
  marks block =
      let after : Bool → Prog Nothing = λ marked. if marked then ret tt else marked-after block in
      tested-twice (ltb block s.geometry.block_count) (is-bad-block s block >>= after) _
      (bind_assoc (is-bad-block s block) after (λ u. DONE s)
      ∙ ap (λ f. is-bad-block s block >>= f) (fun_ext (marks-checked block))
      ∙ looks-bad s block (MarkerFor.Check block))
      (no_block block (MarkerFor.Check block))

  -- ---- read

  pub reads : in_bounds s.geometry ≡ true → (offset n : ℕ) → read s offset n >> DONE s ≡ tree meaning (decide (read_then s offset n))
  unfolding read read_then refuse read-on ◌>>=◌ ◌>>◌
  reads valid offset n = by_cases (in_range s.geometry offset n) (λ h. rw h (reads_on s valid offset n 0)) (λ h. rw h)

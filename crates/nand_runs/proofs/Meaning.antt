-- What the Rust still does at each phase of a call: the rest of its program, by what the phase is for.
use Prim.Native.Nat.{ℕ, ◌+◌, ◌%◌}
use mathlib.Core.Bool.{Bool, true, false, not}
use lib.Dec.{leb, eqb}
use Rattle.qspi.specs.Transfer.{command_only}
use Rattle.qspi.specs.Choice.{pick}
use Rattle.qspi.specs.declared.transfer.Payload.{Payload}
use Rattle.qspi.specs.declared.transfer.Sink.{Sink}
use Rattle.std.specs.Prelude.{if◌then◌else◌}
use Rattle.spi_flash.specs.Prog.{Prog, ret, fail, ◌>>=◌, ◌>>◌, refuse, transfer}
use Rattle.spi_flash.specs.WaitLaw.{waiting}
use Rattle.spi_flash.specs.declared.error.FlashError.{FlashError}
use Rattle.spi_nand.specs.Command.{get_feature_command, set_feature_command, block_erase_command}
use Rattle.spi_nand.specs.Config.{first_page_of}
use Rattle.spi_nand.specs.Opcode.{REG-STATUS, REG-CONFIGURATION, REG-BLOCK-PROTECTION, timings_of}
use Rattle.spi_nand.specs.Status.{busy_value, status_of, write_enabled_of, erase_failed_of, program_failed_of, verdict_of, QUAD-ENABLE, configuration_of, configuration_byte, quad_enabled_of, with_bits, protection_of, is_unlocked}
use Rattle.spi_nand.specs.declared.config.NandJedecId.{NandJedecId}
use Rattle.spi_nand.specs.declared.opcode.Operation.{Operation}
use Rattle.spi_nand.specs.declared.status.Configuration.{Configuration}
use Rattle.spi_nand.specs.declared.status.Protection.{Protection}
use Rattle.spi_nand.specs.declared.status.Status.{Status}
use Rattle.spi_nand.specs.declared.answer.Answer.{Answer}
use Rattle.spi_nand.specs.Setup.{identified_as, with_before, with_protection, with_after}
use Rattle.spi_nand.specs.Transfer.{place_of, column_at, chunk_of, filler_of, task_operation}
use Rattle.spi_nand.specs.declared.phase.Asked.{Asked}
use Rattle.spi_nand.specs.declared.phase.EnableFor.{EnableFor}
use Rattle.spi_nand.specs.declared.phase.EraseFor.{EraseFor}
use Rattle.spi_nand.specs.declared.phase.LoadFor.{LoadFor}
use Rattle.spi_nand.specs.declared.phase.MarkerFor.{MarkerFor}
use Rattle.spi_nand.specs.declared.phase.EnableStep.{EnableStep}
use Rattle.spi_nand.specs.declared.phase.Phase.{Phase}
use Rattle.spi_nand.specs.declared.phase.WaitStep.{WaitStep}
use Rattle.spi_nand.specs.declared.phase.ProgramFor.{ProgramFor}
use Rattle.spi_nand.specs.declared.phase.RegisterFor.{RegisterFor}
use Rattle.spi_nand.specs.declared.phase.ResetFor.{ResetFor}
use Rattle.spi_nand.specs.declared.phase.Task.{Task}
use Rattle.spi_nand.specs.declared.setup.Setup.{Setup}
use Rattle.nand_steps.specs.Register.{geometry_for}
use Rattle.nand_runs.specs.Rust.{equals, Nothing, MAX-VERIFY-PAGE-SIZE, id-of, wanted-of, uncorrectable, read-status, read-configuration, read-protection, wait-ready, write-enable, write-register, reset, jedec-id}
use Rattle.nand_runs.proofs.AsCoded.{read-cache, load-program-data, program-execute, read-page, erase-block, reading, is-bad-block, filling}
use Rattle.flash_runs.proofs.Looking.{looked}
use Rattle.flash_runs.specs.Driver.{leaving}
use Rattle.nand_runs.specs.Program.{Left}
use Rattle.nand_runs.proofs.Places.{NandPlace}

abbrev pub DONE : Setup → Prog Left
DONE s = ret (leaving s Answer.Done)

-- the tests behind a status
unfoldable pub latch : Status → Prog Nothing
latch status = refuse (not (write_enabled_of status)) FlashError.WriteEnableFailed

unfoldable pub compared : Setup → ℕ → Prog Left
compared s same = refuse (eqb same 0) FlashError.VerifyFailed >> DONE s

abbrev pub bad : ℕ → Bool
bad marker = not (eqb (marker % 256) 0xFF)

-- ---- mark_bad_block, from its end

unfoldable pub confirmed : Setup → Bool → Prog Left
confirmed s marked = refuse (not marked) FlashError.VerifyFailed >> DONE s

unfoldable pub confirm : Setup → ℕ → Prog Left
confirm s block = is-bad-block s block >>= confirmed s

unfoldable pub program-on : Setup → ℕ → Prog Left
program-on s block = program-execute s (first_page_of s.geometry block) >> confirm s block

unfoldable pub marker-on : Setup → ℕ → Prog Left
marker-on s block = load-program-data s s.geometry.page_size 1 Payload.Marker >> program-on s block

unfoldable pub fill_on : Setup → ℕ → ℕ → Prog Left
fill_on s block column = filling s column >> marker-on s block

unfoldable pub mark_on : Setup → ℕ → Prog Left
mark_on s block = write-enable >> fill_on s block 0

unfoldable pub marker-read : Setup → MarkerFor → Bool → Prog Left
marker-read s MarkerFor.Call marked = ret (leaving s (Answer.Flag marked))
marker-read s (MarkerFor.Check block) marked = if marked then DONE s else (erase-block s block >> mark_on s block)
marker-read s MarkerFor.Confirm marked = confirmed s marked

-- ---- write_page, from its end

unfoldable pub verify-on : Setup → ℕ → Prog Left
verify-on s page = read-page s page s.geometry.page_size (Sink.Compare 0) >>= compared s

unfoldable pub program-page : Setup → ℕ → Prog Left
program-page s page = program-execute s page >> verify-on s page

-- ---- behind a load, a program, an erase

unfoldable pub read-on : Setup → ℕ → ℕ → ℕ → Prog Left
read-on s offset len done = reading s offset len done >> DONE s

unfoldable pub accepted : Setup → LoadFor → Prog Left
accepted s LoadFor.PageRead = DONE s
accepted s LoadFor.ReadPage = read-cache s 0 s.geometry.page_size (Sink.Buffer 0) >> DONE s
accepted s LoadFor.Verify = read-cache s 0 s.geometry.page_size (Sink.Compare 0) >>= compared s
accepted s (LoadFor.Marker why) = read-cache s s.geometry.page_size 1 Sink.Number >>= (λ marker. marker-read s why (bad marker))
accepted s (LoadFor.Read p) =
    read-cache s (column_at s.geometry (place_of p.offset p.done)) (chunk_of s.geometry p.offset p.len p.done) (Sink.Buffer p.done)
    >> read-on s p.offset p.len (p.done + chunk_of s.geometry p.offset p.len p.done)

unfoldable pub judged : Setup → LoadFor → Status → Prog Left
judged s why status = refuse (uncorrectable (verdict_of status)) FlashError.UncorrectableEcc >> accepted s why

unfoldable pub loaded : Setup → LoadFor → Prog Left
loaded s LoadFor.PageRead = read-status >>= judged s LoadFor.PageRead
loaded s LoadFor.ReadPage = read-status >>= judged s LoadFor.ReadPage
loaded s LoadFor.Verify = read-status >>= judged s LoadFor.Verify
loaded s (LoadFor.Marker why) = accepted s (LoadFor.Marker why)
loaded s (LoadFor.Read p) = read-status >>= judged s (LoadFor.Read p)

unfoldable pub after-program : Setup → ProgramFor → Prog Left
after-program s ProgramFor.Call = DONE s
after-program s (ProgramFor.WritePage page) = verify-on s page
after-program s (ProgramFor.MarkBad block) = confirm s block

unfoldable pub programmed : Setup → ProgramFor → Status → Prog Left
programmed s why status = refuse (program_failed_of status) FlashError.ProgramFailed >> after-program s why

unfoldable pub after-erase : Setup → EraseFor → Prog Left
after-erase s EraseFor.Call = DONE s
after-erase s (EraseFor.MarkBad block) = mark_on s block

unfoldable pub erased : Setup → EraseFor → Status → Prog Left
erased s why status = refuse (erase_failed_of status) FlashError.EraseFailed >> after-erase s why

-- ---- the registers

unfoldable pub brought-up : Setup → Configuration → Prog Left
brought-up s after = DONE (with_after s after)

unfoldable pub unprotected : Setup → Protection → Bool → Prog Left
unprotected s before false = ret (leaving s (Answer.Protection before))
unprotected s before true = read-configuration >>= brought-up (with_protection s before)

unfoldable pub unprotect-on : Setup → Bool → Protection → Prog Left
unprotect-on s within before =
    (if not (is_unlocked before) then write-register REG-BLOCK-PROTECTION 0x00 else ret tt) >> unprotected s before within

unfoldable pub configured : Setup → Configuration → Bool → Prog Left
configured s before false = ret (leaving s (Answer.Configuration before))
configured s before true = read-protection >>= unprotect-on (with_before s before) true

unfoldable pub check-configured : Setup → Configuration → Configuration → Prog Nothing
check-configured s before after = refuse (not (equals after (wanted-of s.config before))) FlashError.NotSupported

unfoldable pub configure-on : Setup → Bool → Configuration → Prog Left
configure-on s within before =
    (if not (equals (wanted-of s.config before) before)
    then (write-register REG-CONFIGURATION (configuration_byte (wanted-of s.config before)) >> (read-configuration >>= check-configured s before))
    else ret tt)
    >> configured s before within

unfoldable pub check-disabled : Configuration → Prog Nothing
check-disabled after = refuse (quad_enabled_of after) FlashError.NotSupported

unfoldable pub disable-on : Setup → Configuration → Prog Left
disable-on s before =
    (if quad_enabled_of before
    then (write-register REG-CONFIGURATION (configuration_byte (with_bits before QUAD-ENABLE 0)) >> (read-configuration >>= check-disabled))
    else ret tt)
    >> DONE s

unfoldable pub written : Setup → RegisterFor → Prog Left
written s RegisterFor.Call = DONE s
written s (RegisterFor.Configure before within) =
    (read-configuration >>= check-configured s before) >> configured s before within
written s RegisterFor.DisableQuad = (read-configuration >>= check-disabled) >> DONE s
written s (RegisterFor.Unprotect before within) = unprotected s before within

unfoldable pub identified : Setup → NandJedecId → Prog Left
identified s id =
    pick (leb (geometry_for s id).page_size MAX-VERIFY-PAGE-SIZE)
    (read-configuration >>= configure-on (identified_as s (geometry_for s id) id) true)
    (fail FlashError.NotSupported)

unfoldable pub identify : Setup → Bool → NandJedecId → Prog Left
identify s false id = ret (leaving s (Answer.Id id))
identify s true id = identified s id

-- ---- behind a wait, and behind the write-enable latch

unfoldable pub reset-done : Setup → ResetFor → Prog Left
reset-done s ResetFor.Reset = DONE s
reset-done s (ResetFor.Identify within) = jedec-id >>= identify s within

unfoldable pub resumed : Setup → Task → Prog Left
resumed s (Task.Reset why) = reset-done s why
resumed s (Task.Register why) = written s why
resumed s (Task.Load why) = loaded s why
resumed s (Task.Program why) = read-status >>= programmed s why
resumed s (Task.Erase why) = read-status >>= erased s why

unfoldable pub task-judged : Setup → Task → Status → Prog Left
task-judged s (Task.Reset why) status = reset-done s why
task-judged s (Task.Register why) status = written s why
task-judged s (Task.Load why) status = judged s why status
task-judged s (Task.Program why) status = programmed s why status
task-judged s (Task.Erase why) status = erased s why status

unfoldable pub enabled : Setup → EnableFor → Prog Left
enabled s EnableFor.Call = DONE s
enabled s (EnableFor.Register register value why) =
    (transfer (command_only (set_feature_command register value)) >> wait-ready Operation.WriteRegister) >> written s why
enabled s (EnableFor.WritePage page) =
    load-program-data s 0 s.geometry.page_size (Payload.Data 0 s.geometry.page_size) >> program-page s page
enabled s (EnableFor.Erase block why) =
    (transfer (command_only (block_erase_command (first_page_of s.geometry block))) >> wait-ready Operation.Erase)
    >> (read-status >>= erased s why)
enabled s (EnableFor.MarkBad block) = fill_on s block 0

-- ---- every phase

unfoldable pub answered : Setup → Asked → ℕ → Prog Left
answered s Asked.Status v = ret (leaving s (Answer.Status (status_of (v % 256))))
answered s Asked.Configuration v = ret (leaving s (Answer.Configuration (configuration_of (v % 256))))
answered s Asked.Protection v = ret (leaving s (Answer.Protection (protection_of (v % 256))))
answered s (Asked.Id within) v = identify s within (id-of v)
answered s (Asked.Configure within) v = configure-on s within (configuration_of (v % 256))
answered s (Asked.Configured before within) v = check-configured s before (configuration_of (v % 256)) >> configured s before within
answered s (Asked.Unprotect within) v = unprotect-on s within (protection_of (v % 256))
answered s Asked.BroughtUp v = brought-up s (configuration_of (v % 256))
answered s Asked.DisableQuad v = disable-on s (configuration_of (v % 256))
answered s Asked.QuadDisabled v = check-disabled (configuration_of (v % 256)) >> DONE s

unfoldable pub meaning_at : Setup → Phase → ℕ → Prog Left
meaning_at s Phase.Raised v = reset >> (jedec-id >>= identified s)
meaning_at s (Phase.Asking asked) v = answered s asked v
meaning_at s (Phase.Enabling why EnableStep.Command) v = (read-status >>= latch) >> enabled s why
meaning_at s (Phase.Enabling why EnableStep.Latch) v = latch (status_of (v % 256)) >> enabled s why
meaning_at s (Phase.Waiting task WaitStep.Command) v = wait-ready (task_operation task) >> resumed s task
meaning_at s (Phase.Waiting task (WaitStep.Look waited)) v =
    looked (get_feature_command REG-STATUS) busy_value (timings_of (task_operation task)) waited v >> resumed s task
meaning_at s (Phase.Waiting task (WaitStep.Pause waited)) v =
    waiting (get_feature_command REG-STATUS) busy_value (timings_of (task_operation task)) waited >> resumed s task
meaning_at s (Phase.Waiting task WaitStep.Verdict) v = task-judged s task (status_of (v % 256))
meaning_at s Phase.ReadingCache v = DONE s
meaning_at s Phase.Comparing v = compared s v
meaning_at s (Phase.ReadingMarker why) v = marker-read s why (bad v)
meaning_at s (Phase.Reading p) v = read-on s p.offset p.len (p.done + chunk_of s.geometry p.offset p.len p.done)
meaning_at s Phase.LoadingData v = DONE s
meaning_at s (Phase.LoadingPage page) v = program-page s page
meaning_at s (Phase.LoadingFiller block column) v = fill_on s block (column + filler_of s.geometry column)
meaning_at s (Phase.LoadingMarker block) v = program-on s block

abbrev pub meaning : NandPlace → ℕ → Prog Left
meaning s v = meaning_at s.setup s.phase v

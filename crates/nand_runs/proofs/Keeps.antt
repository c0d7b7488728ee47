-- What a call keeps from transfer to transfer: one walk through its phases, for whatever is said of what follows.
use Rattle.std.specs.Prelude.{Ok, Err, Option, Some, None}
use Rattle.spi_flash.specs.Range.{span}
use Prim.Native.Nat.{ℕ, ◌+◌, ◌%◌}
use mathlib.Core.Bool.{Bool, true, false}
use mathlib.Core.Path.{◌≡◌, refl}
use lib.Dec.{ltb, leb, eqb}
use Rattle.std.specs.Prelude.{Err}
use Rattle.qspi.specs.Choice.{pick}
use Rattle.qspi.proofs.Cases.{keeps-pick}
use Rattle.qspi.specs.declared.transfer.Payload.{Payload}
use Rattle.qspi.specs.declared.transfer.Sink.{Sink}
use Rattle.qspi.specs.declared.transfer.Transfer.{Transfer}
use Rattle.qspi.specs.Frame.{Outcome}
use Rattle.spi_flash.proofs.Machine.{Onward}
use Rattle.spi_flash.specs.Wait.{first_wait, next_wait}
use Rattle.spi_flash.specs.declared.error.FlashError.{FlashError}
use Rattle.spi_flash.specs.declared.wait.Wait.{Wait}
use Rattle.spi_nand.specs.Config.{in_bounds, page_count_of, first_page_of, wanted_for}
use Rattle.spi_nand.specs.Opcode.{timings_of}
use Rattle.spi_nand.specs.Status.{status_of, busy_of, write_enabled_of, erase_failed_of, program_failed_of, verdict_of, configuration_of, protection_of, quad_enabled_of, same_configuration, is_unlocked}
use Rattle.spi_nand.specs.declared.config.NandGeometry.{NandGeometry}
use Rattle.spi_nand.specs.declared.config.NandJedecId.{NandJedecId}
use Rattle.spi_nand.specs.declared.status.Configuration.{Configuration}
use Rattle.spi_nand.specs.declared.status.Protection.{Protection}
use Rattle.spi_nand.specs.declared.status.Status.{Status}
use Rattle.spi_nand.proofs.Geometries.{geometries-hold}
use Rattle.spi_nand.specs.declared.answer.Answer.{Answer}
use Rattle.spi_nand.specs.Setup.{identified_as, with_before, with_protection, with_after}
use Rattle.spi_nand.specs.Transfer.{in_cache, in_range, place_of, page_at, column_at, chunk_of, filler_of, task_operation}
use Rattle.spi_nand.specs.declared.phase.Asked.{Asked}
use Rattle.spi_nand.specs.declared.phase.EnableFor.{EnableFor}
use Rattle.spi_nand.specs.declared.phase.EraseFor.{EraseFor}
use Rattle.spi_nand.specs.declared.phase.LoadFor.{LoadFor}
use Rattle.spi_nand.specs.declared.phase.MarkerFor.{MarkerFor}
use Rattle.spi_nand.specs.declared.phase.EnableStep.{EnableStep}
use Rattle.spi_nand.specs.declared.phase.Phase.{Phase}
use Rattle.spi_nand.specs.declared.phase.WaitStep.{WaitStep}
use Rattle.spi_nand.specs.declared.phase.ProgramFor.{ProgramFor}
use Rattle.spi_nand.specs.declared.phase.RegisterFor.{RegisterFor}
use Rattle.spi_nand.specs.declared.phase.ResetFor.{ResetFor}
use Rattle.spi_nand.specs.declared.phase.Task.{Task}
use Rattle.spi_nand.specs.declared.setup.Setup.{Setup}
use Rattle.nand_steps.specs.Register.{id_of, geometry_at, geometry_for, identified_then, configured_then, configure_then, check_configuration, unprotected_then, unprotect_then, disable_quad, quad_disabled, written_then}
use Rattle.nand_steps.specs.Cache.{read_cache_then, piece_then, compared_then, load_program_then, payload_length}
use Rattle.spi_nand.specs.Verdict.{asks_verdict}
use Rattle.spi_nand.specs.Verdict.{uncorrectable}
use Rattle.nand_steps.specs.Page.{page_read_then, is_bad_then, accepted_then, loaded_then, judged_then, program_then, after_program, programmed_then, read_page_then, write_page_then}
use Rattle.nand_steps.specs.Read.{read_from, read_then}
use Rattle.nand_steps.specs.Block.{is_bad, erase_then, after_erase, erased_then, marker_then, fill_from}
use Rattle.nand_steps.specs.Then.{Then}
use Rattle.nand_steps.specs.Go.{go_to, end_with}
use Rattle.nand_driver.specs.Wait.{reset_then, resume_task, judge_task, wait_then, waiting_then}
use Rattle.nand_driver.specs.Next.{enabled_then, latched_then, enabling_then, identify_then, answered_then, after_phase, next_of}
use Rattle.flash_runs.proofs.Supplies.{Stays}
use Rattle.nand_driver.specs.Settle.{then_as}
use Rattle.nand_runs.proofs.Places.{decide, Valid}

-- ---- the phases of a construction are told by what they are within

module _ (Ok : Bool → Type 0) where
  abbrev pub OkRegister : RegisterFor → Type 0
  OkRegister RegisterFor.Call = Unit {0}
  OkRegister (RegisterFor.Configure before within) = Ok within
  OkRegister RegisterFor.DisableQuad = Unit {0}
  OkRegister (RegisterFor.Unprotect before within) = Ok within

  abbrev pub OkEnable : EnableFor → Type 0
  OkEnable EnableFor.Call = Unit {0}
  OkEnable (EnableFor.Register register value why) = OkRegister why
  OkEnable (EnableFor.WritePage page) = Unit {0}
  OkEnable (EnableFor.Erase block why) = Unit {0}
  OkEnable (EnableFor.MarkBad block) = Unit {0}

  abbrev pub OkReset : ResetFor → Type 0
  OkReset ResetFor.Reset = Unit {0}
  OkReset (ResetFor.Identify within) = Ok within

  abbrev pub OkTask : Task → Type 0
  OkTask (Task.Reset why) = OkReset why
  OkTask (Task.Register why) = OkRegister why
  OkTask (Task.Load why) = Unit {0}
  OkTask (Task.Program why) = Unit {0}
  OkTask (Task.Erase why) = Unit {0}

  abbrev pub OkAsked : Asked → Type 0
  OkAsked Asked.Status = Unit {0}
  OkAsked Asked.Configuration = Unit {0}
  OkAsked Asked.Protection = Unit {0}
  OkAsked (Asked.Id within) = Ok within
  OkAsked (Asked.Configure within) = Ok within
  OkAsked (Asked.Configured before within) = Ok within
  OkAsked (Asked.Unprotect within) = Ok within
  OkAsked Asked.BroughtUp = Ok true
  OkAsked Asked.DisableQuad = Unit {0}
  OkAsked Asked.QuadDisabled = Unit {0}

  abbrev pub OkPhase : Phase → Type 0
  OkPhase Phase.Raised = Ok true
  OkPhase (Phase.Asking asked) = OkAsked asked
  OkPhase (Phase.Enabling why EnableStep.Command) = OkEnable why
  OkPhase (Phase.Enabling why EnableStep.Latch) = OkEnable why
  OkPhase (Phase.Waiting task WaitStep.Command) = OkTask task
  OkPhase (Phase.Waiting task (WaitStep.Look waited)) = OkTask task
  OkPhase (Phase.Waiting task (WaitStep.Pause waited)) = OkTask task
  OkPhase (Phase.Waiting task WaitStep.Verdict) = OkTask task
  OkPhase Phase.ReadingCache = Unit {0}
  OkPhase Phase.Comparing = Unit {0}
  OkPhase (Phase.ReadingMarker why) = Unit {0}
  OkPhase (Phase.Reading p) = Unit {0}
  OkPhase Phase.LoadingData = Unit {0}
  OkPhase (Phase.LoadingPage page) = Unit {0}
  OkPhase (Phase.LoadingFiller block column) = Unit {0}
  OkPhase (Phase.LoadingMarker block) = Unit {0}

-- every phase is ok where everything is
module _ where
  abbrev Any : Bool → Type 0
  Any within = Unit {0}

  any-register : (why : RegisterFor) → OkRegister Any why
  any-register RegisterFor.Call = tt
  any-register (RegisterFor.Configure before within) = tt
  any-register RegisterFor.DisableQuad = tt
  any-register (RegisterFor.Unprotect before within) = tt

  any-enable : (why : EnableFor) → OkEnable Any why
  any-enable EnableFor.Call = tt
  any-enable (EnableFor.Register register value why) = any-register why
  any-enable (EnableFor.WritePage page) = tt
  any-enable (EnableFor.Erase block why) = tt
  any-enable (EnableFor.MarkBad block) = tt

  any-task : (task : Task) → OkTask Any task
  any-task (Task.Reset ResetFor.Reset) = tt
  any-task (Task.Reset (ResetFor.Identify within)) = tt
  any-task (Task.Register why) = any-register why
  any-task (Task.Load why) = tt
  any-task (Task.Program why) = tt
  any-task (Task.Erase why) = tt

  any-asked : (asked : Asked) → OkAsked Any asked
  any-asked Asked.Status = tt
  any-asked Asked.Configuration = tt
  any-asked Asked.Protection = tt
  any-asked (Asked.Id within) = tt
  any-asked (Asked.Configure within) = tt
  any-asked (Asked.Configured before within) = tt
  any-asked (Asked.Unprotect within) = tt
  any-asked Asked.BroughtUp = tt
  any-asked Asked.DisableQuad = tt
  any-asked Asked.QuadDisabled = tt

  pub all-ok : (phase : Phase) → OkPhase Any phase
  all-ok Phase.Raised = tt
  all-ok (Phase.Asking asked) = any-asked asked
  all-ok (Phase.Enabling why EnableStep.Command) = any-enable why
  all-ok (Phase.Enabling why EnableStep.Latch) = any-enable why
  all-ok (Phase.Waiting task WaitStep.Command) = any-task task
  all-ok (Phase.Waiting task (WaitStep.Look waited)) = any-task task
  all-ok (Phase.Waiting task (WaitStep.Pause waited)) = any-task task
  all-ok (Phase.Waiting task WaitStep.Verdict) = any-task task
  all-ok Phase.ReadingCache = tt
  all-ok Phase.Comparing = tt
  all-ok (Phase.ReadingMarker why) = tt
  all-ok (Phase.Reading p) = tt
  all-ok Phase.LoadingData = tt
  all-ok (Phase.LoadingPage page) = tt
  all-ok (Phase.LoadingFiller block column) = tt
  all-ok (Phase.LoadingMarker block) = tt

-- ---- the walk

-- R holds of every step that goes on with a setup of which In holds, in a phase that is ok; In is kept by what bring_up puts down
pub record Passes (Ok : Bool → Type 0) (In : Setup → Type 0) (R : Then → Type 0) : Type 0 where
  pub go : (s : Setup) (t : Transfer) (phase : Phase) → In s → OkPhase Ok phase → R (go_to s t phase)
  pub end : (s : Setup) (answer : Answer) → In s → R (end_with s answer)
  pub fail : (e : FlashError) → R (Err e)
  pub identified : (s : Setup) (id : NandJedecId) → Ok true → In s → In (identified_as s (geometry_for s id) id)
  pub before : (s : Setup) (c : Configuration) → Ok true → In s → In (with_before s c)
  pub protection : (s : Setup) (p : Protection) → Ok true → In s → In (with_protection s p)
  pub after : (s : Setup) (c : Configuration) → Ok true → In s → In (with_after s c)

module _ {Ok : Bool → Type 0} {In : Setup → Type 0} {R : Then → Type 0} (passes : Passes Ok In R) where
  abbrev chosen : (b : Bool) {x y : Then} → R x → R y → R (pick b x y)
  chosen b {x} {y} h k = keeps-pick R b x y h k

  module _ (s : Setup) (i : In s) where
    abbrev goes : {t : Transfer} {phase : Phase} → OkPhase Ok phase → R (go_to s t phase)
    goes {t} {phase} h = passes.go s t phase i h

    abbrev ends : {answer : Answer} → R (end_with s answer)
    ends {answer} = passes.end s answer i

    abbrev fails : {e : FlashError} → R (Err e)
    fails {e} = passes.fail e

    -- ---- the cache, loads and programs

    pub keeps-read-cache : (column n : ℕ) (sink : Sink) (phase : Phase) → OkPhase Ok phase → R (read_cache_then s column n sink phase)
    unfolding read_cache_then
    keeps-read-cache column n sink phase h = chosen (in_cache s.geometry column n) (goes h) fails

    pub keeps-load-data : (column : ℕ) (payload : Payload) (phase : Phase) → OkPhase Ok phase → R (load_program_then s column payload phase)
    unfolding load_program_then
    keeps-load-data column payload phase h = chosen (in_cache s.geometry column (payload_length payload)) (goes h) fails

    keeps-compared : (same : ℕ) → R (compared_then s same)
    unfolding compared_then
    keeps-compared same = chosen (eqb same 0) fails ends

    pub keeps-page-read : (page : ℕ) (why : LoadFor) → R (page_read_then s page why)
    unfolding page_read_then
    keeps-page-read page why = chosen (ltb page (page_count_of s.geometry)) (goes tt) fails

    pub keeps-is-bad : (block : ℕ) (why : MarkerFor) → R (is_bad_then s block why)
    unfolding is_bad_then
    keeps-is-bad block why = chosen (ltb block s.geometry.block_count) (goes tt) fails

    keeps-accepted : (why : LoadFor) → R (accepted_then s why)
    unfolding accepted_then piece_then
    keeps-accepted LoadFor.PageRead = ends
    keeps-accepted LoadFor.ReadPage = keeps-read-cache 0 s.geometry.page_size (Sink.Buffer 0) Phase.ReadingCache tt
    keeps-accepted LoadFor.Verify = keeps-read-cache 0 s.geometry.page_size (Sink.Compare 0) Phase.Comparing tt
    keeps-accepted (LoadFor.Marker why) = keeps-read-cache s.geometry.page_size 1 Sink.Number (Phase.ReadingMarker why) tt
    keeps-accepted (LoadFor.Read p) =
        keeps-read-cache (column_at s.geometry (place_of p.offset p.done)) (chunk_of s.geometry p.offset p.len p.done) (Sink.Buffer p.done) (Phase.Reading p) tt

    keeps-loaded : (why : LoadFor) → R (loaded_then s why)
    unfolding loaded_then
    keeps-loaded why = chosen (asks_verdict why) (goes tt) (keeps-accepted why)

    keeps-judged : (why : LoadFor) (status : Status) → R (judged_then s why status)
    unfolding judged_then
    keeps-judged why status = chosen (uncorrectable (verdict_of status)) fails (keeps-accepted why)

    pub keeps-program : (page : ℕ) (why : ProgramFor) → R (program_then s page why)
    unfolding program_then
    keeps-program page why = chosen (ltb page (page_count_of s.geometry)) (goes tt) fails

    keeps-after-program : (why : ProgramFor) → R (after_program s why)
    keeps-after-program ProgramFor.Call = ends
    keeps-after-program (ProgramFor.WritePage page) = keeps-page-read page LoadFor.Verify
    keeps-after-program (ProgramFor.MarkBad block) = keeps-is-bad block MarkerFor.Confirm

    keeps-programmed : (why : ProgramFor) (status : Status) → R (programmed_then s why status)
    unfolding programmed_then
    keeps-programmed why status = chosen (program_failed_of status) fails (keeps-after-program why)

    keeps-read : (offset n done : ℕ) → R (read_from s offset n done)
    unfolding read_from
    keeps-read offset n done = chosen (ltb done n) (keeps-page-read (page_at s.geometry (place_of offset done)) (LoadFor.Read (span offset n done))) ends

    -- ---- blocks

    pub keeps-erase : (block : ℕ) (why : EraseFor) → R (erase_then s block why)
    unfolding erase_then
    keeps-erase block why = chosen (ltb block s.geometry.block_count) (goes tt) fails

    keeps-after-erase : (why : EraseFor) → R (after_erase s why)
    keeps-after-erase EraseFor.Call = ends
    keeps-after-erase (EraseFor.MarkBad block) = goes tt

    keeps-erased : (why : EraseFor) (status : Status) → R (erased_then s why status)
    unfolding erased_then
    keeps-erased why status = chosen (erase_failed_of status) fails (keeps-after-erase why)

    keeps-marker : (why : MarkerFor) (marker : ℕ) → R (marker_then s why marker)
    unfolding marker_then
    keeps-marker MarkerFor.Call marker = ends
    keeps-marker (MarkerFor.Check block) marker = chosen (is_bad marker) ends (keeps-erase block (EraseFor.MarkBad block))
    keeps-marker MarkerFor.Confirm marker = chosen (is_bad marker) ends fails

    keeps-fill : (block column : ℕ) → R (fill_from s block column)
    unfolding fill_from
    keeps-fill block column =
        chosen (ltb column s.geometry.page_size)
        (keeps-load-data column (Payload.Filler (filler_of s.geometry column)) (Phase.LoadingFiller block column) tt)
        (keeps-load-data s.geometry.page_size Payload.Marker (Phase.LoadingMarker block) tt)

    -- ---- the whole calls

    pub keeps-read-call : (offset n : ℕ) → R (read_then s offset n)
    unfolding read_then
    keeps-read-call offset n = chosen (in_range s.geometry offset n) (keeps-read offset n 0) fails

    pub keeps-read-page : (page n : ℕ) → R (read_page_then s page n)
    unfolding read_page_then
    keeps-read-page page n = chosen (eqb n s.geometry.page_size) (keeps-page-read page LoadFor.ReadPage) fails

    pub keeps-write-page : (page n : ℕ) → R (write_page_then s page n)
    unfolding write_page_then
    keeps-write-page page n = chosen (eqb n s.geometry.page_size) (chosen (ltb page (page_count_of s.geometry)) (goes tt) fails) fails

    -- ---- the registers

    keeps-unprotected : (p : Protection) (within : Bool) → Ok within → R (unprotected_then s p within)
    unfolding unprotected_then
    keeps-unprotected p false h = ends
    keeps-unprotected p true h = passes.go _ _ _ (passes.protection s p h i) h

    keeps-unprotect : (p : Protection) (within : Bool) → Ok within → R (unprotect_then s p within)
    unfolding unprotect_then
    keeps-unprotect p within h = chosen (is_unlocked p) (keeps-unprotected p within h) (goes h)

    keeps-configured : (c : Configuration) (within : Bool) → Ok within → R (configured_then s c within)
    unfolding configured_then
    keeps-configured c false h = ends
    keeps-configured c true h = passes.go _ _ _ (passes.before s c h i) h

    keeps-configure : (c : Configuration) (within : Bool) → Ok within → R (configure_then s c within)
    unfolding configure_then
    keeps-configure c within h = chosen (same_configuration (wanted_for s.config c) c) (keeps-configured c within h) (goes h)

    keeps-check : (c : Configuration) (within : Bool) (after : Configuration) → Ok within → R (check_configuration s c within after)
    unfolding check_configuration
    keeps-check c within after h = chosen (same_configuration after (wanted_for s.config c)) (keeps-configured c within h) fails

    keeps-disable : (c : Configuration) → R (disable_quad s c)
    unfolding disable_quad
    keeps-disable c = chosen (quad_enabled_of c) (goes tt) ends

    keeps-disabled : (c : Configuration) → R (quad_disabled s c)
    unfolding quad_disabled
    keeps-disabled c = chosen (quad_enabled_of c) fails ends

    keeps-written : (why : RegisterFor) → OkRegister Ok why → R (written_then s why)
    unfolding written_then
    keeps-written RegisterFor.Call h = ends
    keeps-written (RegisterFor.Configure c within) h = goes h
    keeps-written RegisterFor.DisableQuad h = goes tt
    keeps-written (RegisterFor.Unprotect p within) h = keeps-unprotected p within h

    keeps-identify : (id : NandJedecId) (within : Bool) → Ok within → R (identify_then s id within)
    unfolding identify_then identified_then
    keeps-identify id false h = ends
    keeps-identify id true h = chosen (leb (geometry_for s id).page_size 4096) (passes.go _ _ _ (passes.identified s id h i) h) fails

    -- ---- every phase

    keeps-enabled : (why : EnableFor) → OkEnable Ok why → R (enabled_then s why)
    unfolding enabled_then
    keeps-enabled EnableFor.Call h = ends
    keeps-enabled (EnableFor.Register register value why) h = goes h
    keeps-enabled (EnableFor.WritePage page) h = keeps-load-data 0 (Payload.Data 0 s.geometry.page_size) (Phase.LoadingPage page) tt
    keeps-enabled (EnableFor.Erase block why) h = goes tt
    keeps-enabled (EnableFor.MarkBad block) h = keeps-fill block 0

    keeps-latched : (why : EnableFor) (status : Status) → OkEnable Ok why → R (latched_then s why status)
    unfolding latched_then
    keeps-latched why status h = chosen (write_enabled_of status) (keeps-enabled why h) fails

    keeps-reset : (why : ResetFor) → OkReset Ok why → R (reset_then s why)
    unfolding reset_then
    keeps-reset ResetFor.Reset h = ends
    keeps-reset (ResetFor.Identify within) h = goes h

    keeps-task : (task : Task) → OkTask Ok task → R (resume_task s task)
    unfolding resume_task
    keeps-task (Task.Reset why) h = keeps-reset why h
    keeps-task (Task.Register why) h = keeps-written why h
    keeps-task (Task.Load why) h = keeps-loaded why
    keeps-task (Task.Program why) h = goes tt
    keeps-task (Task.Erase why) h = goes tt

    keeps-task-judged : (task : Task) (status : Status) → OkTask Ok task → R (judge_task s task status)
    unfolding judge_task
    keeps-task-judged (Task.Reset why) status h = keeps-reset why h
    keeps-task-judged (Task.Register why) status h = keeps-written why h
    keeps-task-judged (Task.Load why) status h = keeps-judged why status
    keeps-task-judged (Task.Program why) status h = keeps-programmed why status
    keeps-task-judged (Task.Erase why) status h = keeps-erased why status

    keeps-wait : (task : Task) (w : Wait) → OkTask Ok task → R (wait_then s task w)
    unfolding wait_then
    keeps-wait task Wait.Look h = goes h
    keeps-wait task (Wait.Pause us waited) h = goes h
    keeps-wait task Wait.Ready h = keeps-task task h
    keeps-wait task Wait.Timeout h = fails

    keeps-answered : (asked : Asked) (v : ℕ) → OkAsked Ok asked → R (answered_then s asked v)
    unfolding answered_then
    keeps-answered Asked.Status v h = ends
    keeps-answered Asked.Configuration v h = ends
    keeps-answered Asked.Protection v h = ends
    keeps-answered (Asked.Id within) v h = keeps-identify (id_of v) within h
    keeps-answered (Asked.Configure within) v h = keeps-configure (configuration_of (v % 256)) within h
    keeps-answered (Asked.Configured c within) v h = keeps-check c within (configuration_of (v % 256)) h
    keeps-answered (Asked.Unprotect within) v h = keeps-unprotect (protection_of (v % 256)) within h
    keeps-answered Asked.BroughtUp v h = passes.end _ _ (passes.after s (configuration_of (v % 256)) h i)
    keeps-answered Asked.DisableQuad v h = keeps-disable (configuration_of (v % 256))
    keeps-answered Asked.QuadDisabled v h = keeps-disabled (configuration_of (v % 256))

    pub keeps-phase : (phase : Phase) (v : ℕ) → OkPhase Ok phase → R (after_phase s phase v)
    unfolding after_phase enabling_then waiting_then
    keeps-phase Phase.Raised v h = goes h
    keeps-phase (Phase.Asking asked) v h = keeps-answered asked v h
    keeps-phase (Phase.Enabling why EnableStep.Command) v h = goes h
    keeps-phase (Phase.Enabling why EnableStep.Latch) v h = keeps-latched why (status_of (v % 256)) h
    keeps-phase (Phase.Waiting task WaitStep.Command) v h = keeps-wait task (first_wait (timings_of (task_operation task))) h
    keeps-phase (Phase.Waiting task (WaitStep.Look waited)) v h = keeps-wait task (next_wait (timings_of (task_operation task)) waited (busy_of (status_of (v % 256)))) h
    keeps-phase (Phase.Waiting task (WaitStep.Pause waited)) v h = goes h
    keeps-phase (Phase.Waiting task WaitStep.Verdict) v h = keeps-task-judged task (status_of (v % 256)) h
    keeps-phase Phase.ReadingCache v h = ends
    keeps-phase Phase.Comparing v h = keeps-compared v
    keeps-phase (Phase.ReadingMarker why) v h = keeps-marker why (v % 256)
    keeps-phase (Phase.Reading p) v h = keeps-read p.offset p.len (p.done + chunk_of s.geometry p.offset p.len p.done)
    keeps-phase Phase.LoadingData v h = ends
    keeps-phase (Phase.LoadingPage page) v h = keeps-program page (ProgramFor.WritePage page)
    keeps-phase (Phase.LoadingFiller block column) v h = keeps-fill block (column + filler_of s.geometry column)
    keeps-phase (Phase.LoadingMarker block) v h = keeps-program (first_page_of s.geometry block) (ProgramFor.MarkBad block)

-- ---- a geometry within the bounds stays so

-- the geometry of a known part is
pub resolved-inside : (setting : Option NandGeometry) (g : NandGeometry) (id : NandJedecId) → in_bounds g ≡ true → in_bounds (geometry_at setting g id) ≡ true
resolved-inside None g id h = (geometries-hold.known id).bounds
resolved-inside (Some own) g id h = h

pub inside : Passes (λ within. Unit {0}) (λ s. in_bounds s.geometry ≡ true) (λ x. Onward Valid (decide x))
unfolding geometry_for
inside = record {
  go = λ s t phase i h. i;
  end = λ s answer i. tt;
  fail = λ e. tt;
  identified = λ s id h i. resolved-inside s.config.geometry s.geometry id i;
  before = λ s c h i. i;
  protection = λ s p h i. i;
  after = λ s c h i. i;
}

pub keeps : (s : Setup) → in_bounds s.geometry ≡ true → (phase : Phase) (v : ℕ) → Onward Valid (decide (after_phase s phase v))
keeps s i phase v = keeps-phase inside s i phase v (all-ok phase)

-- ---- a call on a driver that is built goes on with what the driver holds

abbrev pub OnlyCalls : Bool → Type 0
OnlyCalls false = Unit {0}
OnlyCalls true = ⊥

-- the phases of such a call
abbrev pub Built : Phase → Type 0
Built phase = OkPhase OnlyCalls phase

pub stays : (s : Setup) → Passes OnlyCalls (λ setup. setup ≡ s) (λ x. Stays Built s (then_as x))
stays s = record {
  go = λ setup t phase i h. (i, h);
  end = λ setup answer i. i;
  fail = λ e. tt;
  identified = λ setup id h i. absurd h;
  before = λ setup c h i. absurd h;
  protection = λ setup p h i. absurd h;
  after = λ setup c h i. absurd h;
}

pub stays-next : (s : Setup) (phase : Phase) (o : Outcome) → Built phase → Stays Built s (then_as (next_of s phase o))
unfolding next_of
stays-next s phase (Ok v) h = keeps-phase (stays s) s refl phase v h
stays-next s phase (Err error) h = tt

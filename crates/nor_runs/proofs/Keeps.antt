-- What a call keeps from transfer to transfer.
use Rattle.std.specs.Prelude.{Option, Some, None}
use Rattle.spi_nor.specs.declared.config.NorQuadConfig.{NorQuadConfig}
use Prim.Native.Nat.{ℕ, ◌+◌}
use mathlib.Core.Bool.{true, not}
use mathlib.Core.Path.{◌≡◌, refl}
use lib.Dec.{ltb, leb, eqb}
use Rattle.std.specs.Prelude.{Err}
use Rattle.qspi.proofs.Cases.{keeps-pick}
use Rattle.spi_flash.specs.Wait.{first_wait, next_wait}
use Rattle.spi_flash.proofs.Machine.{Onward}
use Rattle.spi_flash.specs.declared.wait.Wait.{Wait}
use Rattle.spi_nor.specs.Opcode.{timings_of}
use Rattle.spi_nor.specs.Status.{busy_of, write_enabled_of, quad_enabled1_of, quad_enabled2_of, unprotected1_of, unprotected2_of}
use Rattle.spi_nor.specs.Transfer.{place_of, chunk_of, page_of, task_operation, multiple_of, unit_size, step_kind, after_unit}
use Rattle.qspi.specs.Bytes.{byte_of}
use Rattle.nor_driver.specs.Next.{after_phase}
use Rattle.spi_flash.specs.Range.{range_in_bounds}
use Rattle.nor_steps.specs.Register.{id_of, device_at, device_for, known_as, built_then, identified_then}
use Rattle.nor_steps.specs.Read.{read_from}
use Rattle.nor_steps.specs.Write.{program_from, verify_then, verified_then}
use Rattle.nor_steps.specs.Go.{go_to, end_with}
use Rattle.nor_driver.specs.Wait.{latched_then, resume_task, wait_then, writing_then}
use Rattle.nor_steps.specs.Erase.{erase_unit, erase_from}
use Rattle.nor_steps.specs.Protection.{unprotect_first, unprotect_second}
use Rattle.spi_nor.specs.Config.{in_bounds_of, from_jedec}
use Rattle.spi_nor.proofs.DeviceBounds.{device_bounds}
use Rattle.spi_nor.specs.declared.config.NorDeviceInfo.{NorDeviceInfo}
use Rattle.spi_nor.specs.declared.config.NorJedecId.{NorJedecId}
use Rattle.spi_nor.specs.declared.phase.EraseKind.{EraseKind}
use Rattle.spi_nor.specs.declared.phase.Phase.{Phase}
use Rattle.spi_nor.specs.declared.phase.Task.{Task}
use Rattle.spi_nor.specs.declared.phase.WriteStep.{WriteStep}
use Rattle.spi_nor.specs.declared.answer.Answer.{Answer}
use Rattle.qspi.specs.declared.transfer.Transfer.{Transfer}
use Rattle.spi_flash.specs.declared.error.FlashError.{FlashError}
use Rattle.spi_nor.specs.declared.setup.Setup.{Setup}
use Rattle.nor_steps.specs.Then.{Then}
use Rattle.nor_runs.proofs.Places.{decide, Valid, Built, Stays}

-- what holds of every step of a call on a built driver that holds s
pub record Passes (R : Then → Type 0) (s : Setup) : Type 0 where
  pub go : (t : Transfer) (phase : Phase) → Built phase → R (go_to s t phase)
  pub end : (answer : Answer) → R (end_with s answer)
  pub fail : (e : FlashError) → R (Err e)

-- such a call goes on with what the driver holds
pub stays : (s : Setup) → Passes (Stays s) s
stays s = record { go = λ t phase h. (refl, h); end = λ answer. refl; fail = λ e. tt }

module _ (R : Then → Type 0) (s : Setup) (passes : Passes R s) where
  keeps-latched : (task : Task) (b : ℕ) → R (latched_then s task b)
  unfolding latched_then
  keeps-latched task b = keeps-pick R (write_enabled_of b) _ _ (passes.go _ _ tt) (passes.fail _)

  pub keeps-read : (offset len done : ℕ) → R (read_from s offset len done)
  unfolding read_from
  keeps-read offset len done = keeps-pick R (ltb done len) _ _ (passes.go _ _ tt) (passes.end _)

  pub keeps-program : (offset len done : ℕ) → R (program_from s offset len done)
  unfolding program_from
  keeps-program offset len done = keeps-pick R (ltb done len) _ _ (passes.go _ _ tt) (passes.end _)

  keeps-verify : (offset len done : ℕ) → R (verify_then s offset len done)
  unfolding verify_then
  keeps-verify offset len done = keeps-pick R (range_in_bounds s.device.capacity (place_of offset done) (page_of s.device len done)) _ _ (passes.go _ _ tt) (passes.fail _)

  keeps-verified : (offset len done v : ℕ) → R (verified_then s offset len done v)
  unfolding verified_then
  keeps-verified offset len done v = keeps-pick R (eqb v 0) _ _ (passes.fail _) (keeps-program offset len (done + page_of s.device len done))

  pub keeps-unit : (kind : EraseKind) (address to : ℕ) → R (erase_unit s kind address to)
  unfolding erase_unit
  keeps-unit kind address to =
      keeps-pick R (range_in_bounds s.device.capacity address (unit_size s.device kind)) _ _
      (keeps-pick R (multiple_of address (unit_size s.device kind)) _ _ (passes.go _ _ tt) (passes.fail _)) (passes.fail _)

  pub keeps-erase : (address to : ℕ) → R (erase_from s address to)
  unfolding erase_from
  keeps-erase address to = keeps-pick R (ltb address to) _ _ (keeps-unit (step_kind s.device address to) address to) (passes.end _)

  keeps-second : (before status2 : ℕ) → R (unprotect_second s before status2)
  unfolding unprotect_second
  keeps-second before status2 = keeps-pick R (eqb (unprotected2_of status2) status2) _ _ (passes.go _ _ tt) (passes.go _ _ tt)

  keeps-first : (before status2 : ℕ) → R (unprotect_first s before status2)
  unfolding unprotect_first
  keeps-first before status2 = keeps-pick R (eqb (unprotected1_of before) before) _ _ (keeps-second before status2) (passes.go _ _ tt)

  keeps-task : (task : Task) → R (resume_task s task)
  unfolding resume_task
  keeps-task (Task.EnableQuad2 x) = passes.go _ _ tt
  keeps-task (Task.EnableQuad1 x) = passes.go _ _ tt
  keeps-task (Task.DisableQuad2 x) = passes.go _ _ tt
  keeps-task (Task.DisableQuad1 x) = passes.go _ _ tt
  keeps-task (Task.Unprotect1 before status2) = keeps-second before status2
  keeps-task (Task.Unprotect2 before status2) = passes.go _ _ tt
  keeps-task (Task.PageProgram p) = keeps-verify p.offset p.len p.done
  keeps-task (Task.Erase kind address to) = keeps-erase (after_unit s.device kind address) to

  keeps-wait : (task : Task) (w : Wait) → R (wait_then s task w)
  unfolding wait_then
  keeps-wait task Wait.Look = passes.go _ _ tt
  keeps-wait task (Wait.Pause us waited) = passes.go _ _ tt
  keeps-wait task Wait.Ready = keeps-task task
  keeps-wait task Wait.Timeout = passes.fail _

  pub keeps-built : (phase : Phase) → Built phase → (v : ℕ) → R (after_phase s phase v)
  unfolding after_phase writing_then
  keeps-built Phase.Raised h v = absurd h
  keeps-built Phase.Identify h v = absurd h
  keeps-built Phase.Status1 h v = passes.end _
  keeps-built Phase.Status2 h v = passes.end _
  keeps-built Phase.Busy h v = passes.end _
  keeps-built Phase.JedecId h v = passes.end _
  keeps-built Phase.UniqueId h v = passes.end _
  keeps-built Phase.QuadEnabled2 h v = keeps-pick R (quad_enabled2_of (byte_of v)) _ _ (passes.end _) (passes.go _ _ tt)
  keeps-built Phase.QuadEnabled1 h v = passes.end _
  keeps-built Phase.EnableCheck2 h v = keeps-pick R (quad_enabled2_of (byte_of v)) _ _ (passes.end _) (passes.go _ _ tt)
  keeps-built Phase.EnableCheck1 h v = keeps-pick R (quad_enabled1_of (byte_of v)) _ _ (passes.end _) (passes.go _ _ tt)
  keeps-built Phase.EnableRead2 h v = passes.go _ _ tt
  keeps-built Phase.EnableVerify2 h v = keeps-pick R (quad_enabled2_of (byte_of v)) _ _ (passes.end _) (passes.go _ _ tt)
  keeps-built Phase.EnableRead1 h v = passes.go _ _ tt
  keeps-built Phase.EnableVerify1 h v = keeps-pick R (quad_enabled1_of (byte_of v)) _ _ (passes.end _) (passes.fail _)
  keeps-built Phase.DisableRead2 h v = keeps-pick R (quad_enabled2_of (byte_of v)) _ _ (passes.go _ _ tt) (passes.go _ _ tt)
  keeps-built Phase.DisableVerify2 h v = keeps-pick R (not (quad_enabled2_of (byte_of v))) _ _ (passes.end _) (passes.fail _)
  keeps-built Phase.DisableRead1 h v = keeps-pick R (quad_enabled1_of (byte_of v)) _ _ (passes.go _ _ tt) (passes.end _)
  keeps-built Phase.DisableVerify1 h v = keeps-pick R (not (quad_enabled1_of (byte_of v))) _ _ (passes.end _) (passes.fail _)
  keeps-built Phase.UnprotectRead1 h v = passes.go _ _ tt
  keeps-built (Phase.UnprotectRead2 before) h v = keeps-first before (byte_of v)
  keeps-built (Phase.UnprotectAfter before) h v = passes.end _
  keeps-built (Phase.Reading p) h v = keeps-read p.offset p.len (p.done + chunk_of p.len p.done)
  keeps-built (Phase.Verifying p) h v = keeps-verified p.offset p.len p.done v
  keeps-built (Phase.Writing task WriteStep.Enable) h v = passes.go _ _ tt
  keeps-built (Phase.Writing task WriteStep.Latch) h v = keeps-latched task (byte_of v)
  keeps-built (Phase.Writing task WriteStep.Command) h v = keeps-wait task (first_wait (timings_of (task_operation task)))
  keeps-built (Phase.Writing task (WriteStep.Look waited)) h v = keeps-wait task (next_wait (timings_of (task_operation task)) waited (busy_of (byte_of v)))
  keeps-built (Phase.Writing task (WriteStep.Pause waited)) h v = passes.go _ _ tt

-- ---- the device stays within the bounds

-- a detected device is within the bounds, and the caller's own was judged when the call began
keeps-device : (setting : Option NorDeviceInfo) (device : NorDeviceInfo) (id : NorJedecId) → in_bounds_of device ≡ true → in_bounds_of (device_at setting device id) ≡ true
keeps-device None device id h = device_bounds.accepts (from_jedec id) (device_bounds.detected id)
keeps-device (Some own) device id h = h

module _ (s : Setup) (valid : in_bounds_of s.device ≡ true) where
  pub keeps-known : (v : ℕ) → in_bounds_of (known_as s v).device ≡ true
  unfolding device_for
  keeps-known v = keeps-device s.config.device s.device (id_of v) valid

  keeps-quad : (quad : Option NorQuadConfig) (v : ℕ) → Onward Valid (decide (built_then quad (known_as s v)))
  keeps-quad None v = tt
  keeps-quad (Some q) v = keeps-known v

  keeps-identified : (v : ℕ) → Onward Valid (decide (identified_then s v))
  unfolding identified_then
  keeps-identified v = keeps-pick (λ x. Onward Valid (decide x)) (leb (device_for s (id_of v)).page_size 512) _ _ (keeps-quad s.config.quad v) tt

  going : (phase : Phase) → Built phase → (v : ℕ) → Onward Valid (decide (after_phase s phase v))
  going = keeps-built (λ x. Onward Valid (decide x)) s (record { go = λ t phase h. valid; end = λ answer. tt; fail = λ e. tt })

  pub keeps : (phase : Phase) (v : ℕ) → Onward Valid (decide (after_phase s phase v))
  unfolding after_phase
  keeps Phase.Raised v = valid
  keeps Phase.Identify v = keeps-identified v
  keeps Phase.Status1 v = going Phase.Status1 tt v
  keeps Phase.Status2 v = going Phase.Status2 tt v
  keeps Phase.Busy v = going Phase.Busy tt v
  keeps Phase.JedecId v = going Phase.JedecId tt v
  keeps Phase.UniqueId v = going Phase.UniqueId tt v
  keeps Phase.QuadEnabled2 v = going Phase.QuadEnabled2 tt v
  keeps Phase.QuadEnabled1 v = going Phase.QuadEnabled1 tt v
  keeps Phase.EnableCheck2 v = going Phase.EnableCheck2 tt v
  keeps Phase.EnableCheck1 v = going Phase.EnableCheck1 tt v
  keeps Phase.EnableRead2 v = going Phase.EnableRead2 tt v
  keeps Phase.EnableVerify2 v = going Phase.EnableVerify2 tt v
  keeps Phase.EnableRead1 v = going Phase.EnableRead1 tt v
  keeps Phase.EnableVerify1 v = going Phase.EnableVerify1 tt v
  keeps Phase.DisableRead2 v = going Phase.DisableRead2 tt v
  keeps Phase.DisableVerify2 v = going Phase.DisableVerify2 tt v
  keeps Phase.DisableRead1 v = going Phase.DisableRead1 tt v
  keeps Phase.DisableVerify1 v = going Phase.DisableVerify1 tt v
  keeps Phase.UnprotectRead1 v = going Phase.UnprotectRead1 tt v
  keeps (Phase.UnprotectRead2 before) v = going (Phase.UnprotectRead2 before) tt v
  keeps (Phase.UnprotectAfter before) v = going (Phase.UnprotectAfter before) tt v
  keeps (Phase.Reading p) v = going (Phase.Reading p) tt v
  keeps (Phase.Verifying p) v = going (Phase.Verifying p) tt v
  keeps (Phase.Writing task at) v = going (Phase.Writing task at) tt v

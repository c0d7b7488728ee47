-- A NAND driver that is built is inside the bounds, with a page of at most 4,096.
use Rattle.std.specs.Prelude.{Ok, Err, Option, Some, None}
use Prim.Native.Nat.{ℕ, ◌%◌, ◌≤◌}
use mathlib.Core.Bool.{true}
use mathlib.Core.Path.{◌≡◌}
use lib.Dec.{leb}
use borrow.Author.Tests.{leb-true}
use Rattle.qspi.specs.Frame.{Outcome}
use Rattle.qspi.proofs.Cases.{by_cases}
use Rattle.spi_flash.specs.Wait.{first_wait, next_wait}
use Rattle.spi_flash.specs.declared.wait.Wait.{Wait}
use Rattle.flash_runs.specs.Built.{BuiltInside}
use Rattle.flash_runs.proofs.Built as Built
use Rattle.spi_nand.specs.Config.{in_bounds}
use Rattle.spi_nand.specs.Opcode.{timings_of}
use Rattle.spi_nand.specs.Status.{status_of, busy_of}
use Rattle.spi_nand.specs.Transfer.{task_operation}
use Rattle.spi_nand.specs.declared.config.NandGeometry.{NandGeometry}
use Rattle.spi_nand.specs.declared.config.NandJedecId.{NandJedecId}
use Rattle.spi_nand.specs.declared.phase.Asked.{Asked}
use Rattle.spi_nand.specs.declared.phase.Phase.{Phase}
use Rattle.spi_nand.specs.declared.phase.ResetFor.{ResetFor}
use Rattle.spi_nand.specs.declared.phase.Task.{Task}
use Rattle.spi_nand.specs.declared.phase.WaitStep.{WaitStep}
use Rattle.spi_nand.specs.declared.setup.Setup.{Setup}
use Rattle.spi_nand.proofs.Geometries.{geometries-hold}
use Rattle.nand_driver.specs.Next.{answered_then, identify_then, next_of, after_phase}
use Rattle.nand_driver.specs.Settle.{then_as}
use Rattle.nand_driver.specs.Wait.{reset_then, resume_task, judge_task, wait_then, waiting_then}
use Rattle.nand_steps.specs.Register.{id_of, geometry_at, geometry_for, identified_then}
use Rattle.nand_steps.specs.Then.{Then}
use Rattle.nand_runs.specs.Run.{nand_driver}
use Rattle.nand_runs.proofs.Keeps.{Passes, keeps-phase, all-ok, resolved-inside}
use Rattle.nand_runs.proofs.Keeps as Keeps
use Rattle.nand_runs.proofs.Places.{NandPlace, parts}
use Rattle.nand_runs.proofs.Known.{known}

-- a geometry of a driver that is built
abbrev Sound : Setup → Type 0
Sound s = (in_bounds s.geometry ≡ true) × (s.geometry.page_size ≤ 4096)

-- while a construction runs: until the id is known the page has not been judged
abbrev MakingAt : Setup → Phase → Type 0
MakingAt s Phase.Raised = in_bounds s.geometry ≡ true
MakingAt s (Phase.Waiting (Task.Reset (ResetFor.Identify true)) at) = in_bounds s.geometry ≡ true
MakingAt s (Phase.Asking (Asked.Id true)) = in_bounds s.geometry ≡ true
MakingAt s phase = Sound s

abbrev Making : NandPlace → Type 0
Making p = MakingAt p.setup p.phase

abbrev Makes : Then → Type 0
Makes x = Built.MakingThen parts nand_driver.in_bounds Keeps.Built Sound Making (then_as x)

sound-making : (s : Setup) → Sound s → (phase : Phase) → MakingAt s phase
sound-making s h Phase.Raised = h.0
sound-making s h (Phase.Waiting (Task.Reset (ResetFor.Identify true)) at) = h.0
sound-making s h (Phase.Asking (Asked.Id true)) = h.0
sound-making s h phase = h

-- ---- behind the identification

resolved-page : (setting : Option NandGeometry) (g : NandGeometry) (id : NandJedecId) → g.page_size ≤ 4096 → (geometry_at setting g id).page_size ≤ 4096
resolved-page None g id h = (geometries-hold.known id).page
resolved-page (Some own) g id h = h

sound-passes : Passes (λ within. Unit {0}) Sound Makes
unfolding geometry_for
sound-passes = record {
  go = λ s t phase h k. sound-making s h phase;
  end = λ s answer h. h;
  fail = λ e. tt;
  identified = λ s id k h. (resolved-inside s.config.geometry s.geometry id h.0, resolved-page s.config.geometry s.geometry id h.1);
  before = λ s c k h. h;
  protection = λ s p k h. h;
  after = λ s c k h. h;
}

-- ---- the identification

module _ (s : Setup) (inside : in_bounds s.geometry ≡ true) where
  abbrev resetting : Task
  resetting = Task.Reset (ResetFor.Identify true)

  resumes : (w : Wait) → Makes (wait_then s resetting w)
  unfolding wait_then resume_task reset_then
  resumes Wait.Look = inside
  resumes (Wait.Pause us waited) = inside
  resumes Wait.Ready = inside
  resumes Wait.Timeout = tt

  resets : (at : WaitStep) (v : ℕ) → Makes (after_phase s (Phase.Waiting resetting at) v)
  unfolding after_phase waiting_then judge_task reset_then
  resets WaitStep.Command v = resumes (first_wait (timings_of (task_operation resetting)))
  resets (WaitStep.Look waited) v = resumes (next_wait (timings_of (task_operation resetting)) waited (busy_of (status_of (v % 256))))
  resets (WaitStep.Pause waited) v = inside
  resets WaitStep.Verdict v = inside

  identifies : (id : NandJedecId) → Makes (identified_then s id)
  unfolding identified_then geometry_for
  identifies id =
      by_cases (leb (geometry_for s id).page_size 4096)
      (λ taken. rw taken (resolved-inside s.config.geometry s.geometry id inside, leb-true _ 4096 taken))
      (λ large. rw large tt)

makes : (s : Setup) (phase : Phase) (o : Outcome) → MakingAt s phase → Makes (next_of s phase o)
unfolding next_of after_phase answered_then identify_then
makes s phase (Err error) h = tt
makes s Phase.Raised (Ok v) h = h
makes s (Phase.Waiting (Task.Reset (ResetFor.Identify true)) at) (Ok v) h = resets s h at v
makes s (Phase.Asking (Asked.Id true)) (Ok v) h = identifies s h (id_of v)
makes s phase (Ok v) h = keeps-phase sound-passes s h phase v (all-ok phase)

pub nand-built : BuiltInside nand_driver (λ s. s.geometry.page_size) 4096
nand-built = Built.built-inside known (λ s. s.geometry.page_size) 4096 Making makes (λ own inside. inside)

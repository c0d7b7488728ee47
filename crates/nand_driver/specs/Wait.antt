-- wait_ready (nand/driver.rs), cut where it uses the bus, and what goes on behind it.
use Rattle.std.specs.Prelude.{ℕ, Err}
use Rattle.qspi.specs.declared.transfer.Transfer.{Transfer}
use Rattle.spi_flash.specs.Wait.{first_wait, next_wait}
use Rattle.spi_flash.specs.declared.error.FlashError.{FlashError}
use Rattle.spi_flash.specs.declared.wait.Wait.{Wait}
use Rattle.spi_nand.specs.Opcode.{timings_of}
use Rattle.spi_nand.specs.Status.{busy_of}
use Rattle.spi_nand.specs.declared.status.Status.{Status}
use Rattle.spi_nand.specs.Transfer.{task_operation}
use Rattle.spi_nand.specs.declared.phase.Phase.{Phase}
use Rattle.spi_nand.specs.declared.phase.ResetFor.{ResetFor}
use Rattle.spi_nand.specs.declared.phase.Task.{Task}
use Rattle.spi_nand.specs.declared.phase.WaitStep.{WaitStep}
use Rattle.spi_nand.specs.declared.setup.Setup.{Setup}
use Rattle.nand_steps.specs.Go.{go_to, done, ask_id, look, verdict}
use Rattle.nand_steps.specs.Block.{erased_then}
use Rattle.nand_steps.specs.Page.{loaded_then, judged_then, programmed_then}
use Rattle.nand_steps.specs.Register.{written_then}
use Rattle.nand_steps.specs.Then.{Then}

-- reset, reset_and_identify
unfoldable pub reset_then : Setup → ResetFor → Then
reset_then setup ResetFor.Reset = done setup
reset_then setup (ResetFor.Identify bring_up) = ask_id setup bring_up

-- what stands behind `self.wait_ready(..)?` of each
unfoldable pub resume_task : Setup → Task → Then
resume_task setup (Task.Reset why) = reset_then setup why
resume_task setup (Task.Register why) = written_then setup why
resume_task setup (Task.Load why) = loaded_then setup why
resume_task setup (Task.Program why) = verdict setup (Task.Program why)
resume_task setup (Task.Erase why) = verdict setup (Task.Erase why)

-- what stands behind that status; reset and write_register read none
unfoldable pub judge_task : Setup → Task → Status → Then
judge_task setup (Task.Reset why) status = reset_then setup why
judge_task setup (Task.Register why) status = written_then setup why
judge_task setup (Task.Load why) status = judged_then setup why status
judge_task setup (Task.Program why) status = programmed_then setup why status
judge_task setup (Task.Erase why) status = erased_then setup why status

-- `self.read_status()?.busy()`
abbrev pub look_then : Setup → Task → ℕ → Then
look_then setup task waited = look setup (Phase.Waiting task (WaitStep.Look waited))

-- `self.delay.delay_us(..)`
abbrev pub pause_then : Setup → Task → ℕ → ℕ → Then
pause_then setup task us waited = go_to setup (Transfer.Pause us) (Phase.Waiting task (WaitStep.Pause waited))

-- a step of the wait
unfoldable pub wait_then : Setup → Task → Wait → Then
wait_then setup task Wait.Look = look_then setup task 0
wait_then setup task (Wait.Pause us waited) = pause_then setup task us waited
wait_then setup task Wait.Ready = resume_task setup task
wait_then setup task Wait.Timeout = Err FlashError.Timeout

-- the first step, and the one behind a look
abbrev pub sent_then : Setup → Task → Then
sent_then setup task = wait_then setup task (first_wait (timings_of (task_operation task)))

abbrev pub looked_then : Setup → Task → ℕ → Status → Then
looked_then setup task waited status = wait_then setup task (next_wait (timings_of (task_operation task)) waited (busy_of status))

-- what follows each step; a status is looked at only behind a look and at the end
unfoldable pub waiting_then : Setup → Task → WaitStep → Status → Then
waiting_then setup task WaitStep.Command status = sent_then setup task
waiting_then setup task (WaitStep.Look waited) status = looked_then setup task waited status
waiting_then setup task (WaitStep.Pause waited) status = look_then setup task waited
waiting_then setup task WaitStep.Verdict status = judge_task setup task status

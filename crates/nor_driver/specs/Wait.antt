-- A write to the part (nor/driver.rs: write_enable, the command, wait_ready), cut where it uses the bus, and what goes on behind it.
use Rattle.std.specs.Prelude.{ℕ, Err}
use Rattle.qspi.specs.Choice.{pick}
use Rattle.qspi.specs.declared.transfer.Transfer.{Transfer}
use Rattle.spi_flash.specs.Wait.{first_wait, next_wait}
use Rattle.spi_flash.specs.declared.error.FlashError.{FlashError}
use Rattle.spi_flash.specs.declared.wait.Wait.{Wait}
use Rattle.spi_nor.specs.Opcode.{timings_of}
use Rattle.spi_nor.specs.Status.{busy_of, write_enabled_of}
use Rattle.spi_nor.specs.Transfer.{task_transfer, task_operation, after_unit}
use Rattle.spi_nor.specs.declared.phase.Phase.{Phase}
use Rattle.spi_nor.specs.declared.phase.Task.{Task}
use Rattle.spi_nor.specs.declared.phase.WriteStep.{WriteStep}
use Rattle.spi_nor.specs.declared.setup.Setup.{Setup}
use Rattle.nor_steps.specs.Then.{Then}
use Rattle.nor_steps.specs.Go.{go_to, read1_then, read2_then}
use Rattle.nor_steps.specs.Protection.{unprotect_second}
use Rattle.nor_steps.specs.Write.{verify_then}
use Rattle.nor_steps.specs.Erase.{erase_from}

-- write_enable: the look at its latch
abbrev pub latch_then : Setup → Task → Then
latch_then setup task = read1_then setup (Phase.Writing task WriteStep.Latch)

-- write_enable: `if self.read_status1()? & status::WRITE_ENABLE_LATCH == 0`, and the command behind it
unfoldable pub latched_then : Setup → Task → ℕ → Then
latched_then setup task status1 =
    pick (write_enabled_of status1) (go_to setup (task_transfer setup task) (Phase.Writing task WriteStep.Command)) (Err FlashError.WriteEnableFailed)

-- what stands behind `self.wait_ready(..)?` of each
unfoldable pub resume_task : Setup → Task → Then
resume_task setup (Task.EnableQuad2 status2) = read2_then setup Phase.EnableVerify2
resume_task setup (Task.EnableQuad1 status1) = read1_then setup Phase.EnableVerify1
resume_task setup (Task.DisableQuad2 status2) = read2_then setup Phase.DisableVerify2
resume_task setup (Task.DisableQuad1 status1) = read1_then setup Phase.DisableVerify1
resume_task setup (Task.Unprotect1 before status2) = unprotect_second setup before status2
resume_task setup (Task.Unprotect2 before status2) = read1_then setup (Phase.UnprotectAfter before)
resume_task setup (Task.PageProgram s) = verify_then setup s.offset s.len s.done
resume_task setup (Task.Erase kind address end) = erase_from setup (after_unit setup.device kind address) end

-- wait_ready: `self.read_status1()?`
abbrev pub look_then : Setup → Task → ℕ → Then
look_then setup task waited = read1_then setup (Phase.Writing task (WriteStep.Look waited))

-- wait_ready: `self.delay.delay_us(..)`
abbrev pub pause_then : Setup → Task → ℕ → ℕ → Then
pause_then setup task us waited = go_to setup (Transfer.Pause us) (Phase.Writing task (WriteStep.Pause waited))

-- wait_ready: a step of it
unfoldable pub wait_then : Setup → Task → Wait → Then
wait_then setup task Wait.Look = look_then setup task 0
wait_then setup task (Wait.Pause us waited) = pause_then setup task us waited
wait_then setup task Wait.Ready = resume_task setup task
wait_then setup task Wait.Timeout = Err FlashError.Timeout

-- wait_ready: its first step, and the one behind a look
abbrev pub sent_then : Setup → Task → Then
sent_then setup task = wait_then setup task (first_wait (timings_of (task_operation task)))

abbrev pub looked_then : Setup → Task → ℕ → ℕ → Then
looked_then setup task waited status1 = wait_then setup task (next_wait (timings_of (task_operation task)) waited (busy_of status1))

-- what follows each step; the status is looked at only behind a look
unfoldable pub writing_then : Setup → Task → WriteStep → ℕ → Then
writing_then setup task WriteStep.Enable status1 = latch_then setup task
writing_then setup task WriteStep.Latch status1 = latched_then setup task status1
writing_then setup task WriteStep.Command status1 = sent_then setup task
writing_then setup task (WriteStep.Look waited) status1 = looked_then setup task waited status1
writing_then setup task (WriteStep.Pause waited) status1 = look_then setup task waited

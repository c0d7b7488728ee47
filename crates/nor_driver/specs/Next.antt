-- What follows each transfer of a call: nor/driver.rs, cut where it uses the bus.
use Rattle.std.specs.Prelude.{ℕ, ◌+◌, not, Ok, Err}
use Rattle.qspi.specs.Bytes.{byte_of}
use Rattle.qspi.specs.Frame.{Outcome}
use Rattle.spi_flash.specs.declared.error.FlashError.{FlashError}
use Rattle.spi_nor.specs.Status.{busy_of, quad_enabled1_of, quad_enabled2_of}
use Rattle.spi_nor.specs.Transfer.{chunk_of}
use Rattle.spi_nor.specs.declared.phase.Phase.{Phase}
use Rattle.spi_nor.specs.declared.phase.Task.{Task}
use Rattle.spi_nor.specs.declared.answer.Answer.{Answer}
use Rattle.spi_nor.specs.declared.setup.Setup.{Setup}
use Rattle.nor_steps.specs.Then.{Then}
use Rattle.nor_steps.specs.Go.{end_with, read1_then, read2_then, read_id_then, enabled_then, done_if, supported_if}
use Rattle.nor_steps.specs.Register.{id_of, identified_then, disable_first, disable_second, quad_flag}
use Rattle.nor_steps.specs.Protection.{unprotect_first}
use Rattle.nor_steps.specs.Read.{read_from}
use Rattle.nor_steps.specs.Write.{verified_then}
use Rattle.nor_driver.specs.Wait.{writing_then}

-- what follows a transfer that gave v
unfoldable pub after_phase : Setup → Phase → ℕ → Then
after_phase setup Phase.Raised v = read_id_then setup Phase.Identify
after_phase setup Phase.Identify v = identified_then setup v
after_phase setup Phase.Status1 v = end_with setup (Answer.Byte (byte_of v))
after_phase setup Phase.Status2 v = end_with setup (Answer.Byte (byte_of v))
after_phase setup Phase.Busy v = end_with setup (Answer.Flag (busy_of (byte_of v)))
after_phase setup Phase.JedecId v = end_with setup (Answer.Id (id_of v))
after_phase setup Phase.UniqueId v = end_with setup (Answer.UniqueId v)
after_phase setup Phase.QuadEnabled2 v = quad_flag setup (byte_of v)
after_phase setup Phase.QuadEnabled1 v = end_with setup (Answer.Flag (quad_enabled1_of (byte_of v)))
after_phase setup Phase.EnableCheck2 v = done_if (quad_enabled2_of (byte_of v)) setup (read1_then setup Phase.EnableCheck1)
after_phase setup Phase.EnableCheck1 v = done_if (quad_enabled1_of (byte_of v)) setup (read2_then setup Phase.EnableRead2)
after_phase setup Phase.EnableRead2 v = enabled_then setup (Task.EnableQuad2 (byte_of v))
after_phase setup Phase.EnableVerify2 v = done_if (quad_enabled2_of (byte_of v)) setup (read1_then setup Phase.EnableRead1)
after_phase setup Phase.EnableRead1 v = enabled_then setup (Task.EnableQuad1 (byte_of v))
after_phase setup Phase.EnableVerify1 v = supported_if (quad_enabled1_of (byte_of v)) setup
after_phase setup Phase.DisableRead2 v = disable_first setup (byte_of v)
after_phase setup Phase.DisableVerify2 v = supported_if (not (quad_enabled2_of (byte_of v))) setup
after_phase setup Phase.DisableRead1 v = disable_second setup (byte_of v)
after_phase setup Phase.DisableVerify1 v = supported_if (not (quad_enabled1_of (byte_of v))) setup
after_phase setup Phase.UnprotectRead1 v = read2_then setup (Phase.UnprotectRead2 (byte_of v))
after_phase setup (Phase.UnprotectRead2 before) v = unprotect_first setup before (byte_of v)
after_phase setup (Phase.UnprotectAfter before) v = end_with setup (Answer.Unprotected before (byte_of v))
after_phase setup (Phase.Reading s) v = read_from setup s.offset s.len (s.done + chunk_of s.len s.done)
after_phase setup (Phase.Verifying s) v = verified_then setup s.offset s.len s.done v
after_phase setup (Phase.Writing task at) v = writing_then setup task at (byte_of v)

-- a bus error ends the call: `map_err(FlashError::Spi)?`
unfoldable pub next_of : Setup → Phase → Outcome → Then
next_of setup phase (Ok v) = after_phase setup phase v
next_of setup phase (Err error) = Err (FlashError.Spi error.0)

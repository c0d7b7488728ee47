-- The NOR driver as the promises speak of it: the code's own steps, as a system that is driven event by event, what each call is, and
-- the figures.
use Rattle.std.specs.Prelude.{ℕ, Bool, true, []}
use Rattle.spi_flash.specs.Run.{System}
use Rattle.spi_flash.specs.declared.loan.Takes.{Takes}
use Rattle.flash_runs.specs.Driver.{Sort, constructs, tells, releases, uses, Driver}
use Rattle.flash_runs.specs.System.{system_of}
use Rattle.flash_runs.specs.Promises.{Promises}
use Rattle.spi_nor.specs.Config.{single_config}
use Rattle.spi_nor.specs.declared.answer.Answer.{Answer}
use Rattle.spi_nor.specs.declared.setup.Setup.{Setup}
use Rattle.nor_driver.specs.Step.{step_of, delivered_part}
use Rattle.nor_driver.specs.Call.{fresh_setup, not_built, nor_calls, begin_of}
use Rattle.nor_driver.specs.Settle.{nor_shape}
use Rattle.nor_runs.specs.Program.{Left, program_of}
use Rattle.nor_runs.specs.Bound.{page_taken, delay_bound, most_actions}
use Rattle.spi_nor.specs.declared.call.Call.{Call}
use Rattle.nor_driver.specs.Settle.{SpiNorFlash}

-- the driver as it is stepped: `begin` and `step`
abbrev pub nor : System SpiNorFlash Call Left
nor = system_of nor_shape begin_of step_of

-- what each call is, with a buffer of b bytes and data of d
abbrev pub sort_of : Call → ℕ → ℕ → Sort Setup
sort_of Call.New b d = constructs (fresh_setup single_config)
sort_of (Call.WithConfig config) b d = constructs (fresh_setup config)
sort_of Call.Config b d = tells
sort_of Call.Device b d = tells
sort_of Call.Id b d = tells
sort_of Call.Free b d = releases
sort_of Call.ReadStatus1 b d = uses Takes.Nothing
sort_of Call.ReadStatus2 b d = uses Takes.Nothing
sort_of Call.IsBusy b d = uses Takes.Nothing
sort_of Call.JedecId b d = uses Takes.Nothing
sort_of Call.UniqueId b d = uses Takes.Nothing
sort_of Call.QuadEnabled b d = uses Takes.Nothing
sort_of Call.EnableQuad b d = uses Takes.Nothing
sort_of Call.DisableQuad b d = uses Takes.Nothing
sort_of (Call.Read offset) b d = uses (Takes.Buffer b)
sort_of (Call.Write offset) b d = uses (Takes.Data d)
sort_of Call.Unprotect b d = uses Takes.Nothing
sort_of (Call.Erase from to) b d = uses Takes.Nothing
sort_of (Call.EraseSector offset) b d = uses Takes.Nothing
sort_of (Call.EraseBlock offset) b d = uses Takes.Nothing

-- a construction whose page is above 512 is refused once the id is read; every other call that begins can end well
abbrev pub can_end : Sort Setup → Bool
can_end (constructs fresh) = page_taken fresh.config.device
can_end tells = true
can_end releases = true
can_end (uses takes) = true

-- the NOR driver, of which specs/Promises.antt of flash_runs speaks; all that its read call reads is the caller's
abbrev pub nor_driver : Driver SpiNorFlash Call Setup Answer
nor_driver = record {
  system = nor;
  setup = λ flash. flash.setup;
  built = λ flash. flash.built;
  fresh = not_built;
  delivered = delivered_part;
  sort = sort_of;
  in_bounds = nor_calls.in_bounds;
  program = program_of;
  delay_bound = λ flash call b d. delay_bound flash call d;
  most_actions = most_actions;
  can_end = λ flash call b d. can_end (sort_of call b d);
  reads = λ command. true;
  stamps = λ flash call. [];
}

-- what both drivers promise
abbrev pub NorPromises : Type 0
NorPromises = Promises nor_driver

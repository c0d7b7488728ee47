-- The NAND driver as it is stepped, and what the statements need to know of it.
use Rattle.std.specs.Prelude.{ℕ, ◌/◌, ◌%◌, List, [], ◌∷◌, ◌++◌, ◌==◌, replicate, if◌then◌else◌}
use Rattle.spi_flash.specs.Run.{System}
use Rattle.spi_flash.specs.declared.loan.Takes.{Takes}
use Rattle.flash_runs.specs.Scratch.{Stamp, filler, marker}
use Rattle.flash_runs.specs.Driver.{Sort, constructs, tells, releases, uses, Driver}
use Rattle.flash_runs.specs.System.{system_of}
use Rattle.spi_nand.specs.Config.{single_config}
use Rattle.spi_nand.specs.declared.answer.Answer.{Answer}
use Rattle.spi_nand.specs.declared.call.Call.{Call}
use Rattle.spi_nand.specs.declared.setup.Setup.{Setup}
use Rattle.nand_driver.specs.Call.{fresh_setup, not_built, nand_calls, begin_of}
use Rattle.nand_driver.specs.Settle.{nand_shape}
use Rattle.nand_driver.specs.Step.{step_of, delivered_part}
use Rattle.nand_driver.specs.Settle.{SpiNandFlash}
use Rattle.nand_runs.specs.Bound.{delay_bound, most_actions, can_end}
use Rattle.nand_runs.specs.Observer.{reads_cache}
use Rattle.nand_runs.specs.Program.{Left, program_of}

-- the driver as it is stepped: `begin` and `step`
abbrev pub nand : System SpiNandFlash Call Left
nand = system_of nand_shape begin_of step_of

-- what each call is, with a buffer of b bytes and data of d bytes
unfoldable pub sort_of : Call → ℕ → ℕ → Sort Setup
sort_of Call.New b d = constructs (fresh_setup single_config)
sort_of (Call.WithConfig config) b d = constructs (fresh_setup config)
sort_of Call.Info b d = tells
sort_of Call.Config b d = tells
sort_of Call.Geometry b d = tells
sort_of Call.Free b d = releases
sort_of Call.DisableQuad b d = uses Takes.Nothing
sort_of (Call.WriteRegister register value) b d = uses Takes.Nothing
sort_of Call.WriteEnable b d = uses Takes.Nothing
sort_of Call.ReadStatus b d = uses Takes.Nothing
sort_of Call.ReadConfiguration b d = uses Takes.Nothing
sort_of Call.ReadProtection b d = uses Takes.Nothing
sort_of Call.Reset b d = uses Takes.Nothing
sort_of Call.JedecId b d = uses Takes.Nothing
sort_of Call.ResetAndIdentify b d = uses Takes.Nothing
sort_of Call.EnsureConfiguration b d = uses Takes.Nothing
sort_of Call.Unprotect b d = uses Takes.Nothing
sort_of (Call.PageRead page) b d = uses Takes.Nothing
sort_of (Call.ReadCache column) b d = uses (Takes.Buffer b)
sort_of (Call.LoadProgramData column) b d = uses (Takes.Data d)
sort_of (Call.ProgramExecute page) b d = uses Takes.Nothing
sort_of (Call.ReadPage page) b d = uses (Takes.Buffer b)
sort_of (Call.WritePage page) b d = uses (Takes.Data d)
sort_of (Call.EraseBlock block) b d = uses Takes.Nothing
sort_of (Call.Read offset) b d = uses (Takes.Buffer b)
sort_of (Call.IsBadBlock block) b d = uses Takes.Nothing
sort_of (Call.MarkBadBlock block) b d = uses Takes.Nothing

-- what mark_bad_block puts into the chip's cache: FF over the page, in chunks of 256 bytes and what is left of it, and the marker behind it
abbrev pub last_chunk : ℕ → List Stamp
last_chunk n = if n == 0 then [] else filler n ∷ []

abbrev pub chunks : ℕ → List Stamp
chunks n = replicate (n / 256) (filler 256) ++ last_chunk (n % 256)

abbrev pub stamps_of : Setup → Call → List Stamp
stamps_of setup (Call.MarkBadBlock block) = chunks setup.geometry.page_size ++ marker ∷ []
stamps_of setup _ = []

-- the NAND driver, of which specs/Promises.antt of flash_runs speaks; what it reads from the cache is the caller's
abbrev pub nand_driver : Driver SpiNandFlash Call Setup Answer
nand_driver =
    record {
      system = nand;
      setup = λ flash. flash.setup;
      built = λ flash. flash.built;
      fresh = not_built;
      delivered = delivered_part;
      sort = sort_of;
      in_bounds = nand_calls.in_bounds;
      program = program_of;
      delay_bound = λ setup call b d. delay_bound setup call b;
      most_actions = λ setup call b d. most_actions setup call b;
      can_end = λ setup call b d. can_end setup call;
      reads = reads_cache;
      stamps = stamps_of;
    }

-- The Rust's program of each call, with the answer and the driver that it leaves behind; and the program that the port follows, which
-- differs in one place.
use Rattle.spi_nand.specs.declared.config.NandGeometry.{NandGeometry}
use Rattle.std.specs.Prelude.{ℕ, Bool, true, false, not, leb, Option, Some, None}
use Rattle.qspi.specs.Choice.{pick}
use Rattle.qspi.specs.declared.transfer.Payload.{Payload}
use Rattle.qspi.specs.declared.transfer.Sink.{Sink}
use Rattle.qspi.specs.declared.transfer.Transfer.{Transfer}
use Rattle.spi_flash.specs.Prog.{Prog, ret, fail, ◌>>=◌, ◌>>◌, transfer}
use Rattle.spi_flash.specs.declared.error.FlashError.{FlashError}
use Rattle.flash_runs.specs.Driver as Driver
use Rattle.flash_runs.specs.Driver.{leaving}
use Rattle.spi_nand.specs.declared.answer.Answer.{Answer}
use Rattle.spi_nand.specs.declared.setup.Setup.{Setup}
use Rattle.spi_nand.specs.declared.call.Call.{Call}
use Rattle.nand_runs.specs.Rust.{read-status, read-configuration, read-protection, write-enable, write-register, disable-quad, reset, jedec-id, reset-and-identify, ensure-configuration, unprotect, page-read, read-cache, load-program-data, program-execute, read-page, write-page, erase-block, read, is-bad-block, mark-bad-block, MAX-VERIFY-PAGE-SIZE, with-config, new}

-- the answer, and what the Rust's struct holds afterwards
abbrev pub Left : Type 0
Left = Driver.Left Setup Answer

-- with a buffer of b bytes and data of d bytes
unfoldable pub rust_program : Setup → Call → ℕ → ℕ → Prog Left
rust_program flash Call.New b d = new >>= (λ built. ret (leaving built Answer.Done))
rust_program flash (Call.WithConfig config) b d = with-config config >>= (λ built. ret (leaving built Answer.Done))
rust_program flash Call.Info b d = ret (leaving flash (Answer.Info flash.init))
rust_program flash Call.Config b d = ret (leaving flash (Answer.Config flash.config))
rust_program flash Call.Geometry b d = ret (leaving flash (Answer.Geometry flash.geometry))
rust_program flash Call.Free b d = ret (leaving flash Answer.Done)
rust_program flash Call.DisableQuad b d = disable-quad >> ret (leaving flash Answer.Done)
rust_program flash (Call.WriteRegister register value) b d = write-register register value >> ret (leaving flash Answer.Done)
rust_program flash Call.WriteEnable b d = write-enable >> ret (leaving flash Answer.Done)
rust_program flash Call.ReadStatus b d = read-status >>= (λ status. ret (leaving flash (Answer.Status status)))
rust_program flash Call.ReadConfiguration b d = read-configuration >>= (λ c. ret (leaving flash (Answer.Configuration c)))
rust_program flash Call.ReadProtection b d = read-protection >>= (λ p. ret (leaving flash (Answer.Protection p)))
rust_program flash Call.Reset b d = reset >> ret (leaving flash Answer.Done)
rust_program flash Call.JedecId b d = jedec-id >>= (λ id. ret (leaving flash (Answer.Id id)))
rust_program flash Call.ResetAndIdentify b d = reset-and-identify >>= (λ id. ret (leaving flash (Answer.Id id)))
rust_program flash Call.EnsureConfiguration b d = ensure-configuration flash.config >>= (λ before. ret (leaving flash (Answer.Configuration before)))
rust_program flash Call.Unprotect b d = unprotect >>= (λ before. ret (leaving flash (Answer.Protection before)))
rust_program flash (Call.PageRead page) b d = page-read flash page >> ret (leaving flash Answer.Done)
rust_program flash (Call.ReadCache column) b d = read-cache flash column b (Sink.Buffer 0) >> ret (leaving flash Answer.Done)
rust_program flash (Call.LoadProgramData column) b d = load-program-data flash column d (Payload.Data 0 d) >> ret (leaving flash Answer.Done)
rust_program flash (Call.ProgramExecute page) b d = program-execute flash page >> ret (leaving flash Answer.Done)
rust_program flash (Call.ReadPage page) b d = read-page flash page b (Sink.Buffer 0) >> ret (leaving flash Answer.Done)
rust_program flash (Call.WritePage page) b d = write-page flash page d >> ret (leaving flash Answer.Done)
rust_program flash (Call.EraseBlock block) b d = erase-block flash block >> ret (leaving flash Answer.Done)
rust_program flash (Call.Read offset) b d = read flash offset b >> ret (leaving flash Answer.Done)
rust_program flash (Call.IsBadBlock block) b d = is-bad-block flash block >>= (λ bad. ret (leaving flash (Answer.Flag bad)))
rust_program flash (Call.MarkBadBlock block) b d = mark-bad-block flash block >> ret (leaving flash Answer.Done)

-- ---- the port's

-- the page is one that a construction takes; that of a detected geometry is 2,048
abbrev pub page_taken : Option NandGeometry → Bool
page_taken None = true
page_taken (Some own) = leb own.page_size MAX-VERIFY-PAGE-SIZE

-- a construction whose page is too large
abbrev pub large_page : Call → Bool
large_page (Call.WithConfig config) = not (page_taken config.geometry)
large_page call = false

-- it does what the Rust does, up to and with the identification; then it fails with 11, where the Rust first goes on to configure and
-- unlock the part (docs/DIFFERENCES.md)
unfoldable pub refused-page : Prog Left
refused-page = do
  transfer Transfer.Raise
  reset-and-identify
  fail FlashError.NotSupported

-- the program that the port follows
abbrev pub program_of : Setup → Call → ℕ → ℕ → Prog Left
program_of flash call b d = pick (large_page call) refused-page (rust_program flash call b d)

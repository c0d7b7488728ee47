-- The Rust's program of each call, with the answer and the driver that it leaves behind.
use Rattle.std.specs.Prelude.{ℕ}
use Rattle.qspi.specs.declared.transfer.Sink.{Sink}
use Rattle.spi_flash.specs.Prog.{Prog, ret, ◌>>=◌, ◌>>◌}
use Rattle.flash_runs.specs.Driver as Driver
use Rattle.nor_runs.specs.Rust.{read-status1, read-status2, is-busy, jedec-id, unique-id, quad-enabled, enable-quad, disable-quad, read, write, erase-sector, erase-block, erase, unprotect, with-config, new}
use Rattle.spi_nor.specs.declared.answer.Answer.{Answer}
use Rattle.spi_nor.specs.declared.call.Call.{Call}
use Rattle.spi_nor.specs.declared.setup.Setup.{Setup}

-- the answer, and what the Rust's struct holds afterwards
abbrev pub Left : Type 0
Left = Driver.Left Setup Answer

abbrev pub leaving : Setup → Answer → Left
leaving setup answer = Driver.leaving setup answer

-- with a buffer of b bytes and data of d bytes
unfoldable pub program_of : Setup → Call → ℕ → ℕ → Prog Left
program_of flash Call.New b d = new >>= (λ built. ret (leaving built Answer.Done))
program_of flash (Call.WithConfig config) b d = with-config config >>= (λ built. ret (leaving built Answer.Done))
program_of flash Call.Config b d = ret (leaving flash (Answer.Config flash.config))
program_of flash Call.Device b d = ret (leaving flash (Answer.Device flash.device))
program_of flash Call.Id b d = ret (leaving flash (Answer.Id flash.id))
program_of flash Call.Free b d = ret (leaving flash Answer.Done)
program_of flash Call.ReadStatus1 b d = read-status1 >>= (λ status. ret (leaving flash (Answer.Byte status)))
program_of flash Call.ReadStatus2 b d = read-status2 >>= (λ status. ret (leaving flash (Answer.Byte status)))
program_of flash Call.IsBusy b d = is-busy >>= (λ busy. ret (leaving flash (Answer.Flag busy)))
program_of flash Call.JedecId b d = jedec-id >>= (λ id. ret (leaving flash (Answer.Id id)))
program_of flash Call.UniqueId b d = unique-id >>= (λ v. ret (leaving flash (Answer.UniqueId v)))
program_of flash Call.QuadEnabled b d = quad-enabled >>= (λ enabled. ret (leaving flash (Answer.Flag enabled)))
program_of flash Call.EnableQuad b d = enable-quad >> ret (leaving flash Answer.Done)
program_of flash Call.DisableQuad b d = disable-quad >> ret (leaving flash Answer.Done)
program_of flash (Call.Read offset) b d = read flash (λ done. Sink.Buffer done) offset b >> ret (leaving flash Answer.Done)
program_of flash (Call.Write offset) b d = write flash offset d >> ret (leaving flash Answer.Done)
program_of flash Call.Unprotect b d = unprotect >>= (λ u. ret (leaving flash (Answer.Unprotected u.before u.after)))
program_of flash (Call.Erase from to) b d = erase flash from to >> ret (leaving flash Answer.Done)
program_of flash (Call.EraseSector offset) b d = erase-sector flash offset >> ret (leaving flash Answer.Done)
program_of flash (Call.EraseBlock offset) b d = erase-block flash offset >> ret (leaving flash Answer.Done)

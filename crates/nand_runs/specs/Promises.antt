-- The promises of the NAND driver over every run. Those that both drivers keep are the general ones (specs/Promises.antt of
-- flash_runs, of `nand_driver`); here stands what the NAND has of its own.
use Rattle.std.specs.Prelude.{ℕ, ◌*◌, false, ◌≡◌, List, [], length}
use Rattle.qspi.specs.Bytes.{AllBytes}
use Rattle.spi_flash.specs.Loan.{Lent}
use Rattle.spi_flash.specs.Run as Run
use Rattle.spi_flash.specs.Run.{Event, Entry, delay_asked, Fitting, RealReplies, answering, Lending}
use Rattle.spi_flash.specs.Seen.{Undisturbed}
use Rattle.flash_runs.specs.Driver.{Driver, takes_at, run_at, steps_at}
use Rattle.flash_runs.specs.WithinBound.{Begun, EndsWell, WithinBound}
use Rattle.flash_runs.specs.Promises.{Promises}
use Rattle.flash_runs.specs.Reading.{ChangesRead, HoldsRead}
use Rattle.spi_nand.specs.declared.answer.Answer.{Answer}
use Rattle.spi_nand.specs.declared.call.Call.{Call}
use Rattle.spi_nand.specs.declared.setup.Setup.{Setup}
use Rattle.flash_runs.specs.Watch.{Succeeded}
use Rattle.nand_runs.specs.AsRust.{AsRust}
use Rattle.nand_runs.specs.Bound.{pages_touched}
use Rattle.nand_runs.specs.Observer.{reads_cache}
use Rattle.nand_runs.specs.Program.{Left}
use Rattle.nand_runs.specs.ReadSeen.{ReadSeen}
use Rattle.nand_runs.specs.Run.{nand_driver}

-- ---- the delays, and what a read does on the bus

-- of any driver of the NAND's calls
module _ {F : Type 0} (driver : Driver F Call Setup Answer) where
  abbrev pub run_of_read : F → ℕ → Lent → List (Event Call) → List (Entry Call Left)
  run_of_read flash offset l es = run_at driver flash (Call.Read offset) l es

  -- replies on which the call ends well, having asked b microseconds, whatever scratch and buffer are lent with the caller's data
  pub record EndsAsking (flash : F) (call : Call) (l : Lent) (b : ℕ) : Type 0 where
    pub replies : List Run.Answer
    pub real : RealReplies replies
    pub fits : (ls : List Lent) → length ls ≡ length replies → Lending (takes_at driver call l) l.given ls → Fitting (run_at driver flash call l (answering replies ls))
    pub succeeds : (ls : List Lent) → length ls ≡ length replies → Lending (takes_at driver call l) l.given ls →
        Succeeded (run_at driver flash call l (answering replies ls))
    pub asks : (ls : List Lent) → length ls ≡ length replies → Lending (takes_at driver call l) l.given ls →
        delay_asked (run_at driver flash call l (answering replies ls)) ≡ b

  -- docs/SPECIFICATION.md, "Waits and bounds" and "Reads on the bus"
  pub record ReadsAsAsked : Type 0 where
    -- no call asks more than its bound, some replies bring it there, and every call ends
    pub within_bound : WithinBound driver
    -- what is seen of a read: over its steps on a driver at rest, an end at once among them, so that no success comes without its traffic;
    -- and over its run on any driver
    pub read : (flash : F) (offset : ℕ) (l : Lent) (es : List (Event Call)) → driver.system.running flash ≡ false →
        ReadSeen (steps_at driver flash (Call.Read offset) l es) (driver.setup flash).geometry offset (length l.buffer)
    pub read_runs : (flash : F) (offset : ℕ) (l : Lent) (es : List (Event Call)) →
        ReadSeen (run_of_read flash offset l es) (driver.setup flash).geometry offset (length l.buffer)
    -- a read that has begun ends well on some replies, and on some having asked no more than it must, and on some all that it may
    pub read_ends : (flash : F) (offset : ℕ) (l : Lent) → AllBytes l.given → Begun driver flash (Call.Read offset) l → EndsWell driver flash (Call.Read offset) l
    pub read_least : (flash : F) (offset : ℕ) (l : Lent) → AllBytes l.given → Begun driver flash (Call.Read offset) l →
        EndsAsking flash (Call.Read offset) l (10 * pages_touched (driver.setup flash).geometry offset (length l.buffer))
    pub read_most : (flash : F) (offset : ℕ) (l : Lent) → AllBytes l.given → Begun driver flash (Call.Read offset) l →
        EndsAsking flash (Call.Read offset) l (400000 * pages_touched (driver.setup flash).geometry offset (length l.buffer))
    -- no step changes a place of the caller's buffer that is not one of a byte read by then, whatever is replied
    pub changes : (flash : F) (offset : ℕ) (l : Lent) (es : List (Event Call)) → ChangesRead reads_cache false 0 (run_of_read flash offset l es)
    -- where nobody else writes into it, the buffer has those bytes at its start, and behind them what it had before
    pub holds : (flash : F) (offset : ℕ) (l : Lent) (es : List (Event Call)) → Undisturbed l.buffer (run_of_read flash offset l es) →
        HoldsRead reads_cache false l.buffer [] (run_of_read flash offset l es)

-- ---- all of them

pub record NandPromises : Type 0 where
  -- what both drivers promise
  pub general : Promises nand_driver
  pub as_rust : AsRust
  pub reads_as_asked : ReadsAsAsked nand_driver

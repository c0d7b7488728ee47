-- What the NAND's calls deliver of what the chip holds, where the chip answers each read of its cache with what it holds at the place that
-- the bytes on the bus asked for (docs/SPECIFICATION.md, "Reads on the bus").
use Rattle.std.specs.Prelude.{ℕ, ◌/◌, ◌%◌, true, ◌≡◌, List, [], ◌∷◌, length, take}
use Rattle.std.proofs.Math.Option.{Option, none, some}
use Rattle.spi_flash.specs.Loan.{Lent}
use Rattle.spi_flash.specs.Run.{Event, reply, call, Entry}
use Rattle.spi_flash.specs.Seen.{Taken, SameData}
use Rattle.flash_runs.specs.Contents.{contents_from, Delivers}
use Rattle.flash_runs.specs.Driver.{Driver, run_at, steps_at, flash_after}
use Rattle.flash_runs.specs.Reading.{data_at}
use Rattle.flash_runs.specs.Watch.{Watcher, sees, watched, Succeeded}
use Rattle.spi_nand.specs.declared.answer.Answer.{Answer}
use Rattle.spi_nand.specs.declared.call.Call.{Call}
use Rattle.spi_nand.specs.declared.config.NandGeometry.{NandGeometry}
use Rattle.spi_nand.specs.declared.setup.Setup.{Setup}
use Rattle.nand_runs.specs.Observer.{Load, unloaded, waiting, waited, judged, Awaited, other, status, cache, Sight, unseen, bytes_at, observer}
use Rattle.nand_runs.specs.Program.{Left}
use Rattle.nand_runs.specs.ReadSeen.{sight_of}

-- ---- the chip

-- what it holds: a byte for each page and column
abbrev pub Chip : Type 0
Chip = ℕ → ℕ → ℕ

-- the byte at an address
abbrev pub byte_at : NandGeometry → Chip → ℕ → ℕ
byte_at g chip address = chip (address / g.page_size) (address % g.page_size)

-- the page in its cache: the last that was loaded, whether or not its verdict has come
abbrev pub cached_page : Load → Option ℕ
cached_page unloaded = none
cached_page (waiting page) = some page
cached_page (waited page) = some page
cached_page (judged page) = some page

-- ---- what it answers

abbrev pub HoldsAt : Chip → Option ℕ → ℕ → List ℕ → Type 0
HoldsAt chip none column bytes = Unit {0}
HoldsAt chip (some page) column bytes = bytes ≡ contents_from (chip page) column (length bytes)

-- data for what is asked
abbrev pub Answers : Chip → Awaited → List ℕ → Type 0
Answers chip other bytes = Unit {0}
Answers chip status bytes = Unit {0}
Answers chip (cache column load) bytes = HoldsAt chip (cached_page load) column bytes

abbrev pub answers_in : {C : Type 0} → Chip → Sight → Event C → Type 0
answers_in chip s (reply r bytes l) = Answers chip s.awaited (data_at true r bytes)
answers_in chip s (call c l) = Unit {0}

-- over a run in front of which this was seen; what is refused counts nowhere
unfoldable pub FromChip : {C A : Type 0} → Chip → Sight → List (Entry C A) → Type 0
FromChip chip s [] = Unit {0}
FromChip chip s (x ∷ xs) = Taken x.given (answers_in chip s x.event) × FromChip chip (sees observer s x) xs

-- ---- what is lent beside what comes back

-- the caller's data as they were lent beside the data that came last
abbrev pub lent_with : (given bytes before : List ℕ) → List ℕ
lent_with given [] before = before
lent_with given (b ∷ bytes) before = given

abbrev pub lent_beside : Watcher (List ℕ)
lent_beside = record { gives = λ shown given. given; hears = lent_with }

-- ---- the statement

module _ {F : Type 0} (driver : Driver F Call Setup Answer) where
  -- a write of a page
  module _ (flash : F) (page : ℕ) (l : Lent) (es : List (Event Call)) where
    abbrev pub write_steps : List (Entry Call Left)
    write_steps = steps_at driver flash (Call.WritePage page) l es

    -- where it has ended well
    pub record ReadBack : Type 0 where
      -- that page alone was programmed, then loaded, and read from column 0 on behind its verdict: the data, as they were lent beside them
      pub programs : (sight_of write_steps).programs ≡ page ∷ []
      pub plain : (sight_of write_steps).plain ≡ true
      pub loads : (sight_of write_steps).loads ≡ page ∷ []
      pub reads : (sight_of write_steps).reads ≡ bytes_at page 0 (take (length l.given) (watched lent_beside [] write_steps))
      -- with the same data lent throughout these are the data
      pub same : SameData l.given write_steps → (sight_of write_steps).reads ≡ bytes_at page 0 l.given
      -- and so the chip, if it has answered with what it holds, holds them there
      pub holds : (chip : Chip) → SameData l.given write_steps → FromChip chip unseen write_steps → contents_from (chip page) 0 (length l.given) ≡ l.given

  -- a page_read, with what was lent and what happened, and the driver that it leaves
  abbrev pub page_read_steps : F → ℕ → Lent → List (Event Call) → List (Entry Call Left)
  page_read_steps flash page k ds = steps_at driver flash (Call.PageRead page) k ds

  abbrev pub page_read_after : F → ℕ → Lent → List (Event Call) → F
  page_read_after flash page k ds = flash_after driver flash (Call.PageRead page) k ds

  pub record DeliversTheChip : Type 0 where
    -- a read delivers the chip's bytes from `offset` on
    pub read : (chip : Chip) (flash : F) (offset : ℕ) (l : Lent) (es : List (Event Call)) → FromChip chip unseen (run_at driver flash (Call.Read offset) l es) →
        Delivers driver flash (Call.Read offset) l es (byte_at (driver.setup flash).geometry chip) offset
    -- read_page its page from column 0 on
    pub read_page : (chip : Chip) (flash : F) (page : ℕ) (l : Lent) (es : List (Event Call)) → FromChip chip unseen (run_at driver flash (Call.ReadPage page) l es) →
        Delivers driver flash (Call.ReadPage page) l es (chip page) 0
    -- read_cache, behind a page_read that has ended well, that page from a column on
    pub read_cache : (chip : Chip) (flash : F) (page column : ℕ) (k : Lent) (ds : List (Event Call)) (l : Lent) (es : List (Event Call)) →
        Succeeded (page_read_steps flash page k ds) →
        FromChip chip (sight_of (page_read_steps flash page k ds)) (run_at driver (page_read_after flash page k ds) (Call.ReadCache column) l es) →
        Delivers driver (page_read_after flash page k ds) (Call.ReadCache column) l es (chip page) column
    -- write_page has read back the data
    pub write_page : (flash : F) (page : ℕ) (l : Lent) (es : List (Event Call)) → Succeeded (write_steps flash page l es) → ReadBack flash page l es

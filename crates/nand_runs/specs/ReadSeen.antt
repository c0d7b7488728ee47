-- What holds of every run of a NAND `read`, as it is seen from outside (docs/SPECIFICATION.md, "Reads on the bus").
use Rattle.std.specs.Prelude.{ℕ, zero, suc, ◌*◌, ◌/◌, ◌%◌, ◌≤◌, true, false, ◌≡◌, List, [], ◌∷◌, length, eqb}
use Rattle.spi_flash.specs.Path.{Prefix}
use Rattle.spi_flash.specs.Run.{Entry, delay_asked}
use Rattle.flash_runs.specs.Reading.{bytes_read}
use Rattle.flash_runs.specs.Watch.{watched, Succeeded}
use Rattle.spi_nand.specs.declared.config.NandGeometry.{NandGeometry}
use Rattle.nand_runs.specs.Bound.{first_touched, pages_touched}
use Rattle.nand_runs.specs.Observer.{reads_cache, ReadByte, read_byte, Sight, unseen, observer}

-- so many numbers from a first one on, ascending
abbrev pub up_from : ℕ → ℕ → List ℕ
up_from first zero = []
up_from first (suc n) = first ∷ up_from (suc first) n

-- the pages that a read of len bytes at offset touches
abbrev pub touched : NandGeometry → ℕ → ℕ → List ℕ
touched g offset len = up_from (first_touched g offset) (pages_touched g offset len)

-- bytes from an address on, each with its page and its column
abbrev pub placed : NandGeometry → ℕ → List ℕ → List ReadByte
placed g address [] = []
placed g address (b ∷ bytes) = read_byte (address / g.page_size) (address % g.page_size) b ∷ placed g (suc address) bytes

-- no verdict is 2
abbrev pub NoneUncorrectable : List ℕ → Type 0
NoneUncorrectable [] = Unit {0}
NoneUncorrectable (verdict ∷ verdicts) = (eqb verdict 2 ≡ false) × NoneUncorrectable verdicts

module _ {C A : Type 0} (xs : List (Entry C A)) where
  abbrev pub sight_of : Sight
  sight_of = watched observer unseen xs

  -- the data that came back to its reads of the cache
  abbrev pub read_so_far : List ℕ
  read_so_far = bytes_read reads_cache false xs

  -- what a good end asks for: each page was loaded and judged good enough, the buffer is full, nothing was programmed or erased, and each wait took
  -- its delays
  pub record ReadsAll (g : NandGeometry) (offset len : ℕ) : Type 0 where
    pub loads : sight_of.loads ≡ touched g offset len
    pub verdicts : length sight_of.verdicts ≡ pages_touched g offset len
    pub correctable : NoneUncorrectable sight_of.verdicts
    pub filled : length read_so_far ≡ len
    pub programs : sight_of.programs ≡ []
    pub plain : sight_of.plain ≡ true
    pub least : 10 * pages_touched g offset len ≤ delay_asked xs
    pub most : delay_asked xs ≤ 400000 * pages_touched g offset len

  -- a run of a read of len bytes at offset
  pub record ReadSeen (g : NandGeometry) (offset len : ℕ) : Type 0 where
    -- the pages loaded so far are the first of those it touches, also where it fails
    pub loads : Prefix sight_of.loads (touched g offset len)
    -- every byte that came was recorded, so asked for behind its verdict, and at its own place
    pub reads : sight_of.reads ≡ placed g offset read_so_far
    -- and no load came in between
    pub in_order : sight_of.in_order ≡ true
    pub whole : Succeeded xs → ReadsAll g offset len

-- What the chip holds and what a read delivers, and what a write has read back, for any contents of the chip (docs/SPECIFICATION.md, "Reads
-- on the bus"): told from the bytes on the bus, whatever the replies and whatever is lent.
use Rattle.std.specs.Prelude.{ℕ, ◌+◌, ◌≤◌, true, ◌≡◌, List, [], ◌∷◌, ◌++◌, length, take, drop, Option, Some, None}
use Rattle.spi_flash.specs.Loan.{Lent}
use Rattle.spi_flash.specs.Path.{Prefix}
use Rattle.spi_flash.specs.Run.{Event, Entry}
use Rattle.spi_flash.specs.Seen.{SameData}
use Rattle.flash_runs.specs.Contents.{contents_from, run, steps, Delivers}
use Rattle.flash_runs.specs.Driver.{Left, Driver}
use Rattle.flash_runs.specs.Reading.{bytes_read}
use Rattle.flash_runs.specs.Watch.{watched, Succeeded}
use Rattle.spi_nor.specs.declared.call.Call.{Call}
use Rattle.spi_nor.specs.declared.config.NorQuadConfig.{NorQuadConfig}
use Rattle.spi_nor.specs.declared.setup.Setup.{Setup}
use Rattle.nor_runs.specs.Observer.{Change, page, Piece, Sight, unseen, observer}

-- ---- pieces

-- one behind the other from a place on, each of at most 65,536 bytes
abbrev pub InTurn : ℕ → List Piece → Type 0
InTurn place [] = Unit {0}
InTurn place (p ∷ ps) = (p.place ≡ place) × (length p.bytes ≤ 65536) × InTurn (place + length p.bytes) ps

-- their bytes
abbrev pub joined : List Piece → List ℕ
joined [] = []
joined (p ∷ ps) = p.bytes ++ joined ps

-- the pages that begin where they do
abbrev pub pages : List Piece → List Change
pages [] = []
pages (p ∷ ps) = page p.place ∷ pages ps

-- nothing, or the page at this place
abbrev pub NextPage : ℕ → List Change → Type 0
NextPage place [] = Unit {0}
NextPage place (x ∷ []) = x ≡ page place
NextPage place (x ∷ y ∷ more) = ⊥

-- what is asked of the contents, if anything is, is asked from this place
abbrev pub AskedAt : ℕ → Option ℕ → Type 0
AskedAt place None = Unit {0}
AskedAt place (Some asked) = asked ≡ place

-- the chip has answered with its contents: each piece holds them from the place that the command on the bus asked for
abbrev pub FromChip : (contents : ℕ → ℕ) → List Piece → Type 0
FromChip contents [] = Unit {0}
FromChip contents (p ∷ ps) = (p.bytes ≡ contents_from contents p.place (length p.bytes)) × FromChip contents ps

-- each piece is what the caller's data, as they were lent beside it, have there: from a place of the data on
abbrev pub SameAsLent : (from : ℕ) → List Piece → Type 0
SameAsLent from [] = Unit {0}
SameAsLent from (p ∷ ps) = (p.bytes ≡ take (length p.bytes) (drop from p.given)) × SameAsLent (from + length p.bytes) ps

-- ---- a run

module _ (quad : Option NorQuadConfig) {C A : Type 0} (xs : List (Entry C A)) where
  -- what the observer has seen
  abbrev pub seen_in : Sight
  seen_in = watched (observer quad) unseen xs

  -- what came back to reads of the contents
  abbrev pub pieces_in : List Piece
  pieces_in = seen_in.pieces

  -- the bytes of all data replies
  abbrev pub data_in : List ℕ
  data_in = bytes_read (λ command. true) true xs

  -- a read of len bytes at offset: every byte that came was asked of the contents, in order, nothing was changed, and at a good end they
  -- are all there
  pub record ReadSeen (offset len : ℕ) : Type 0 where
    pub in_turn : InTurn offset pieces_in
    pub next : AskedAt (offset + length (joined pieces_in)) seen_in.asked
    pub within : length (joined pieces_in) ≤ len
    pub all : joined pieces_in ≡ data_in
    pub unchanged : seen_in.changed ≡ []
    pub whole : Succeeded xs → length data_in ≡ len

  -- a write of len bytes at offset: it reads back from its own places alone, in order, each page once it was programmed and
  -- before the next one is, and nothing else is changed; and at a good end all of them, each as the data were in the step that compared it
  pub record WriteSeen (offset len : ℕ) : Type 0 where
    pub in_turn : InTurn offset pieces_in
    pub next : AskedAt (offset + length (joined pieces_in)) seen_in.asked
    pub within : length (joined pieces_in) ≤ len
    pub programmed : Prefix (pages pieces_in) seen_in.changed
    pub ahead : NextPage (offset + length (joined pieces_in)) programmed.rest
    pub all_back : Succeeded xs → pages pieces_in ≡ seen_in.changed
    pub as_lent : Succeeded xs → SameAsLent 0 pieces_in
    pub whole : Succeeded xs → length (joined pieces_in) ≡ len

-- ---- a driver

module _ {F A : Type 0} (driver : Driver F Call Setup A) where
  -- the caller's quad setting
  abbrev pub quad_of : F → Option NorQuadConfig
  quad_of flash = (driver.setup flash).config.quad

  module _ (flash : F) (offset : ℕ) (l : Lent) (es : List (Event Call)) where
    -- a read's run
    abbrev pub read_run : List (Entry Call (Left Setup A))
    read_run = run driver flash (Call.Read offset) l es

    -- its steps, the end at once among them
    abbrev pub read_steps : List (Entry Call (Left Setup A))
    read_steps = steps driver flash (Call.Read offset) l es

    pub record ReadOf : Type 0 where
      pub seen : ReadSeen (quad_of flash) read_run offset (length l.buffer)
      pub ended : Succeeded read_steps → ReadSeen (quad_of flash) read_steps offset (length l.buffer)
      -- for any contents with which the chip has answered
      pub delivers : (contents : ℕ → ℕ) → FromChip contents (pieces_in (quad_of flash) read_run) → Delivers driver flash (Call.Read offset) l es contents offset

    abbrev pub write_steps : List (Entry Call (Left Setup A))
    write_steps = steps driver flash (Call.Write offset) l es

    pub record WriteOf : Type 0 where
      pub seen : WriteSeen (quad_of flash) (run driver flash (Call.Write offset) l es) offset (length l.given)
      pub ended : Succeeded write_steps → WriteSeen (quad_of flash) write_steps offset (length l.given)
      -- with the same data lent throughout, the bytes read back are the data
      pub read_back : Succeeded write_steps → SameData l.given write_steps → joined (pieces_in (quad_of flash) write_steps) ≡ l.given
      -- and so the chip, if it has answered with its contents, holds them from offset on, as it stood when each page was read back
      pub holds : (contents : ℕ → ℕ) → Succeeded write_steps → SameData l.given write_steps → FromChip contents (pieces_in (quad_of flash) write_steps) →
          contents_from contents offset (length l.given) ≡ l.given

  -- on every state
  pub record DeliversTheChip : Type 0 where
    pub read : (flash : F) (offset : ℕ) (l : Lent) (es : List (Event Call)) → ReadOf flash offset l es
    pub write : (flash : F) (offset : ℕ) (l : Lent) (es : List (Event Call)) → WriteOf flash offset l es

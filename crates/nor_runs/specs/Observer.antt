-- What is seen of a NOR from outside: the reads of its contents, told from the bytes on the bus alone, what came back to them, where pages
-- were programmed, and whether anything else was sent (docs/SPECIFICATION.md, "Reads on the bus"). The watcher knows nothing of the driver;
-- beside the bytes it knows the opcodes that the caller has chosen for quad calls.
use Rattle.std.specs.Prelude.{ℕ, ◌==◌, ◌||◌, List, [], ◌∷◌, ◌++◌, Option, Some, None, if◌then◌else◌}
use Rattle.qspi.specs.Address.{read_from}
use Rattle.qspi.specs.Shown.{Shown, low, high, write, read, quad_read, quad_write, delay}
use Rattle.flash_runs.specs.Watch.{Watcher}
use Rattle.spi_nor.specs.Opcode.{READ, READ-STATUS1, WRITE-ENABLE, PAGE-PROGRAM}
use Rattle.spi_nor.specs.declared.config.NorQuadConfig.{NorQuadConfig}

-- ---- the frame

-- what the part has taken since select went low: select is high; these bytes; or they, and then it has read or done a quad call
pub data Frame : Type 0 where
  closed : Frame
  written : List ℕ → Frame
  used : Frame

abbrev pub wrote : Frame → List ℕ → Frame
wrote closed bytes = closed
wrote (written before) bytes = written (before ++ bytes)
wrote used bytes = used

abbrev pub frame_after : Shown → Frame → Frame
frame_after low frame = written []
frame_after high frame = closed
frame_after (write bytes) frame = wrote frame bytes
frame_after (read n) frame = used
frame_after (quad_read command tclqv margin n) frame = used
frame_after (quad_write command payload) frame = used
frame_after (delay us) frame = frame

-- ---- what is asked of the contents

-- an opcode and three address bytes, highest first: the place
abbrev pub place_in : (opcode : ℕ) → List ℕ → Option ℕ
place_in opcode (first ∷ a ∷ b ∷ c ∷ []) = if first == opcode then Some (read_from 0 (a ∷ b ∷ c ∷ [])) else None
place_in opcode _ = None

-- a read behind the command 03, where nothing else was written in the frame
abbrev pub read_place : Frame → Option ℕ
read_place closed = None
read_place (written bytes) = place_in READ bytes
read_place used = None

-- a quad read, alone in its frame, with the caller's opcode
abbrev pub quad_place : Option NorQuadConfig → Frame → List ℕ → Option ℕ
quad_place (Some quad) (written []) command = place_in quad.read_opcode command
quad_place _ _ command = None

abbrev pub asks : Option NorQuadConfig → Shown → Frame → Option ℕ
asks quad (read n) frame = read_place frame
asks quad (quad_read command tclqv margin n) frame = quad_place quad frame command
asks quad _ frame = None

-- ---- what is changed

-- a page is programmed from this place on; or something else is sent that may change what the chip holds or how it answers: an erase, say
pub data Change : Type 0 where
  page : ℕ → Change
  other : Change

abbrev pub paged : Option ℕ → Option Change
paged None = None
paged (Some place) = Some (page place)

-- data behind the command 02 and its address, in the same bytes
abbrev pub place_ahead : List ℕ → Option ℕ
place_ahead (first ∷ a ∷ b ∷ c ∷ d ∷ bytes) = place_in PAGE-PROGRAM (first ∷ a ∷ b ∷ c ∷ [])
place_ahead _ = None

-- the first bytes of a frame: 03, 05 and 06 change nothing
abbrev pub opens : List ℕ → Option Change
opens [] = None
opens (first ∷ bytes) =
    if first == PAGE-PROGRAM
    then paged (place_ahead (first ∷ bytes))
    else if first == READ || first == READ-STATUS1 || first == WRITE-ENABLE then None else Some other

-- bytes behind these: data behind 02 and its address, however they are cut into writes
abbrev pub continues : (before bytes : List ℕ) → Option Change
continues [] bytes = opens bytes
continues (first ∷ a ∷ b ∷ c ∷ []) bytes = paged (place_in PAGE-PROGRAM (first ∷ a ∷ b ∷ c ∷ []))
continues (first ∷ a ∷ b ∷ c ∷ d ∷ before) bytes = None
continues before bytes = paged (place_ahead (before ++ bytes))

abbrev pub write_changes : Frame → List ℕ → Option Change
write_changes closed bytes = None
write_changes (written before) bytes = continues before bytes
write_changes used bytes = None

-- a quad write, alone in its frame, with the caller's opcode
abbrev pub quad_program_place : Option NorQuadConfig → Frame → List ℕ → Option ℕ
quad_program_place (Some quad) (written []) command = place_in quad.page_program_opcode command
quad_program_place _ _ command = None

-- any other quad write may be any command
abbrev pub page_or_other : Option ℕ → Change
page_or_other None = other
page_or_other (Some place) = page place

-- what the host sends while it reads is nothing to rely on: a read that is a frame's first, or behind 02
abbrev pub read_changes : Frame → Option Change
read_changes closed = None
read_changes (written []) = Some other
read_changes (written (first ∷ before)) = if first == PAGE-PROGRAM then Some other else None
read_changes used = None

-- a quad read that asks for no contents may be any command
abbrev pub quad_read_changes : (asked : Option ℕ) → Option Change
quad_read_changes None = Some other
quad_read_changes (Some place) = None

abbrev pub changes : Option NorQuadConfig → Shown → Frame → Option Change
changes quad (write bytes) frame = write_changes frame bytes
changes quad (quad_write command payload) frame = Some (page_or_other (quad_program_place quad frame command))
changes quad (read n) frame = read_changes frame
changes quad (quad_read command tclqv margin n) frame = quad_read_changes (quad_place quad frame command)
changes quad _ frame = None

abbrev pub with_change : Option Change → List Change → List Change
with_change None before = before
with_change (Some change) before = before ++ change ∷ []

-- ---- what came back

-- the bytes of one data reply, from which place on, and the caller's data lent beside them
pub record Piece : Type 0 where
  pub place : ℕ
  pub bytes : List ℕ
  pub given : List ℕ

abbrev pub piece : ℕ → (bytes given : List ℕ) → Piece
piece place bytes given = record { place = place; bytes = bytes; given = given }

-- a reply without data is none
abbrev pub with_piece : Option ℕ → (given bytes : List ℕ) → List Piece → List Piece
with_piece None given bytes before = before
with_piece (Some place) given [] before = before
with_piece (Some place) given (b ∷ bytes) before = before ++ piece place (b ∷ bytes) given ∷ []

-- ---- the watcher

pub record Sight : Type 0 where
  pub frame : Frame
  -- the place that the action that is out asks for
  pub asked : Option ℕ
  -- what was changed, and the pieces that came back, each in turn
  pub changed : List Change
  pub pieces : List Piece

abbrev pub sight : Frame → Option ℕ → List Change → List Piece → Sight
sight frame asked changed pieces = record { frame = frame; asked = asked; changed = changed; pieces = pieces }

-- before a run
abbrev pub unseen : Sight
unseen = sight closed None [] []

abbrev pub observer : Option NorQuadConfig → Watcher Sight
observer quad = record {
  gives = λ shown s. sight (frame_after shown s.frame) (asks quad shown s.frame) (with_change (changes quad shown s.frame) s.changed) s.pieces;
  hears = λ given bytes s. sight s.frame None s.changed (with_piece s.asked given bytes s.pieces);
}

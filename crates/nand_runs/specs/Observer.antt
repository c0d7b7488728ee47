-- What is seen of the NAND from outside: a watcher over the bytes of the actions given out and of the replies, which knows nothing of the
-- driver (docs/SPECIFICATION.md, "Reads on the bus").
use Rattle.std.specs.Prelude.{ℕ, suc, ◌/◌, ◌%◌, ◌^◌, Bool, true, false, not, ◌&&◌, ◌||◌, ◌==◌, if◌then◌else◌, List, [], ◌∷◌, ◌++◌, length, take}
use Rattle.std.proofs.Math.Option.{Option, none, some}
use Rattle.qspi.specs.Address.{read_from}
use Rattle.qspi.specs.Shown.{Shown, low, write, read, quad_read, quad_write}
use Rattle.spi_flash.specs.Bits.{is_clear}
use Rattle.flash_runs.specs.Watch.{Watcher, BusFrame, closed, selected, used, frame_after, command_in}
use Rattle.spi_nand.specs.Opcode.{RESET, BLOCK-ERASE, GET-FEATURE, REG-STATUS, PAGE-READ, LOAD-PROGRAM-DATA, PROGRAM-EXECUTE, READ-CACHE}

-- ---- what a command is, by its bytes

-- the page in the three address bytes behind this opcode: a load is 13 with them, a program 10
abbrev pub page_behind : ℕ → List ℕ → Option ℕ
page_behind wanted [] = none
page_behind wanted (opcode ∷ address) = if opcode == wanted && length address == 3 then some (read_from 0 address) else none

-- 0F C0, and nothing more
abbrev pub asks_status : List ℕ → Bool
asks_status (opcode ∷ register ∷ []) = opcode == GET-FEATURE && register == REG-STATUS
asks_status _ = false

-- 03 with two column bytes and a dummy byte, and nothing more (datasheet, Read Data): it reads the cache, and no register
abbrev pub reads_cache : List ℕ → Bool
reads_cache [] = false
reads_cache (opcode ∷ address) = opcode == READ-CACHE && length address == 3

-- a quad read's opcode is the caller's own, and its dummies are no bytes of the command
abbrev pub reads_cache_quad : List ℕ → Bool
reads_cache_quad command = length command == 3

-- the two bytes behind the opcode
abbrev pub column_of : List ℕ → ℕ
column_of [] = 0
column_of (opcode ∷ address) = read_from 0 (take 2 address)

-- ---- what is seen

-- the last load, while the cache holds it: none; or its page, while it is waited for, once the wait is over, and once the verdict has come
pub data Load : Type 0 where
  unloaded : Load
  waiting waited judged : ℕ → Load

-- its page, once the verdict has come
abbrev pub judged_page : Load → Option ℕ
judged_page (judged page) = some page
judged_page _ = none

-- what the action that is out asks for: status, or bytes of the cache from a column on, with the load as it stood
pub data Awaited : Type 0 where
  other status : Awaited
  cache : (column : ℕ) (load : Load) → Awaited

-- a byte that was read, and where
pub record ReadByte : Type 0 where
  pub page : ℕ
  pub column : ℕ
  pub value : ℕ

abbrev pub read_byte : (page column value : ℕ) → ReadByte
read_byte page column value = record { page = page; column = column; value = value }

pub record Sight : Type 0 where
  pub frame : BusFrame
  pub awaited : Awaited
  pub load : Load
  -- the pages loaded, the verdicts, and the bytes read, each in turn
  pub loads : List ℕ
  pub verdicts : List ℕ
  pub reads : List ReadByte
  -- the pages programmed
  pub programs : List ℕ
  -- and nothing else that changes the chip's contents was asked
  pub plain : Bool
  -- no action, so no load, was given out before the reply to a read of the cache
  pub in_order : Bool

-- before a run
abbrev pub unseen : Sight
unseen = record { frame = closed; awaited = other; load = unloaded; loads = []; verdicts = []; reads = []; programs = []; plain = true; in_order = true }

-- ---- an action is given out

abbrev pub written_by : Shown → List ℕ
written_by (write bytes) = bytes
written_by _ = []

-- a load and a program are the first write since select went low: a caller's data may begin with 13 or 10
abbrev pub page_in : ℕ → BusFrame → List ℕ → Option ℕ
page_in wanted selected bytes = page_behind wanted bytes
page_in wanted _ bytes = none

abbrev pub load_by : Shown → Sight → Option ℕ
load_by shown s = page_in PAGE-READ s.frame (written_by shown)

abbrev pub program_by : Shown → Sight → Option ℕ
program_by shown s = page_in PROGRAM-EXECUTE s.frame (written_by shown)

-- datasheet, Random Load Program Data: as 02, beside what the cache has
abbrev pub RANDOM-LOAD-DATA : ℕ
RANDOM-LOAD-DATA = 0x84

-- the cache may change: data go to it, by 02 or 84; the part is reset; a program or a load begins, whatever address bytes it has
abbrev pub changes_cache : List ℕ → Bool
changes_cache [] = false
changes_cache (opcode ∷ rest) =
    opcode == LOAD-PROGRAM-DATA || opcode == RANDOM-LOAD-DATA || opcode == RESET || opcode == PROGRAM-EXECUTE || opcode == PAGE-READ

-- by a frame's first write, or by a quad write, whose opcode is the caller's own
abbrev pub writes_cache : Shown → BusFrame → Bool
writes_cache (write bytes) selected = changes_cache bytes
writes_cache (quad_write command payload) frame = true
writes_cache _ _ = false

-- an erase (D8), or a 10 with other address bytes
abbrev pub alters_contents : List ℕ → Bool
alters_contents [] = false
alters_contents (opcode ∷ address) = opcode == BLOCK-ERASE || opcode == PROGRAM-EXECUTE && not (length address == 3)

abbrev pub alters : Shown → BusFrame → Bool
alters (write bytes) selected = alters_contents bytes
alters _ _ = false

-- with a load its wait begins; behind any other change the cache holds no page that was loaded
abbrev pub last_load : (loaded : Option ℕ) → (changed : Bool) → Load → Load
last_load (some page) changed load = waiting page
last_load none changed load = if changed then unloaded else load

abbrev pub with_page : Option ℕ → List ℕ → List ℕ
with_page none pages = pages
with_page (some page) pages = pages ++ page ∷ []

abbrev pub read_awaits : List ℕ → Load → Awaited
read_awaits command load = if asks_status command then status else if reads_cache command then cache (column_of command) load else other

-- a quad read brings its command with it, as the first in its frame
abbrev pub quad_awaits : BusFrame → List ℕ → Load → Awaited
quad_awaits selected command load = if reads_cache_quad command then cache (column_of command) load else other
quad_awaits _ command load = other

abbrev pub awaited_by : Shown → Sight → Awaited
awaited_by (read n) s = read_awaits (command_in s.frame) s.load
awaited_by (quad_read command tclqv margin n) s = quad_awaits s.frame command s.load
awaited_by _ s = other

abbrev pub no_cache : Awaited → Bool
no_cache (cache column load) = false
no_cache _ = true

-- select goes low: where it is low already no new frame begins
abbrev pub opened : BusFrame → BusFrame
opened closed = selected
opened selected = selected
opened _ = used

abbrev pub frame_behind : Shown → BusFrame → BusFrame
frame_behind low frame = opened frame
frame_behind shown frame = frame_after shown frame

abbrev pub given_out : Shown → Sight → Sight
given_out shown s =
    record {
      frame = frame_behind shown s.frame;
      awaited = awaited_by shown s;
      load = last_load (load_by shown s) (writes_cache shown s.frame) s.load;
      loads = with_page (load_by shown s) s.loads;
      verdicts = s.verdicts;
      reads = s.reads;
      programs = with_page (program_by shown s) s.programs;
      plain = s.plain && not (alters shown s.frame);
      in_order = s.in_order && no_cache s.awaited;
    }

-- ---- its reply has come

-- bits 5 and 4
abbrev pub verdict_bits : ℕ → ℕ
verdict_bits byte = byte / 2 ^ 4 % 4

-- the first look that finds bit 0 clear ends the wait, the next one gives the verdict, and others mean nothing
abbrev pub load_after : Load → ℕ → Load
load_after (waiting page) byte = if is_clear 0 byte then waited page else waiting page
load_after (waited page) byte = judged page
load_after load byte = load

abbrev pub verdicts_after : Load → ℕ → List ℕ → List ℕ
verdicts_after (waited page) byte verdicts = verdicts ++ verdict_bits byte ∷ []
verdicts_after _ byte verdicts = verdicts

-- the status bytes of a reply
abbrev pub looked : List ℕ → Sight → Sight
looked [] s = s
looked (byte ∷ bytes) s = looked bytes (record s { load = load_after s.load byte; verdicts = verdicts_after s.load byte s.verdicts })

-- bytes of a page from a column on
abbrev pub bytes_at : ℕ → ℕ → List ℕ → List ReadByte
bytes_at page column [] = []
bytes_at page column (b ∷ bytes) = read_byte page column b ∷ bytes_at page (suc column) bytes

-- bytes count only where the verdict had come when they were asked for
abbrev pub recorded : Option ℕ → ℕ → List ℕ → List ReadByte → List ReadByte
recorded none column bytes before = before
recorded (some page) column bytes before = before ++ bytes_at page column bytes

-- nothing is awaited any more
abbrev pub answered : Sight → Sight
answered s = record s { awaited = other }

abbrev pub heard_as : Awaited → List ℕ → Sight → Sight
heard_as other bytes s = s
heard_as status bytes s = looked bytes s
heard_as (cache column load) bytes s = record s { reads = recorded (judged_page load) column bytes s.reads }

-- ---- the watcher

abbrev pub observer : Watcher Sight
observer = record { gives = given_out; hears = λ given bytes s. heard_as s.awaited bytes (answered s) }

-- Sham runs and sham drivers of a NAND read (docs/SPECIFICATION.md, "Shams" and "Reads on the bus"), each of 2 bytes at 2,047 of a
-- W25N01GV: the last byte of page 0 and the first of page 1; and sham drivers of a page write. `ReadSeen` allows the run of a true
-- driver, and none of the sham runs. Each
-- lawful run beside a sham differs from it in one thing, so that every part of the observer is needed to tell them apart.
use Rattle.std.specs.Prelude.{ℕ, Bool, true, false, ◌≡◌, ◌==◌, if◌then◌else◌, List, [], ◌∷◌, ◌++◌}
use Rattle.qspi.specs.Shown.{Shown, low, high, write, read, quad_read, quad_write, delay}
use Rattle.qspi.specs.declared.bus.Reply.{Reply}
use Rattle.spi_flash.specs.Loan.{Lent}
use Rattle.spi_flash.specs.Run.{Event, reply, call, Given, act, ended, refused, Entry, Moved}
use Rattle.spi_flash.specs.declared.error.FlashError.{FlashError}
use Rattle.flash_runs.specs.Driver.{leaving, Driver}
use Rattle.flash_runs.specs.Shams.{in_place}
use Rattle.spi_nand.specs.Config.{W25N01GV, single_config}
use Rattle.spi_nand.specs.Opcode.{RESET, READ-ID, GET-FEATURE, REG-STATUS, REG-CONFIGURATION, PAGE-READ, BLOCK-ERASE, READ-CACHE, QUAD-READ-CACHE, LOAD-PROGRAM-DATA, QUAD-LOAD-PROGRAM-DATA, PROGRAM-EXECUTE}
use Rattle.spi_nand.specs.declared.answer.Answer.{Answer}
use Rattle.spi_nand.specs.declared.call.Call.{Call}
use Rattle.spi_nand.specs.declared.setup.Setup.{Setup}
use Rattle.nand_driver.specs.Call.{fresh_setup}
use Rattle.nand_runs.specs.Chip.{Chip, FromChip, DeliversTheChip}
use Rattle.nand_runs.specs.Observer.{RANDOM-LOAD-DATA, unseen}
use Rattle.nand_runs.specs.Program.{Left}
use Rattle.nand_runs.specs.Promises.{ReadsAsAsked}
use Rattle.nand_runs.specs.ReadSeen.{ReadSeen}
use Rattle.nand_runs.specs.Run.{nand_driver}

-- ---- how a run is written down

-- an action, and the host's reply to it
pub record Exchange : Type 0 where
  pub shown : Shown
  pub kind : Reply
  pub bytes : List ℕ

abbrev pub done : Shown → Exchange
done shown = record { shown = shown; kind = Reply.Done; bytes = [] }

abbrev pub got : List ℕ → ℕ → Exchange
got bytes n = record { shown = read n; kind = Reply.Data; bytes = bytes }

-- a buffer for the two bytes; the observer looks at actions and replies alone
abbrev pub two_places : Lent
two_places = record { scratch = []; buffer = 0 ∷ 0 ∷ []; given = [] }

-- a driver of a W25N01GV, and the success that it claims
abbrev pub held : Setup
held = record (fresh_setup single_config) { geometry = W25N01GV }

abbrev pub success : Given Left
success = ended (leaving held Answer.Done)

abbrev pub Seen : Type 0
Seen = Entry Call Left

abbrev pub gave : Event Call → Given Left → Seen
gave event given = record { event = event; given = given; left = two_places }

abbrev pub asked_to_read : Event Call
asked_to_read = call (Call.Read 2047) two_places

-- the exchanges one after the other, then what follows
abbrev pub run_from : Event Call → List Exchange → (Event Call → List Seen) → List Seen
run_from event [] rest = rest event
run_from event (x ∷ xs) rest = gave event (act x.shown) ∷ run_from (reply x.kind x.bytes two_places) xs rest

-- and then a good end
abbrev pub claimed : List Exchange → List Seen
claimed xs = run_from asked_to_read xs (λ event. gave event success ∷ [])

-- ---- what a run is made of

abbrev pub command : List ℕ → List Exchange
command bytes = done low ∷ done (write bytes) ∷ done high ∷ []

abbrev pub asked : List ℕ → List ℕ → ℕ → List Exchange
asked bytes answer n = done low ∷ done (write bytes) ∷ got answer n ∷ done high ∷ []

abbrev pub load_command : ℕ → List ℕ
load_command page = PAGE-READ ∷ 0 ∷ 0 ∷ page ∷ []

abbrev pub load : ℕ → List Exchange
load page = command (load_command page)

abbrev pub paused : ℕ → List Exchange
paused us = done (delay us) ∷ []

abbrev pub status : ℕ → List Exchange
status byte = asked (GET-FEATURE ∷ REG-STATUS ∷ []) (byte ∷ []) 1

abbrev pub programmed : List Exchange
programmed = command (PROGRAM-EXECUTE ∷ 0 ∷ 0 ∷ 0 ∷ [])

-- page 0 is read at column 2,047, page 1 at column 0
abbrev pub last_byte : List Exchange
last_byte = asked (READ-CACHE ∷ 7 ∷ 255 ∷ 0 ∷ []) (161 ∷ []) 1

abbrev pub first_byte : List Exchange
first_byte = asked (READ-CACHE ∷ 0 ∷ 0 ∷ 0 ∷ []) (178 ∷ []) 1

-- a load's delay and the look that ends its wait; then its verdict
abbrev pub waited : List Exchange
waited = paused 10 ++ status 0

abbrev pub loaded : ℕ → ℕ → List Exchange
loaded page verdict = load page ++ waited ++ status verdict

-- all that is to be read of either page
abbrev pub page_0 : List Exchange
page_0 = loaded 0 0 ++ last_byte

abbrev pub page_1 : List Exchange
page_1 = loaded 1 0 ++ first_byte

-- ---- lawful runs

abbrev pub true_run : List Seen
true_run = claimed (page_0 ++ page_1)

-- page 0 copied otherwise
abbrev pub copied_by : List Exchange → List Seen
copied_by own = claimed (loaded 0 0 ++ own ++ page_1)

abbrev pub in_frame : List Exchange → List Exchange
in_frame own = done low ∷ (own ++ done high ∷ [])

abbrev pub got_by_quad : List ℕ → Exchange
got_by_quad command = record { shown = quad_read command 8 0 1; kind = Reply.Data; bytes = 161 ∷ [] }

-- by four lines
abbrev pub by_quad : List Seen
by_quad = copied_by (in_frame (got_by_quad (QUAD-READ-CACHE ∷ 7 ∷ 255 ∷ []) ∷ []))

-- looks behind a verdict mean nothing: neither a part that is busy again, nor other bits 5 and 4
abbrev pub looked_again : List Seen
looked_again = claimed (loaded 0 0 ++ status 33 ++ status 32 ++ last_byte ++ loaded 1 0 ++ status 1 ++ first_byte)

-- nor do looks before any load
abbrev pub looked_before : List Seen
looked_before = claimed (status 32 ++ status 32 ++ page_0 ++ page_1)

-- the look that ends a wait is no verdict
abbrev pub wait_is_no_verdict : List Seen
wait_is_no_verdict = claimed (load 0 ++ paused 10 ++ status 32 ++ status 0 ++ last_byte ++ page_1)

-- a write that begins with 02 goes to the cache only where it is a frame's first
abbrev pub before_copy : List Exchange → List Seen
before_copy own = claimed (loaded 0 0 ++ own ++ last_byte ++ page_1)

abbrev pub second_data : List Seen
second_data = before_copy (done low ∷ done (write (GET-FEATURE ∷ REG-CONFIGURATION ∷ [])) ∷ done (write (LOAD-PROGRAM-DATA ∷ 0 ∷ 0 ∷ [])) ∷ done high ∷ [])

abbrev pub unselected_data : List Seen
unselected_data = before_copy (done (write (LOAD-PROGRAM-DATA ∷ 0 ∷ 0 ∷ [])) ∷ [])

-- ---- shams

-- between a page's verdict and its copy: data sent to the cache, by one line or four, in part, or behind an empty write; a reset; a program,
-- and a program and a load with a byte too many
abbrev pub overwritten : List Seen
overwritten = before_copy (command (LOAD-PROGRAM-DATA ∷ 0 ∷ 0 ∷ []))

abbrev pub quad_overwritten : List Seen
quad_overwritten = before_copy (done low ∷ done (quad_write (QUAD-LOAD-PROGRAM-DATA ∷ 0 ∷ 0 ∷ []) (161 ∷ [])) ∷ done high ∷ [])

abbrev pub overwritten_in_part : List Seen
overwritten_in_part = before_copy (command (RANDOM-LOAD-DATA ∷ 0 ∷ 0 ∷ []))

abbrev pub overwritten_late : List Seen
overwritten_late = before_copy (done low ∷ done (write []) ∷ done (write (LOAD-PROGRAM-DATA ∷ 0 ∷ 0 ∷ [])) ∷ done high ∷ [])

abbrev pub reset_between : List Seen
reset_between = before_copy (command (RESET ∷ []))

abbrev pub programmed_between : List Seen
programmed_between = before_copy programmed

abbrev pub long_program : List Seen
long_program = before_copy (command (PROGRAM-EXECUTE ∷ 0 ∷ 0 ∷ 0 ∷ 0 ∷ []))

abbrev pub long_load : List Seen
long_load = before_copy (command (PAGE-READ ∷ 0 ∷ 0 ∷ 0 ∷ 1 ∷ []))

-- success without traffic
abbrev pub no_traffic : List Seen
no_traffic = claimed []

-- the first page loaded, the rest claimed
abbrev pub rest_claimed : List Seen
rest_claimed = claimed page_0

-- a page's load skipped; a page loaded twice; the pages in the other order
abbrev pub load_skipped : List Seen
load_skipped = claimed (page_0 ++ first_byte)

abbrev pub loaded_twice : List Seen
loaded_twice = claimed (load 0 ++ page_0 ++ page_1)

abbrev pub other_order : List Seen
other_order = claimed (page_1 ++ page_0)

-- a load told by two or four address bytes; one in the second write of its frame; one written while select is high
abbrev pub page_1_by : List Exchange → List Seen
page_1_by own = claimed (page_0 ++ own ++ waited ++ status 0 ++ first_byte)

abbrev pub short_address : List Seen
short_address = page_1_by (command (PAGE-READ ∷ 0 ∷ 1 ∷ []))

abbrev pub long_address : List Seen
long_address = page_1_by (command (PAGE-READ ∷ 0 ∷ 0 ∷ 0 ∷ 1 ∷ []))

abbrev pub second_write : List Seen
second_write = page_1_by (done low ∷ done (write (LOAD-PROGRAM-DATA ∷ 0 ∷ 0 ∷ [])) ∷ done (write (load_command 1)) ∷ done high ∷ [])

abbrev pub unselected_load : List Seen
unselected_load = page_1_by (done (write (load_command 1)) ∷ [])

-- a page copied before any look; before its verdict; while its part was busy
abbrev pub page_0_behind : List Exchange → List Seen
page_0_behind looks = claimed (load 0 ++ paused 10 ++ looks ++ last_byte ++ page_1)

abbrev pub before_look : List Seen
before_look = page_0_behind []

abbrev pub before_verdict : List Seen
before_verdict = page_0_behind (status 0)

abbrev pub busy_part : List Seen
busy_part = page_0_behind (status 1 ++ status 0)

-- a verdict asked by 0F alone, by a byte too many, of another register, or by another opcode (the id's first byte); in the second write of
-- its frame; while select is high, before it was low and behind
abbrev pub verdict_by : List Exchange → List Seen
verdict_by own = page_0_behind (status 0 ++ own)

abbrev pub no_register : List Seen
no_register = verdict_by (asked (GET-FEATURE ∷ []) (0 ∷ []) 1)

abbrev pub long_register : List Seen
long_register = verdict_by (asked (GET-FEATURE ∷ REG-STATUS ∷ 0 ∷ []) (0 ∷ []) 1)

abbrev pub other_register : List Seen
other_register = verdict_by (asked (GET-FEATURE ∷ REG-CONFIGURATION ∷ []) (0 ∷ []) 1)

abbrev pub other_opcode : List Seen
other_opcode = verdict_by (asked (READ-ID ∷ REG-STATUS ∷ []) (0 ∷ []) 1)

abbrev pub second_command : List Seen
second_command = verdict_by (done low ∷ done (write (GET-FEATURE ∷ REG-CONFIGURATION ∷ [])) ∷ done (write (GET-FEATURE ∷ REG-STATUS ∷ [])) ∷ got (0 ∷ []) 1 ∷ done high ∷ [])

abbrev pub unselected_look : List Seen
unselected_look = verdict_by (done (write (GET-FEATURE ∷ REG-STATUS ∷ [])) ∷ got (0 ∷ []) 1 ∷ [])

abbrev pub look_behind : List Seen
look_behind = verdict_by (command (GET-FEATURE ∷ REG-STATUS ∷ []) ++ got (0 ∷ []) 1 ∷ [])

-- a page with verdict 2 (bits 5 and 4 of 20) delivered; delivered after a second look
abbrev pub uncorrectable : List Seen
uncorrectable = claimed (loaded 0 32 ++ last_byte ++ page_1)

abbrev pub second_opinion : List Seen
second_opinion = claimed (loaded 0 32 ++ status 0 ++ last_byte ++ page_1)

-- a byte of another column; one asked for by a single column byte
abbrev pub other_column : List Seen
other_column = claimed (loaded 0 0 ++ first_byte ++ page_1)

abbrev pub short_column : List Seen
short_column = claimed (page_0 ++ loaded 1 0 ++ asked (READ-CACHE ∷ 0 ∷ []) (178 ∷ []) 1)

-- a copy asked for without the dummy byte, or with two; behind another read, or another write, in its frame, where the part goes on with
-- the first, also where low was asked for between
abbrev pub no_dummy : List Seen
no_dummy = copied_by (asked (READ-CACHE ∷ 7 ∷ 255 ∷ []) (161 ∷ []) 1)

abbrev pub two_dummies : List Seen
two_dummies = copied_by (asked (READ-CACHE ∷ 7 ∷ 255 ∷ 0 ∷ 0 ∷ []) (161 ∷ []) 1)

abbrev pub read_behind : List Seen
read_behind = copied_by (in_frame (done (write (READ-CACHE ∷ 7 ∷ 255 ∷ 0 ∷ [])) ∷ done (read 5) ∷ got (161 ∷ []) 1 ∷ []))

abbrev pub rewritten_column : List Seen
rewritten_column =
    copied_by (in_frame (done (write (READ-CACHE ∷ 7 ∷ 255 ∷ 0 ∷ [])) ∷ done (write (READ-CACHE ∷ 0 ∷ 0 ∷ 0 ∷ [])) ∷ got (161 ∷ []) 1 ∷ []))

abbrev pub low_again : List Seen
low_again = copied_by (in_frame (done (write (READ-ID ∷ [])) ∷ done low ∷ done (write (READ-CACHE ∷ 7 ∷ 255 ∷ 0 ∷ [])) ∷ got (161 ∷ []) 1 ∷ []))

-- a quad read behind a write of its frame; while select is high; with a byte too many
abbrev pub quad_behind : List Seen
quad_behind = copied_by (in_frame (done (write (READ-ID ∷ [])) ∷ got_by_quad (QUAD-READ-CACHE ∷ 7 ∷ 255 ∷ []) ∷ []))

abbrev pub unselected_quad : List Seen
unselected_quad = copied_by (got_by_quad (QUAD-READ-CACHE ∷ 7 ∷ 255 ∷ []) ∷ [])

abbrev pub long_quad : List Seen
long_quad = copied_by (in_frame (got_by_quad (QUAD-READ-CACHE ∷ 7 ∷ 255 ∷ 0 ∷ []) ∷ []))

-- a page programmed, or a block erased, behind all that was asked for
abbrev pub programmed_too : List Seen
programmed_too = claimed (page_0 ++ page_1 ++ programmed)

abbrev pub erased_too : List Seen
erased_too = claimed (page_0 ++ page_1 ++ command (BLOCK-ERASE ∷ 0 ∷ 0 ∷ 0 ∷ []))

-- the next page loaded between the asking for a byte and its coming, by a call begun meanwhile
abbrev pub overtaken : List Seen
overtaken =
    run_from asked_to_read (loaded 0 0 ++ done low ∷ done (write (READ-CACHE ∷ 7 ∷ 255 ∷ 0 ∷ [])) ∷ [])
    (λ event. gave event (act (read 1)) ∷ run_from (call (Call.PageRead 1) two_places) (load 1) (λ next. gave next (act (delay 10)) ∷ []))

-- a wait that never asked for its delay; one that asked too much
abbrev pub no_delay : List Seen
no_delay = claimed (load 0 ++ status 0 ++ status 0 ++ last_byte ++ page_1)

abbrev pub long_delay : List Seen
long_delay = claimed (loaded 0 0 ++ paused 800000 ++ last_byte ++ page_1)

-- ---- shams as drivers

-- at rest, or with these actions to come behind the one that is out
pub data Script : Type 0 where
  at_rest : Script
  playing : List Shown → Script

abbrev pub is_playing : Script → Bool
is_playing at_rest = false
is_playing (playing actions) = true

abbrev pub played : List Shown → Lent → Moved Script Left
played [] l = record { given = success; flash = at_rest; left = l }
played (shown ∷ actions) l = record { given = act shown; flash = playing actions; left = l }

abbrev pub turned_away : Script → Lent → Moved Script Left
turned_away script l = record { given = refused FlashError.OutOfTurn; flash = script; left = l }

abbrev pub begun : List Shown → Script → Lent → Moved Script Left
begun actions at_rest l = played actions l
begun actions (playing rest) l = turned_away (playing rest) l

abbrev pub replied : Script → Lent → Moved Script Left
replied at_rest l = turned_away at_rest l
replied (playing rest) l = played rest l

-- whatever it is asked for and whatever comes back: it gives out these actions, then claims success
abbrev pub actor : List Shown → Driver Script Call Setup Answer
actor actions =
    in_place nand_driver
    (record {
      system =
          record { begin = λ script call l. begun actions script l; answer = λ script r bytes l. replied script l; running = is_playing };
      setup = λ script. held;
      built = λ script. true;
      delivered = λ script buffer. [];
      fresh = at_rest;
    })

abbrev pub actions_in : List Exchange → List Shown
actions_in [] = []
actions_in (x ∷ xs) = x.shown ∷ actions_in xs

-- ---- the statement

abbrev pub Allowed : List Seen → Type 0
Allowed xs = ReadSeen xs W25N01GV 2047 2

abbrev pub Ruled : List Seen → Type 0
Ruled xs = Allowed xs → ⊥

pub record LawfulRuns : Type 0 where
  pub true-run : Allowed true_run
  pub by-quad : Allowed by_quad
  pub looked-again : Allowed looked_again
  pub looked-before : Allowed looked_before
  pub wait-is-no-verdict : Allowed wait_is_no_verdict
  pub second-data : Allowed second_data
  pub unselected-data : Allowed unselected_data

pub record ShamRuns : Type 0 where
  pub no-traffic : Ruled no_traffic
  pub rest-claimed : Ruled rest_claimed
  pub load-skipped : Ruled load_skipped
  pub loaded-twice : Ruled loaded_twice
  pub other-order : Ruled other_order
  pub short-address : Ruled short_address
  pub long-address : Ruled long_address
  pub second-write : Ruled second_write
  pub unselected-load : Ruled unselected_load
  pub before-look : Ruled before_look
  pub before-verdict : Ruled before_verdict
  pub busy-part : Ruled busy_part
  pub no-register : Ruled no_register
  pub long-register : Ruled long_register
  pub other-register : Ruled other_register
  pub other-opcode : Ruled other_opcode
  pub second-command : Ruled second_command
  pub unselected-look : Ruled unselected_look
  pub look-behind : Ruled look_behind
  pub overwritten-cache : Ruled overwritten
  pub quad-overwritten-cache : Ruled quad_overwritten
  pub cache-overwritten-in-part : Ruled overwritten_in_part
  pub cache-overwritten-late : Ruled overwritten_late
  pub reset-between : Ruled reset_between
  pub programmed-cache : Ruled programmed_between
  pub long-program : Ruled long_program
  pub long-load : Ruled long_load
  pub uncorrectable-delivered : Ruled uncorrectable
  pub second-opinion : Ruled second_opinion
  pub other-column : Ruled other_column
  pub short-column : Ruled short_column
  pub no-dummy : Ruled no_dummy
  pub two-dummies : Ruled two_dummies
  pub read-behind : Ruled read_behind
  pub rewritten-column : Ruled rewritten_column
  pub programmed-too : Ruled programmed_too
  pub erased-too : Ruled erased_too
  pub low-again : Ruled low_again
  pub quad-behind : Ruled quad_behind
  pub unselected-quad : Ruled unselected_quad
  pub long-quad : Ruled long_quad
  pub overtaken-byte : Ruled overtaken
  pub no-delay : Ruled no_delay
  pub long-delay : Ruled long_delay

-- a chip that holds these bytes, one in each of two places of the two pages
abbrev pub holding : (last first : ℕ) → (other : ℕ) → Chip
holding last first other page column = if page == 0 then (if column == 2047 then last else other) else first

-- a write of page 0 with one byte of data, 7: it reads back another; or it reads back what it has sent to the cache, and not the page
abbrev pub read_back : ℕ → List Exchange
read_back byte = asked (READ-CACHE ∷ 0 ∷ 0 ∷ 0 ∷ []) (byte ∷ []) 1

abbrev pub unequal : List Exchange
unequal = programmed ++ loaded 0 0 ++ read_back 8

abbrev pub stale : List Exchange
stale = loaded 0 0 ++ programmed ++ read_back 7

-- another page programmed behind it, by a 10 and its address in two writes; its block erased
abbrev pub written : List Exchange → List Exchange
written own = programmed ++ loaded 0 0 ++ read_back 7 ++ own

abbrev pub programmed_behind : List Exchange
programmed_behind = written (in_frame (done (write (PROGRAM-EXECUTE ∷ [])) ∷ done (write (0 ∷ 0 ∷ 1 ∷ [])) ∷ []))

abbrev pub erased_behind : List Exchange
erased_behind = written (command (BLOCK-ERASE ∷ 0 ∷ 0 ∷ 0 ∷ []))

pub record ChipsTold : Type 0 where
  -- a chip has answered so, and every chip that has holds these bytes at the places that were asked for
  pub answers : FromChip (holding 161 178 0) unseen true_run
  pub holds : (chip : Chip) → FromChip chip unseen true_run → (chip 0 2047 ≡ 161) × (chip 1 0 ≡ 178)
  -- also where its verdict had not come, or no look
  pub unjudged : (chip : Chip) → FromChip chip unseen before_verdict → chip 0 2047 ≡ 161
  pub unlooked : (chip : Chip) → FromChip chip unseen before_look → chip 0 2047 ≡ 161
  -- a driver that skips a load delivers what the chip does not hold
  pub load-skipped : DeliversTheChip (actor (actions_in (page_0 ++ first_byte))) → ⊥
  -- one that does all of a read on the bus, and leaves the buffer as it was, does not fill it
  pub unfilled : DeliversTheChip (actor (actions_in (page_0 ++ page_1))) → ⊥
  -- one that claims success without traffic has written no page
  pub no-traffic : DeliversTheChip (actor []) → ⊥
  -- nor one that goes on with other data than it was lent, or does not load the page again
  pub unequal-data : DeliversTheChip (actor (actions_in unequal)) → ⊥
  pub stale-cache : DeliversTheChip (actor (actions_in stale)) → ⊥
  -- nor one that programs or erases more
  pub programmed-behind : DeliversTheChip (actor (actions_in programmed_behind)) → ⊥
  pub erased-behind : DeliversTheChip (actor (actions_in erased_behind)) → ⊥

pub record ShamsRuledOut : Type 0 where
  pub lawful : LawfulRuns
  pub runs : ShamRuns
  pub chips : ChipsTold
  -- a driver that gives out the actions of a sham run does not keep the promises of a read
  pub drivers : (xs : List Exchange) → Ruled (claimed xs) → ReadsAsAsked (actor (actions_in xs)) → ⊥
  -- nor one that gives out those of the true run, and leaves the buffer as it was
  pub buffer-kept : ReadsAsAsked (actor (actions_in (page_0 ++ page_1))) → ⊥

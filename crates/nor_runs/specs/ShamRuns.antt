-- Runs of a NOR's read and write that sham drivers would show, beside lawful ones (docs/SPECIFICATION.md, "Shams" and "Reads on the bus"):
-- each at place 5, of 2 bytes but for one long piece. The observer allows the lawful runs and none of the shams, for one thing that each does otherwise.
use Rattle.std.specs.Prelude.{ℕ, ◌<◌, ◌≡◌, ◌==◌, if◌then◌else◌, List, [], ◌∷◌, ◌++◌, length, Option, Some, None}
use Rattle.qspi.specs.Shown.{Shown, low, high, write, read, quad_read, quad_write, delay}
use Rattle.qspi.specs.declared.bus.Reply.{Reply}
use Rattle.spi_flash.specs.Loan.{Lent}
use Rattle.spi_flash.specs.Run.{Event, reply, call, Given, act, ended, Entry}
use Rattle.spi_nor.specs.Config.{quad_w25q128jv}
use Rattle.spi_nor.specs.declared.config.NorQuadConfig.{NorQuadConfig}
use Rattle.nor_runs.specs.Chip.{FromChip, pieces_in, ReadSeen, WriteSeen}

-- ---- how a run is written down

-- an action, and the host's reply to it
pub record Exchange : Type 0 where
  pub shown : Shown
  pub kind : Reply
  pub bytes : List ℕ

abbrev pub done : Shown → Exchange
done shown = record { shown = shown; kind = Reply.Done; bytes = [] }

abbrev pub got : Shown → List ℕ → Exchange
got shown bytes = record { shown = shown; kind = Reply.Data; bytes = bytes }

-- the data, which only a write takes; the observer looks at no other lent byte
abbrev pub lent : Lent
lent = record { scratch = []; buffer = []; given = 161 ∷ 178 ∷ [] }

abbrev pub Seen : Type 0
Seen = Entry (Unit {0}) (Unit {0})

abbrev pub gave : Event (Unit {0}) → Given (Unit {0}) → Seen
gave event given = record { event = event; given = given; left = lent }

-- the exchanges one after the other, then what follows the last reply
abbrev pub run_from : Event (Unit {0}) → List Exchange → (Event (Unit {0}) → List Seen) → List Seen
run_from event [] rest = rest event
run_from event (x ∷ xs) rest = gave event (act x.shown) ∷ run_from (reply x.kind x.bytes lent) xs rest

-- a good end, or this action more
abbrev pub claimed : List Exchange → List Seen
claimed xs = run_from (call tt lent) xs (λ event. gave event (ended tt) ∷ [])

abbrev pub going_on : List Exchange → Shown → List Seen
going_on xs shown = run_from (call tt lent) xs (λ event. gave event (act shown) ∷ [])

-- ---- what a run is made of

-- these, written one after the other
abbrev pub writes : List (List ℕ) → List Exchange
writes [] = []
writes (bytes ∷ more) = done (write bytes) ∷ writes more

-- these, in a frame of their own
abbrev pub framed : List (List ℕ) → List Exchange
framed written = done low ∷ writes written ++ done high ∷ []

-- and behind them a read of so many bytes
abbrev pub asked : List (List ℕ) → List ℕ → ℕ → List Exchange
asked written answer n = done low ∷ writes written ++ got (read n) answer ∷ done high ∷ []

-- one piece at a place below 256
abbrev pub piece_at : ℕ → List ℕ → ℕ → List Exchange
piece_at place answer n = asked ((3 ∷ 0 ∷ 0 ∷ place ∷ []) ∷ []) answer n

abbrev pub quad_piece : (opcode place : ℕ) → List ℕ → ℕ → List Exchange
quad_piece opcode place answer n = done low ∷ got (quad_read (opcode ∷ 0 ∷ 0 ∷ place ∷ []) 8 0 n) answer ∷ done high ∷ []

-- the bytes on the chip, which are the data of the write
abbrev pub both_bytes : List ℕ
both_bytes = 161 ∷ 178 ∷ []

-- ---- a read

abbrev pub read_whole : List Seen
read_whole = claimed (piece_at 5 both_bytes 2)

abbrev pub read_in_pieces : List Seen
read_in_pieces = claimed (piece_at 5 (161 ∷ []) 1 ++ piece_at 6 (178 ∷ []) 1)

abbrev pub read_quad : List Seen
read_quad = claimed (quad_piece 0x6B 5 both_bytes 2)

-- a pause in the frame
abbrev pub read_after_pause : List Seen
read_after_pause = claimed (done low ∷ done (write (3 ∷ 0 ∷ 0 ∷ 5 ∷ [])) ∷ done (delay 1) ∷ got (read 2) both_bytes ∷ done high ∷ [])

-- an erase, and a read, where the chip takes none: with select high, and behind a read
abbrev pub untaken : List Exchange
untaken = done (write (0x20 ∷ 0 ∷ 0 ∷ 5 ∷ [])) ∷ done (read 1) ∷ []

abbrev pub no_erase : List Seen
no_erase = claimed (untaken ++ done low ∷ done (write (3 ∷ 0 ∷ 0 ∷ 5 ∷ [])) ∷ got (read 2) both_bytes ∷ untaken ++ done high ∷ [])

-- success with no traffic
abbrev pub no_traffic : List Seen
no_traffic = claimed []

-- the first piece read, the rest claimed
abbrev pub rest_claimed : List Seen
rest_claimed = claimed (piece_at 5 (161 ∷ []) 1)

-- the second piece read at the offset again
abbrev pub offset_again : List Seen
offset_again = claimed (piece_at 5 (161 ∷ []) 1 ++ piece_at 5 (161 ∷ []) 1)

-- and only asked for again; and a byte behind the last one read
abbrev pub asked_again : List Seen
asked_again = going_on (piece_at 5 (161 ∷ []) 1 ++ done low ∷ done (write (3 ∷ 0 ∷ 0 ∷ 5 ∷ [])) ∷ []) (read 1)

abbrev pub past_the_end : List Seen
past_the_end = going_on (piece_at 5 both_bytes 2 ++ piece_at 7 (0 ∷ []) 1) low

-- all in one piece
abbrev pub one_piece : List ℕ → List Seen
one_piece bytes = claimed (piece_at 5 bytes (length bytes))

-- bytes of another address; of one sent lowest byte first
abbrev pub other_address : List Seen
other_address = claimed (piece_at 6 both_bytes 2)

abbrev pub lowest_first : List Seen
lowest_first = claimed (asked ((3 ∷ 5 ∷ 0 ∷ 0 ∷ []) ∷ []) both_bytes 2)

-- a byte more written between the command and the read, so that the chip is one place on
abbrev pub one_place_on : List Seen
one_place_on = claimed (asked ((3 ∷ 0 ∷ 0 ∷ 5 ∷ []) ∷ (0 ∷ []) ∷ []) both_bytes 2)

-- a byte ahead of the command, or behind it in one write: no read of the contents for the chip
abbrev pub byte_ahead : List Seen
byte_ahead = claimed (asked ((0 ∷ []) ∷ (3 ∷ 0 ∷ 0 ∷ 5 ∷ []) ∷ []) both_bytes 2)

abbrev pub longer_command : List Seen
longer_command = claimed (asked ((3 ∷ 0 ∷ 0 ∷ 5 ∷ 0 ∷ []) ∷ []) both_bytes 2)

abbrev pub byte_ahead_of_quad : List Seen
byte_ahead_of_quad = claimed (done low ∷ done (write (0 ∷ [])) ∷ got (quad_read (0x6B ∷ 0 ∷ 0 ∷ 5 ∷ []) 8 0 2) both_bytes ∷ done high ∷ [])

-- in one frame: another command behind a read, or behind a quad read, which the chip does not take; a read behind one that got no data
abbrev pub second_command : List Seen
second_command = claimed (done low ∷ done (write (3 ∷ 0 ∷ 0 ∷ 5 ∷ [])) ∷ got (read 1) (161 ∷ []) ∷ done (write (3 ∷ 0 ∷ 0 ∷ 6 ∷ [])) ∷ got (read 1) (178 ∷ []) ∷ done high ∷ [])

abbrev pub command_behind_quad : List Seen
command_behind_quad = claimed (done low ∷ got (quad_read (0x6B ∷ 0 ∷ 0 ∷ 5 ∷ []) 8 0 1) (161 ∷ []) ∷ done (write (3 ∷ 0 ∷ 0 ∷ 6 ∷ [])) ∷ got (read 1) (178 ∷ []) ∷ done high ∷ [])

abbrev pub reads_on : List Seen
reads_on = claimed (done low ∷ done (write (3 ∷ 0 ∷ 0 ∷ 5 ∷ [])) ∷ done (read 2) ∷ got (read 2) both_bytes ∷ done high ∷ [])

-- a sector erased, and then read
abbrev pub erased_and_read : List Seen
erased_and_read = claimed (framed ((0x20 ∷ 0 ∷ 0 ∷ 5 ∷ []) ∷ []) ++ piece_at 5 both_bytes 2)

-- read when select is high again; with select high throughout
abbrev pub read_unselected : List Seen
read_unselected = claimed (done low ∷ done (write (3 ∷ 0 ∷ 0 ∷ 5 ∷ [])) ∷ done high ∷ got (read 2) both_bytes ∷ [])

abbrev pub never_selected : List Seen
never_selected = claimed (done (write (3 ∷ 0 ∷ 0 ∷ 5 ∷ [])) ∷ got (read 2) both_bytes ∷ [])

-- the contents read by the status command; by a quad opcode that is not the caller's
abbrev pub status_for_contents : List Seen
status_for_contents = claimed (asked ((5 ∷ []) ∷ []) both_bytes 2)

abbrev pub other_opcode : List Seen
other_opcode = claimed (quad_piece 0xEB 5 both_bytes 2)

-- ---- a write, with a page of 2

abbrev pub sent_by : (opcode place : ℕ) → List Exchange
sent_by opcode place = done low ∷ done (write (opcode ∷ 0 ∷ 0 ∷ place ∷ [])) ∷ done (write both_bytes) ∷ done high ∷ []

abbrev pub programmed_at : ℕ → List Exchange
programmed_at place = sent_by 2 place

abbrev pub quad_programmed : List Exchange
quad_programmed = done low ∷ done (quad_write (0x32 ∷ 0 ∷ 0 ∷ 5 ∷ []) both_bytes) ∷ done high ∷ []

abbrev pub written_back : List Seen
written_back = claimed (programmed_at 5 ++ piece_at 5 both_bytes 2)

abbrev pub written_quad : List Seen
written_quad = claimed (quad_programmed ++ quad_piece 0x6B 5 both_bytes 2)

-- its command and its data cut otherwise into writes
abbrev pub written_at_once : List Seen
written_at_once = claimed (framed ((2 ∷ 0 ∷ 0 ∷ 5 ∷ 161 ∷ 178 ∷ []) ∷ []) ++ piece_at 5 both_bytes 2)

abbrev pub written_in_three : List Seen
written_in_three = claimed (framed ((2 ∷ 0 ∷ []) ∷ (0 ∷ 5 ∷ 161 ∷ []) ∷ (178 ∷ []) ∷ []) ++ piece_at 5 both_bytes 2)

-- not read back; read back otherwise, and taken for the data; read back from another place
abbrev pub not_read_back : List Seen
not_read_back = claimed (programmed_at 5)

abbrev pub not_compared : List Seen
not_compared = claimed (programmed_at 5 ++ piece_at 5 (161 ∷ 0 ∷ []) 2)

abbrev pub other_place : List Seen
other_place = claimed (programmed_at 5 ++ piece_at 7 both_bytes 2)

-- written elsewhere than read back; by another command; never written; read back before it was written
abbrev pub written_elsewhere : List Seen
written_elsewhere = claimed (programmed_at 7 ++ piece_at 5 both_bytes 2)

abbrev pub other_command : List Seen
other_command = claimed (sent_by 4 5 ++ piece_at 5 both_bytes 2)

abbrev pub never_written : List Seen
never_written = claimed (piece_at 5 both_bytes 2)

abbrev pub read_back_first : List Seen
read_back_first = going_on (piece_at 5 both_bytes 2) low

-- before its end: an erase, or two pages programmed, where none was read back
abbrev pub erasing : List Seen
erasing = going_on (framed ((0x20 ∷ 0 ∷ 0 ∷ 5 ∷ []) ∷ [])) low

abbrev pub two_ahead : List Seen
two_ahead = going_on (programmed_at 5 ++ programmed_at 6) low

-- another page programmed beside it, command and data in one write, or cut otherwise; an erase behind the read-back
abbrev pub hidden_program : List Seen
hidden_program = claimed (programmed_at 5 ++ framed ((2 ∷ 0 ∷ 0 ∷ 9 ∷ 161 ∷ []) ∷ []) ++ piece_at 5 both_bytes 2)

abbrev pub hidden_in_parts : List Seen
hidden_in_parts = claimed (programmed_at 5 ++ framed ((2 ∷ 0 ∷ []) ∷ (0 ∷ 9 ∷ 161 ∷ []) ∷ []) ++ piece_at 5 both_bytes 2)

abbrev pub erased_behind : List Seen
erased_behind = claimed (programmed_at 5 ++ piece_at 5 both_bytes 2 ++ framed ((0x20 ∷ 0 ∷ 0 ∷ 5 ∷ []) ∷ []))

-- a quad write behind another byte, or with an opcode that is not the caller's; one read back in its own frame
abbrev pub behind_a_byte : List Seen
behind_a_byte = claimed (done low ∷ done (write (6 ∷ [])) ∷ done (quad_write (0x32 ∷ 0 ∷ 0 ∷ 5 ∷ []) both_bytes) ∷ done high ∷ quad_piece 0x6B 5 both_bytes 2)

abbrev pub other_quad_write : List Seen
other_quad_write = claimed (quad_programmed ++ quad_piece 0x6B 5 both_bytes 2 ++ done low ∷ done (quad_write (0x20 ∷ 0 ∷ 0 ∷ 5 ∷ []) []) ∷ done high ∷ [])

-- a quad read that is an erase; a read as a frame's first, or behind 02, where anything may be sent
abbrev pub erased_by_quad : List Seen
erased_by_quad = claimed (quad_programmed ++ quad_piece 0x6B 5 both_bytes 2 ++ done low ∷ done (quad_read (0x20 ∷ 0 ∷ 0 ∷ 5 ∷ []) 0 0 1) ∷ done high ∷ [])

abbrev pub opened_by_read : List Seen
opened_by_read = claimed (programmed_at 5 ++ piece_at 5 both_bytes 2 ++ done low ∷ done (read 1) ∷ done high ∷ [])

abbrev pub programmed_by_read : List Seen
programmed_by_read = claimed (programmed_at 5 ++ piece_at 5 both_bytes 2 ++ done low ∷ done (write (2 ∷ 0 ∷ 0 ∷ 5 ∷ [])) ∷ done (read 1) ∷ done high ∷ [])

abbrev pub back_in_one_frame : List Seen
back_in_one_frame = claimed (done low ∷ done (quad_write (0x32 ∷ 0 ∷ 0 ∷ 5 ∷ []) both_bytes) ∷ got (quad_read (0x6B ∷ 0 ∷ 0 ∷ 5 ∷ []) 8 0 2) both_bytes ∷ done high ∷ [])

-- ---- what the chip has answered

-- a chip that holds the two bytes at 5 and 6
abbrev pub holding : ℕ → ℕ
holding place = if place == 5 then 161 else if place == 6 then 178 else 0

-- ---- the statement

abbrev pub quad : Option NorQuadConfig
quad = Some quad_w25q128jv

pub record ShamRunsFail : Type 0 where
  -- lawful reads
  pub whole : ReadSeen None read_whole 5 2
  pub in_pieces : ReadSeen None read_in_pieces 5 2
  pub by_quad : ReadSeen quad read_quad 5 2
  pub after_pause : ReadSeen None read_after_pause 5 2
  pub erases_nothing : ReadSeen None no_erase 5 2
  -- sham reads
  pub no-traffic : ReadSeen None no_traffic 5 2 → ⊥
  pub rest-claimed : ReadSeen None rest_claimed 5 2 → ⊥
  pub offset-again : ReadSeen None offset_again 5 2 → ⊥
  pub asked-again : ReadSeen None asked_again 5 2 → ⊥
  pub past-the-end : ReadSeen None past_the_end 5 2 → ⊥
  pub long-piece : (bytes : List ℕ) → 65536 < length bytes → ReadSeen None (one_piece bytes) 5 (length bytes) → ⊥
  pub other-address : ReadSeen None other_address 5 2 → ⊥
  pub lowest-first : ReadSeen None lowest_first 5 2 → ⊥
  pub one-place-on : ReadSeen None one_place_on 5 2 → ⊥
  pub byte-ahead : ReadSeen None byte_ahead 5 2 → ⊥
  pub longer-command : ReadSeen None longer_command 5 2 → ⊥
  pub byte-ahead-of-quad : ReadSeen quad byte_ahead_of_quad 5 2 → ⊥
  pub second-command : ReadSeen None second_command 5 2 → ⊥
  pub command-behind-quad : ReadSeen quad command_behind_quad 5 2 → ⊥
  pub reads-on : ReadSeen None reads_on 5 2 → ⊥
  pub erased-and-read : ReadSeen None erased_and_read 5 2 → ⊥
  pub read-unselected : ReadSeen None read_unselected 5 2 → ⊥
  pub never-selected : ReadSeen None never_selected 5 2 → ⊥
  pub status-for-contents : ReadSeen None status_for_contents 5 2 → ⊥
  pub other-opcode : ReadSeen quad other_opcode 5 2 → ⊥
  -- lawful writes
  pub back : WriteSeen None written_back 5 2
  pub back_by_quad : WriteSeen quad written_quad 5 2
  pub back_at_once : WriteSeen None written_at_once 5 2
  pub back_in_three : WriteSeen None written_in_three 5 2
  -- sham writes
  pub not-read-back : WriteSeen None not_read_back 5 2 → ⊥
  pub not-compared : WriteSeen None not_compared 5 2 → ⊥
  pub other-place : WriteSeen None other_place 5 2 → ⊥
  pub written-elsewhere : WriteSeen None written_elsewhere 5 2 → ⊥
  pub other-command : WriteSeen None other_command 5 2 → ⊥
  pub never-written : WriteSeen None never_written 5 2 → ⊥
  pub read-back-first : WriteSeen None read_back_first 5 2 → ⊥
  pub erasing : WriteSeen None erasing 5 2 → ⊥
  pub two-ahead : WriteSeen None two_ahead 5 2 → ⊥
  pub hidden-program : WriteSeen None hidden_program 5 2 → ⊥
  pub hidden-in-parts : WriteSeen None hidden_in_parts 5 2 → ⊥
  pub erased-behind : WriteSeen None erased_behind 5 2 → ⊥
  pub behind-a-byte : WriteSeen quad behind_a_byte 5 2 → ⊥
  pub other-quad-write : WriteSeen quad other_quad_write 5 2 → ⊥
  pub erased-by-quad : WriteSeen quad erased_by_quad 5 2 → ⊥
  pub opened-by-read : WriteSeen None opened_by_read 5 2 → ⊥
  pub programmed-by-read : WriteSeen None programmed_by_read 5 2 → ⊥
  pub back-in-one-frame : WriteSeen quad back_in_one_frame 5 2 → ⊥
  -- a chip has answered the lawful read so, and every chip that has holds these bytes at the places that were asked for
  pub answers : FromChip holding (pieces_in None read_whole)
  pub holds : (contents : ℕ → ℕ) → FromChip contents (pieces_in None read_whole) → (contents 5 ≡ 161) × (contents 6 ≡ 178)

-- A NOR read delivers what the chip holds, and a write has read back what was lent.
use Prim.Native.Nat.{ℕ}
use mathlib.Core.Bool.{Bool, true, false}
use native.Mathlib.Omega.{arith}
use mathlib.Core.Path.{◌≡◌, refl, ap, sym, ◌∙◌, subst}
use mathlib.Core.List.{List, [], ◌∷◌}
use lib.ListN.{length}
use Rattle.std.specs.Prelude.{Option, Some, None}
use Rattle.qspi.specs.declared.bus.Reply.{Reply}
use Rattle.spi_flash.specs.Loan.{Lent}
use Rattle.spi_flash.specs.Prog.{ret}
use Rattle.spi_flash.specs.Run.{Event, reply, call, Given, act, ended, failed, refused, Entry}
use Rattle.spi_flash.specs.Seen.{lent_to, Taken, SameData}
use Rattle.spi_flash.specs.declared.loan.Takes.{Takes}
use Rattle.flash_runs.specs.Contents.{contents_from, run, steps, Delivers}
use Rattle.spi_nor.specs.declared.setup.Setup.{Setup}
use Rattle.flash_runs.specs.Driver.{Left, leaving, program_at, bounded_at, run_at, steps_at}
use Rattle.flash_runs.specs.Reading.{data_at, bytes_read}
use Rattle.flash_runs.specs.Watch.{sees, watched, Succeeded}
use Rattle.flash_runs.proofs.Contents.{delivers}
use Rattle.flash_runs.proofs.WatchedCalls.{run-sees, steps-see}
use Rattle.flash_runs.proofs.Watchers.{both-watch, got, reader, reader-reads}
use Rattle.flash_runs.proofs.Watching.{Shows, shows-ret, shows_then}
use Rattle.spi_nor.specs.declared.answer.Answer.{Answer}
use Rattle.spi_nor.specs.declared.call.Call.{Call}
use Rattle.spi_nor.specs.declared.config.NorQuadConfig.{NorQuadConfig}
use Rattle.nor_driver.specs.Settle.{SpiNorFlash}
use Rattle.nor_runs.specs.Chip.{joined, FromChip, pieces_in, ReadSeen, WriteSeen, ReadOf, WriteOf, DeliversTheChip}
use Rattle.nor_runs.specs.Observer.{Piece, Sight, with_piece, unseen, observer}
use Rattle.nor_runs.proofs.AsCoded.{coded}
use Rattle.nor_runs.proofs.Agrees.{same}
use Rattle.nor_runs.specs.Run.{nor_driver}
use Rattle.nor_runs.proofs.Pieces.{from-chip, Beside, beside-more, whole-data}
use Rattle.nor_runs.proofs.Promises.{known}
use Rattle.nor_runs.proofs.SeenRead as SeenRead
use Rattle.nor_runs.proofs.SeenRead.{read-shows}
use Rattle.nor_runs.proofs.SeenTransfers.{Sights, watcher, Q}
use Rattle.nor_runs.proofs.SeenWrite as SeenWrite
use Rattle.nor_runs.proofs.SeenWrite.{write-shows}

-- ---- lists of entries

-- what both watchers see is what each sees
module _ (quad : Option NorQuadConfig) {C A : Type 0} (xs : List (Entry C A)) (mine : Bool) where
  abbrev each : Sights
  each = (watched (observer quad) unseen xs, watched (reader (λ command. true)) (got mine []) xs)

  seen : watched (watcher quad) (unseen, got mine []) xs ≡ each
  seen = both-watch (observer quad) (reader (λ command. true)) xs unseen (got mine [])

  read_is : each.1.bytes ≡ bytes_read (λ command. true) mine xs
  read_is = reader-reads (λ command. true) xs mine []

-- ---- a read

module _ (flash : SpiNorFlash) (offset : ℕ) (l : Lent) (es : List (Event Call)) where
  abbrev len : ℕ
  len = length l.buffer

  abbrev quad : Option NorQuadConfig
  quad = flash.setup.config.quad

  abbrev c : Call
  c = Call.Read offset

  module _ (mine : Bool) where
    abbrev first : Sights
    first = (unseen, got mine [])

    abbrev Fine : Sights → Type 0
    Fine = Q quad (SeenRead.InOrder offset len)

    abbrev Full : Sights → Type 0
    Full = SeenRead.Whole len

    unasked : Fine first
    unasked = (tt, tt, omega arith, refl, refl)

    shows : bounded_at nor_driver flash c l ≡ true → Shows (watcher quad) Fine (λ a y. Full y) first (program_at nor_driver flash.setup c l)
    unfolding coded
    shows inside =
        rw (same flash.setup c len (length l.given) inside)
        (shows_then (watcher quad) Fine (read-shows flash.setup inside offset len mine) (λ u y full. shows-ret (watcher quad) Fine full))

    -- of a run, and of a good end
    in_run : Fine (each quad (run_at nor_driver flash c l es) mine) × (Succeeded (run_at nor_driver flash c l es) → Full (each quad (run_at nor_driver flash c l es) mine))
    in_run =
        let xs = run_at nor_driver flash c l es in
        subst (λ z. Fine z × (Succeeded xs → Full z)) (seen quad xs mine) (run-sees known flash c l es (watcher quad) Fine Full first unasked shows)

    at_end : Succeeded (steps_at nor_driver flash c l es) → Fine (each quad (steps_at nor_driver flash c l es) mine) × Full (each quad (steps_at nor_driver flash c l es) mine)
    at_end e =
        let xs = steps_at nor_driver flash c l es in
        subst (λ z. Fine z × Full z) (seen quad xs mine) (steps-see known flash c l es (watcher quad) Fine Full first unasked shows (Takes.Buffer len) refl e)

  abbrev its_run : List (Entry Call (Left Setup Answer))
  its_run = run nor_driver flash c l es

  abbrev its_steps : List (Entry Call (Left Setup Answer))
  its_steps = steps nor_driver flash c l es

  -- what was seen, in the words of the statement
  said : (xs : List (Entry Call (Left Setup Answer))) → Fine true (each quad xs true) → (Succeeded xs → Full true (each quad xs true)) → ReadSeen quad xs offset len
  said xs fine full = record {
    in_turn = fine.0;
    next = fine.1;
    within = fine.2;
    all = fine.3 ∙ read_is quad xs true;
    unchanged = fine.4;
    whole = λ e. ap length (sym (read_is quad xs true)) ∙ full e;
  }

  module _ (contents : ℕ → ℕ) (answered : FromChip contents (pieces_in quad its_run)) where
    reads : List ℕ
    reads = bytes_read (λ command. true) false its_run

    joined-is : joined (pieces_in quad its_run) ≡ reads
    unfolding reads
    joined-is = (in_run false).0.3 ∙ read_is quad its_run false

    in_order : reads ≡ contents_from contents offset (length reads)
    in_order =
        let whole = from-chip contents (pieces_in quad its_run) offset (in_run false).0.0 answered in
        subst (λ bs. bs ≡ contents_from contents offset (length bs)) joined-is whole

    none : (a : Answer) → bounded_at nor_driver flash c l ≡ true → program_at nor_driver flash.setup c l ≡ ret (leaving flash.setup a) → len ≡ 0
    none a inside e = sym (subst (Shows (watcher quad) (Fine false) (λ a y. Full false y) (first false)) e (shows false inside)).shows

    delivered : Delivers nor_driver flash c l es contents offset
    unfolding reads
    delivered = delivers known flash c l refl contents offset es in_order (λ e. ap length (sym (read_is quad its_run false)) ∙ (in_run false).1 e) none

  read-of : ReadOf nor_driver flash offset l es
  read-of = record {
    seen = said its_run (in_run true).0 (in_run true).1;
    ended = λ e. said its_steps (at_end true e).0 (λ h. (at_end true h).1);
    delivers = delivered;
  }

-- ---- the data lent beside each piece

-- a data reply's, and none is noted without one
beside-piece : (given : List ℕ) (asked : Option ℕ) (r : Reply) (bytes : List ℕ) (lent : List ℕ) (ps : List Piece) → lent ≡ given → Beside given ps →
    Beside given (with_piece asked (data_at true r lent) (data_at true r bytes) ps)
beside-piece given None r bytes lent ps e h = h
beside-piece given (Some place) Reply.Done bytes lent ps e h = h
beside-piece given (Some place) Reply.Data [] lent ps e h = h
beside-piece given (Some place) Reply.Data (b ∷ bytes) lent ps e h = beside-more given ps _ h e
beside-piece given (Some place) (Reply.Error code) bytes lent ps e h = h

module _ (quad : Option NorQuadConfig) (given : List ℕ) {C A : Type 0} where
  beside-sees : (s : Sight) (event : Event C) (g : Given A) (left : Lent) → Beside given s.pieces → Taken g ((lent_to event).given ≡ given) →
      Beside given (sees (observer quad) s (record { event = event; given = g; left = left })).pieces
  beside-sees s (reply r bytes l) (act shown) left h e = beside-piece given s.asked r bytes l.given s.pieces e h
  beside-sees s (reply r bytes l) (ended a) left h e = beside-piece given s.asked r bytes l.given s.pieces e h
  beside-sees s (reply r bytes l) (failed x) left h e = beside-piece given s.asked r bytes l.given s.pieces e h
  beside-sees s (reply r bytes l) (refused x) left h e = h
  beside-sees s (call c l) (act shown) left h e = h
  beside-sees s (call c l) (ended a) left h e = h
  beside-sees s (call c l) (failed x) left h e = h
  beside-sees s (call c l) (refused x) left h e = h

  beside-watched : (xs : List (Entry C A)) (s : Sight) → Beside given s.pieces → SameData given xs → Beside given (watched (observer quad) s xs).pieces
  unfolding watched SameData
  beside-watched [] s h same = h
  beside-watched (x ∷ xs) s h same = beside-watched xs (sees (observer quad) s x) (beside-sees s x.event x.given x.left h same.0) same.1

-- ---- a write

module _ (flash : SpiNorFlash) (offset : ℕ) (l : Lent) (es : List (Event Call)) where
  abbrev size : ℕ
  size = length l.given

  abbrev lines : Option NorQuadConfig
  lines = flash.setup.config.quad

  abbrev writing : Call
  writing = Call.Write offset

  abbrev start : Sights
  start = (unseen, got false [])

  abbrev Right : Sights → Type 0
  Right = Q lines (SeenWrite.InOrder offset size)

  abbrev ReadBack : Sights → Type 0
  ReadBack = SeenWrite.Whole size

  nothing : Right start
  nothing = (tt, tt, omega arith, (record { rest = []; whole = refl }, tt))

  writes : bounded_at nor_driver flash writing l ≡ true → Shows (watcher lines) Right (λ a y. ReadBack y) start (program_at nor_driver flash.setup writing l)
  unfolding coded
  writes inside =
      rw (same flash.setup writing (length l.buffer) size inside)
      (shows_then (watcher lines) Right (write-shows flash.setup inside offset size (got false [])) (λ u y full. shows-ret (watcher lines) Right full))

  abbrev write_run : List (Entry Call (Left Setup Answer))
  write_run = run nor_driver flash writing l es

  abbrev write_steps : List (Entry Call (Left Setup Answer))
  write_steps = steps nor_driver flash writing l es

  seen_run : Right (each lines write_run false) × (Succeeded write_run → ReadBack (each lines write_run false))
  seen_run =
      subst (λ z. Right z × (Succeeded write_run → ReadBack z)) (seen lines write_run false)
      (run-sees known flash writing l es (watcher lines) Right ReadBack start nothing writes)

  seen_end : Succeeded write_steps → Right (each lines write_steps false) × ReadBack (each lines write_steps false)
  seen_end e =
      subst (λ z. Right z × ReadBack z) (seen lines write_steps false)
      (steps-see known flash writing l es (watcher lines) Right ReadBack start nothing writes (Takes.Data size) refl e)

  told : (xs : List (Entry Call (Left Setup Answer))) → Right (each lines xs false) → (Succeeded xs → ReadBack (each lines xs false)) → WriteSeen lines xs offset size
  told xs right full = record {
    in_turn = right.0;
    next = right.1;
    within = right.2;
    programmed = right.3.0;
    ahead = right.3.1;
    all_back = λ e. (full e).2;
    as_lent = λ e. (full e).0;
    whole = λ e. (full e).1;
  }

  same-data : Succeeded write_steps → SameData l.given write_steps → joined (pieces_in lines write_steps) ≡ l.given
  same-data e same =
      let end = (seen_end e).1 in
      whole-data l.given (pieces_in lines write_steps) (beside-watched lines l.given write_steps unseen tt same) end.0 end.1

  write-of : WriteOf nor_driver flash offset l es
  write-of = record {
    seen = told write_run seen_run.0 seen_run.1;
    ended = λ e. told write_steps (seen_end e).0 (λ h. (seen_end e).1);
    read_back = same-data;
    holds = λ contents e same answered.
        let ps = pieces_in lines write_steps in
        let end = seen_end e in
        sym (ap (contents_from contents offset) end.1.1)
        ∙ sym (from-chip contents ps offset end.0.0 answered)
        ∙ same-data e same;
  }

pub nor-delivers-the-chip : DeliversTheChip nor_driver
nor-delivers-the-chip = record { read = read-of; write = write-of }

-- The NAND's calls deliver what the chip holds.
use Prim.Native.Nat.{ℕ, zero, suc, ◌≤◌}
use native.Mathlib.Omega.{arith}
use mathlib.Core.Bool.{Bool, true, false}
use mathlib.Core.Logic.{◌⊎◌, inl, inr, ⊎_elim}
use mathlib.Core.Path.{◌≡◌, refl, ap, ap₂, sym, ◌∙◌, subst}
use mathlib.Core.List.{List, [], ◌∷◌, ◌++◌, append-nil}
use lib.ListN.{length, take}
use lib.Dec.{eqb}
use Rattle.std.proofs.Math.Seq.{take-append_seam}
use Rattle.spi_flash.specs.Loan.{Lent}
use Rattle.spi_flash.specs.Run.{Event, reply, call, Given, act, ended, failed, refused, Entry}
use Rattle.spi_flash.specs.Seen.{lent_to, Taken, SameData, unless_refused}
use Rattle.qspi.specs.declared.transfer.Sink.{Sink}
use Rattle.qspi.specs.declared.bus.Reply.{Reply}
use Rattle.spi_flash.specs.declared.loan.Takes.{Takes}
use Rattle.flash_runs.specs.Contents.{contents_from, Delivers}
use Rattle.flash_runs.specs.Driver.{takes_buffer, takes_at, program_at, bounded_at, run_at, steps_at, flash_after}
use Rattle.flash_runs.specs.Reading.{data_at, bytes_read}
use Rattle.flash_runs.specs.Watch.{giving, hearing, sees, watched, Succeeded}
use Rattle.flash_runs.proofs.Contents.{delivers}
use Rattle.flash_runs.proofs.WatchedCalls.{run-sees, steps-see}
use Rattle.flash_runs.proofs.Watchers.{both-watch, Got, got, reader, reader-reads}
use Rattle.flash_runs.proofs.Watching.{Shows, shows-mono, shows-ret, shows_then}
use Rattle.spi_nand.specs.declared.call.Call.{Call}
use Rattle.spi_nand.specs.declared.config.NandGeometry.{NandGeometry}
use Rattle.nand_driver.specs.Settle.{SpiNandFlash}
use Rattle.nand_runs.specs.Chip.{Chip, byte_at, cached_page, HoldsAt, Answers, answers_in, FromChip, lent_with, lent_beside, ReadBack, DeliversTheChip}
use Rattle.nand_runs.proofs.Pages.{some-page}
use Rattle.nand_runs.proofs.ReadBack.{reading, writes-same}
use Rattle.nand_runs.proofs.SeenPages.{blank, loads-page, reads-cache, reads-page, writes-page}
use Rattle.nand_runs.proofs.SeenCalls.{loaded, programmed, verdict_noted, bytes_came, Sights, at, watcher, Q}
use Rattle.nand_runs.specs.Program.{Left}
use Rattle.nand_runs.specs.Observer.{reads_cache, Load, unloaded, waiting, waited, judged, judged_page, Awaited, other, status, cache, ReadByte, Sight, unseen, looked, bytes_at, recorded, heard_as, answered, observer}
use Rattle.nand_runs.specs.ReadSeen.{placed, sight_of, read_so_far}
use Rattle.nand_runs.proofs.AsCoded.{coded_rust}
use Rattle.nand_runs.proofs.Agrees as Agrees
use Rattle.nand_runs.specs.Run.{sort_of, nand_driver}
use Rattle.nand_runs.proofs.Known.{known}
use Rattle.nand_runs.proofs.SeenSteps.{read-at-once}
use Rattle.nand_runs.proofs.ReadPromises.{seen}

abbrev first : List ℕ → ℕ
first [] = 0
first (x ∷ xs) = x

abbrev behind : List ℕ → List ℕ
behind [] = []
behind (x ∷ xs) = xs

module _ (chip : Chip) where
  -- every byte recorded is the chip's
  abbrev pub Genuine : List ReadByte → Type 0
  Genuine [] = Unit {0}
  Genuine (b ∷ bs) = (b.value ≡ chip b.page b.column) × Genuine bs

  genuine-append : (xs ys : List ReadByte) → Genuine xs → Genuine ys → Genuine (xs ++ ys)
  genuine-append [] ys h k = k
  genuine-append (x ∷ xs) ys h k = (h.0, genuine-append xs ys h.1 k)

  genuine-bytes : (page column : ℕ) (bytes : List ℕ) → bytes ≡ contents_from (chip page) column (length bytes) → Genuine (bytes_at page column bytes)
  genuine-bytes page column [] e = tt
  genuine-bytes page column (b ∷ bytes) e = (ap first e, genuine-bytes page (suc column) bytes (ap behind e))

  -- the bytes of an address and behind it
  module _ (g : NandGeometry) where
    pub from-placed : (address : ℕ) (bytes : List ℕ) → Genuine (placed g address bytes) → bytes ≡ contents_from (byte_at g chip) address (length bytes)
    from-placed address [] h = refl
    from-placed address (b ∷ bytes) h = ap₂ (λ x xs. x ∷ xs) h.0 (from-placed (suc address) bytes h.1)

  pub from-bytes : (page column : ℕ) (bytes : List ℕ) → Genuine (bytes_at page column bytes) → bytes ≡ contents_from (chip page) column (length bytes)
  from-bytes page column [] h = refl
  from-bytes page column (b ∷ bytes) h = ap₂ (λ x xs. x ∷ xs) h.0 (from-bytes page (suc column) bytes h.1)

  -- ---- a reply

  looked-reads : (bytes : List ℕ) (s : Sight) → (looked bytes s).reads ≡ s.reads
  looked-reads [] s = refl
  looked-reads (b ∷ bytes) s = looked-reads bytes _

  recorded-genuine : (load : Load) (column : ℕ) (bytes : List ℕ) (before : List ReadByte) → HoldsAt chip (cached_page load) column bytes → Genuine before →
      Genuine (recorded (judged_page load) column bytes before)
  recorded-genuine unloaded column bytes before h g = g
  recorded-genuine (waiting page) column bytes before h g = g
  recorded-genuine (waited page) column bytes before h g = g
  recorded-genuine (judged page) column bytes before h g = genuine-append before (bytes_at page column bytes) g (genuine-bytes page column bytes h)

  heard-genuine : (awaited : Awaited) (bytes : List ℕ) (s : Sight) → Answers chip awaited bytes → Genuine s.reads → Genuine (heard_as awaited bytes s).reads
  heard-genuine other bytes s h g = g
  heard-genuine status bytes s h g = subst Genuine (sym (looked-reads bytes s)) g
  heard-genuine (cache column load) bytes s h g = recorded-genuine load column bytes s.reads h g

  hearing-genuine : {C : Type 0} (event : Event C) (s : Sight) → answers_in chip s event → Genuine s.reads → Genuine (hearing observer event s).reads
  hearing-genuine (reply r bytes l) s h g = heard-genuine s.awaited (data_at true r bytes) (answered s) h g
  hearing-genuine (call c l) s h g = g

  sees-genuine : {C A : Type 0} (given : Given A) (event : Event C) (s : Sight) → Taken given (answers_in chip s event) → Genuine s.reads →
      Genuine (unless_refused given (giving observer given (hearing observer event s)) s).reads
  sees-genuine (act shown) event s h g = hearing-genuine event s h g
  sees-genuine (ended a) event s h g = hearing-genuine event s h g
  sees-genuine (failed e) event s h g = hearing-genuine event s h g
  sees-genuine (refused e) event s h g = g

  pub watched-genuine : {C A : Type 0} (xs : List (Entry C A)) (s : Sight) → FromChip chip s xs → Genuine s.reads → Genuine (watched observer s xs).reads
  unfolding FromChip watched
  watched-genuine [] s h g = g
  watched-genuine (x ∷ xs) s h g = watched-genuine xs (sees observer s x) h.1 (sees-genuine x.given x.event s h.0 g)

-- ---- read

read : (chip : Chip) (flash : SpiNandFlash) (offset : ℕ) (l : Lent) (es : List (Event Call)) → FromChip chip unseen (run_at nand_driver flash (Call.Read offset) l es) →
    Delivers nand_driver flash (Call.Read offset) l es (byte_at flash.setup.geometry chip) offset
unfolding sort_of coded_rust
read chip flash offset l es h =
    let xs = run_at nand_driver flash (Call.Read offset) l es in
    let s = seen flash offset l es in
    delivers known flash (Call.Read offset) l refl (byte_at flash.setup.geometry chip) offset es
    (from-placed chip flash.setup.geometry offset (read_so_far xs) (subst (Genuine chip) s.reads (watched-genuine chip xs unseen h tt)))
    (λ e. (s.whole e).filled)
    (λ a bounds program. read-at-once flash.setup offset (length l.buffer) _ _ (sym (Agrees.same flash.setup bounds (Call.Read offset) (length l.buffer) (length l.given)) ∙ program))

-- ---- what both watchers see, of a run in front of which the observer saw s

module _ (s : Sight) (xs : List (Entry Call Left)) where
  abbrev each : Sights
  each = (watched observer s xs, watched (reader reads_cache) (got false []) xs)

  both-see : watched watcher (s, got false []) xs ≡ each
  both-see = both-watch observer (reader reads_cache) xs s (got false [])

  bytes-are : each.1.bytes ≡ bytes_read reads_cache false xs
  bytes-are = reader-reads reads_cache xs false []

-- ---- a call that reads the bytes of a page from a column on

abbrev OfPage : ℕ → ℕ → List ℕ → List ReadByte → List ℕ → Bool → Type 0
OfPage page column loads reads bytes order = reads ≡ bytes_at page column bytes

module _ (chip : Chip) (flash : SpiNandFlash) (c : Call) (page column : ℕ) (l : Lent) (es : List (Event Call)) (own : takes_buffer (takes_at nand_driver c l) ≡ true) (s : Sight) (none-yet : s.reads ≡ [])
    (shows : bounded_at nand_driver flash c l ≡ true → Shows watcher (Q (OfPage page column)) (λ a y. length y.1.bytes ≡ length l.buffer) (s, got false []) (program_at nand_driver flash.setup c l))
    (answered : FromChip chip s (run_at nand_driver flash c l es)) where
  abbrev xs : List (Entry Call Left)
  xs = run_at nand_driver flash c l es

  abbrev reads : List ℕ
  reads = bytes_read reads_cache false xs

  sees-all : (each s xs).0.reads ≡ bytes_at page column (each s xs).1.bytes × (Succeeded xs → length (each s xs).1.bytes ≡ length l.buffer)
  sees-all =
      subst (λ z. (z.0.reads ≡ bytes_at page column z.1.bytes) × (Succeeded xs → length z.1.bytes ≡ length l.buffer)) (both-see s xs)
      (run-sees known flash c l es watcher (Q (OfPage page column)) (λ y. length y.1.bytes ≡ length l.buffer) (s, got false []) none-yet shows)

  delivers-page : Delivers nand_driver flash c l es (chip page) column
  delivers-page =
      delivers known flash c l own (chip page) column es
      (from-bytes chip page column reads
      (subst (Genuine chip) (sees-all.0 ∙ ap (bytes_at page column) (bytes-are s xs)) (watched-genuine chip xs s answered (subst (Genuine chip) (sym none-yet) tt))))
      (λ e. ap length (sym (bytes-are s xs)) ∙ sees-all.1 e)
      (λ a inside e. sym (subst (Shows watcher (Q (OfPage page column)) (λ a y. length y.1.bytes ≡ length l.buffer) (s, got false [])) e (shows inside)).shows)

read-page-delivers : (chip : Chip) (flash : SpiNandFlash) (page : ℕ) (l : Lent) (es : List (Event Call)) → FromChip chip unseen (run_at nand_driver flash (Call.ReadPage page) l es) →
    Delivers nand_driver flash (Call.ReadPage page) l es (chip page) 0
unfolding sort_of coded_rust
read-page-delivers chip flash page l es answered =
    let R = OfPage page 0 in
    delivers-page chip flash (Call.ReadPage page) page 0 l es refl unseen refl
    (λ inside. rw (Agrees.same flash.setup inside (Call.ReadPage page) (length l.buffer) (length l.given))
    (shows_then watcher (Q R)
    (shows-mono watcher (Q R) (λ v y c. ap (λ (z : Sights). length z.1.bytes) c.4 ∙ c.2)
    (reads-page flash.setup inside page (length l.buffer) (Sink.Buffer 0) R blank refl refl (λ new e. refl) false unloaded))
    (λ v y e. shows-ret watcher (Q R) e)))
    answered

-- ---- read_cache behind a page_read

abbrev Any : List ℕ → List ReadByte → List ℕ → Bool → Type 0
Any loads reads bytes order = Unit {0}

-- as a page_read that has ended well leaves the bus
abbrev Loaded : ℕ → Sights → Type 0
Loaded page y = (verdict : ℕ) × (y ≡ at false (judged page) (verdict_noted verdict (loaded page blank)))

module _ (flash : SpiNandFlash) (page : ℕ) (k : Lent) (ds : List (Event Call)) (e : Succeeded (steps_at nand_driver flash (Call.PageRead page) k ds)) where
  abbrev steps : List (Entry Call Left)
  steps = steps_at nand_driver flash (Call.PageRead page) k ds

  page-loaded : Loaded page (each unseen steps)
  unfolding sort_of coded_rust
  page-loaded =
      subst (Loaded page) (both-see unseen steps)
      (steps-see known flash (Call.PageRead page) k ds watcher (Q Any) (Loaded page) (unseen, got false []) tt
      (λ inside. rw (Agrees.same flash.setup inside (Call.PageRead page) (length k.buffer) (length k.given))
      (shows_then watcher (Q Any)
      (shows-mono watcher (Q Any) (λ u y h. (h.0, h.2)) (loads-page flash.setup inside page Any false unloaded blank tt tt))
      (λ u y h. shows-ret watcher (Q Any) h)))
      Takes.Nothing refl e).1

  module _ (chip : Chip) (column : ℕ) (l : Lent) (es : List (Event Call)) where
    abbrev after : SpiNandFlash
    after = flash_after nand_driver flash (Call.PageRead page) k ds

    read-cache-delivers : FromChip chip (sight_of steps) (run_at nand_driver after (Call.ReadCache column) l es) →
        Delivers nand_driver after (Call.ReadCache column) l es (chip page) column
    unfolding sort_of coded_rust
    read-cache-delivers h =
        let R = OfPage page column in
        let t = verdict_noted page-loaded.0 (loaded page blank) in
        let same : sight_of steps ≡ (at false (judged page) t).0 = ap (λ (z : Sights). z.0) page-loaded.1 in
        delivers-page chip after (Call.ReadCache column) page column l es refl (at false (judged page) t).0 refl
        (λ inside. rw (Agrees.same after.setup inside (Call.ReadCache column) (length l.buffer) (length l.given))
        (shows_then watcher (Q R)
        (shows-mono watcher (Q R) (λ v y c. ap (λ (z : Sights). length z.1.bytes) c.2 ∙ c.1)
        (reads-cache after.setup inside page R column (length l.buffer) (Sink.Buffer 0) t refl (λ new e. refl)))
        (λ v y e. shows-ret watcher (Q R) e)))
        (subst (λ s. FromChip chip s (run_at nand_driver after (Call.ReadCache column) l es)) same h)

-- ---- write_page

take-none : (n : ℕ) → length (take {A = ℕ} n []) ≡ 0
take-none zero = refl
take-none (suc n) = refl

-- with the same data lent throughout, these are beside whatever came
module _ (given : List ℕ) where
  abbrev Beside : List ℕ → Type 0
  Beside ys = (ys ≡ []) ⊎ (ys ≡ given)

  beside-with : (lent bytes before : List ℕ) → lent ≡ given → Beside before → Beside (lent_with lent bytes before)
  beside-with lent [] before e h = h
  beside-with lent (b ∷ bytes) before e h = inr e

  -- a reply without data brings no data of the caller's
  beside-reply : (r : Reply) (bytes lent before : List ℕ) → lent ≡ given → Beside before → Beside (lent_with (data_at true r lent) (data_at true r bytes) before)
  beside-reply Reply.Done bytes lent before e h = h
  beside-reply Reply.Data bytes lent before e h = beside-with lent bytes before e h
  beside-reply (Reply.Error code) bytes lent before e h = h

  beside-sees : {C A : Type 0} (event : Event C) (g : Given A) (left : Lent) (before : List ℕ) → Taken g ((lent_to event).given ≡ given) → Beside before →
      Beside (sees lent_beside before (record { event = event; given = g; left = left }))
  beside-sees (reply r bytes l) (act shown) left before e h = beside-reply r bytes l.given before e h
  beside-sees (reply r bytes l) (ended a) left before e h = beside-reply r bytes l.given before e h
  beside-sees (reply r bytes l) (failed x) left before e h = beside-reply r bytes l.given before e h
  beside-sees (reply r bytes l) (refused x) left before e h = h
  beside-sees (call c l) (act shown) left before e h = h
  beside-sees (call c l) (ended a) left before e h = h
  beside-sees (call c l) (failed x) left before e h = h
  beside-sees (call c l) (refused x) left before e h = h

  beside-watched : {C A : Type 0} (xs : List (Entry C A)) (before : List ℕ) → SameData given xs → Beside before → Beside (watched lent_beside before xs)
  unfolding watched SameData
  beside-watched [] before same h = h
  beside-watched (x ∷ xs) before same h = beside-watched xs (sees lent_beside before x) same.1 (beside-sees x.event x.given x.left before same.0 h)

module _ (flash : SpiNandFlash) (page : ℕ) (l : Lent) (es : List (Event Call)) (e : Succeeded (steps_at nand_driver flash (Call.WritePage page) l es)) where
  abbrev written : List (Entry Call Left)
  written = steps_at nand_driver flash (Call.WritePage page) l es

  abbrev size : ℕ
  size = flash.setup.geometry.page_size

  abbrev beside : List ℕ
  beside = watched lent_beside [] written

  -- what has come of the page, and how it is seen
  abbrev Came : Sights → Type 0
  Came y = (new : List ℕ) × (verdict : ℕ) × (length new ≡ size) × (eqb verdict 2 ≡ false) × (y ≡ at true (judged page) (bytes_came page 0 new (verdict_noted verdict (loaded page (programmed page blank)))))

  abbrev Written : Sights → Type 0
  Written y = (length l.given ≡ size) × (1 ≤ size) × Came y

  page-written : Written (each unseen written)
  unfolding sort_of coded_rust
  page-written =
      subst Written (both-see unseen written)
      (steps-see known flash (Call.WritePage page) l es watcher (Q Any) Written (unseen, got false []) tt
      (λ inside. rw (Agrees.same flash.setup inside (Call.WritePage page) (length l.buffer) (length l.given))
      (shows_then watcher (Q Any) (writes-page flash.setup inside page (length l.given))
      (λ u y h. shows-ret watcher (Q Any) (h.0, some-page flash.setup.geometry inside, h.1.1))))
      (Takes.Data (length l.given)) refl e).1

  same-read : (watched (reader reads_cache) (got false []) written).bytes ≡ take size beside
  unfolding sort_of coded_rust
  same-read =
      subst (λ (z : Got × List ℕ). z.0.bytes ≡ take size z.1) (both-watch (reader reads_cache) lent_beside written (got false []) [])
      (steps-see known flash (Call.WritePage page) l es reading (λ z. Unit {0}) (λ z. z.0.bytes ≡ take size z.1) (got false [], []) tt
      (λ inside. rw (Agrees.same flash.setup inside (Call.WritePage page) (length l.buffer) (length l.given))
      (shows_then reading (λ z. Unit {0}) (writes-same flash.setup (some-page flash.setup.geometry inside) page (length l.given))
      (λ u y h. shows-ret reading (λ z. Unit {0}) h)))
      (Takes.Data (length l.given)) refl e).1

  abbrev came : Came (each unseen written)
  came = page-written.2

  new-is : came.0 ≡ take (length l.given) beside
  new-is = sym (ap (λ (z : Sights). z.1.bytes) came.4) ∙ same-read ∙ ap (λ n. take n beside) (sym page-written.0)

  reads-are : (sight_of written).reads ≡ bytes_at page 0 (take (length l.given) beside)
  reads-are = ap (λ (z : Sights). z.0.reads) came.4 ∙ ap (bytes_at page 0) new-is

  data-beside : SameData l.given written → take (length l.given) beside ≡ l.given
  data-beside same = ⊎_elim none all (beside-watched l.given written [] same (inl refl))
    where
      none : beside ≡ [] → take (length l.given) beside ≡ l.given
      none nothing =
          let empty : length came.0 ≡ 0 = ap length (new-is ∙ ap (take (length l.given)) nothing) ∙ take-none (length l.given) in
          absurd (omega (arith, page-written.1, came.2, empty))

      all : beside ≡ l.given → take (length l.given) beside ≡ l.given
      all is = ap (take (length l.given)) (is ∙ sym (append-nil l.given)) ∙ take-append_seam l.given []

  read-back : ReadBack nand_driver flash page l es
  read-back = record {
    programs = ap (λ (z : Sights). z.0.programs) came.4;
    plain = ap (λ (z : Sights). z.0.plain) came.4;
    loads = ap (λ (z : Sights). z.0.loads) came.4;
    reads = reads-are;
    same = λ same. reads-are ∙ ap (bytes_at page 0) (data-beside same);
    holds = λ chip same answered.
        sym (from-bytes chip page 0 l.given
        (subst (Genuine chip) (reads-are ∙ ap (bytes_at page 0) (data-beside same)) (watched-genuine chip written unseen answered tt)));
  }

pub delivers-the-chip : DeliversTheChip nand_driver
delivers-the-chip = record {
  read = read;
  read_page = read-page-delivers;
  read_cache = λ chip flash page column k ds l es e. read-cache-delivers flash page k ds e chip column l es;
  write_page = λ flash page l es e. read-back flash page l es e;
}

-- What the observer sees of the Rust's functions that load a page and read from the cache.
use Rattle.std.specs.Prelude.{Option, Some, None}
use Rattle.spi_nand.specs.declared.config.NandQuadConfig.{NandQuadConfig}
use Prim.Native.Nat.{ℕ, zero, suc, ◌+◌, ◌/◌, ◌%◌, ◌^◌, ◌<◌}
use native.Mathlib.Omega.{arith}
use native.Mathlib.Nat.{zero-add}
use mathlib.Core.Bool.{Bool, true, false, not}
use mathlib.Core.Path.{◌≡◌, refl, ap, sym, ◌∙◌, subst}
use mathlib.Core.List.{List, [], ◌∷◌, ◌++◌, append-nil}
use lib.Bits.{bit_and}
use lib.ListN.{length}
use lib.Dec.{leb, ltb, eqb}
use Rattle.qspi.specs.Transfer.{command_only}
use Rattle.qspi.specs.Address.{read_from}
use Rattle.qspi.specs.ShownBytes.{payload_bytes}
use Rattle.qspi.specs.declared.transfer.Payload.{Payload}
use Rattle.qspi.specs.declared.transfer.Sink.{Sink}
use Rattle.qspi.specs.declared.transfer.Transfer.{Transfer}
use Rattle.qspi.proofs.Cases.{by_cases}
use Rattle.spi_flash.specs.Bits.{is_set, is_clear}
use Rattle.spi_flash.specs.Prog.{Prog, ◌>>◌, refuse, transfer}
use Rattle.spi_flash.specs.declared.error.FlashError.{FlashError}
use Rattle.spi_flash.specs.WaitLaw.{wait_loop, waiting, delayed_wait}
use Rattle.spi_flash.specs.declared.wait.Timings.{Timings}
use Rattle.spi_flash.proofs.Bits.{any-bit, field}
use Rattle.flash_runs.specs.Watch.{Watcher, closed}
use Rattle.flash_runs.proofs.Watchers.{both, Got, got, behind-mine, reader}
use Rattle.flash_runs.proofs.Watching.{Shows, shows-ret, shows-fail, shows-bind, shows_then, shows-refuse, shows-transfer}
use Rattle.spi_nand.specs.Command.{page_read_command, get_feature_command, write_enable_command, program_execute_command}
use Rattle.spi_nand.specs.Config.{page_count_of}
use Rattle.spi_nand.specs.Opcode.{REG-STATUS, timings_of}
use Rattle.spi_nand.specs.Status.{ECC-MASK, status_of, busy_of, busy_value, verdict_at, verdict_of}
use Rattle.spi_nand.specs.declared.opcode.Operation.{Operation}
use Rattle.spi_nand.specs.declared.status.Status.{Status}
use Rattle.spi_nand.specs.Transfer.{register_transfer, cache_read_at, cache_read_transfer, cache_load_at, cache_load_transfer, in_cache}
use Rattle.spi_nand.specs.declared.setup.Setup.{Setup}
use Rattle.nand_runs.specs.Observer.{reads_cache, Load, unloaded, waited, judged, other, ReadByte, Sight, load_after, verdict_bits, verdicts_after, bytes_at, observer}
use Rattle.nand_runs.specs.Observer as Observer
use Rattle.nand_runs.specs.Rust.{read-status, wait-ready, write-enable, load-page, uncorrectable}
use Rattle.nand_runs.proofs.AsCoded.{page-read, read-cache, load-program-data, program-execute}

-- ---- numbers

-- bit 0 of a status byte is busy
busy-bit : (v : ℕ) → busy_value v ≡ not (is_clear 0 v)
unfolding busy_of
busy-bit v = any-bit 0 (v % 256) ∙ at (v % 2) (omega arith) (omega arith) (omega arith)
  where
    at : (x : ℕ) → x < 2 → v % 256 / 1 % 2 ≡ x → v / 1 % 2 ≡ x → is_set 0 (v % 256) ≡ not (is_clear 0 v)
    at zero h a b = rw (a, b)
    at (suc zero) h a b = rw (a, b)
    at (suc (suc x)) h a b = absurd (omega arith)

-- bits 5 and 4 are the verdict
verdict-at : (n : ℕ) → n < 4 → uncorrectable (verdict_at n) ≡ eqb n 2
verdict-at zero h = refl
verdict-at (suc zero) h = refl
verdict-at (suc (suc zero)) h = refl
verdict-at (suc (suc (suc zero))) h = refl
verdict-at (suc (suc (suc (suc n)))) h = absurd (omega arith)

verdict-two : (v : ℕ) → uncorrectable (verdict_of (status_of (v % 256))) ≡ eqb (verdict_bits v) 2
unfolding verdict_of
verdict-two v =
    let bits : bit_and (v % 256) ECC-MASK / 2 ^ 4 ≡ verdict_bits v = field 2 4 (v % 256) ∙ omega arith in
    ap (λ n. uncorrectable (verdict_at n)) bits ∙ verdict-at (verdict_bits v) (omega arith)

one_byte : (bytes : List ℕ) → length bytes ≡ 1 → (b : ℕ) × (bytes ≡ b ∷ [])
one_byte [] e = absurd (omega arith)
one_byte (b ∷ []) e = (b, refl)
one_byte (b ∷ c ∷ bytes) e = absurd (omega arith)

-- the address bytes of a page
abbrev address : ℕ → List ℕ
address page = page % 16777216 / 65536 % 256 ∷ page % 16777216 / 256 % 256 ∷ page % 16777216 % 256 ∷ []

address-exact : (page : ℕ) → page < 16777216 → read_from 0 (address page) ≡ page
address-exact page h = omega arith

column-exact : (column : ℕ) → column < 65536 → read_from 0 (column % 65536 / 256 % 256 ∷ column % 65536 % 256 ∷ []) ≡ column
column-exact column h = omega arith

-- ---- what is seen between two transfers

-- what was loaded, judged, recorded and read so far
pub record Tally : Type 0 where
  pub loads : List ℕ
  pub verdicts : List ℕ
  pub reads : List ReadByte
  pub bytes : List ℕ
  pub programs : List ℕ

abbrev pub loaded : ℕ → Tally → Tally
loaded page t = record { loads = t.loads ++ page ∷ []; verdicts = t.verdicts; reads = t.reads; bytes = t.bytes; programs = t.programs }

abbrev pub verdict_noted : ℕ → Tally → Tally
verdict_noted verdict t = record { loads = t.loads; verdicts = t.verdicts ++ verdict ∷ []; reads = t.reads; bytes = t.bytes; programs = t.programs }

abbrev pub bytes_came : ℕ → ℕ → List ℕ → Tally → Tally
bytes_came page column new t = record { loads = t.loads; verdicts = t.verdicts; reads = t.reads ++ bytes_at page column new; bytes = t.bytes ++ new; programs = t.programs }

abbrev pub programmed : ℕ → Tally → Tally
programmed page t = record { loads = t.loads; verdicts = t.verdicts; reads = t.reads; bytes = t.bytes; programs = t.programs ++ page ∷ [] }

abbrev pub Sights : Type 0
Sights = Sight × Got

-- with whose data the last command asked for
abbrev pub at : Bool → Load → Tally → Sights
at mine load t =
    (record { frame = closed; awaited = other; load = load; loads = t.loads; verdicts = t.verdicts; reads = t.reads; programs = t.programs; plain = true; in_order = true }, got mine t.bytes)

abbrev pub watcher : Watcher Sights
watcher = both observer (reader reads_cache)

-- Q goes by the loads, the bytes recorded, the bytes read and their order
module _ (R : List ℕ → List ReadByte → List ℕ → Bool → Type 0) where
  abbrev pub Q : Sights → Type 0
  Q z = R z.0.loads z.0.reads z.1.bytes z.0.in_order

  abbrev pub Right : Tally → Type 0
  Right t = R t.loads t.reads t.bytes true

  abbrev pub Sees : {A : Type 0} → (A → Sights → Type 0) → Sights → Prog A → Type 0
  Sees E z p = Shows watcher Q E z p

  -- a program behind which is seen y
  abbrev pub To : {A : Type 0} → Sights → Sights → Prog A → Type 0
  To y z p = Shows watcher Q (λ a x. x ≡ y) z p

  pub from : {A : Type 0} {E : A → Sights → Type 0} {y z : Sights} {p : Prog A} → y ≡ z → Sees E z p → Sees E y p
  from {E = E} {p = p} e h = subst (λ s. Sees E s p) (sym e) h

  pub to-then : {A B : Type 0} {E : B → Sights → Type 0} {y z : Sights} {p : Prog A} {q : Prog B} → To y z p → Sees E y q → Sees E z (p >> q)
  to-then h k = shows_then watcher Q h (λ a x e. from e k)

  module _ (t : Tally) (q : Right t) where
    pause : (mine : Bool) (load : Load) (us : ℕ) → To (at mine load t) (at mine load t) (transfer (Transfer.Pause us))
    pause mine load us = shows-transfer watcher Q (Transfer.Pause us) (q, (q, refl))

    -- a status byte; nothing was judged unless the load's wait had ended
    look : (mine : Bool) (load : Load) → Sees (λ v y. y ≡ at false (load_after load v) (record { loads = t.loads; verdicts = verdicts_after load v t.verdicts; reads = t.reads; bytes = t.bytes; programs = t.programs }))
        (at mine load t) (transfer (register_transfer REG-STATUS))
    look mine load =
        shows-transfer watcher Q (register_transfer REG-STATUS)
        (q, (q, ((q, q), (q, ((q, q), (λ bs given e. let b = one_byte bs e in rw b.1 (q, (q, rw (zero-add b.0)))))))))

    -- ---- the wait behind a load

    wait-loop : (page : ℕ) (timings : Timings) (fuel sum : ℕ) (mine : Bool) →
        To (at false (waited page) t) (at mine (Observer.waiting page) t) (wait_loop (get_feature_command REG-STATUS) busy_value fuel timings sum)
    unfolding wait_loop
    wait-loop page timings zero sum mine = shows-fail watcher Q
    wait-loop page timings (suc fuel) sum mine =
        let again = wait-loop page timings fuel (sum + timings.poll_us) false in
        shows-bind watcher Q (look mine (Observer.waiting page))
        (λ v y e. rw (e, busy-bit v)
        (by_cases (is_clear 0 v)
        (λ clear. rw clear (shows-ret watcher Q refl))
        (λ set. rw set
        (by_cases (leb timings.timeout_us sum)
        (λ late. rw late (shows-fail watcher Q))
        (λ early. rw early (to-then (pause false (Observer.waiting page) timings.poll_us) again))))))

    wait : (page : ℕ) (operation : Operation) → To (at false (waited page) t) (at false (Observer.waiting page) t) (wait-ready operation)
    unfolding wait-ready delayed_wait waiting
    wait page operation =
        let timings = timings_of operation in
        to-then (pause false (Observer.waiting page) timings.initial_us) (wait-loop page timings _ timings.initial_us false)

  -- ---- what asks for nothing of the cache, before any load

  module _ (t : Tally) (q : Right t) where
    -- whosever data the last write asked for
    abbrev pub Unloaded : {A : Type 0} → A → Sights → Type 0
    Unloaded a y = (mine : Bool) × (y ≡ at mine unloaded t)

    abbrev pub Idle : {A : Type 0} → Prog A → Type 0
    Idle p = (mine : Bool) → Sees Unloaded (at mine unloaded t) p

    pub idle-then : {A B : Type 0} {E : B → Sights → Type 0} {p : Prog A} {k : Prog B} → Idle p → ((mine : Bool) → Sees E (at mine unloaded t) k) → (mine : Bool) → Sees E (at mine unloaded t) (p >> k)
    idle-then h l mine = shows_then watcher Q (h mine) (λ a y e. from e.1 (l e.0))

    pub idle-refuse : (b : Bool) (e : FlashError) → Idle (refuse b e)
    idle-refuse b e mine = shows-refuse watcher Q b e (λ h. (mine, refl))

    idle-look : (mine : Bool) → Sees (λ v y. y ≡ at false unloaded t) (at mine unloaded t) (transfer (register_transfer REG-STATUS))
    idle-look mine = look t q mine unloaded

    idle-status : (mine : Bool) → Sees (λ status y. y ≡ at false unloaded t) (at mine unloaded t) read-status
    unfolding read-status
    idle-status mine =
        shows-bind watcher Q {E = λ byte y. y ≡ at false unloaded t}
        (shows-bind watcher Q (idle-look mine) (λ v y e. shows-ret watcher Q e))
        (λ byte y e. shows-ret watcher Q e)

    idle-loop : (timings : Timings) (fuel sum : ℕ) → Idle (wait_loop (get_feature_command REG-STATUS) busy_value fuel timings sum)
    unfolding wait_loop
    idle-loop timings zero sum mine = shows-fail watcher Q
    idle-loop timings (suc fuel) sum mine =
        shows-bind watcher Q (idle-look mine)
        (λ v y e. from e
        (by_cases (busy_value v)
        (λ busy. rw busy
        (by_cases (leb timings.timeout_us sum)
        (λ late. rw late (shows-fail watcher Q))
        (λ early. rw early (to-then (pause t q false unloaded timings.poll_us) (idle-loop timings fuel (sum + timings.poll_us) false)))))
        (λ ready. rw ready (shows-ret watcher Q (false, refl)))))

    idle-wait : (operation : Operation) → Idle (wait-ready operation)
    unfolding wait-ready delayed_wait waiting
    idle-wait operation mine =
        let timings = timings_of operation in
        to-then (pause t q mine unloaded timings.initial_us) (idle-loop timings _ timings.initial_us mine)

    pub enabling : Idle write-enable
    unfolding write-enable
    enabling mine =
        to-then (shows-transfer watcher Q (command_only write_enable_command) (q, (q, (q, (q, refl)))))
        (shows-bind watcher Q (idle-status false) (λ status y e. from e (idle-refuse _ _ false)))

    loads-data : (quad : Option NandQuadConfig) (column : ℕ) (payload : Payload) → Idle (transfer (cache_load_at quad column payload))
    loads-data None column payload mine =
        shows-transfer watcher Q (cache_load_at None column payload) (q, (q, ((q, q), (λ given. (q, (q, (q, (reads_cache (payload_bytes payload given), refl))))))))
    loads-data (Some quad) column payload mine =
        shows-transfer watcher Q (cache_load_at (Some quad) column payload) (q, (λ given. (q, (q, (q, (mine, refl))))))

    pub loading-data : (flash : Setup) (column n : ℕ) (payload : Payload) → Idle (load-program-data flash column n payload)
    unfolding load-program-data cache_load_transfer
    loading-data flash column n payload =
        idle-then (idle-refuse _ _) (idle-then (loads-data flash.config.quad column payload) (λ mine. shows-ret watcher Q (mine, refl)))

  -- ---- a program

  module _ (page : ℕ) (small : page < 16777216) (t : Tally) (q : Right t) where
    program-sent : (mine : Bool) → To (at false unloaded (programmed page t)) (at mine unloaded t) (transfer (command_only (program_execute_command page)))
    program-sent mine =
        let sent : read_from 0 (address page) ≡ page = address-exact page small in
        subst (λ p. To (at false unloaded (programmed p t)) (at mine unloaded t) (transfer (command_only (program_execute_command page)))) sent
        (shows-transfer watcher Q (command_only (program_execute_command page)) (q, (q, (q, (q, refl)))))

    pub executing : (flash : Setup) (mine : Bool) → Sees (Unloaded (programmed page t) q) (at mine unloaded t) (program-execute flash page)
    unfolding program-execute
    executing flash =
        let done = programmed page t in
        idle-then t q (idle-refuse t q _ _)
        (λ mine. to-then (program-sent mine)
        (idle-then done q (idle-wait done q Operation.Program)
        (λ m. shows-bind watcher Q (idle-status done q m) (λ status y e. from e (idle-refuse done q _ _ false))) false))

  -- ---- a load, and its verdict

  module _ (page : ℕ) (small : page < 16777216) (mine : Bool) (load : Load) (t : Tally) (q : Right t) (more : Right (loaded page t)) where
    command : To (at false (Observer.waiting page) (loaded page t)) (at mine load t) (transfer (command_only (page_read_command page)))
    command =
        let sent : read_from 0 (address page) ≡ page = address-exact page small in
        let after : Right (loaded (read_from 0 (address page)) t) = rw sent more in
        subst (λ p. To (at false (Observer.waiting p) (loaded p t)) (at mine load t) (transfer (command_only (page_read_command page)))) sent
        (shows-transfer watcher Q (command_only (page_read_command page)) (q, (after, (after, (after, refl)))))

    loading : To (at false (waited page) (loaded page t)) (at mine load t) (load-page page)
    unfolding load-page
    loading = to-then command (wait (loaded page t) more page Operation.PageRead)

    abbrev Judges : Status → Sights → Type 0
    Judges status y = (v : ℕ) × (status ≡ status_of (v % 256)) × (y ≡ at false (judged page) (verdict_noted (verdict_bits v) (loaded page t)))

    judging : Sees Judges (at false (waited page) (loaded page t)) read-status
    unfolding read-status
    judging =
        shows-bind watcher Q {E = λ byte y. Judges (status_of byte) y}
        (shows-bind watcher Q (look (loaded page t) more false (waited page)) (λ v y e. shows-ret watcher Q (v, refl, e)))
        (λ byte y e. shows-ret watcher Q e)

    -- it goes on with any verdict but 2
    abbrev pub Loaded : Unit {0} → Sights → Type 0
    Loaded u y = (verdict : ℕ) × (eqb verdict 2 ≡ false) × (y ≡ at false (judged page) (verdict_noted verdict (loaded page t)))

    pub loading-page : (flash : Setup) → Sees Loaded (at mine load t) (page-read flash page)
    unfolding page-read
    loading-page flash =
        to-then (shows-refuse watcher Q (not (ltb page (page_count_of flash.geometry))) _ (λ e. refl))
        (to-then loading
        (shows-bind watcher Q judging
        (λ status y h. shows-refuse watcher Q _ _
        (λ e. (verdict_bits h.0, sym (verdict-two h.0) ∙ ap (λ x. uncorrectable (verdict_of x)) (sym h.1) ∙ e, h.2)))))

  -- ---- a read of the cache

  module _ (page column n : ℕ) (sink : Sink) (small : column < 65536) (t : Tally) (q : Right t) (more : (new : List ℕ) → length new ≡ n → Right (bytes_came page column new t)) where
    abbrev pub Read : ℕ → Sights → Type 0
    Read v y = (new : List ℕ) × (length new ≡ n) × (y ≡ at true (judged page) (bytes_came page column new t))

    -- the bus fails: no byte has come
    none : R t.loads (t.reads ++ []) t.bytes true
    none = rw (append-nil t.reads) q

    cache : (quad : Option NandQuadConfig) → Sees Read (at false (judged page) t) (transfer (cache_read_at quad column n sink))
    cache None =
        let exact = column-exact column small in
        shows-transfer watcher Q (cache_read_at None column n sink)
        (q, (q, ((q, q), (q, ((none, none), (λ new given e. rw (exact, behind-mine t.bytes new) (more new e, (more new e, (new, e, refl)))))))))
    cache (Some quad) =
        let exact = column-exact column small in
        shows-transfer watcher Q (cache_read_at (Some quad) column n sink)
        (q, (q, ((none, none), (λ new given e. rw (exact, behind-mine t.bytes new) (more new e, (more new e, (new, e, refl)))))))

    pub reading-cache : (flash : Setup) → Sees Read (at false (judged page) t) (read-cache flash column n sink)
    unfolding read-cache cache_read_transfer
    reading-cache flash = to-then (shows-refuse watcher Q (not (in_cache flash.geometry column n)) _ (λ e. refl)) (cache flash.config.quad)

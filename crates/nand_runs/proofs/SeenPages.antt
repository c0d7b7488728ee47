-- What the observer sees of the Rust's page_read, read_cache, read_page and write_page.
use Prim.Native.Nat.{ℕ, ◌<◌}
use native.Mathlib.Omega.{arith}
use mathlib.Core.Bool.{Bool, true, false, not, not-not}
use mathlib.Core.Path.{◌≡◌, refl, ap, sym, ◌∙◌}
use mathlib.Core.List.{List, []}
use lib.ListN.{length}
use lib.Dec.{ltb, eqb}
use borrow.Author.Tests.{ltb-true, eqb-true}
use Rattle.qspi.specs.declared.transfer.Payload.{Payload}
use Rattle.qspi.specs.declared.transfer.Sink.{Sink}
use Rattle.qspi.proofs.Cases.{by_cases}
use Rattle.spi_flash.specs.Prog.{◌>>=◌, ◌>>◌, refuse}
use Rattle.flash_runs.proofs.Watching.{shows-mono, shows-fail, shows-bind, shows_then, shows-refuse}
use Rattle.spi_flash.proofs.Pieces.{range-told}
use Rattle.spi_nand.specs.Config.{in_bounds, page_count_of, cache_size_of}
use Rattle.spi_nand.specs.Transfer.{in_cache}
use Rattle.spi_nand.specs.declared.setup.Setup.{Setup}
use Rattle.spi_nand.proofs.Geometries.{geometries-hold}
use Rattle.nand_runs.specs.Observer.{Load, unloaded, judged, ReadByte, bytes_at}
use Rattle.nand_runs.proofs.AsCoded.{page-read, read-cache, read-page, write-page}
use Rattle.nand_runs.proofs.SeenCalls.{watcher, Tally, loaded, programmed, verdict_noted, bytes_came, Sights, at, watcher, Q, Right, Sees, from, loading-page, reading-cache, idle-then, enabling, loading-data, executing}

-- before a call: nothing was seen
abbrev pub blank : Tally
blank = record { loads = []; verdicts = []; reads = []; bytes = []; programs = [] }

module _ (flash : Setup) (bounds : in_bounds flash.geometry ≡ true) (page : ℕ) where
  small : ltb page (page_count_of flash.geometry) ≡ true → page < 16777216
  small fits = let inside = ltb-true page _ fits in omega (arith, (geometries-hold.exact flash.geometry bounds).page_count, (geometries-hold.bounded flash.geometry bounds).pages)

  module _ (R : List ℕ → List ReadByte → List ℕ → Bool → Type 0) where
    -- the page is loaded, and its verdict is not 2
    abbrev pub Loads : Tally → Unit {0} → Sights → Type 0
    Loads t u y = (verdict : ℕ) × (eqb verdict 2 ≡ false) × (y ≡ at false (judged page) (verdict_noted verdict (loaded page t)))

    -- one that is none of the device is not loaded
    pub loads-page : (mine : Bool) (load : Load) (t : Tally) → Right R t → Right R (loaded page t) → Sees R (Loads t) (at mine load t) (page-read flash page)
    unfolding page-read refuse ◌>>=◌ ◌>>◌
    loads-page mine load t q more =
        by_cases (ltb page (page_count_of flash.geometry))
        (λ fits. loading-page R page (small fits) mine load t q more flash)
        (λ none. rw none (shows-fail watcher (Q R)))

    -- ---- read_cache of a page that is loaded

    module _ (column n : ℕ) (sink : Sink) (t : Tally) (q : Right R t) (more : (new : List ℕ) → length new ≡ n → Right R (bytes_came page column new t)) where
      abbrev pub Reads : ℕ → Sights → Type 0
      Reads v y = (new : List ℕ) × (length new ≡ n) × (y ≡ at true (judged page) (bytes_came page column new t))

      column-small : in_cache flash.geometry column n ≡ true → column < 65536
      unfolding in_cache cache_size_of
      column-small room = omega (arith, range-told (cache_size_of flash.geometry) column n room, (geometries-hold.bounded flash.geometry bounds).whole)

      pub reads-cache : Sees R Reads (at false (judged page) t) (read-cache flash column n sink)
      unfolding read-cache refuse ◌>>=◌ ◌>>◌
      reads-cache =
          by_cases (in_cache flash.geometry column n)
          (λ room. reading-cache R page column n sink (column-small room) t q more flash)
          (λ none. rw none (shows-fail watcher (Q R)))

  -- ---- read_page

  module _ (n : ℕ) (sink : Sink) where
    abbrev R : List ℕ → List ReadByte → List ℕ → Bool → Type 0
    R loads reads bytes order = reads ≡ bytes_at page 0 bytes

    -- behind a load of that page, with its verdict, n bytes of it have come
    abbrev pub PageRead : Tally → ℕ → Sights → Type 0
    PageRead t v y = (new : List ℕ) × (verdict : ℕ) × (length new ≡ n) × (eqb verdict 2 ≡ false) × (y ≡ at true (judged page) (bytes_came page 0 new (verdict_noted verdict (loaded page t))))

    module _ (S : List ℕ → List ReadByte → List ℕ → Bool → Type 0) (t : Tally) (q : Right S t) (more : Right S (loaded page t))
        (came : (new : List ℕ) → length new ≡ n → Right S (bytes_came page 0 new (loaded page t))) where
      pub reads-page : (mine : Bool) (load : Load) → Sees S (PageRead t) (at mine load t) (read-page flash page n sink)
      unfolding read-page
      reads-page mine load =
          shows_then watcher (Q S) {E = λ u y. y ≡ at mine load t}
          (shows-refuse watcher (Q S) (not (eqb n flash.geometry.page_size)) _ (λ e. refl))
          (λ u y e. from S e
          (shows_then watcher (Q S) (loads-page S mine load t q more)
          (λ u y h. from S h.2
          (shows-mono watcher (Q S) (λ v x c. (c.0, h.0, c.1, h.1, c.2)) (reads-cache S 0 n sink (verdict_noted h.0 (loaded page t)) more came)))))

  -- ---- write_page

  abbrev Any : List ℕ → List ReadByte → List ℕ → Bool → Type 0
  Any loads reads bytes order = Unit {0}

  pub writes-page : (n : ℕ) → Sees Any (λ u y. (n ≡ flash.geometry.page_size) × ((v : ℕ) × PageRead flash.geometry.page_size (Sink.Compare 0) (programmed page blank) v y))
      (at false unloaded blank) (write-page flash page n)
  unfolding write-page
  writes-page n =
      let size = flash.geometry.page_size in
      let fits = ltb page (page_count_of flash.geometry) in
      let done = programmed page blank in
      shows_then watcher (Q Any) {E = λ u y. (n ≡ size) × (y ≡ at false unloaded blank)}
      (shows-refuse watcher (Q Any) (not (eqb n size)) _ (λ e. (eqb-true n size (sym (not-not _) ∙ ap not e), refl)))
      (λ u y whole. from Any whole.1
      (shows_then watcher (Q Any) {E = λ u y. (fits ≡ true) × (y ≡ at false unloaded blank)}
      (shows-refuse watcher (Q Any) (not fits) _ (λ e. (sym (not-not _) ∙ ap not e, refl)))
      (λ u y inside. from Any inside.1
      (idle-then Any blank tt (enabling Any blank tt)
      (idle-then Any blank tt (loading-data Any blank tt flash 0 n (Payload.Data 0 n))
      (λ mine. shows_then watcher (Q Any) (executing Any page (small inside.0) blank tt flash mine)
      (λ u y sent. from Any sent.1
      (shows-bind watcher (Q Any) (reads-page size (Sink.Compare 0) Any done tt tt (λ new e. tt) sent.0 unloaded)
      (λ v y h. shows-refuse watcher (Q Any) (eqb v 0) _ (λ e. (whole.0, (v, h)))))))) false))))

-- What the observer sees of the Rust's read: page after page, each loaded, judged and then read.
use Prim.Native.Nat.{ℕ, zero, suc, ◌+◌, ◌-◌, ◌*◌, ◌/◌, ◌≤◌, ◌<◌}
use native.Mathlib.Omega.{arith}
use native.Mathlib.Nat.{zero-add, add-zero, mod-lt, mod-eq_of_lt, mul-add-mod_self_right, div-add-mod', div-eq_of_lt-le, le-div_iff_mul-le}
use native.Mathlib.Numerals.{add-one}
use mathlib.Core.Bool.{Bool, true, false, not, not-not}
use mathlib.Core.Path.{◌≡◌, refl, ap, sym, ◌∙◌}
use mathlib.Core.List.{List, [], ◌∷◌, ◌++◌}
use lib.ListN.{length, length-append}
use lib.Dec.{ltb, eqb}
use borrow.Author.Tests.{ltb-true, ltb-false}
use Rattle.qspi.specs.declared.transfer.Sink.{Sink}
use Rattle.qspi.proofs.Cases.{by_cases}
use Rattle.spi_flash.specs.Path.{Prefix}
use Rattle.spi_flash.specs.Prog.{ret, ◌>>◌}
use Rattle.flash_runs.proofs.Watching.{shows-ret, shows_then, shows-refuse}
use Rattle.spi_nand.specs.Config.{in_bounds}
use Rattle.spi_nand.specs.declared.config.NandGeometry.{NandGeometry}
use Rattle.spi_nand.proofs.Geometries.{geometries-hold}
use Rattle.spi_nand.specs.Transfer.{in_range, place_of, page_at, column_at, chunk_of}
use Rattle.spi_nand.specs.declared.setup.Setup.{Setup}
use Rattle.nand_runs.specs.Bound.{first_touched, last_touched, pages_touched}
use Rattle.nand_runs.specs.Observer.{ReadByte, read_byte, Load, judged, unloaded, bytes_at}
use Rattle.nand_runs.specs.ReadSeen.{up_from, touched, placed, NoneUncorrectable}
use Rattle.nand_runs.proofs.AsCoded.{page-read, read-cache, read-loop, reading, read}
use Rattle.nand_runs.proofs.Pages.{pages, some-page, page-fits, in-range, from-to, place-of, pages_left, pages-first, chunk-within, one_fewer, pages-done}
use Rattle.nand_runs.proofs.ReadLoop.{chunk-some}
use Rattle.nand_runs.proofs.SeenCalls.{Tally, loaded, verdict_noted, bytes_came, Sights, at, watcher, Q, Right, Sees, from, loading-page, reading-cache}

-- ---- lists

up-append : (first m n : ℕ) → up_from first (m + n) ≡ up_from first m ++ up_from (first + m) n
up-append first zero n = rw (zero-add n, add-zero first)
up-append first (suc m) n =
    let size : suc m + n ≡ suc (m + n) = omega arith in
    let place : suc first + m ≡ first + suc m = omega arith in
    rw size (ap (λ xs. first ∷ xs) (up-append (suc first) m n ∙ ap (λ k. up_from (suc first) m ++ up_from k n) place))

pub up-prefix : (first m n : ℕ) → m ≤ n → Prefix (up_from first m) (up_from first n)
up-prefix first m n h =
    let all : m + (n - m) ≡ n = omega arith in
    record { rest = up_from (first + m) (n - m); whole = sym (up-append first m (n - m)) ∙ ap (up_from first) all }

up_next : (first m : ℕ) → up_from first m ++ (first + m) ∷ [] ≡ up_from first (suc m)
up_next first m = sym (up-append first m 1) ∙ ap (up_from first) (add-one m)

none-append : (xs : List ℕ) (v : ℕ) → NoneUncorrectable xs → eqb v 2 ≡ false → NoneUncorrectable (xs ++ v ∷ [])
none-append [] v h e = (e, tt)
none-append (x ∷ xs) v h e = (h.0, none-append xs v h.1 e)

module _ (g : NandGeometry) where
  placed-append : (address : ℕ) (xs ys : List ℕ) → placed g address (xs ++ ys) ≡ placed g address xs ++ placed g (address + length xs) ys
  placed-append address [] ys = ap (λ a. placed g a ys) (sym (add-zero address))
  placed-append address (x ∷ xs) ys =
      let place : suc address + length xs ≡ address + suc (length xs) = omega arith in
      ap (λ rest. read_byte (page_at g address) (column_at g address) x ∷ rest)
      (placed-append (suc address) xs ys ∙ ap (λ a. placed g (suc address) xs ++ placed g a ys) place)

  -- the bytes of a page from a column on, as far as the page goes
  placed-within : 1 ≤ g.page_size → (page column : ℕ) (xs : List ℕ) → column + length xs ≤ g.page_size →
      placed g (page * g.page_size + column) xs ≡ bytes_at page column xs
  placed-within some page column [] h = refl
  placed-within some page column (x ∷ xs) h =
      let size = g.page_size in
      let here : page_at g (page * size + column) ≡ page = div-eq_of_lt-le size (omega arith) (omega arith) in
      let there : column_at g (page * size + column) ≡ column = mul-add-mod_self_right page size column ∙ mod-eq_of_lt (omega arith) in
      let next : suc (page * size + column) ≡ page * size + suc column = omega arith in
      rw (here, there, next) (ap (λ rest. read_byte page column x ∷ rest) (placed-within some page (suc column) xs (omega arith)))

-- ---- the loop

module _ (flash : Setup) (bounds : in_bounds flash.geometry ≡ true) (offset len : ℕ) where
  abbrev g : NandGeometry
  g = flash.geometry

  abbrev first : ℕ
  first = first_touched g offset

  abbrev count : ℕ
  count = pages_touched g offset len

  -- at every point of a run
  pub record Sound (loads : List ℕ) (reads : List ReadByte) (bytes : List ℕ) (order : Bool) : Type 0 where
    pub begun : Prefix loads (touched g offset len)
    pub recorded : reads ≡ placed g offset bytes
    pub in_order : order ≡ true

  -- where it ended well
  pub record Whole (z : Sights) : Type 0 where
    pub loads : z.0.loads ≡ touched g offset len
    pub verdicts : length z.0.verdicts ≡ count
    pub correctable : NoneUncorrectable z.0.verdicts
    pub filled : length z.1.bytes ≡ len
    pub programs : z.0.programs ≡ []
    pub plain : z.0.plain ≡ true

  -- i pages were loaded, and so far these verdicts and bytes have come
  abbrev tally : ℕ → List ℕ → List ℕ → Tally
  tally i verdicts bytes = record { loads = up_from first i; verdicts = verdicts; reads = placed g offset bytes; bytes = bytes; programs = [] }

  module _ (within : offset + len ≤ pages g bounds * g.page_size) where
    abbrev left : ℕ → ℕ
    left done = pages_left g bounds offset len within done

    sound : (i : ℕ) (bytes : List ℕ) → i ≤ count → Sound (up_from first i) (placed g offset bytes) bytes true
    sound i bytes h = record { begun = up-prefix first i count h; recorded = refl; in_order = refl }

    -- the loop stands behind i pages and `done` bytes
    record Stands (i done : ℕ) (verdicts bytes : List ℕ) : Type 0 where
      most : done ≤ len
      counts : i + left done ≡ count
      size : length bytes ≡ done
      judges : length verdicts ≡ i
      good : NoneUncorrectable verdicts

    module _ (i done : ℕ) (below : done < len) (counts : i + left done ≡ count) where
      abbrev address : ℕ
      address = offset + done

      abbrev n : ℕ
      n = chunk_of g offset len done

      some : 1 ≤ g.page_size
      some = some-page g bounds

      placed_at : place_of offset done ≡ address
      placed_at = place-of g bounds offset len within done (omega arith)

      -- the page that is due
      due : page_at g address ≡ first + i
      due =
          let here = from-to g bounds address (len - done) (omega arith) in
          let all = from-to g bounds offset len (omega arith) in
          let end : address + (len - done) - 1 ≡ offset + len - 1 = omega arith in
          let same = ap (λ a. a / g.page_size) end in
          let first_on : first_touched g offset ≤ last_touched g offset len = (le-div_iff_mul-le some).1 (omega (arith, div-add-mod' offset g.page_size)) in
          let now_on : page_at g address ≤ last_touched g offset len = (le-div_iff_mul-le some).1 (omega (arith, div-add-mod' address g.page_size)) in
          omega arith

      page-small : page_at g address < 16777216
      page-small =
          let inside = ltb-true (page_at g address) _ (page-fits g bounds address (omega arith)) in
          omega (arith, (geometries-hold.exact g bounds).page_count, (geometries-hold.bounded g bounds).pages)

      column-small : column_at g address < 65536
      column-small = omega (arith, mod-lt address some, (geometries-hold.bounded g bounds).whole)

      more_left : i < count
      more_left = omega (arith, one_fewer g bounds offset len within done below)

      new-placed : (bytes new : List ℕ) → length bytes ≡ done → length new ≡ n → placed g offset bytes ++ bytes_at (page_at g address) (column_at g address) new ≡ placed g offset (bytes ++ new)
      new-placed bytes new e l =
          let room = rw placed_at at (chunk-within g bounds offset len within done below).0 in
          let whole : page_at g address * g.page_size + column_at g address ≡ offset + length bytes = div-add-mod' address g.page_size ∙ ap (λ m. offset + m) (sym e) in
          ap (λ rest. placed g offset bytes ++ rest)
          (sym (placed-within g some (page_at g address) (column_at g address) new (omega arith)) ∙ ap (λ a. placed g a new) whole)
          ∙ sym (placed-append g offset bytes new)

    -- what is left of the loop
    abbrev Goes : ℕ → Type 0
    Goes fuel = (done i : ℕ) (mine : Bool) (load : Load) (verdicts bytes : List ℕ) → len - done ≤ fuel → Stands i done verdicts bytes →
        Sees Sound (λ u y. Whole y) (at mine load (tally i verdicts bytes)) (read-loop flash fuel offset len done)

    -- a piece
    module _ (fuel : ℕ) (goes : Goes fuel) (done i : ℕ) (mine : Bool) (load : Load) (verdicts bytes : List ℕ) (enough : len - done ≤ suc fuel) (below : done < len)
        (stands : Stands i done verdicts bytes) where
      abbrev page : ℕ
      page = page_at g (offset + done)

      abbrev column : ℕ
      column = column_at g (offset + done)

      abbrev size : ℕ
      size = chunk_of g offset len done

      abbrev before : Tally
      before = tally i verdicts bytes

      abbrev after : ℕ → List ℕ → Tally
      after verdict new = bytes_came page column new (verdict_noted verdict (loaded page before))

      next-load : up_from first i ++ page ∷ [] ≡ up_from first (suc i)
      next-load = rw (due i done below stands.counts) (up_next first i)

      next-tally : (verdict : ℕ) (new : List ℕ) → length new ≡ size → after verdict new ≡ tally (suc i) (verdicts ++ verdict ∷ []) (bytes ++ new)
      next-tally verdict new e = rw (next-load, new-placed i done below stands.counts bytes new stands.size e)

      right : Right Sound before
      right = sound i bytes (omega (arith, stands.counts))

      right-loaded : Right Sound (loaded page before)
      right-loaded = rw next-load (sound (suc i) bytes (omega (arith, more_left i done below stands.counts)))

      right-read : (verdict : ℕ) (new : List ℕ) → length new ≡ size → Right Sound (after verdict new)
      right-read verdict new e =
          rw (next-load, new-placed i done below stands.counts bytes new stands.size e)
          (sound (suc i) (bytes ++ new) (omega (arith, more_left i done below stands.counts)))

      stands_on : (verdict : ℕ) (new : List ℕ) → eqb verdict 2 ≡ false → length new ≡ size → Stands (suc i) (done + size) (verdicts ++ verdict ∷ []) (bytes ++ new)
      stands_on verdict new good e = record {
        most = (chunk-within g bounds offset len within done below).1;
        counts = omega (arith, stands.counts, one_fewer g bounds offset len within done below);
        size = omega (arith, length-append bytes new, stands.size);
        judges = omega (arith, length-append verdicts (verdict ∷ []), stands.judges);
        good = none-append verdicts verdict stands.good good;
      }

      turn : Sees Sound (λ u y. Whole y) (at mine load before)
          (page-read flash (page_at g (place_of offset done)) >> (read-cache flash (column_at g (place_of offset done)) size (Sink.Buffer done) >> read-loop flash fuel offset len (done + size)))
      turn =
          let on = chunk-some g offset len done (some-page g bounds) below in
          rw (placed_at i done below stands.counts)
          (shows_then watcher (Q Sound) (loading-page Sound page (page-small i done below stands.counts) mine load before right right-loaded flash)
          (λ u y judges. from Sound judges.2
          (shows_then watcher (Q Sound)
          (reading-cache Sound page column size (Sink.Buffer done) (column-small i done below stands.counts) (verdict_noted judges.0 (loaded page before)) right-loaded (right-read judges.0) flash)
          (λ v x came. from Sound (came.2 ∙ ap (at true (judged page)) (next-tally judges.0 came.0 came.1))
          (goes (done + size) (suc i) true (judged page) (verdicts ++ judges.0 ∷ []) (bytes ++ came.0) (omega arith) (stands_on judges.0 came.0 judges.1 came.1))))))

    -- the last page was loaded and the buffer filled
    ended : (done i : ℕ) (mine : Bool) (load : Load) (verdicts bytes : List ℕ) → len ≤ done → Stands i done verdicts bytes →
        Sees Sound (λ u y. Whole y) (at mine load (tally i verdicts bytes)) (ret (tt {0}))
    ended done i mine load verdicts bytes past stands =
        let none = pages-done g bounds offset len within done past in
        let all : i ≡ count = omega (arith, stands.counts) in
        shows-ret watcher (Q Sound) (record {
          loads = ap (up_from first) all;
          verdicts = omega (arith, stands.judges);
          correctable = stands.good;
          filled = omega (arith, stands.size, stands.most);
          programs = refl;
          plain = refl;
        })

    loops : (fuel : ℕ) → Goes fuel
    unfolding read-loop
    loops zero done i mine load verdicts bytes enough stands = ended done i mine load verdicts bytes (omega arith) stands
    loops (suc fuel) done i mine load verdicts bytes enough stands =
        by_cases (ltb done len)
        (λ e. rw e (turn fuel (loops fuel) done i mine load verdicts bytes enough (ltb-true done len e) stands))
        (λ e. rw e (ended done i mine load verdicts bytes (ltb-false done len e) stands))

  -- ---- the call

  abbrev pub start : Sights
  start = at false unloaded (tally 0 [] [])

  pub read-shows : Sees Sound (λ u y. Whole y) start (read flash offset len)
  unfolding read reading
  read-shows =
      shows_then watcher (Q Sound)
      {E = λ u y. (in_range g offset len ≡ true) × (y ≡ start)}
      (shows-refuse watcher (Q Sound) (not (in_range g offset len)) _ (λ e. (sym (not-not _) ∙ ap not e, refl)))
      (λ u y h. let within = in-range g bounds offset len h.0 in
      from Sound h.1 (loops within (len - 0) 0 0 false unloaded [] [] (omega arith)
      (record { most = omega arith; counts = omega (arith, pages-first g bounds offset len within); size = refl; judges = refl; good = tt })))

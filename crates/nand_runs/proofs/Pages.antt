-- Pages, columns and pieces of a geometry within the bounds, and the pages that a read has left to touch.
use Prim.Native.Nat.{ℕ, suc, ◌+◌, ◌-◌, ◌*◌, ◌/◌, ◌%◌, ◌≤◌, ◌<◌}
use native.Mathlib.Omega.{arith}
use native.Mathlib.Nat.{add-zero, sub-zero, div-add-mod', mod-lt, mod-eq_of_lt, mul_assoc, mul-le-mul, mul-le-mul_right, mul-add-div_right, mul-div_cancel, div-eq_of_lt, div-lt_iff_lt-mul, le-div_iff_mul-le}
use mathlib.Core.Bool.{true, false}
use mathlib.Core.Path.{◌≡◌, ap, ◌∙◌}
use lib.Dec.{ltb}
use borrow.Author.Tests.{lt-ltb, le-leb, lt-leb, ne_eqb}
use Rattle.qspi.proofs.Cases.{by_order}
use Rattle.spi_flash.proofs.Loops.{Counts}
use Rattle.spi_flash.proofs.Pieces as pieces
use Rattle.spi_flash.specs.Range.{range_in_bounds}
use Rattle.spi_nand.specs.Config.{page_count_of, first_page_of, capacity_of, cache_size_of, in_bounds}
use Rattle.spi_nand.specs.declared.config.NandGeometry.{NandGeometry}
use Rattle.spi_nand.proofs.Geometries.{geometries-hold}
use Rattle.spi_nand.specs.Transfer.{in_cache, in_range, place_of, page_at, column_at, chunk_of, FILLER-CHUNK, filler_of}
use Rattle.nand_runs.specs.Bound.{first_touched, last_touched, pages_touched, fillers}

-- ---- numbers

-- within a page the last byte is on the first byte's page
same-page : (page a n : ℕ) → 1 ≤ page → 1 ≤ n → a % page + n ≤ page → (a + n - 1) / page ≡ a / page
same-page page a n some least h =
    let d = div-add-mod' a page in
    let e : a + n - 1 ≡ a / page * page + (a % page + n - 1) = omega arith in
    let z : (a % page + n - 1) / page ≡ 0 = div-eq_of_lt (omega arith) in
    let m : (a / page * page + (a % page + n - 1)) / page ≡ a / page + (a % page + n - 1) / page = mul-add-div_right some (a / page) (a % page + n - 1) in
    rw e (omega arith)

-- behind the end of a page comes the next
next-page : (page a : ℕ) → 1 ≤ page → (a + (page - a % page)) / page ≡ a / page + 1
next-page page a some =
    let d = div-add-mod' a page in
    let r : a % page < page = mod-lt a some in
    let e : a + (page - a % page) ≡ suc (a / page) * page = omega arith in
    let m : suc (a / page) * page / page ≡ suc (a / page) = mul-div_cancel (suc (a / page)) some in
    rw e (omega arith)

further-page : (page a n : ℕ) → 1 ≤ page → page - a % page < n → a / page + 1 ≤ (a + n - 1) / page
further-page page a n some h =
    let d = div-add-mod' a page in
    let r : a % page < page = mod-lt a some in
    (le-div_iff_mul-le {x = a / page + 1} some).1 (omega arith)

module _ (g : NandGeometry) (bounds : in_bounds g ≡ true) where
  abbrev page : ℕ
  page = g.page_size

  -- all pages
  abbrev pub pages : ℕ
  pages = g.pages_per_block * g.block_count

  pub some-page : 1 ≤ page
  some-page = (geometries-hold.bounded g bounds).page

  -- ---- the cache

  pub in-cache : (column n : ℕ) → column + n ≤ page + g.oob_size → in_cache g column n ≡ true
  unfolding in_cache cache_size_of
  in-cache column n h = let b = geometries-hold.bounded g bounds in pieces.range-in (cache_size_of g) column n (omega arith)

  -- without spare bytes there is no marker
  pub no-marker : g.oob_size ≡ 0 → in_cache g page 1 ≡ false
  unfolding in_cache cache_size_of range_in_bounds
  no-marker z = let b = geometries-hold.bounded g bounds in rw (le-leb page (cache_size_of g) (omega arith)) (lt-leb 1 (cache_size_of g - page) (omega arith))

  -- ---- the pages of the device

  pub page-fits : (address : ℕ) → address < pages * page → ltb (page_at g address) (page_count_of g) ≡ true
  page-fits address h =
      let below : address / page < pages = (div-lt_iff_lt-mul some-page).1 h in
      rw (geometries-hold.exact g bounds).page_count (lt-ltb (address / page) pages below)

  pub first-page-fits : (block : ℕ) → block < g.block_count → ltb (first_page_of g block) (page_count_of g) ≡ true
  unfolding first_page_of
  first-page-fits block h =
      let b = geometries-hold.bounded g bounds in
      let l : suc block * g.pages_per_block ≤ g.block_count * g.pages_per_block = mul-le-mul_right g.pages_per_block h in
      rw (geometries-hold.exact g bounds).page_count (lt-ltb (first_page_of g block) pages (omega arith))

  -- ---- a read in range

  pub in-range : (offset len : ℕ) → in_range g offset len ≡ true → offset + len ≤ pages * page
  unfolding in_range
  in-range offset len h =
      let told = pieces.range-told (capacity_of g) offset len h in
      let all : page * g.pages_per_block * g.block_count ≡ page * pages = mul_assoc page g.pages_per_block g.block_count in
      let exact = (geometries-hold.exact g bounds).capacity in
      omega arith

  -- there the usize sum does not wrap
  place : (offset done : ℕ) → offset + done ≤ pages * page → place_of offset done ≡ offset + done
  unfolding place_of
  place offset done h =
      let b = geometries-hold.bounded g bounds in
      let most : page ≤ 65535 = omega arith in
      let l : pages * page ≤ 16777216 * 65535 = mul-le-mul b.pages most in
      mod-eq_of_lt (omega arith)

  -- ---- the pages that are left

  no-pages : (offset len : ℕ) → len ≡ 0 → pages_touched g offset len ≡ 0
  unfolding pages_touched
  no-pages offset len z = rw z

  pub from-to : (offset len : ℕ) → 1 ≤ len → pages_touched g offset len ≡ last_touched g offset len - first_touched g offset + 1
  unfolding pages_touched
  from-to offset len least = rw (ne_eqb len 0 (λ z. omega arith))

  module _ (offset len : ℕ) (within : offset + len ≤ pages * page) where
    pub place-of : (done : ℕ) → done ≤ len → place_of offset done ≡ offset + done
    place-of done h = place offset done (omega arith)

    abbrev pub pages_left : ℕ → ℕ
    pages_left done = pages_touched g (offset + done) (len - done)

    pub pages-first : pages_left 0 ≡ pages_touched g offset len
    pages-first = rw (add-zero, sub-zero)

    -- the piece is within its page
    pub chunk-within : (done : ℕ) → done < len → (column_at g (place_of offset done) + chunk_of g offset len done ≤ page) × (done + chunk_of g offset len done ≤ len)
    unfolding chunk_of
    chunk-within done below =
        let column : column_at g (place_of offset done) < page = mod-lt (place_of offset done) some-page in
        (omega arith, omega arith)

    -- behind a piece there is one page fewer
    pub one_fewer : (done : ℕ) → done < len → pages_left done ≡ suc (pages_left (done + chunk_of g offset len done))
    unfolding chunk_of
    one_fewer done below =
        let a = offset + done in
        let r : a % page < page = mod-lt a some-page in
        let now = from-to a (len - done) (omega arith) in
        rw (place-of done (omega arith))
        (pieces.piece-cases (λ n. pages_left done ≡ suc (pages_left (done + n))) (page - a % page) len done
        (λ l.
        let same = same-page page a (len - done) some-page (omega arith) (omega arith) in
        let later = no-pages (offset + (done + (len - done))) (len - (done + (len - done))) (omega arith) in
        omega arith)
        (λ l.
        let m = page - a % page in
        let here : offset + (done + m) ≡ a + m = omega arith in
        let there : offset + (done + m) + (len - (done + m)) - 1 ≡ a + (len - done) - 1 = omega arith in
        let first : (offset + (done + m)) / page ≡ a / page + 1 = ap (λ n. n / page) here ∙ next-page page a some-page in
        let last = ap (λ n. n / page) there in
        let more = further-page page a (len - done) some-page l in
        let later = from-to (offset + (done + m)) (len - (done + m)) (omega arith) in
        omega arith))

    pub page-turns : Counts len (λ done. done + chunk_of g offset len done) (λ k done. pages_left done ≡ k)
    page-turns = record {
      none = λ done t. by_order len done (λ l. l) (λ l. let z = one_fewer done l in absurd (omega arith));
      fewer = λ k done below t. let z = one_fewer done below in omega arith;
    }

    -- where nothing is left there is no page left
    pub pages-done : (done : ℕ) → len ≤ done → pages_left done ≡ 0
    pages-done done h = no-pages (offset + done) (len - done) (omega arith)

  -- ---- the filler

  pub filler-within : (column : ℕ) → column < page → column + filler_of g column ≤ page
  unfolding filler_of
  filler-within column below = omega arith

  pub filler-turns : Counts page (λ column. column + filler_of g column) (λ k column. page - column ≤ k * FILLER-CHUNK)
  unfolding filler_of
  filler-turns = record { none = λ column t. omega arith; fewer = λ k column below t. omega arith }

  pub fillers-enough : page - 0 ≤ fillers g * FILLER-CHUNK
  fillers-enough = omega arith

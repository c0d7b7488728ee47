-- Inside the bounds the Rust's calls come to what the driver's words make of them.
use Prim.Native.Nat.{ℕ, zero, suc, ◌+◌, ◌-◌, ◌*◌, ◌/◌, ◌%◌, ◌≤◌, ◌<◌}
use native.Mathlib.Omega.{arith}
use native.Mathlib.Nat.{mul-le-mul, mul-le-mul_right, mul_assoc, mod-eq_of_lt}
use mathlib.Core.Bool.{Bool, true, false, not, ◌&&◌}
use mathlib.Core.Path.{◌≡◌, refl, ap, sym, fun_ext}
use mathlib.Core.List.{List, [], ◌∷◌}
use lib.Dec.{ltb, leb, eqb}
use borrow.Author.Tests.{le-leb, lt-leb, ltb-true, lt-ltb, eqb-true, eqb-false, eq-eqb, ne_eqb}
use Rattle.std.specs.Prelude.{◌==◌, min, map, Option, Some, None}
use Rattle.std.specs.Option.{unwrap_or}
use Rattle.qspi.specs.Choice.{pick}
use Rattle.qspi.proofs.Cases.{by_cases, by_order}
use Rattle.qspi.specs.declared.transfer.Payload.{Payload}
use Rattle.qspi.specs.declared.transfer.Sink.{Sink}
use Rattle.qspi.specs.declared.transfer.Transfer.{Transfer}
use Rattle.spi_flash.specs.Prog.{Prog, ret, ◌>>=◌, ◌>>◌, refuse, transfer}
use Rattle.spi_flash.specs.Range.{range_in_bounds}
use Rattle.spi_flash.specs.Rows.{known_in}
use Rattle.spi_flash.specs.declared.error.FlashError.{FlashError}
use Rattle.spi_flash.proofs.Pieces.{range-told, range-in}
use Rattle.flash_runs.specs.Driver.{leaving}
use Rattle.spi_nand.specs.Config as Config
use Rattle.spi_nand.specs.Config.{in_bounds, page_count_of, first_page_of, cache_size_of, capacity_of, single_config, same_id}
use Rattle.spi_nand.specs.Transfer.{cache_read_at, cache_read_transfer, cache_load_at, cache_load_transfer, in_cache, in_range, place_of, chunk_of, filler_of}
use Rattle.spi_nand.specs.declared.answer.Answer.{Answer}
use Rattle.spi_nand.specs.declared.call.Call.{Call}
use Rattle.spi_nand.specs.declared.config.NandGeometry.{NandGeometry}
use Rattle.spi_nand.specs.declared.config.NandInit.{NandInit}
use Rattle.spi_nand.specs.declared.config.NandJedecId.{NandJedecId}
use Rattle.spi_nand.specs.declared.config.NandQuadConfig.{NandQuadConfig}
use Rattle.spi_nand.specs.declared.config.SpiNandConfig.{SpiNandConfig}
use Rattle.spi_nand.specs.declared.setup.Setup.{Setup}
use Rattle.spi_nand.proofs.Geometries.{geometries-hold}
use Rattle.nand_runs.specs.RustConfig as RustConfig
use Rattle.nand_runs.specs.RustConfig.{Row, page_count, capacity}
use Rattle.nand_runs.specs.Rust as Rust
use Rattle.nand_runs.specs.Rust.{Nothing, checked_add, ends_within, cache-read, cache-load}
use Rattle.nand_runs.specs.Program.{page_taken, large_page, refused-page, rust_program, program_of}
use Rattle.nand_runs.proofs.AsCoded as Coded
use Rattle.nand_runs.proofs.AsCoded.{coded_rust, coded}

-- ---- detection

eqb-turned : (a b : ℕ) → eqb a b ≡ eqb b a
eqb-turned a b = by_cases (eqb b a) (λ e. rw e (eq-eqb a b (sym (eqb-true b a e)))) (λ e. rw e (ne_eqb a b (λ z. eqb-false b a e (sym z))))

abbrev key : Row → NandJedecId
key row = record { manufacturer = row.mfg; device = row.dev }

row-same : (row : Row) (id : NandJedecId) → ((id.manufacturer == row.mfg) && (id.device == row.dev)) ≡ same_id (key row) id
row-same row id = rw (eqb-turned id.manufacturer row.mfg, eqb-turned id.device row.dev) refl

looked-same : (rows : List Row) (id : NandJedecId) → RustConfig.looked_up rows id ≡ unwrap_or (known_in same_id (map (λ row. (key row, row.geom)) rows) id) Config.W25N01GV
unfolding RustConfig.looked_up
looked-same [] id = refl
looked-same (row ∷ rows) id = rw (row-same row id) (by_cases (same_id (key row) id) (λ e. rw e refl) (λ e. rw e (looked-same rows id)))

pub known-same : (id : NandJedecId) → RustConfig.from_jedec id ≡ Config.from_jedec id
unfolding RustConfig.from_jedec Config.from_jedec
known-same id = looked-same RustConfig.known id

resolved-same : (geometry : Option NandGeometry) (id : NandJedecId) → Rust.resolved geometry id ≡ Coded.resolved geometry id
resolved-same None id = known-same id
resolved-same (Some own) id = refl

-- a caller's own page that is too large stays so
pub large : (setting : Option NandGeometry) (id : NandJedecId) → page_taken setting ≡ false → leb (Rust.resolved setting id).page_size 4096 ≡ false
large None id h = let z : ◌≡◌ {A = ℕ} 0 1 = cc in absurd (omega arith)
large (Some own) id h = h

pub constructed-same : (config : SpiNandConfig) (init : NandInit) → Rust.constructed config init ≡ Coded.constructed config init
constructed-same config init = ap (λ g. record { config = config; geometry = g; init = init }) (resolved-same config.geometry init.id)

-- with_config once the part is up
abbrev known-then : Setup → Prog Setup
known-then s = do
  refuse (ltb 4096 s.geometry.page_size) FlashError.NotSupported
  ret s

pub builds : (config : SpiNandConfig) → Rust.with-config config ≡ Coded.with-config config
unfolding Rust.with-config Coded.with-config
builds config = ap (λ k. transfer Transfer.Raise >> (Rust.bring-up config >>= k)) (fun_ext (λ init. ap known-then (constructed-same config init)))

-- ---- frames

pub read-same : (quad : Option NandQuadConfig) (column n : ℕ) (sink : Sink) → cache-read quad column n sink ≡ cache_read_at quad column n sink
read-same None column n sink = refl
read-same (Some q) column n sink = refl

pub load-same : (quad : Option NandQuadConfig) (column : ℕ) (payload : Payload) → cache-load quad column payload ≡ cache_load_at quad column payload
load-same None column payload = refl
load-same (Some q) column payload = refl

-- ---- tests

range-out : (room at n : ℕ) → room < at + n → range_in_bounds room at n ≡ false
range-out room at n l = by_cases (range_in_bounds room at n) (λ e. let t = range-told room at n e in absurd (omega arith)) (λ e. e)

-- a sum that is checked, held to a room of less than 64 bits
ends-same : (room at n : ℕ) → room < 18446744073709551616 → ends_within room (checked_add at n) ≡ range_in_bounds room at n
ends-same room at n small =
    by_order (at + n) room
    (λ l. rw (range-in room at n l, lt-ltb (at + n) 18446744073709551616 (omega arith), le-leb (at + n) room l) refl)
    (λ l. rw (range-out room at n l) (by_cases (ltb (at + n) 18446744073709551616) (λ e. rw e (lt-leb (at + n) room l)) (λ e. rw e refl)))

module _ (g : NandGeometry) (bounds : in_bounds g ≡ true) where
  pub pages-same : page_count g ≡ page_count_of g
  pages-same = sym (geometries-hold.exact g bounds).page_count

  pub capacity-same : capacity g ≡ capacity_of g
  capacity-same = sym (geometries-hold.exact g bounds).capacity

  pub cache-size-same : g.page_size + g.oob_size ≡ cache_size_of g
  unfolding cache_size_of
  cache-size-same = let b = geometries-hold.bounded g bounds in omega arith

  pub first-page-same : (block : ℕ) → block < g.block_count → block * g.pages_per_block ≡ first_page_of g block
  unfolding first_page_of
  first-page-same block below =
      let b = geometries-hold.bounded g bounds in
      let l = mul-le-mul_right g.pages_per_block below in
      omega arith

  -- a capacity has 40 bits
  pub small-capacity : capacity g ≤ 1099511627776
  small-capacity =
      let b = geometries-hold.bounded g bounds in
      let most : g.page_size ≤ 65535 = omega arith in
      let l = mul-le-mul most b.pages in
      omega (arith, mul_assoc g.page_size g.pages_per_block g.block_count)

  pub in-cache-same : (column n : ℕ) → ends_within (g.page_size + g.oob_size) (checked_add column n) ≡ in_cache g column n
  unfolding in_cache
  in-cache-same column n = let b = geometries-hold.bounded g bounds in rw (sym cache-size-same) (ends-same (g.page_size + g.oob_size) column n (omega arith))

  pub in-range-same : (offset n : ℕ) → ends_within (capacity g) (checked_add offset n) ≡ in_range g offset n
  unfolding in_range
  in-range-same offset n = rw (sym capacity-same) (ends-same (capacity g) offset n (omega (arith, small-capacity)))

  -- the usize sum of the driver is the sum
  pub place-same : (offset done : ℕ) → offset + done ≤ capacity g → place_of offset done ≡ offset + done
  unfolding place_of
  place-same offset done h = mod-eq_of_lt (omega (arith, small-capacity))

-- ---- the calls

-- what stands behind a test needs to agree only where it lets through
guard-same : {A : Type 0} (b : Bool) (e : FlashError) (p q : Prog A) → (b ≡ true → p ≡ q) → (refuse (not b) e >> p) ≡ (refuse (not b) e >> q)
unfolding refuse ◌>>◌ ◌>>=◌
guard-same true e p q h = h refl
guard-same false e p q h = refl

module _ (flash : Setup) (bounds : in_bounds flash.geometry ≡ true) where
  abbrev g : NandGeometry
  g = flash.geometry

  page-read-same : (page : ℕ) → Rust.page-read flash page ≡ Coded.page-read flash page
  unfolding Rust.page-read Coded.page-read
  page-read-same page = rw (pages-same g bounds) refl

  cache-read-same : (column n : ℕ) (sink : Sink) → Rust.read-cache flash column n sink ≡ Coded.read-cache flash column n sink
  unfolding Rust.read-cache Coded.read-cache cache_read_transfer
  cache-read-same column n sink = rw (in-cache-same g bounds column n, read-same flash.config.quad column n sink) refl

  cache-load-same : (column n : ℕ) (payload : Payload) → Rust.load-program-data flash column n payload ≡ Coded.load-program-data flash column n payload
  unfolding Rust.load-program-data Coded.load-program-data cache_load_transfer
  cache-load-same column n payload = rw (in-cache-same g bounds column n, load-same flash.config.quad column payload) refl

  execute-same : (page : ℕ) → Rust.program-execute flash page ≡ Coded.program-execute flash page
  unfolding Rust.program-execute Coded.program-execute
  execute-same page = rw (pages-same g bounds) refl

  read-page-same : (page n : ℕ) (sink : Sink) → Rust.read-page flash page n sink ≡ Coded.read-page flash page n sink
  unfolding Rust.read-page Coded.read-page
  read-page-same page n sink = rw (page-read-same page, cache-read-same 0 n sink) refl

  write-page-same : (page n : ℕ) → Rust.write-page flash page n ≡ Coded.write-page flash page n
  unfolding Rust.write-page Coded.write-page
  write-page-same page n = rw (pages-same g bounds, cache-load-same 0 n (Payload.Data 0 n), execute-same page, read-page-same page g.page_size (Sink.Compare 0)) refl

  erase-same : (block : ℕ) → Rust.erase-block flash block ≡ Coded.erase-block flash block
  unfolding Rust.erase-block Coded.erase-block
  erase-same block = guard-same (ltb block g.block_count) FlashError.OutOfBounds _ _ (λ e. rw (first-page-same g bounds block (ltb-true block g.block_count e)) refl)

  is-bad-same : (block : ℕ) → Rust.is-bad-block flash block ≡ Coded.is-bad-block flash block
  unfolding Rust.is-bad-block Coded.is-bad-block
  is-bad-same block =
      rw (cache-read-same g.page_size 1 Sink.Number)
      (guard-same (ltb block g.block_count) FlashError.OutOfBounds _ _ (λ e. rw (first-page-same g bounds block (ltb-true block g.block_count e)) refl))

  in-range-told : (offset n : ℕ) → in_range g offset n ≡ true → offset + n ≤ capacity_of g
  unfolding in_range
  in-range-told offset n e = range-told (capacity_of g) offset n e

  -- read's loop, within the range that is tested before it
  loop-same : (fuel offset len done : ℕ) → offset + len ≤ capacity g → Rust.read-loop flash fuel offset len done ≡ Coded.read-loop flash fuel offset len done
  unfolding Rust.read-loop Coded.read-loop chunk_of
  loop-same zero offset len done h = refl
  loop-same (suc fuel) offset len done h =
      by_cases (ltb done len)
      (λ e. let below = ltb-true done len e in
      let column = (offset + done) % g.page_size in
      let turned : min (g.page_size - column) (len - done) ≡ min (len - done) (g.page_size - column) = omega arith in
      rw (
        e,
        place-same g bounds offset done (omega arith),
        turned,
        page-read-same ((offset + done) / g.page_size),
        cache-read-same column (min (len - done) (g.page_size - column)) (Sink.Buffer done),
        loop-same fuel offset len (done + min (len - done) (g.page_size - column)) h,
      ) refl)
      (λ e. rw e refl)

  read-whole : (offset len : ℕ) → Rust.read flash offset len ≡ Coded.read flash offset len
  unfolding Rust.read Coded.read Rust.reading Coded.reading
  read-whole offset len =
      rw (in-range-same g bounds offset len)
      (guard-same (in_range g offset len) FlashError.OutOfBounds _ _
      (λ e. loop-same (len - 0) offset len 0 (omega (arith, capacity-same g bounds, in-range-told offset len e))))

  fill-same : (fuel column : ℕ) → Rust.fill-loop flash fuel column ≡ Coded.fill-loop flash fuel column
  unfolding Rust.fill-loop Coded.fill-loop filler_of
  fill-same zero column = refl
  fill-same (suc fuel) column = rw (cache-load-same column (min (g.page_size - column) 256) (Payload.Filler (min (g.page_size - column) 256)), fill-same fuel (column + min (g.page_size - column) 256)) refl

  mark-same : (block : ℕ) → Rust.mark-bad-block flash block ≡ Coded.mark-bad-block flash block
  unfolding Rust.mark-bad-block Coded.mark-bad-block Rust.filling Coded.filling
  mark-same block =
      rw (is-bad-same block, erase-same block, fill-same (g.page_size - 0) 0, cache-load-same g.page_size 1 Payload.Marker)
      (guard-same (ltb block g.block_count) FlashError.OutOfBounds _ _
      (λ e. rw (first-page-same g bounds block (ltb-true block g.block_count e), execute-same (first_page_of g block)) refl))

  rust-same : (call : Call) (b d : ℕ) → rust_program flash call b d ≡ coded_rust flash call b d
  unfolding rust_program coded_rust
  rust-same Call.New b d = ap (λ p. p >>= (λ built. ret (leaving built Answer.Done))) (builds single_config)
  rust-same (Call.WithConfig config) b d = ap (λ p. p >>= (λ built. ret (leaving built Answer.Done))) (builds config)
  rust-same Call.Info b d = refl
  rust-same Call.Config b d = refl
  rust-same Call.Geometry b d = refl
  rust-same Call.Free b d = refl
  rust-same Call.DisableQuad b d = refl
  rust-same (Call.WriteRegister register value) b d = refl
  rust-same Call.WriteEnable b d = refl
  rust-same Call.ReadStatus b d = refl
  rust-same Call.ReadConfiguration b d = refl
  rust-same Call.ReadProtection b d = refl
  rust-same Call.Reset b d = refl
  rust-same Call.JedecId b d = refl
  rust-same Call.ResetAndIdentify b d = refl
  rust-same Call.EnsureConfiguration b d = refl
  rust-same Call.Unprotect b d = refl
  rust-same (Call.PageRead page) b d = ap (λ p. p >> ret (leaving flash Answer.Done)) (page-read-same page)
  rust-same (Call.ReadCache column) b d = ap (λ p. p >> ret (leaving flash Answer.Done)) (cache-read-same column b (Sink.Buffer 0))
  rust-same (Call.LoadProgramData column) b d = ap (λ p. p >> ret (leaving flash Answer.Done)) (cache-load-same column d (Payload.Data 0 d))
  rust-same (Call.ProgramExecute page) b d = ap (λ p. p >> ret (leaving flash Answer.Done)) (execute-same page)
  rust-same (Call.ReadPage page) b d = ap (λ p. p >> ret (leaving flash Answer.Done)) (read-page-same page b (Sink.Buffer 0))
  rust-same (Call.WritePage page) b d = ap (λ p. p >> ret (leaving flash Answer.Done)) (write-page-same page d)
  rust-same (Call.EraseBlock block) b d = ap (λ p. p >> ret (leaving flash Answer.Done)) (erase-same block)
  rust-same (Call.Read offset) b d = ap (λ p. p >> ret (leaving flash Answer.Done)) (read-whole offset b)
  rust-same (Call.IsBadBlock block) b d = ap (λ p. p >>= (λ bad. ret (leaving flash (Answer.Flag bad)))) (is-bad-same block)
  rust-same (Call.MarkBadBlock block) b d = ap (λ p. p >> ret (leaving flash Answer.Done)) (mark-same block)

  pub same : (call : Call) (b d : ℕ) → program_of flash call b d ≡ coded flash call b d
  same call b d = ap (λ p. pick (large_page call) refused-page p) (rust-same call b d)

-- a construction looks at no geometry that is there before
pub same-construction : (flash : Setup) (config : SpiNandConfig) (b d : ℕ) → program_of flash (Call.WithConfig config) b d ≡ coded flash (Call.WithConfig config) b d
unfolding rust_program coded_rust
same-construction flash config b d =
    ap (λ p. pick (large_page (Call.WithConfig config)) refused-page (p >>= (λ built. ret (leaving built Answer.Done)))) (builds config)

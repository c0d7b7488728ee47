-- Inside the bounds the Rust's calls come to what the driver's words make of them.
use Prim.Native.Nat.{ℕ, zero, suc, ◌+◌, ◌-◌, ◌*◌, ◌/◌, ◌%◌, ◌≤◌, ◌<◌}
use native.Mathlib.Omega.{arith}
use native.Mathlib.Nat.{mod-zero, mul-le-mul_right, mul-pos, mod-eq_of_lt, div-add-mod', div-eq_of_lt, mul-add-div_right}
use mathlib.Core.Bool.{Bool, true, not, ◌&&◌}
use mathlib.Core.Path.{◌≡◌, refl, ap, sym, ◌∙◌, fun_ext}
use mathlib.Core.List.{List, [], ◌∷◌}
use lib.Dec.{ltb, leb, eqb}
use borrow.Author.Tests.{le-leb, ltb-true, ltb-false, lt-ltb, le-ltb, eqb-true, eqb-false, eq-eqb, ne_eqb}
use Rattle.std.specs.Prelude.{◌==◌, min, map, Option, Some, None}
use Rattle.std.specs.Option.{unwrap_or}
use Rattle.spi_flash.specs.Rows.{known_in}
use Rattle.qspi.specs.declared.transfer.Transfer.{Transfer}
use Rattle.spi_flash.specs.Number.{number_transfer}
use Rattle.spi_nor.specs.Command.{read_id_command}
use Rattle.qspi.proofs.Cases.{by_cases}
use Rattle.qspi.specs.declared.transfer.Sink.{Sink}
use Rattle.spi_flash.specs.Prog.{Prog, ret, ask, ◌>>=◌, ◌>>◌, refuse}
use Rattle.spi_flash.specs.Range as Range
use Rattle.spi_flash.specs.declared.error.FlashError.{FlashError}
use Rattle.spi_flash.proofs.Pieces.{range-told}
use Rattle.spi_nor.specs.Config as Config
use Rattle.spi_nor.specs.Config.{in_bounds_of, single_config, same_id, unknown_device, capacity_bytes_of, known_nor_devices}
use Rattle.spi_nor.specs.Transfer.{place_of, chunk_of, read_at, read_transfer, program_at, program_transfer, multiple_of, step_kind, after_unit}
use Rattle.spi_nor.specs.declared.answer.Answer.{Answer}
use Rattle.spi_nor.specs.declared.call.Call.{Call}
use Rattle.spi_nor.specs.declared.config.NorDeviceInfo.{NorDeviceInfo}
use Rattle.spi_nor.specs.declared.config.NorJedecId.{NorJedecId}
use Rattle.spi_nor.specs.declared.config.NorQuadConfig.{NorQuadConfig}
use Rattle.spi_nor.specs.declared.config.SpiNorConfig.{SpiNorConfig}
use Rattle.spi_nor.specs.declared.phase.EraseKind.{EraseKind}
use Rattle.spi_nor.specs.declared.setup.Setup.{Setup}
use Rattle.spi_nor.proofs.DeviceBounds.{device_bounds}
use Rattle.spi_nor.proofs.Pieces.{page-whole}
use Rattle.nor_steps.specs.Opening.{given_at, fresh_setup}
use Rattle.nor_steps.specs.Register.{device_at, device_for, known_as}
use Rattle.nor_runs.specs.RustConfig as RustConfig
use Rattle.nor_runs.specs.RustConfig.{Row}
use Rattle.nor_runs.specs.Rust as Rust
use Rattle.nor_runs.specs.Rust.{Nothing, is_multiple_of, range_in_bounds, erase_step, read-piece, program-piece, chunks, chunk_len, jedec-id}
use Rattle.nor_runs.specs.Program.{leaving, program_of}
use Rattle.nor_runs.specs.Run.{nor_driver}
use Rattle.flash_runs.proofs.Supplies.{Bounds}
use Rattle.nor_runs.proofs.AsCoded as Coded
use Rattle.nor_runs.specs.Bound.{erase_sum}
use Rattle.nor_runs.proofs.AsCoded.{coded, coded_sum}
use Rattle.nor_runs.proofs.Loops.{writing-loop}
use Rattle.nor_runs.proofs.RustLoops.{nor-loops}

-- ---- tests

pub range-same : (capacity offset n : ℕ) → range_in_bounds capacity offset n ≡ Range.range_in_bounds capacity offset n
unfolding Range.range_in_bounds
range-same capacity offset n = by_cases (leb offset capacity) (λ e. rw e refl) (λ e. rw e refl)

pub multiple-same : (n unit : ℕ) → is_multiple_of n unit ≡ multiple_of n unit
unfolding multiple_of
multiple-same n zero = rw (mod-zero n) refl
multiple-same n (suc unit) = refl

-- ---- detection

eqb-turned : (a b : ℕ) → eqb a b ≡ eqb b a
eqb-turned a b = by_cases (eqb b a) (λ e. rw e (eq-eqb a b (sym (eqb-true b a e)))) (λ e. rw e (ne_eqb a b (λ z. eqb-false b a e (sym z))))

abbrev key : Row → NorJedecId
key row = record { manufacturer = row.mfg; memory_type = row.mem; capacity = row.cap }

row-same : (row : Row) (id : NorJedecId) → ((id.manufacturer == row.mfg) && (id.memory_type == row.mem) && (id.capacity == row.cap)) ≡ same_id (key row) id
row-same row id = rw (eqb-turned id.manufacturer row.mfg, eqb-turned id.memory_type row.mem, eqb-turned id.capacity row.cap) refl

code-same : (id : NorJedecId) → RustConfig.unknown (RustConfig.capacity_bytes id) ≡ unknown_device (capacity_bytes_of id)
unfolding capacity_bytes_of
code-same id = by_cases (leb 16 id.capacity) (λ e. by_cases (leb id.capacity 24) (λ d. rw (e, d) refl) (λ d. rw (e, d) refl)) (λ e. rw e refl)

looked-same : (rows : List Row) (id : NorJedecId) →
    RustConfig.looked_up rows id ≡ unwrap_or (known_in same_id (map (λ row. (key row, row.info)) rows) id) (unknown_device (capacity_bytes_of id))
unfolding RustConfig.looked_up
looked-same [] id = code-same id
looked-same (row ∷ rows) id = rw (row-same row id) (by_cases (same_id (key row) id) (λ e. rw e refl) (λ e. rw e (looked-same rows id)))

pub known-same : (id : NorJedecId) → RustConfig.from_jedec id ≡ Config.from_jedec id
unfolding RustConfig.from_jedec Config.from_jedec
known-same id = looked-same RustConfig.known id

resolved-same : (device : Option NorDeviceInfo) (id : NorJedecId) → Rust.resolved device id ≡ device_at device (given_at device) id
resolved-same None id = known-same id
resolved-same (Some own) id = refl

pub constructed-same : (config : SpiNorConfig) (v : ℕ) → Rust.constructed config (Rust.id-of v) ≡ known_as (fresh_setup config) v
unfolding device_for
constructed-same config v = ap (λ d. record { config = config; device = d; id = Rust.id-of v }) (resolved-same config.device (Rust.id-of v))

-- with_config once the id is read
abbrev known-then : SpiNorConfig → Setup → Prog Setup
known-then config s = do
  refuse (ltb 512 s.device.page_size) FlashError.NotSupported
  Rust.quad-if config.quad
  ret s

pub builds : (config : SpiNorConfig) → Rust.with-config config ≡ Coded.with-config config
unfolding Rust.with-config Coded.with-config jedec-id ◌>>=◌ ◌>>◌
builds config = ap (λ k. ask Transfer.Raise (λ _. ask (number_transfer read_id_command 3) k)) (fun_ext (λ v. ap (known-then config) (constructed-same config v)))

-- ---- a step of erase

u32-same : (address size : ℕ) → address + size < 4294967296 → address + size ≡ (address + size % 4294967296) % 4294967296
u32-same address size h = let z : size % 4294967296 ≡ size = mod-eq_of_lt (omega arith) in rw z (sym (mod-eq_of_lt (omega arith)))

module _ (device : NorDeviceInfo) (bounds : in_bounds_of device ≡ true) where
  pub some-block : 1 ≤ device.block_size
  some-block = let b = device_bounds.accepted device bounds in rw b.multiple (mul-pos b.positive b.sector)

  pub most-sector : device.sector_size ≤ 16777216
  most-sector =
      let b = device_bounds.accepted device bounds in
      let l = mul-le-mul_right device.sector_size b.positive in
      omega (arith, b.multiple, b.most_block)

  pub step-same : (address to : ℕ) → address < to → to ≤ device.capacity →
      erase_step address to device.sector_size device.block_size ≡ (step_kind device address to, after_unit device (step_kind device address to) address)
  unfolding step_kind after_unit
  step-same address to below most =
      let b = device_bounds.accepted device bounds in
      let small = most-sector in
      let sector : ◌≡◌ {A = EraseKind × ℕ} (EraseKind.Sector, address + device.sector_size) (EraseKind.Sector, (address + device.sector_size % 4294967296) % 4294967296) =
      ap (λ n. (EraseKind.Sector, n)) (u32-same address device.sector_size (omega arith)) in
      rw (multiple-same address device.block_size, le-leb address to (omega arith))
      (by_cases (multiple_of address device.block_size)
      (λ e. by_cases (leb device.block_size (to - address)) (λ d. rw (e, d) (ap (λ n. (EraseKind.Block, n)) (u32-same address device.block_size (omega arith)))) (λ d. rw (e, d) sector))
      (λ e. rw e sector))

  pub sum-same : (figure : EraseKind → ℕ) (fuel address to : ℕ) → to ≤ device.capacity → erase_sum figure device fuel address to ≡ coded_sum figure device fuel address to
  sum-same figure zero address to most = refl
  sum-same figure (suc fuel) address to most =
      by_cases (ltb address to)
      (λ e. rw (e, step-same address to (ltb-true address to e) most, sum-same figure fuel (after_unit device (step_kind device address to) address) to most) refl)
      (λ e. rw e refl)

-- ---- read

-- the u32 sum of the driver is the sum
pub place-same : (offset done : ℕ) → offset + done ≤ 16777216 → place_of offset done ≡ offset + done
unfolding place_of
place-same offset done h = let z : done % 4294967296 ≡ done = mod-eq_of_lt (omega arith) in rw z (mod-eq_of_lt (omega arith))

pub read-same : (quad : Option NorQuadConfig) (offset n : ℕ) (sink : Sink) → read-piece quad offset n sink ≡ read_at quad offset n sink
read-same None offset n sink = refl
read-same (Some q) offset n sink = refl

pub program-same : (quad : Option NorQuadConfig) (offset from n : ℕ) → program-piece quad offset from n ≡ program_at quad offset from n
program-same None offset from n = refl
program-same (Some q) offset from n = refl

module _ (flash : Setup) where
  -- the loop into the caller's buffer, whatever follows
  loop-same : {B : Type 0} (q : Prog B) (fuel offset len done : ℕ) (same : Bool) → offset + len ≤ 16777216 →
      (Rust.read-loop flash (λ d. Sink.Buffer d) fuel offset len done same >> q) ≡ (Coded.read-loop flash fuel offset len done >> q)
  unfolding Rust.read-loop Coded.read-loop read_transfer chunk_of ◌>>=◌ ◌>>◌
  loop-same q zero offset len done same h = refl
  loop-same q (suc fuel) offset len done same h =
      by_cases (ltb done len)
      (λ e. let below = ltb-true done len e in
      rw (e, place-same offset done (omega arith), read-same flash.config.quad (offset + done) (min (len - done) 65536) (Sink.Buffer done))
      (ap (ask (read_at flash.config.quad (offset + done) (min (len - done) 65536) (Sink.Buffer done))) (fun_ext (λ v. loop-same q fuel offset len (done + min (len - done) 65536) (same && not (v == 0)) h))))
      (λ e. rw e refl)

  module _ (bounds : in_bounds_of flash.device ≡ true) where
    abbrev page : ℕ
    page = flash.device.page_size

    pub reads : {B : Type 0} (q : Prog B) (offset len : ℕ) → (Rust.read flash (λ d. Sink.Buffer d) offset len >> q) ≡ (Coded.read flash offset len >> q)
    unfolding Rust.read Coded.read Rust.reading Coded.reading refuse ◌>>=◌ ◌>>◌
    reads q offset len =
        rw (range-same flash.device.capacity offset len)
        (by_cases (Range.range_in_bounds flash.device.capacity offset len)
        (λ e. let r = range-told flash.device.capacity offset len e in
        let c = (device_bounds.accepted flash.device bounds).capacity in
        rw e (loop-same q (len - 0) offset len 0 true (omega arith)))
        (λ e. rw e refl))

    -- ---- write

    -- page_program's read-back, and what it is held to
    verdict : (offset from n : ℕ) → 1 ≤ n → n ≤ 65536 → (Rust.read flash (λ done. Sink.Compare (from + done)) offset n >>= (λ same. refuse (not same) FlashError.VerifyFailed)) ≡
        (Coded.read_back flash offset n from >>= (λ same. refuse (eqb same 0) FlashError.VerifyFailed))
    unfolding Coded.read_back refuse read_transfer ◌>>=◌ ◌>>◌
    verdict offset from n some most =
        let here : from + 0 ≡ from = omega arith in
        rw (nor-loops.reads_once flash (λ done. Sink.Compare (from + done)) offset n some most, here, range-same flash.device.capacity offset n, read-same flash.config.quad offset n (Sink.Compare from))
        (by_cases (Range.range_in_bounds flash.device.capacity offset n)
        (λ e. rw e (ap (ask (read_at flash.config.quad offset n (Sink.Compare from))) (fun_ext (λ v. by_cases (eqb v 0) (λ d. rw d refl) (λ d. rw d refl)))))
        (λ e. rw e refl))

    page-same : (offset from n : ℕ) → 1 ≤ n → n ≤ 65536 → Rust.page-program flash offset from n ≡ Coded.page-program flash offset from n
    unfolding Rust.page-program Coded.page-program program_transfer
    page-same offset from n some most =
        rw (program-same flash.config.quad offset from n, verdict offset from n some most) refl

    some-page : 1 ≤ page
    some-page = (device_bounds.accepted flash.device bounds).least_page

    chunk-same : (offset len left index : ℕ) → len ≡ (index + left) * page → offset + len ≤ 16777216 →
        Rust.write-loop flash left offset len index ≡ Coded.writing flash offset len (index * page)
    unfolding Rust.write-loop
    chunk-same offset len zero index whole h = rw (writing-loop flash some-page offset len (index * page), le-ltb (index * page) len (omega arith)) refl
    chunk-same offset len (suc left) index whole h =
        let done = index * page in
        let some = some-page in
        let below : done < len = omega arith in
        let page-left : page ≤ len - done = omega arith in
        let all : min (len - done) page ≡ page = omega arith in
        let next : (index + 1) * page ≡ done + page = omega arith in
        let later = chunk-same offset len left (index + 1) (omega arith) h in
        rw (writing-loop flash some offset len done, lt-ltb done len below, page-whole flash.device len done some page-left, place-same offset done (omega arith), all, sym next)
        (rw (page-same (offset + done) done page some (omega (arith, (device_bounds.accepted flash.device bounds).most_page)), later) refl)

    -- of whole pages there are as many chunks as pages
    whole-chunks : (len : ℕ) → len % page ≡ 0 → chunks len page ≡ len / page
    whole-chunks len none =
        let d = div-add-mod' len page in
        let some = some-page in
        let e : len + (page - 1) ≡ len / page * page + (page - 1) = omega arith in
        let z : (page - 1) / page ≡ 0 = div-eq_of_lt (omega arith) in
        let m = mul-add-div_right some (len / page) (page - 1) in
        ap (λ n. n / page) e ∙ (omega arith)

    whole-same : (offset len : ℕ) → Range.range_in_bounds flash.device.capacity offset len ≡ true → multiple_of len page ≡ true → Rust.writing flash offset len 0 ≡ Coded.writing flash offset len 0
    unfolding Rust.writing multiple_of
    whole-same offset len r m =
        let none = eqb-true (len % page) 0 m in
        let c = (device_bounds.accepted flash.device bounds).capacity in
        let start : 0 * page ≡ 0 = omega arith in
        let from : chunks len page - 0 ≡ len / page = omega (arith, whole-chunks len none) in
        rw from (chunk-same offset len (len / page) 0 (omega (arith, div-add-mod' len page)) (omega (arith, range-told flash.device.capacity offset len r)) ∙ ap (λ d. Coded.writing flash offset len d) start)

    pub writes : (offset len : ℕ) → Rust.write flash offset len ≡ Coded.write flash offset len
    unfolding Rust.write Coded.write refuse ◌>>=◌ ◌>>◌
    writes offset len =
        rw (range-same flash.device.capacity offset len, multiple-same offset page, multiple-same len page)
        (by_cases (Range.range_in_bounds flash.device.capacity offset len)
        (λ e. by_cases (multiple_of offset page)
        (λ d. by_cases (multiple_of len page) (λ c. rw (e, d, c) (whole-same offset len e c)) (λ c. rw (e, d, c) refl))
        (λ d. rw (e, d) refl))
        (λ e. rw e refl))

    -- ---- erase

    pub unit-same : (kind : EraseKind) (offset : ℕ) → Rust.erase-unit flash kind offset ≡ Coded.erase-unit flash kind offset
    unfolding Rust.erase-sector Rust.erase-block Coded.erase-unit
    unit-same EraseKind.Sector offset = rw (range-same flash.device.capacity offset flash.device.sector_size, multiple-same offset flash.device.sector_size) refl
    unit-same EraseKind.Block offset = rw (range-same flash.device.capacity offset flash.device.block_size, multiple-same offset flash.device.block_size) refl

    steps-same : (fuel address to : ℕ) → to ≤ flash.device.capacity → Rust.erase-loop flash fuel address to ≡ Coded.erase-loop flash fuel address to
    unfolding Rust.erase-loop Coded.erase-loop
    steps-same zero address to most = refl
    steps-same (suc fuel) address to most =
        by_cases (ltb address to)
        (λ e. rw (e, step-same flash.device bounds address to (ltb-true address to e) most, unit-same (step_kind flash.device address to) address)
        (ap (λ p. Coded.erase-unit flash (step_kind flash.device address to) address >> p) (steps-same fuel (after_unit flash.device (step_kind flash.device address to) address) to most)))
        (λ e. rw e refl)

    pub erases : (from to : ℕ) → Rust.erase flash from to ≡ Coded.erase flash from to
    unfolding Rust.erase Coded.erase Rust.erasing Coded.erasing refuse ◌>>=◌ ◌>>◌
    erases from to =
        rw (multiple-same from flash.device.sector_size, multiple-same to flash.device.sector_size)
        (by_cases (ltb flash.device.capacity to)
        (λ e. rw e refl)
        (λ e. rw (steps-same (to - from) from to (ltb-false flash.device.capacity to e)) refl))

-- ---- every call

module _ (flash : Setup) where
  pub same : (call : Call) (b d : ℕ) → Bounds nor_driver flash call b d → program_of flash call b d ≡ coded flash call b d
  unfolding program_of coded
  same Call.New b d h = ap (λ p. p >>= (λ built. ret (leaving built Answer.Done))) (builds single_config)
  same (Call.WithConfig config) b d h = ap (λ p. p >>= (λ built. ret (leaving built Answer.Done))) (builds config)
  same Call.Config b d h = refl
  same Call.Device b d h = refl
  same Call.Id b d h = refl
  same Call.Free b d h = refl
  same Call.ReadStatus1 b d h = refl
  same Call.ReadStatus2 b d h = refl
  same Call.IsBusy b d h = refl
  same Call.JedecId b d h = refl
  same Call.UniqueId b d h = refl
  same Call.QuadEnabled b d h = refl
  same Call.EnableQuad b d h = refl
  same Call.DisableQuad b d h = refl
  same (Call.Read offset) b d h = reads flash h (ret (leaving flash Answer.Done)) offset b
  same (Call.Write offset) b d h = ap (λ p. p >> ret (leaving flash Answer.Done)) (writes flash h offset d)
  same Call.Unprotect b d h = refl
  same (Call.Erase from to) b d h = ap (λ p. p >> ret (leaving flash Answer.Done)) (erases flash h from to)
  same (Call.EraseSector offset) b d h = ap (λ p. p >> ret (leaving flash Answer.Done)) (unit-same flash h EraseKind.Sector offset)
  same (Call.EraseBlock offset) b d h = ap (λ p. p >> ret (leaving flash Answer.Done)) (unit-same flash h EraseKind.Block offset)

-- The Rust's loops satisfy its equations, without fuel: each turn goes on by at least 1.
use Prim.Native.Nat.{ℕ, zero, suc, ◌+◌, ◌-◌, ◌*◌, ◌/◌, ◌≤◌, ◌<◌}
use native.Mathlib.Omega.{arith}
use native.Mathlib.Nat.{div-lt_iff_lt-mul, le-div_iff_mul-le, mul-pos}
use mathlib.Core.Bool.{Bool, true, false, not, ◌&&◌}
use mathlib.Core.Path.{◌≡◌, refl, ap, fun_ext}
use lib.Dec.{ltb, leb}
use borrow.Author.Tests.{ltb-true, ltb-false, lt-ltb, le-ltb}
use Rattle.std.specs.Prelude.{◌==◌, min, if◌then◌else◌}
use Rattle.qspi.proofs.Cases.{by_cases}
use Rattle.qspi.specs.declared.transfer.Sink.{Sink}
use Rattle.spi_flash.specs.Prog.{Prog, ret, ask, ◌>>=◌, ◌>>◌, refuse, transfer}
use Rattle.spi_flash.specs.declared.error.FlashError.{FlashError}
use Rattle.spi_flash.proofs.Loops.{without-fuel}
use Rattle.spi_nor.specs.Config.{in_bounds_of}
use Rattle.spi_nor.specs.declared.phase.EraseKind.{EraseKind}
use Rattle.spi_nor.specs.declared.setup.Setup.{Setup}
use Rattle.spi_nor.proofs.DeviceBounds.{device_bounds}
use Rattle.nor_runs.specs.Loops.{ReadLoop, ReadOnce, WriteLoop, EraseLoop, NorLoops}
use Rattle.nor_runs.specs.Rust.{is_multiple_of, range_in_bounds, erase_step, read-piece, read-loop, reading, read, chunks, page-program, write-loop, writing, erase-unit, erase-loop, erasing}

module _ (flash : Setup) where
  -- ---- read

  module _ (into : ℕ → Sink) (offset len : ℕ) where
    -- the rest of the loop behind the piece at `done`, with so much fuel
    abbrev rest : ℕ → ℕ → Bool → ℕ → Prog Bool
    rest fuel done same v = read-loop flash into fuel offset len (done + min (len - done) 65536) (same && not (v == 0))

    any-fuel : (n m done : ℕ) (same : Bool) → len - done ≤ n → len - done ≤ m → read-loop flash into n offset len done same ≡ read-loop flash into m offset len done same
    unfolding read-loop ◌>>=◌
    any-fuel zero zero done same a b = refl
    any-fuel zero (suc m) done same a b = rw (le-ltb done len (omega arith)) refl
    any-fuel (suc n) zero done same a b = rw (le-ltb done len (omega arith)) refl
    any-fuel (suc n) (suc m) done same a b =
        by_cases (ltb done len)
        (λ e. let below = ltb-true done len e in
        rw e
        (ap (ask (read-piece flash.config.quad (offset + done) (min (len - done) 65536) (into done)))
        (fun_ext {f = rest n done same} {g = rest m done same} (λ v. any-fuel n m (done + min (len - done) 65536) (same && not (v == 0)) (omega arith) (omega arith)))))
        (λ e. rw e refl)

    with-fuel : (fuel done : ℕ) (same : Bool) → fuel ≡ len - done → read-loop flash into fuel offset len done same ≡
        (if ltb done len
        then (transfer (read-piece flash.config.quad (offset + done) (min (len - done) 65536) (into done)) >>= rest (len - (done + min (len - done) 65536)) done same)
        else ret same)
    unfolding read-loop ◌>>=◌
    with-fuel zero done same e = rw (le-ltb done len (omega arith)) refl
    with-fuel (suc fuel) done same e =
        rw (lt-ltb done len (omega arith))
        (ap (ask (read-piece flash.config.quad (offset + done) (min (len - done) 65536) (into done)))
        (fun_ext (λ v. any-fuel fuel (len - (done + min (len - done) 65536)) (done + min (len - done) 65536) (same && not (v == 0)) (omega arith) (omega arith))))

    pub reads : (done : ℕ) (same : Bool) → ReadLoop flash into offset len done same
    unfolding reading
    reads done same = with-fuel (len - done) done same refl

  -- ---- the read of a page

  ended : (into : ℕ → Sink) (offset n : ℕ) (same : Bool) → reading flash into offset n n same ≡ ret same
  ended into offset n same = rw (reads into offset n n same, le-ltb n n (omega arith)) refl

  once : (into : ℕ → Sink) (offset n : ℕ) → 1 ≤ n → n ≤ 65536 → reading flash into offset n 0 true ≡
      (transfer (read-piece flash.config.quad offset n (into 0)) >>= (λ v. ret (not (v == 0))))
  unfolding ◌>>=◌
  once into offset n some most =
      let here : offset + 0 ≡ offset = omega arith in
      let all : min (n - 0) 65536 ≡ n = omega arith in
      let end : 0 + n ≡ n = omega arith in
      rw (reads into offset n 0 true, lt-ltb 0 n some, here, all, end)
      (ap (ask (read-piece flash.config.quad offset n (into 0))) (fun_ext (λ v. ended into offset n (not (v == 0)))))

  pub reads-once : (into : ℕ → Sink) (offset n : ℕ) → 1 ≤ n → n ≤ 65536 → ReadOnce flash into offset n
  unfolding read
  reads-once into offset n some most = ap (λ p. refuse (not (range_in_bounds flash.device.capacity offset n)) FlashError.OutOfBounds >> p) (once into offset n some most)

  -- ---- write

  module _ (bounds : in_bounds_of flash.device ≡ true) where
    abbrev page : ℕ
    page = flash.device.page_size

    some-page : 1 ≤ page
    some-page = (device_bounds.accepted flash.device bounds).least_page

    -- the index-th chunk is there where its first byte is
    chunk-there : (len index : ℕ) → index * page < len → index < chunks len page
    chunk-there len index below = (le-div_iff_mul-le {x = suc index} some-page).1 (omega arith)

    no-chunk : (len index : ℕ) → len ≤ index * page → chunks len page ≤ index
    no-chunk len index past =
        let l : (len + (page - 1)) / page < suc index = (div-lt_iff_lt-mul some-page).1 (omega (arith, some-page)) in
        omega arith

    pub writes : (offset len index : ℕ) → WriteLoop flash offset len index
    unfolding writing write-loop
    writes offset len index = turn (chunks len page - index) refl
      where
        turn : (left : ℕ) → left ≡ chunks len page - index → write-loop flash left offset len index ≡
            (if ltb (index * page) len
            then (page-program flash (offset + index * page) (index * page) (min (len - index * page) page) >> write-loop flash (chunks len page - (index + 1)) offset len (index + 1))
            else ret tt)
        turn zero e = by_cases (ltb (index * page) len) (λ d. let l = chunk-there len index (ltb-true (index * page) len d) in absurd (omega arith)) (λ d. rw d refl)
        turn (suc left) e =
            by_cases (ltb (index * page) len)
            (λ d. let fewer : left ≡ chunks len page - (index + 1) = omega arith in rw (d, fewer) refl)
            (λ d. let l = no-chunk len index (ltb-false (index * page) len d) in absurd (omega arith))

    -- ---- erase

    abbrev step : ℕ → ℕ → EraseKind × ℕ
    step to address = erase_step address to flash.device.sector_size flash.device.block_size

    abbrev On : ℕ → EraseKind × ℕ → Type 0
    On address s = address < s.1

    step-on : (address to : ℕ) → 1 ≤ flash.device.sector_size → 1 ≤ flash.device.block_size → On address (step to address)
    step-on address to sector block = by (is_multiple_of address flash.device.block_size && leb flash.device.block_size (to - address))
      where
        by : (b : Bool) → On address (if b then (EraseKind.Block, address + flash.device.block_size) else (EraseKind.Sector, address + flash.device.sector_size))
        by true = omega arith
        by false = omega arith

    some-block : 1 ≤ flash.device.block_size
    some-block = let b = device_bounds.accepted flash.device bounds in rw b.multiple (mul-pos b.positive b.sector)

    pub erases : (address to : ℕ) → EraseLoop flash address to
    unfolding erasing erase-loop
    erases address to =
        without-fuel to (λ a. erase-unit flash (step to a).0 a) (λ a. (step to a).1) (λ n a. erase-loop flash n a to)
        record {
          stops = λ a. refl;
          turns = λ n a. refl;
          goes = λ a below p q f. let on = step-on a to (device_bounds.accepted flash.device bounds).sector some-block in ap (λ r. erase-unit flash (step to a).0 a >> r) (f on);
        }
        address

pub nor-loops : NorLoops
nor-loops = record {
  reads = reads;
  reads_once = λ flash into offset n some most. reads-once flash into offset n some (omega arith);
  writes = λ flash bounds. writes flash bounds;
  erases = λ flash bounds. erases flash bounds;
}

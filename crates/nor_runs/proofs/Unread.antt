-- What each call does with what is lent: read fills the buffer and no other call reads into it; write sends the caller's data, and no
-- other call looks at them or writes anything behind a command.
use Rattle.std.specs.Prelude.{Option, Some, None}
use Rattle.spi_nor.specs.declared.config.NorQuadConfig.{NorQuadConfig}
use Prim.Native.Nat.{ℕ, zero, suc, ◌+◌, ◌-◌, ◌≤◌}
use native.Mathlib.Omega.{arith}
use mathlib.Core.Bool.{Bool, true, false}
use mathlib.Core.List.{[]}
use mathlib.Core.Path.{refl}
use lib.Dec.{ltb}
use borrow.Author.Tests.{ltb-true, le-ltb}
use Rattle.qspi.specs.Choice.{pick}
use Rattle.qspi.specs.declared.transfer.Sink.{Sink}
use Rattle.qspi.specs.declared.transfer.Transfer.{Transfer}
use Rattle.spi_flash.specs.Prog.{ret, ◌>>=◌, ◌>>◌, refuse, transfer}
use Rattle.spi_flash.specs.Path.{Bounded}
use Rattle.qspi.proofs.Cases.{by_cases}
use Rattle.flash_runs.specs.Driver.{takes_of}
use Rattle.flash_runs.specs.Scratch.{stamps, payloads_of}
use Rattle.flash_runs.specs.Weight.{Figures}
use Rattle.flash_runs.proofs.Filling.{Fills}
use Rattle.flash_runs.proofs.Payloads.{payload_weight, stamp_weight, Pays, pays-none, pays-callers}
use Rattle.flash_runs.proofs.Weighing.{Weighs, read_figures, data_figures, payload_figures, stamp_figures, reads-weigh, data-weigh, payloads-weigh, stamps-weigh}
use Rattle.flash_runs.proofs.Supplies.{Bounds, LendsAs, LooksAs}
use Rattle.spi_flash.proofs.Laws.{bounded-more}
use Rattle.spi_flash.proofs.Dataless.{data_uses}
use Rattle.spi_flash.proofs.Unread.{buffer_reads, none-waiting, unread-wait}
use Rattle.spi_nor.specs.Opcode.{timings_of}
use Rattle.spi_nor.specs.Command.{read_status1_command}
use Rattle.spi_nor.specs.declared.config.NorDeviceInfo.{NorDeviceInfo}
use Rattle.spi_flash.specs.Range.{range_in_bounds}
use Rattle.spi_nor.specs.Transfer.{place_of, chunk_of, read_at, read_transfer}
use Rattle.spi_nor.proofs.Pieces.{chunk-within}
use Rattle.spi_nor.specs.declared.answer.Answer.{Answer}
use Rattle.spi_nor.specs.declared.opcode.Operation.{Operation}
use Rattle.spi_nor.specs.declared.setup.Setup.{Setup}
use Rattle.spi_nor.specs.declared.call.Call.{Call}
use Rattle.nor_runs.specs.Rust.{busy_value, wait-ready}
use Rattle.std.specs.Prelude.{if◌then◌else◌}
use Rattle.nor_runs.specs.Rust.{erase_step}
use Rattle.nor_runs.proofs.AsCoded.{reading, read}
use Rattle.nor_runs.specs.Program.{Left, leaving, program_of}
use Rattle.nor_runs.specs.Bound.{page_taken, erase_sum, enabling_quad, quad_weight, weight_of}
use Rattle.nor_runs.specs.Run.{sort_of, nor_driver}
use Rattle.nor_runs.proofs.AsCoded.{coded}
use Rattle.nor_runs.proofs.Agrees.{same}
use Rattle.nor_runs.proofs.Loops.{chunk-some, reading-loop}
use Rattle.nor_runs.proofs.Weights.{weighed}

-- ---- no call but read puts anything into the caller's buffer

unread-figures : Weighs buffer_reads read_figures wait-ready
unfolding wait-ready
unread-figures = reads-weigh wait-ready (λ operation. unread-wait read_status1_command busy_value (timings_of operation))

-- nothing for each step is nothing
no-sum : (device : NorDeviceInfo) (n address to : ℕ) → erase_sum (λ kind. 0) device n address to ≤ 0
no-sum device zero address to = omega arith
no-sum device (suc n) address to = at (ltb address to) (no-sum device n (erase_step address to device.sector_size device.block_size).1 to)
  where
    at : (b : Bool) {m : ℕ} → m ≤ 0 → (if b then 0 + m else 0) ≤ 0
    at true h = omega arith
    at false h = omega arith

no-construction : (x : Figures Operation) → enabling_quad x ≤ 0 → (taken : Bool) (q : Option NorQuadConfig) → 0 + 0 + pick taken (quad_weight x q) 0 ≤ 0
no-construction x none true None = omega arith
no-construction x none true (Some q) = omega (arith, none)
no-construction x none false q = omega arith

-- a weight that the figures bound
module _ {w : Transfer → ℕ} {x : Figures Operation} (figures : Weighs w x wait-ready) where
  light : (flash : Setup) (call : Call) (b d : ℕ) → Bounds nor_driver flash call b d → weight_of x flash call b d ≤ 0 → Bounded w 0 (program_of flash call b d)
  light flash call b d h none = rw (same flash call b d h) (bounded-more none (weighed figures flash call b d h))

unread : (flash : Setup) (call : Call) (b d : ℕ) → Bounds nor_driver flash call b d → weight_of read_figures flash call b d ≤ 0 → Bounded buffer_reads 0 (program_of flash call b d)
unread = light unread-figures

-- ---- read fills the buffer, place after place

module _ (flash : Setup) (offset len : ℕ) (left : Left) where
  abbrev Reads : ℕ → Type 0
  Reads done = Fills (λ command. true) len done (reading flash offset len done >> ret left)

  fills-piece : (q : Option NorQuadConfig) (done : ℕ) → done + chunk_of len done ≤ len → Reads (done + chunk_of len done) →
      Fills (λ command. true) len done ((transfer (read_at q (place_of offset done) (chunk_of len done) (Sink.Buffer done)) >> reading flash offset len (done + chunk_of len done)) >> ret left)
  unfolding ◌>>=◌ ◌>>◌
  fills-piece None done room later = (refl, refl, room, λ v. later)
  fills-piece (Some q) done room later = (refl, refl, room, λ v. later)

  finished : (done : ℕ) → Fills (λ command. true) len done (ret (tt {0}) >> ret left)
  unfolding ◌>>=◌ ◌>>◌
  finished done = tt

  fills-reading : (k done : ℕ) → len - done ≤ k → Reads done
  unfolding read_transfer
  fills-reading zero done h = rw (reading-loop flash offset len done, le-ltb done len (omega arith)) (finished done)
  fills-reading (suc k) done h =
      rw (reading-loop flash offset len done)
      (by_cases (ltb done len)
      (λ e. let below = ltb-true done len e in
      let room = chunk-within len done (suc len) (omega arith) (omega arith) in
      let some = chunk-some len done below in
      rw e (fills-piece flash.config.quad done (omega arith) (fills-reading k (done + chunk_of len done) (omega arith))))
      (λ e. rw e (finished done)))

  fills-read : Fills (λ command. true) len 0 (read flash offset len >> ret left)
  unfolding read refuse ◌>>=◌ ◌>>◌
  fills-read = by_cases (range_in_bounds flash.device.capacity offset len) (λ e. rw e (fills-reading len 0 (omega arith))) (λ e. rw e tt)

-- ---- every call

pub lent : (flash : Setup) (call : Call) (b d : ℕ) → Bounds nor_driver flash call b d → LendsAs nor_driver flash call b d (takes_of (sort_of call b d))
unfolding coded weight_of
lent flash Call.New b d h = unread flash Call.New b d h (omega arith)
lent flash (Call.WithConfig config) b d h = unread flash (Call.WithConfig config) b d h (no-construction read_figures (omega arith) (page_taken config.device) config.quad)
lent flash Call.Config b d h = unread flash Call.Config b d h (omega arith)
lent flash Call.Device b d h = unread flash Call.Device b d h (omega arith)
lent flash Call.Id b d h = unread flash Call.Id b d h (omega arith)
lent flash Call.Free b d h = unread flash Call.Free b d h (omega arith)
lent flash Call.ReadStatus1 b d h = unread flash Call.ReadStatus1 b d h (omega arith)
lent flash Call.ReadStatus2 b d h = unread flash Call.ReadStatus2 b d h (omega arith)
lent flash Call.IsBusy b d h = unread flash Call.IsBusy b d h (omega arith)
lent flash Call.JedecId b d h = unread flash Call.JedecId b d h (omega arith)
lent flash Call.UniqueId b d h = unread flash Call.UniqueId b d h (omega arith)
lent flash Call.QuadEnabled b d h = unread flash Call.QuadEnabled b d h (omega arith)
lent flash Call.EnableQuad b d h = unread flash Call.EnableQuad b d h (omega arith)
lent flash Call.DisableQuad b d h = unread flash Call.DisableQuad b d h (omega arith)
lent flash (Call.Read offset) b d h = (refl, rw (same flash (Call.Read offset) b d h) (fills-read flash offset b (leaving flash Answer.Done)))
lent flash (Call.Write offset) b d h = unread flash (Call.Write offset) b d h (omega arith)
lent flash Call.Unprotect b d h = unread flash Call.Unprotect b d h (omega arith)
lent flash (Call.Erase from to) b d h = unread flash (Call.Erase from to) b d h (no-sum flash.device (to - from) from to)
lent flash (Call.EraseSector offset) b d h = unread flash (Call.EraseSector offset) b d h (omega arith)
lent flash (Call.EraseBlock offset) b d h = unread flash (Call.EraseBlock offset) b d h (omega arith)

-- ---- no call but write looks at the caller's data

dataless-figures : Weighs data_uses data_figures wait-ready
unfolding wait-ready
dataless-figures = data-weigh wait-ready (λ operation. none-waiting data_uses (λ c. omega arith) (λ us. omega arith) read_status1_command busy_value (timings_of operation))

unlooked : (flash : Setup) (call : Call) (b d : ℕ) → Bounds nor_driver flash call b d → weight_of data_figures flash call b d ≤ 0 → Bounded data_uses 0 (program_of flash call b d)
unlooked = light dataless-figures

pub dataless : (flash : Setup) (call : Call) (b d : ℕ) → Bounds nor_driver flash call b d → LooksAs nor_driver flash call b d (takes_of (sort_of call b d))
unfolding weight_of
dataless flash Call.New b d h = unlooked flash Call.New b d h (omega arith)
dataless flash (Call.WithConfig config) b d h = unlooked flash (Call.WithConfig config) b d h (no-construction data_figures (omega arith) (page_taken config.device) config.quad)
dataless flash Call.Config b d h = unlooked flash Call.Config b d h (omega arith)
dataless flash Call.Device b d h = unlooked flash Call.Device b d h (omega arith)
dataless flash Call.Id b d h = unlooked flash Call.Id b d h (omega arith)
dataless flash Call.Free b d h = unlooked flash Call.Free b d h (omega arith)
dataless flash Call.ReadStatus1 b d h = unlooked flash Call.ReadStatus1 b d h (omega arith)
dataless flash Call.ReadStatus2 b d h = unlooked flash Call.ReadStatus2 b d h (omega arith)
dataless flash Call.IsBusy b d h = unlooked flash Call.IsBusy b d h (omega arith)
dataless flash Call.JedecId b d h = unlooked flash Call.JedecId b d h (omega arith)
dataless flash Call.UniqueId b d h = unlooked flash Call.UniqueId b d h (omega arith)
dataless flash Call.QuadEnabled b d h = unlooked flash Call.QuadEnabled b d h (omega arith)
dataless flash Call.EnableQuad b d h = unlooked flash Call.EnableQuad b d h (omega arith)
dataless flash Call.DisableQuad b d h = unlooked flash Call.DisableQuad b d h (omega arith)
dataless flash (Call.Read offset) b d h = unlooked flash (Call.Read offset) b d h (omega arith)
dataless flash (Call.Write offset) b d h = tt
dataless flash Call.Unprotect b d h = unlooked flash Call.Unprotect b d h (omega arith)
dataless flash (Call.Erase from to) b d h = unlooked flash (Call.Erase from to) b d h (no-sum flash.device (to - from) from to)
dataless flash (Call.EraseSector offset) b d h = unlooked flash (Call.EraseSector offset) b d h (omega arith)
dataless flash (Call.EraseBlock offset) b d h = unlooked flash (Call.EraseBlock offset) b d h (omega arith)

-- ---- what goes out behind the commands: the caller's data in a write, and nothing in any other call

unpaid-figures : Weighs payload_weight payload_figures wait-ready
unfolding wait-ready
unpaid-figures = payloads-weigh wait-ready (λ operation. none-waiting payload_weight (λ c. omega arith) (λ us. omega arith) read_status1_command busy_value (timings_of operation))

unstamped-figures : Weighs stamp_weight stamp_figures wait-ready
unfolding wait-ready
unstamped-figures = stamps-weigh wait-ready (λ operation. none-waiting stamp_weight (λ c. omega arith) (λ us. omega arith) read_status1_command busy_value (timings_of operation))

unpaid : (flash : Setup) (call : Call) (b d : ℕ) → Bounds nor_driver flash call b d → weight_of payload_figures flash call b d ≤ 0 → Pays (stamps []) (stamps []) (program_of flash call b d)
unpaid flash call b d h none = pays-none (stamps []) (stamps []) (program_of flash call b d) tt (light unpaid-figures flash call b d h none)

pub pays : (flash : Setup) (call : Call) (b d : ℕ) → Bounds nor_driver flash call b d →
    let all = payloads_of (takes_of (sort_of call b d)) [] in Pays all all (program_of flash call b d)
unfolding weight_of
pays flash Call.New b d h = unpaid flash Call.New b d h (omega arith)
pays flash (Call.WithConfig config) b d h = unpaid flash (Call.WithConfig config) b d h (no-construction payload_figures (omega arith) (page_taken config.device) config.quad)
pays flash Call.Config b d h = unpaid flash Call.Config b d h (omega arith)
pays flash Call.Device b d h = unpaid flash Call.Device b d h (omega arith)
pays flash Call.Id b d h = unpaid flash Call.Id b d h (omega arith)
pays flash Call.Free b d h = unpaid flash Call.Free b d h (omega arith)
pays flash Call.ReadStatus1 b d h = unpaid flash Call.ReadStatus1 b d h (omega arith)
pays flash Call.ReadStatus2 b d h = unpaid flash Call.ReadStatus2 b d h (omega arith)
pays flash Call.IsBusy b d h = unpaid flash Call.IsBusy b d h (omega arith)
pays flash Call.JedecId b d h = unpaid flash Call.JedecId b d h (omega arith)
pays flash Call.UniqueId b d h = unpaid flash Call.UniqueId b d h (omega arith)
pays flash Call.QuadEnabled b d h = unpaid flash Call.QuadEnabled b d h (omega arith)
pays flash Call.EnableQuad b d h = unpaid flash Call.EnableQuad b d h (omega arith)
pays flash Call.DisableQuad b d h = unpaid flash Call.DisableQuad b d h (omega arith)
pays flash (Call.Read offset) b d h = unpaid flash (Call.Read offset) b d h (omega arith)
pays flash (Call.Write offset) b d h = pays-callers (program_of flash (Call.Write offset) b d) (light unstamped-figures flash (Call.Write offset) b d h (omega arith))
pays flash Call.Unprotect b d h = unpaid flash Call.Unprotect b d h (omega arith)
pays flash (Call.Erase from to) b d h = unpaid flash (Call.Erase from to) b d h (no-sum flash.device (to - from) from to)
pays flash (Call.EraseSector offset) b d h = unpaid flash (Call.EraseSector offset) b d h (omega arith)
pays flash (Call.EraseBlock offset) b d h = unpaid flash (Call.EraseBlock offset) b d h (omega arith)

-- Replies on which each function of the Rust's comes to its largest sum of delays, at a good end where it has one.
use Rattle.std.specs.Prelude.{Option, Some, None}
use Rattle.spi_nand.specs.declared.config.NandQuadConfig.{NandQuadConfig}
use Rattle.spi_nand.specs.declared.config.NandGeometry.{NandGeometry}
use Prim.Native.Nat.{ℕ, ◌+◌, ◌*◌, ◌%◌, ◌≤◌, ◌<◌}
use native.Mathlib.Omega.{arith}
use mathlib.Core.Bool.{true, false, not}
use mathlib.Core.Path.{◌≡◌, refl, ap}
use mathlib.Core.List.{List}
use lib.Bits.{bit_or}
use lib.Dec.{ltb, eqb, lit<}
use lib.ListN.{length}
use borrow.Author.Tests.{leb-true, ltb-true, eqb-true, eq-eqb, le-ltb}
use Rattle.qspi.specs.Bytes.{AllBytes}
use Rattle.qspi.specs.declared.transfer.Payload.{Payload}
use Rattle.qspi.specs.declared.transfer.Sink.{Sink}
use Rattle.spi_flash.specs.Prog.{transfer}
use Rattle.spi_flash.specs.Path.{Answers, delays, Ends}
use Rattle.spi_flash.proofs.Paths.{Reaches}
use Rattle.spi_flash.proofs.Laws.{ends-ret, ends-bind, ends-then, ends-eq, ends-transfer, ends-refuse, ends-guard, reaches_then, reaches-fail, reaches-refused, reaches-never}
use Rattle.spi_flash.proofs.Loops.{ends-loop}
use Rattle.spi_flash.proofs.Replies.{byte, zeros, delivery, same_bytes}
use Rattle.spi_nand.specs.Config.{in_bounds}
use Rattle.spi_nand.specs.Status.{WRITE-ENABLED, QUAD-ENABLE, OPERATIONAL, BLOCK-PROTECT-MASK, configuration_byte, write_enabled_of, erase_failed_of, program_failed_of, verdict_of, status_of, configuration_of, protection_of, quad_enabled_of, with_bits, block_protect_bits, is_unlocked}
use Rattle.spi_nand.specs.declared.config.NandInit.{NandInit}
use Rattle.spi_nand.specs.declared.config.SpiNandConfig.{SpiNandConfig}
use Rattle.spi_nand.specs.declared.opcode.Operation.{Operation}
use Rattle.spi_nand.proofs.Geometries.{geometries-hold}
use Rattle.spi_nand.specs.Setup.{init_of}
use Rattle.spi_nand.specs.Transfer.{cache_read_at, cache_read_transfer, cache_load_at, cache_load_transfer, in_cache, in_range}
use Rattle.spi_nand.specs.declared.setup.Setup.{Setup}
use Rattle.nand_runs.specs.Rust.{equals, MAX-VERIFY-PAGE-SIZE, read-register, read-status, read-configuration, read-protection, write-enable, write-register, disable-quad, reset, id-of, jedec-id, reset-and-identify, wait-ready, wanted-of, ensure-configuration, unprotect, bring-up, load-page}
use Rattle.nand_runs.proofs.AsCoded.{page-read, read-cache, load-program-data, program-execute, read-page, write-page, erase-block, reading, read, is-bad-block, filling, mark-bad-block, resolved, constructed, with-config}
use Rattle.nand_runs.specs.Program.{page_taken, refused-page}
use Rattle.nand_runs.specs.Bound.{pages_touched, fillers}
use Rattle.nand_runs.proofs.Begins.{PageFits, BlockFits, WholePage}
use Rattle.nand_runs.proofs.Pages.{some-page, in-cache, no-marker, page-fits, first-page-fits, in-range, place-of, chunk-within, page-turns, pages-first, pages-done, filler-within, filler-turns, fillers-enough}
use Rattle.nand_runs.proofs.ReadLoop.{read-piece, reading-pieces}
use Rattle.nand_runs.proofs.FillLoop.{filling-loop}
use Rattle.nand_runs.proofs.Waits.{wait-ends}
use Rattle.nand_runs.proofs.Bounds.{never-marker, never-is-bad}

-- the marker of a block that is good
abbrev GOOD : ℕ
GOOD = 0xFF

-- what a construction finds on these replies
abbrev pub found : NandInit
found = init_of (id-of 0) (configuration_of 0) (configuration_of 0) (protection_of BLOCK-PROTECT-MASK)

no-turns : (k d : ℕ) → k ≡ 0 → k * d ≡ 0
no-turns k d e = rw e (omega arith)

module _ (given : List ℕ) where
  -- ---- registers

  ends-register : (register b : ℕ) → b < 256 → Ends given delays 0 (b % 256) (read-register register)
  ends-register register b h = ends-bind _ (ends-transfer b (byte given b h)) ends-ret

  pub ends-status : (b : ℕ) → b < 256 → Ends given delays 0 (status_of (b % 256)) read-status
  unfolding read-status
  ends-status b h = ends-bind _ (ends-register _ b h) ends-ret

  pub ends-configuration : (b : ℕ) → b < 256 → Ends given delays 0 (configuration_of (b % 256)) read-configuration
  unfolding read-configuration
  ends-configuration b h = ends-bind _ (ends-register _ b h) ends-ret

  pub ends-protection : (b : ℕ) → b < 256 → Ends given delays 0 (protection_of (b % 256)) read-protection
  unfolding read-protection
  ends-protection b h = ends-bind _ (ends-register _ b h) ends-ret

  pub ends-enable : Ends given delays 0 tt write-enable
  unfolding write-enable write_enabled_of
  ends-enable = ends-then (ends-transfer 0 refl) (ends-bind _ (ends-status WRITE-ENABLED (lit< tt)) (ends-refuse _ _ refl))

  pub ends-write-register : (register value : ℕ) → Ends given delays 10000 tt (write-register register value)
  unfolding write-register
  ends-write-register register value = ends-then ends-enable (ends-then (ends-transfer 0 refl) (wait-ends given Operation.WriteRegister))

  -- quad is on, and goes off
  pub ends-disable-quad : Ends given delays 10000 tt disable-quad
  unfolding disable-quad quad_enabled_of
  ends-disable-quad =
      ends-bind _ (ends-configuration QUAD-ENABLE (lit< tt))
      (ends-then (ends-write-register _ _) (ends-bind _ (ends-configuration 0 (lit< tt)) (ends-refuse _ _ refl)))

  pub ends-reset : Ends given delays 500000 tt reset
  unfolding reset
  ends-reset = ends-then (ends-transfer 0 refl) (wait-ends given Operation.Reset)

  pub ends-jedec-id : Ends given delays 0 (id-of 0) jedec-id
  unfolding jedec-id
  ends-jedec-id = ends-bind _ (ends-transfer 0 (zeros given 3)) ends-ret

  pub ends-identify : Ends given delays 500000 (id-of 0) reset-and-identify
  unfolding reset-and-identify
  ends-identify = ends-then ends-reset ends-jedec-id

  -- configuration 00 becomes operational, with quad where that is asked for
  pub ends-ensure : (config : SpiNandConfig) → Ends given delays 10000 (configuration_of 0) (ensure-configuration config)
  unfolding ensure-configuration with_bits equals
  ends-ensure config = by config.quad
    where
      -- the wanted byte comes back
      becomes : (q : Option NandQuadConfig) (after : ℕ) → after < 256 →
          not (equals (wanted-of (record { quad = q; geometry = config.geometry }) (configuration_of 0)) (configuration_of 0)) ≡ true →
          not (equals (configuration_of (after % 256)) (wanted-of (record { quad = q; geometry = config.geometry }) (configuration_of 0))) ≡ false →
          Ends given delays 10000 (configuration_of 0) (ensure-configuration (record { quad = q; geometry = config.geometry }))
      becomes q after small other same =
          ends-bind _ {c = 10000} (ends-configuration 0 (lit< tt))
          (rw other (ends-then (ends-then (ends-write-register _ _) (ends-bind _ (ends-configuration after small) (ends-refuse _ _ same))) ends-ret))

      by : (q : Option NandQuadConfig) → Ends given delays 10000 (configuration_of 0) (ensure-configuration (record { quad = q; geometry = config.geometry }))
      by None = becomes None (configuration_byte OPERATIONAL) (lit< tt) refl refl
      by (Some q) = becomes (Some q) (bit_or (configuration_byte OPERATIONAL) QUAD-ENABLE) (lit< tt) refl refl

  -- every block is protected
  pub ends-unprotect : Ends given delays 10000 (protection_of BLOCK-PROTECT-MASK) unprotect
  unfolding unprotect is_unlocked block_protect_bits
  ends-unprotect = ends-bind _ (ends-protection BLOCK-PROTECT-MASK (lit< tt)) (ends-then (ends-write-register _ _) ends-ret)

  -- ---- construction, on the id 0

  ends-bring-up : (config : SpiNandConfig) → Ends given delays 520000 found (bring-up config)
  unfolding bring-up
  ends-bring-up config =
      ends-bind _ ends-identify
      (ends-bind _ (ends-ensure config) (ends-bind _ ends-unprotect (ends-bind _ (ends-configuration 0 (lit< tt)) ends-ret)))

  page-taken : (setting : Option NandGeometry) → page_taken setting ≡ true → ltb MAX-VERIFY-PAGE-SIZE (resolved setting (id-of 0)).page_size ≡ false
  page-taken None h = le-ltb MAX-VERIFY-PAGE-SIZE (resolved None (id-of 0)).page_size (geometries-hold.known (id-of 0)).page
  page-taken (Some own) h = le-ltb MAX-VERIFY-PAGE-SIZE own.page_size (leb-true own.page_size MAX-VERIFY-PAGE-SIZE h)

  pub ends-with-config : (config : SpiNandConfig) → page_taken config.geometry ≡ true → Ends given delays 520000 (constructed config found) (with-config config)
  unfolding with-config
  ends-with-config config h = ends-then (ends-transfer 0 refl) (ends-bind _ (ends-bring-up config) (ends-guard _ _ (page-taken config.geometry h) ends-ret))

  pub reaches-refused-page : Reaches given delays 500000 refused-page
  unfolding refused-page
  reaches-refused-page = reaches_then (ends-transfer 0 refl) (reaches_then ends-identify reaches-fail)

  -- ---- pages

  -- by a wait that asks d
  load-page-by : {d : ℕ} → Ends given delays d tt (wait-ready Operation.PageRead) → (page : ℕ) → Ends given delays d tt (load-page page)
  unfolding load-page
  load-page-by waits page = ends-eq (omega arith) (ends-then (ends-transfer 0 refl) waits)

  ends-load-page : (page : ℕ) → Ends given delays 400000 tt (load-page page)
  ends-load-page page = load-page-by (wait-ends given Operation.PageRead) page

  module _ (flash : Setup) where
    page-read-by : {d : ℕ} → Ends given delays d tt (wait-ready Operation.PageRead) → (page : ℕ) → PageFits flash page → Ends given delays d tt (page-read flash page)
    unfolding page-read verdict_of
    page-read-by waits page fits =
        ends-guard _ _ (ap not fits) (ends-eq (omega arith) (ends-then (load-page-by waits page) (ends-bind _ (ends-status 0 (lit< tt)) (ends-refuse _ _ refl))))

    pub ends-page-read : (page : ℕ) → PageFits flash page → Ends given delays 400000 tt (page-read flash page)
    ends-page-read page fits = page-read-by (wait-ends given Operation.PageRead) page fits

    pub ends-read-cache : (column n v : ℕ) (sink : Sink) → in_cache flash.geometry column n ≡ true → Answers given n sink v → Ends given delays 0 v (read-cache flash column n sink)
    unfolding read-cache cache_read_transfer
    ends-read-cache column n v sink room h = ends-guard _ _ (ap not room) (by flash.config.quad)
      where
        by : (q : Option NandQuadConfig) → Ends given delays 0 v (transfer (cache_read_at q column n sink))
        by None = ends-transfer v h
        by (Some q) = ends-transfer v h

    pub ends-load-data : (column n : ℕ) (payload : Payload) → in_cache flash.geometry column n ≡ true → Ends given delays 0 tt (load-program-data flash column n payload)
    unfolding load-program-data cache_load_transfer
    ends-load-data column n payload room = ends-guard _ _ (ap not room) (ends-then (by flash.config.quad) ends-ret)
      where
        by : (q : Option NandQuadConfig) → Ends given delays 0 0 (transfer (cache_load_at q column payload))
        by None = ends-transfer 0 refl
        by (Some q) = ends-transfer 0 refl

    pub ends-execute : (page : ℕ) → PageFits flash page → Ends given delays 400005 tt (program-execute flash page)
    unfolding program-execute program_failed_of
    ends-execute page fits =
        ends-guard _ _ (ap not fits)
        (ends-then (ends-transfer 0 refl) (ends-then (wait-ends given Operation.Program) (ends-bind _ (ends-status 0 (lit< tt)) (ends-refuse _ _ refl))))

    pub ends-erase : (block : ℕ) → BlockFits flash block → Ends given delays 400000 tt (erase-block flash block)
    unfolding erase-block erase_failed_of
    ends-erase block fits =
        ends-guard _ _ (ap not fits)
        (ends-then ends-enable
        (ends-then (ends-transfer 0 refl) (ends-then (wait-ends given Operation.Erase) (ends-bind _ (ends-status 0 (lit< tt)) (ends-refuse _ _ refl)))))

    module _ (bounds : in_bounds flash.geometry ≡ true) where
      abbrev size : ℕ
      size = flash.geometry.page_size

      pub ends-read-page : (page n v : ℕ) (sink : Sink) → WholePage flash n → PageFits flash page → Answers given n sink v → Ends given delays 400000 v (read-page flash page n sink)
      unfolding read-page
      ends-read-page page n v sink whole fits h =
          let z = eqb-true n size whole in
          ends-guard _ _ (ap not whole) (ends-then (ends-page-read page fits) (ends-read-cache 0 n v sink (in-cache flash.geometry bounds 0 n (omega arith)) h))

      pub ends-write-page : (page : ℕ) → AllBytes given → WholePage flash (length given) → PageFits flash page → Ends given delays 800005 tt (write-page flash page (length given))
      unfolding write-page
      ends-write-page page small whole fits =
          let z = eqb-true (length given) size whole in
          ends-guard _ _ (ap not whole)
          (ends-guard _ _ (ap not fits)
          (ends-then ends-enable
          (ends-then (ends-load-data 0 (length given) _ (in-cache flash.geometry bounds 0 (length given) (omega arith)))
          (ends-then (ends-execute page fits)
          (ends-bind _ (ends-read-page page size 1 (Sink.Compare 0) (eq-eqb size size refl) fits (same_bytes given size 0 small (omega arith))) (ends-refuse _ _ refl))))))

      -- ---- read: the pages that it touches

      module _ (offset len : ℕ) (r : in_range flash.geometry offset len ≡ true) where
        abbrev within : offset + len ≤ flash.geometry.pages_per_block * flash.geometry.block_count * size
        within = in-range flash.geometry bounds offset len r

        -- each page by a wait that asks d
        module _ (d : ℕ) (waits : Ends given delays d tt (wait-ready Operation.PageRead)) where
          piece-by : (done : ℕ) → done < len → Ends given delays d 0 (read-piece flash (some-page flash.geometry bounds) offset len done)
          piece-by done below =
              let there = place-of flash.geometry bounds offset len within done (omega arith) in
              let piece = chunk-within flash.geometry bounds offset len within done below in
              ends-eq (omega arith)
              (ends-then (page-read-by waits _ (page-fits flash.geometry bounds _ (omega (arith, within))))
              (ends-read-cache _ _ 0 _ (in-cache flash.geometry bounds _ _ (omega arith)) (delivery given _ _)))

          pub read-by : Ends given delays (pages_touched flash.geometry offset len * d) tt (read flash offset len)
          unfolding read
          read-by =
              ends-guard _ _ (ap not r)
              (ends-loop len _ _ (reading flash offset len) (reading-pieces flash (some-page flash.geometry bounds) offset len) (page-turns flash.geometry bounds offset len within)
              (λ k done stop t. let z = pages-done flash.geometry bounds offset len within done stop in no-turns k d (omega arith))
              (λ k done below t. (0, piece-by done below))
              (pages_touched flash.geometry offset len) 0 (pages-first flash.geometry bounds offset len within))

        pub ends_read : Ends given delays (pages_touched flash.geometry offset len * 400000) tt (read flash offset len)
        ends_read = read-by 400000 (wait-ends given Operation.PageRead)

      -- ---- bad blocks

      module _ (block : ℕ) (fits : BlockFits flash block) where
        module _ (spare : 1 ≤ flash.geometry.oob_size) where
          pub ends-is-bad : (marker : ℕ) → marker < 256 → Ends given delays 400000 (not (eqb (marker % 256) GOOD)) (is-bad-block flash block)
          unfolding is-bad-block
          ends-is-bad marker h =
              ends-guard _ _ (ap not fits)
              (ends-then (ends-load-page _)
              (ends-bind _ (ends-read-cache size 1 marker Sink.Number (in-cache flash.geometry bounds size 1 (omega arith)) (byte given marker h)) ends-ret))

          ends-filling : Ends given delays 0 tt (filling flash 0)
          ends-filling =
              ends-eq (omega arith)
              (ends-loop size _ _ (filling flash) (filling-loop flash) (filler-turns flash.geometry bounds)
              (λ k column stop t. omega arith)
              (λ k column below t. (tt, ends-load-data column _ _ (in-cache flash.geometry bounds column _ (omega (arith, filler-within flash.geometry bounds column below)))))
              (fillers flash.geometry) 0 (fillers-enough flash.geometry bounds))

          -- the marker is good, and then it is not
          pub ends-mark : Ends given delays 1600005 tt (mark-bad-block flash block)
          unfolding mark-bad-block
          ends-mark =
              ends-guard _ _ (ap not fits)
              (ends-bind _ (ends-is-bad GOOD (lit< tt))
              (ends-then (ends-erase block fits)
              (ends-then ends-enable
              (ends-then ends-filling
              (ends-then (ends-load-data size 1 _ (in-cache flash.geometry bounds size 1 (omega arith)))
              (ends-then (ends-execute _ (first-page-fits flash.geometry bounds block (ltb-true block flash.geometry.block_count fits)))
              (ends-bind _ (ends-is-bad 0 (lit< tt)) (ends-refuse _ _ refl))))))))

        -- without spare bytes the page is loaded, and there is no marker to read
        module _ (none : flash.geometry.oob_size ≡ 0) where
          reaches-marker : Reaches given delays 0 (read-cache flash size 1 Sink.Number)
          unfolding read-cache
          reaches-marker = reaches-refused _ _ _ (ap not (no-marker flash.geometry bounds none))

          pub reaches-is-bad : Reaches given delays 400000 (is-bad-block flash block)
          unfolding is-bad-block
          reaches-is-bad =
              reaches_then (ends-refuse _ _ (ap not fits)) (reaches_then (ends-load-page _) (reaches-never _ (never-marker flash bounds none) reaches-marker))

          pub reaches-mark : Reaches given delays 400000 (mark-bad-block flash block)
          unfolding mark-bad-block
          reaches-mark = reaches_then (ends-refuse _ _ (ap not fits)) (reaches-never _ (never-is-bad flash bounds block none) reaches-is-bad)

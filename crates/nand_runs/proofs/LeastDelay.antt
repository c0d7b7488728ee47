-- A read that ends well has asked at least the first delay of every page's wait.
use Prim.Native.Nat.{ℕ, zero, suc, ◌+◌, ◌*◌, ◌≤◌}
use native.Mathlib.Omega.{arith}
use mathlib.Core.Bool.{true}
use mathlib.Core.Path.{◌≡◌}
use lib.Dec.{ltb}
use borrow.Author.Tests.{ltb-true, ltb-false}
use Rattle.qspi.proofs.Cases.{by_cases}
use Rattle.spi_flash.specs.Path.{delays}
use Rattle.spi_flash.proofs.Paths.{AtLeast}
use Rattle.spi_flash.specs.Prog.{◌>>=◌, ◌>>◌, refuse}
use Rattle.spi_flash.specs.WaitLaw.{delayed_wait}
use Rattle.spi_flash.proofs.Laws.{at-least-zero, at-least-fail, at-least-then, at-least-transfer, at-least-eq}
use Rattle.spi_nand.specs.Config.{in_bounds}
use Rattle.spi_nand.specs.Opcode.{timings_of}
use Rattle.spi_nand.specs.declared.opcode.Operation.{Operation}
use Rattle.spi_nand.specs.Transfer.{in_range}
use Rattle.spi_nand.specs.declared.setup.Setup.{Setup}
use Rattle.nand_runs.specs.Bound.{pages_touched}
use Rattle.nand_runs.specs.Rust.{wait-ready, load-page}
use Rattle.nand_runs.proofs.AsCoded.{page-read, reading, read}
use Rattle.nand_runs.proofs.Pages.{pages, some-page, in-range, pages_left, pages-first, one_fewer, pages-done}
use Rattle.nand_runs.proofs.ReadLoop.{reading-loop}

-- the first delay of a page load
least-wait : AtLeast delays 10 (wait-ready Operation.PageRead)
unfolding wait-ready delayed_wait timings_of
least-wait = at-least-then {c = 0} at-least-transfer at-least-zero

least-page : (flash : Setup) (page : ℕ) → AtLeast delays 10 (page-read flash page)
unfolding page-read load-page
least-page flash page = at-least-then {b = 0} at-least-zero (at-least-then {c = 0} (at-least-then {b = 0} at-least-zero least-wait) at-least-zero)

module _ (flash : Setup) (bounds : in_bounds flash.geometry ≡ true) (offset len : ℕ) where
  module _ (within : offset + len ≤ pages flash.geometry bounds * flash.geometry.page_size) where
    abbrev left : ℕ → ℕ
    left done = pages_left flash.geometry bounds offset len within done

    least-reading : (k done : ℕ) → left done ≡ k → AtLeast delays (10 * k) (reading flash offset len done)
    least-reading zero done h = at-least-zero
    least-reading (suc k) done h =
        rw (reading-loop flash (some-page flash.geometry bounds) offset len done)
        (by_cases (ltb done len)
        (λ e. let fewer = one_fewer flash.geometry bounds offset len within done (ltb-true done len e) in
        rw e (at-least-eq (omega arith) (at-least-then (least-page flash _) (at-least-then {b = 0} at-least-zero (least-reading k _ (omega arith))))))
        (λ e. let none = pages-done flash.geometry bounds offset len within done (ltb-false done len e) in absurd (omega arith)))

  pub least-read : AtLeast delays (10 * pages_touched flash.geometry offset len) (read flash offset len)
  unfolding read refuse ◌>>=◌ ◌>>◌
  least-read =
      by_cases (in_range flash.geometry offset len)
      (λ e. let within = in-range flash.geometry bounds offset len e in
      rw e (least-reading within (pages_touched flash.geometry offset len) 0 (pages-first flash.geometry bounds offset len within)))
      (λ e. rw e at-least-fail)

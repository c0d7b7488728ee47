-- Which calls are not turned away before they use the bus, and that a call whose program uses it is one of them.
use Prim.Native.Nat.{ℕ}
use mathlib.Core.Bool.{true}
use mathlib.Core.Path.{◌≡◌}
use lib.Dec.{ltb, eqb}
use Rattle.qspi.proofs.Cases.{by_cases}
use Rattle.spi_flash.specs.Prog.{◌>>=◌, ◌>>◌, refuse}
use Rattle.flash_runs.proofs.Supplies.{Asks}
use Rattle.spi_nand.specs.Config.{page_count_of}
use Rattle.spi_nand.specs.Transfer.{in_cache, in_range}
use Rattle.spi_nand.specs.declared.call.Call.{Call}
use Rattle.spi_nand.specs.declared.setup.Setup.{Setup}
use Rattle.nand_runs.proofs.AsCoded.{page-read, read-cache, load-program-data, program-execute, read-page, write-page, erase-block, read, is-bad-block, mark-bad-block}
use Rattle.nand_runs.specs.Program.{rust_program}
use Rattle.nand_runs.proofs.AsCoded.{coded_rust, coded}

-- a page, and a block, of the device
abbrev pub PageFits : Setup → ℕ → Type 0
PageFits flash page = ltb page (page_count_of flash.geometry) ≡ true

abbrev pub BlockFits : Setup → ℕ → Type 0
BlockFits flash block = ltb block flash.geometry.block_count ≡ true

abbrev pub WholePage : Setup → ℕ → Type 0
WholePage flash n = eqb n flash.geometry.page_size ≡ true

-- the call is not turned away before it uses the bus, with a buffer of b bytes and data of d bytes; the Rust turns no construction
-- away there, and the port only for its geometry (12)
abbrev pub Begins : Setup → Call → ℕ → ℕ → Type 0
Begins flash Call.New b d = Unit {0}
Begins flash (Call.WithConfig config) b d = Unit {0}
Begins flash Call.Info b d = Unit {0}
Begins flash Call.Config b d = Unit {0}
Begins flash Call.Geometry b d = Unit {0}
Begins flash Call.Free b d = Unit {0}
Begins flash Call.DisableQuad b d = Unit {0}
Begins flash (Call.WriteRegister register value) b d = Unit {0}
Begins flash Call.WriteEnable b d = Unit {0}
Begins flash Call.ReadStatus b d = Unit {0}
Begins flash Call.ReadConfiguration b d = Unit {0}
Begins flash Call.ReadProtection b d = Unit {0}
Begins flash Call.Reset b d = Unit {0}
Begins flash Call.JedecId b d = Unit {0}
Begins flash Call.ResetAndIdentify b d = Unit {0}
Begins flash Call.EnsureConfiguration b d = Unit {0}
Begins flash Call.Unprotect b d = Unit {0}
Begins flash (Call.PageRead page) b d = PageFits flash page
Begins flash (Call.ReadCache column) b d = in_cache flash.geometry column b ≡ true
Begins flash (Call.LoadProgramData column) b d = in_cache flash.geometry column d ≡ true
Begins flash (Call.ProgramExecute page) b d = PageFits flash page
Begins flash (Call.ReadPage page) b d = WholePage flash b × PageFits flash page
Begins flash (Call.WritePage page) b d = WholePage flash d × PageFits flash page
Begins flash (Call.EraseBlock block) b d = BlockFits flash block
Begins flash (Call.Read offset) b d = in_range flash.geometry offset b ≡ true
Begins flash (Call.IsBadBlock block) b d = BlockFits flash block
Begins flash (Call.MarkBadBlock block) b d = BlockFits flash block

module _ (flash : Setup) (b d : ℕ) where
  pub begins : (call : Call) → Asks (coded flash call b d) → Begins flash call b d
  unfolding coded_rust rust_program page-read read-cache load-program-data program-execute read-page write-page erase-block read is-bad-block mark-bad-block refuse ◌>>◌ ◌>>=◌
  begins Call.New h = tt
  begins (Call.WithConfig config) h = tt
  begins Call.Info h = tt
  begins Call.Config h = tt
  begins Call.Geometry h = tt
  begins Call.Free h = tt
  begins Call.DisableQuad h = tt
  begins (Call.WriteRegister register value) h = tt
  begins Call.WriteEnable h = tt
  begins Call.ReadStatus h = tt
  begins Call.ReadConfiguration h = tt
  begins Call.ReadProtection h = tt
  begins Call.Reset h = tt
  begins Call.JedecId h = tt
  begins Call.ResetAndIdentify h = tt
  begins Call.EnsureConfiguration h = tt
  begins Call.Unprotect h = tt
  begins (Call.PageRead page) h = by_cases (ltb page (page_count_of flash.geometry)) (λ e. e) (λ e. absurd (rw e at h))
  begins (Call.ReadCache column) h = by_cases (in_cache flash.geometry column b) (λ e. e) (λ e. absurd (rw e at h))
  begins (Call.LoadProgramData column) h = by_cases (in_cache flash.geometry column d) (λ e. e) (λ e. absurd (rw e at h))
  begins (Call.ProgramExecute page) h = by_cases (ltb page (page_count_of flash.geometry)) (λ e. e) (λ e. absurd (rw e at h))
  begins (Call.ReadPage page) h =
      by_cases (eqb b flash.geometry.page_size)
      (λ e. by_cases (ltb page (page_count_of flash.geometry)) (λ f. (e, f)) (λ f. absurd (rw (e, f) at h)))
      (λ e. absurd (rw e at h))
  begins (Call.WritePage page) h =
      by_cases (eqb d flash.geometry.page_size)
      (λ e. by_cases (ltb page (page_count_of flash.geometry)) (λ f. (e, f)) (λ f. absurd (rw (e, f) at h)))
      (λ e. absurd (rw e at h))
  begins (Call.EraseBlock block) h = by_cases (ltb block flash.geometry.block_count) (λ e. e) (λ e. absurd (rw e at h))
  begins (Call.Read offset) h = by_cases (in_range flash.geometry offset b) (λ e. e) (λ e. absurd (rw e at h))
  begins (Call.IsBadBlock block) h = by_cases (ltb block flash.geometry.block_count) (λ e. e) (λ e. absurd (rw e at h))
  begins (Call.MarkBadBlock block) h = by_cases (ltb block flash.geometry.block_count) (λ e. e) (λ e. absurd (rw e at h))

-- The driver's words come to the Rust's.
-- Assumes nothing.
use Prim.Native.Nat.{ℕ, ◌+◌, ◌*◌, ◌/◌, ◌%◌}
use native.Mathlib.Omega.{arith}
use mathlib.Core.Bool.{true}
use mathlib.Core.List.{[], ◌∷◌}
use mathlib.Core.Path.{◌≡◌, refl, sym}
use Rattle.std.specs.Prelude.{Option, Some, None}
use Rattle.qspi.specs.Bytes.{number_of}
use Rattle.spi_nand.specs.Command.{column_address}
use Rattle.spi_nand.specs.Config.{in_bounds, jedec_id_of}
use Rattle.spi_nand.specs.Status.{same_configuration}
use Rattle.spi_nand.specs.Transfer.{chunk_of, filler_of, cache_read_transfer, cache_load_transfer}
use Rattle.spi_nand.specs.declared.config.NandGeometry.{NandGeometry}
use Rattle.spi_nand.specs.declared.config.NandJedecId.{NandJedecId}
use Rattle.spi_nand.proofs.Geometries.{geometries-hold}
use Rattle.nand_steps.specs.Opening.{given_at}
use Rattle.nand_steps.specs.Register.{geometry_at, geometry_for}
use Rattle.nand_runs.specs.Rust.{resolved}
use Rattle.nand_runs.specs.RustConfig.{from_jedec, looked_up}
use Rattle.nand_runs.specs.SameWords.{SameIn, SameWords}
use Rattle.nand_runs.proofs.Agrees.{pages-same, capacity-same, cache-size-same, first-page-same, in-cache-same, in-range-same, place-same, read-same, load-same, known-same}

inside : (g : NandGeometry) → in_bounds g ≡ true → SameIn g
unfolding chunk_of filler_of
inside g bounds = record {
  block_bytes = (geometries-hold.exact g bounds).block_size;
  all_pages = sym (pages-same g bounds);
  all_bytes = sym (capacity-same g bounds);
  cache_bytes = sym (cache-size-same g bounds);
  first_page = λ block below. sym (first-page-same g bounds block below);
  caches = λ column n. sym (in-cache-same g bounds column n);
  ranges = λ offset n. sym (in-range-same g bounds offset n);
  places = place-same g bounds;
  page = λ address. refl;
  column = λ address. refl;
  pieces = λ offset len done h. let e = place-same g bounds offset done h in rw e (omega arith);
  fillers = λ column. refl;
}

held : (geometry : Option NandGeometry) (id : NandJedecId) → geometry_at geometry (given_at geometry) id ≡ resolved geometry id
held None id = sym (known-same id)
held (Some own) id = refl

high-byte : (column : ℕ) → column_address column / 256 % 256 ≡ column / 256 % 256
high-byte column = omega arith

low-byte : (column : ℕ) → column_address column % 256 ≡ column % 256
low-byte column = omega arith

pub same-words : SameWords
unfolding same_configuration cache_read_transfer cache_load_transfer jedec_id_of geometry_for from_jedec looked_up
same-words = record {
  inside = inside;
  commands = λ command. refl;
  numbers = λ command n. refl;
  registers = λ register. refl;
  identification = refl;
  reads = λ config column n sink. sym (read-same config.quad column n sink);
  loads = λ config column payload. sym (load-same config.quad column payload);
  busy = λ b small. let e : b % 256 ≡ b = omega arith in rw e refl;
  compared = λ a b. refl;
  quad_reads = λ q column. rw (high-byte column, low-byte column) refl;
  quad_loads = λ q column. rw (high-byte column, low-byte column) refl;
  bytes = λ a b c x y z.
      let n = number_of (a ∷ b ∷ c ∷ []) in
      let e : n ≡ a * 65536 + b * 256 + c = omega arith in
      let first : n / 65536 % 256 ≡ a = omega arith in
      let second : n % 65536 ≡ b * 256 + c = omega arith in
      rw (first, second) refl;
  ids = λ v. refl;
  geometries = λ id. sym (known-same id);
  w25n01gv = refl;
  w25n02kv = refl;
  w25n01gv_known = refl;
  page_limit = refl;
  held = λ config id. held config.geometry id;
  quad_numbers = refl;
  single_line = refl;
  four_lines = λ q. refl;
}

-- The driver's words come to the Rust's.
-- Assumes nothing.
use Prim.Native.Nat.{◌+◌, ◌*◌, ◌/◌, ◌%◌}
use native.Mathlib.Omega.{arith}
use mathlib.Core.Path.{◌≡◌, refl, sym}
use mathlib.Core.List.{[], ◌∷◌}
use Rattle.qspi.specs.Bytes.{number_of}
use Rattle.spi_nor.specs.Transfer.{chunk_of, page_of, read_transfer, program_transfer}
use Rattle.nor_runs.specs.RustConfig.{from_jedec, looked_up}
use Rattle.nor_runs.specs.SameWords.{SameWords}
use Rattle.nor_runs.proofs.Agrees.{range-same, multiple-same, place-same, read-same, program-same, step-same, known-same, constructed-same}

pub same-words : SameWords
unfolding chunk_of page_of read_transfer program_transfer from_jedec looked_up
same-words = record {
  commands = λ command. refl;
  quad_reads = λ q offset. refl;
  quad_programs = λ q offset. refl;
  register_byte = λ b small. omega arith;
  numbers = λ command n. refl;
  ranges = λ capacity offset n. sym (range-same capacity offset n);
  multiples = λ n unit. sym (multiple-same n unit);
  most = refl;
  places = place-same;
  pieces = λ len done. refl;
  reads = λ flash offset n sink. sym (read-same flash.config.quad offset n sink);
  pages = λ device len index. refl;
  programs = λ flash offset from n. sym (program-same flash.config.quad offset from n);
  steps = step-same;
  sector_size = λ device. refl;
  block_size = λ device. refl;
  sector_command = λ offset. refl;
  block_command = λ offset. refl;
  sector_wait = refl;
  block_wait = refl;
  bytes = λ a b c x y z.
      let n = number_of (a ∷ b ∷ c ∷ []) in
      let e : n ≡ a * 65536 + b * 256 + c = omega arith in
      let first : n / 65536 % 256 ≡ a = omega arith in
      let second : n / 256 % 256 ≡ b = omega arith in
      let third : n % 256 ≡ c = omega arith in
      rw (first, second, third) refl;
  ids = λ v. refl;
  devices = λ id. sym (known-same id);
  w25q64jv = refl;
  w25q128jv = refl;
  w25q64jv_known = refl;
  w25q128jv_known = refl;
  page_limit = refl;
  built = λ config v. sym (constructed-same config v);
  quad_numbers = refl;
  single_line = refl;
  four_lines = λ q. refl;
}

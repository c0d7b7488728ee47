-- The driver's definitions against the datasheets'.
use Prim.Native.Nat.{ℕ, zero, suc, ◌+◌, ◌*◌, ◌/◌, ◌%◌, ◌^◌, ◌≤◌, ◌<◌}
use mathlib.Core.Path.{◌≡◌, refl, sym, ap, ◌∙◌}
use mathlib.Core.Bool.{Bool, true, false, not, ◌&&◌, ◌||◌}
use Rattle.qspi.specs.Choice.{pick}
use Rattle.std.specs.Prelude.{◌==◌, if◌then◌else◌, Option, Some, None, is_some}
use mathlib.Core.List.{List, [], ◌∷◌, ◌++◌}
use native.Mathlib.Omega.{arith}
use native.Mathlib.Nat.{mod-eq_of_lt, lt_trans, div-div-eq-div-mul}
use lib.Bits.{bit_and}
use lib.Dec.{eqb, eqb-suc-zero, lit≤, lit<}
use borrow.Author.Tests.{ne_eqb}
use Rattle.qspi.specs.Address.{big_endian, read_from}
use Rattle.qspi.specs.Command.{command_bytes}
use Rattle.qspi.specs.declared.command.Command.{Command}
use Rattle.qspi.proofs.Addresses.{address-bytes}
use Rattle.spi_flash.specs.Bits.{bit, is_set}
use Rattle.spi_flash.proofs.Bits.{field, any-bit, bit_below, replaced-bit}
use Rattle.spi_nand.specs.Opcode.{timings_of}
use Rattle.spi_nand.specs.Status.{status_of, busy_of, write_enabled_of, erase_failed_of, program_failed_of, verdict_number, verdict_at, verdict_of, ECC-MASK, ecc_enabled_of, buffer_read_of, otp_enabled_of, quad_enabled_of, configuration_of, configuration_byte, with_bits, protection_of, block_protect_bits, is_unlocked}
use Rattle.spi_nand.specs.Verdict.{uncorrectable}
use Rattle.spi_nand.specs.declared.status.EccVerdict.{EccVerdict}
use Rattle.spi_nand.specs.Config.{jedec_id_of, from_jedec, with_quad, wanted_for}
use Rattle.spi_nand.specs.declared.config.NandQuadConfig.{NandQuadConfig}
use Rattle.spi_nand.specs.declared.config.SpiNandConfig.{SpiNandConfig}
use Rattle.spi_nand.specs.declared.opcode.Operation.{Operation}
use Rattle.spi_nand.specs.Datasheet as sheet
use Rattle.spi_nand.specs.Datasheet.{Part, w25n01gv, w25n02kv}
use Rattle.spi_nand.specs.DatasheetAgrees.{PagesAgree, ColumnsAgree, CommandsAgree, GeometriesAgree, RegistersAgree, DatasheetAgrees, RustDeparts, status_of_verdict}

-- ---- addresses

-- an address that its bits hold goes out whole, and what the code drops of larger numbers is not there
whole : (opcode bits address : ℕ) → address < 2 ^ bits → address < 2 ^ 24
    → command_bytes (Command.Address opcode (address % 16777216)) ≡ opcode ∷ big_endian 3 (address % 2 ^ bits)
whole opcode bits address fits small =
    ap (λ (a : ℕ). command_bytes (Command.Address opcode a)) (mod-eq_of_lt small)
    ∙ address-bytes.three opcode address
    ∙ ap (λ (a : ℕ). opcode ∷ big_endian 3 a) (sym (mod-eq_of_lt fits))

back : (width bits address : ℕ) → address < 2 ^ bits → address < 256 ^ width → read_from 0 (big_endian width (address % 2 ^ bits)) ≡ address
back width bits address fits small =
    ap (λ (a : ℕ). read_from 0 (big_endian width a)) (mod-eq_of_lt fits) ∙ (address-bytes.whole width address small).back

pages-agree : (part : Part) → PagesAgree part
pages-agree w25n01gv = record {
  count = refl;
  back = λ page h. back 3 16 page (omega arith) (omega arith);
  page_read = λ page h. whole _ 16 page (omega arith) (omega arith);
  block_erase = λ page h. whole _ 16 page (omega arith) (omega arith);
  program_execute = λ page h. whole _ 16 page (omega arith) (omega arith);
}
pages-agree w25n02kv = record {
  count = refl;
  back = λ page h. back 3 17 page (omega arith) (omega arith);
  page_read = λ page h. whole _ 17 page (omega arith) (omega arith);
  block_erase = λ page h. whole _ 17 page (omega arith) (omega arith);
  program_execute = λ page h. whole _ 17 page (omega arith) (omega arith);
}

-- a column of at most 12 bits, as its two bytes
column-bytes : (column : ℕ) → column < 4096 → big_endian 2 (column % 65536) ≡ sheet.column_address column
column-bytes column h = ap (big_endian 2) (mod-eq_of_lt (omega arith) ∙ sym (mod-eq_of_lt h))

column-command : (opcode column : ℕ) → column < 4096
    → command_bytes (Command.Column opcode (column % 65536)) ≡ opcode ∷ sheet.column_address column
column-command opcode column h = address-bytes.two opcode (column % 65536) ∙ ap (λ (l : List ℕ). opcode ∷ l) (column-bytes column h)

dummy-command : (opcode column : ℕ) → column < 4096
    → command_bytes (Command.ColumnDummy opcode (column % 65536)) ≡ opcode ∷ sheet.column_address column ++ sheet.dummy ∷ []
dummy-command opcode column h = ap (λ (l : List ℕ). l ++ sheet.dummy ∷ []) (column-command opcode column h)

below-4096 : (part : Part) (column : ℕ) → column < sheet.column_count part → column < 4096
below-4096 w25n01gv column h = omega arith
below-4096 w25n02kv column h = omega arith

columns-count : (part : Part) → sheet.column_count part ≤ 2 ^ sheet.column_bits
columns-count w25n01gv = lit≤ tt
columns-count w25n02kv = lit≤ tt

columns-agree : (part : Part) → ColumnsAgree part
columns-agree part = record {
  count = columns-count part;
  back = λ column h. back 2 12 column (below-4096 part column h) (lt_trans (below-4096 part column h) (lit< tt));
  read_cache = λ column h. dummy-command _ column (below-4096 part column h);
  load_program_data = λ column h. column-command _ column (below-4096 part column h);
  quad_read_cache = λ column h. column-command _ column (below-4096 part column h);
  quad_load_program_data = λ column h. column-command _ column (below-4096 part column h);
}

first_byte-lem : (page : ℕ) → sheet.page_address w25n01gv page ≡ 0x00 ∷ big_endian 2 page
first_byte-lem page =
    let none : page % 65536 / 65536 % 256 ≡ 0 = omega arith in
    let high : page % 65536 / 256 % 256 ≡ page / 256 % 256 = omega arith in
    let low : page % 65536 / 1 % 256 ≡ page / 1 % 256 = omega arith in
    rw (none, high, low)

commands-agree : CommandsAgree
commands-agree = record {
  reset = refl;
  read_id = refl;
  get_feature = λ register. refl;
  set_feature = λ register value. refl;
  write_enable = refl;
  pages = pages-agree;
  columns = columns-agree;
  first_byte = first_byte-lem;
}

-- ---- geometries

geometries-agree : GeometriesAgree
unfolding from_jedec jedec_id_of
geometries-agree = record { first = refl; second = refl; detected = refl }

-- ---- registers

verdict-bits : (b : ℕ) → bit_and b ECC-MASK / 2 ^ 4 ≡ bit sheet.ECC-1 b * 2 + bit sheet.ECC-0 b
verdict-bits b = field 2 4 b ∙ omega arith

verdict-number : (high low : ℕ) → high < 2 → low < 2 → verdict_number (verdict_at (high * 2 + low)) ≡ high * 2 + low
verdict-number zero zero h l = refl
verdict-number zero (suc zero) h l = refl
verdict-number (suc zero) zero h l = refl
verdict-number (suc zero) (suc zero) h l = refl
verdict-number (suc (suc high)) low h l = absurd (omega arith)
verdict-number zero (suc (suc low)) h l = absurd (omega arith)
verdict-number (suc zero) (suc (suc low)) h l = absurd (omega arith)

verdict-agrees : (b : ℕ) → verdict_number (verdict_of (status_of b)) ≡ bit sheet.ECC-1 b * 2 + bit sheet.ECC-0 b
unfolding verdict_of
verdict-agrees b =
    ap (λ (n : ℕ). verdict_number (verdict_at n)) (verdict-bits b)
    ∙ verdict-number (bit sheet.ECC-1 b) (bit sheet.ECC-0 b) (bit_below sheet.ECC-1 b) (bit_below sheet.ECC-0 b)

sixteen : (n : ℕ) → n % 16 ≡ n / 8 % 2 * 8 + n % 8
sixteen n = omega arith

eight : (n : ℕ) → n % 8 ≡ n / 4 % 2 * 4 + n % 4
eight n = omega arith

four : (n : ℕ) → n % 4 ≡ n / 2 % 2 * 2 + n % 2
four n = omega arith

joined : (a b c x y z w : ℕ) → a ≡ x * 8 + b → b ≡ y * 4 + c → c ≡ z * 2 + w → a ≡ x * 8 + y * 4 + z * 2 + w
joined a b c x y z w p q r = omega arith

four-bits : (n : ℕ) → n % 16 ≡ n / 8 % 2 * 8 + n / 4 % 2 * 4 + n / 2 % 2 * 2 + n % 2
four-bits n = joined (n % 16) (n % 8) (n % 4) (n / 8 % 2) (n / 4 % 2) (n / 2 % 2) (n % 2) (sixteen n) (eight n) (four n)

protect-bits : (b : ℕ)
    → block_protect_bits (protection_of b) ≡ bit sheet.BP3 b * 8 + bit sheet.BP2 b * 4 + bit sheet.BP1 b * 2 + bit sheet.BP0 b
unfolding block_protect_bits
protect-bits b = field 4 3 b ∙ four-bits (b / 8) ∙ simp (div-div-eq-div-mul b 8 2, div-div-eq-div-mul b 8 4, div-div-eq-div-mul b 8 8)

none-set : (x y z w : ℕ) → eqb (x * 8 + y * 4 + z * 2 + w) 0 ≡ (eqb x 0 && eqb y 0 && eqb z 0 && eqb w 0)
none-set zero zero zero zero = refl
none-set zero zero zero (suc w) = ne_eqb (0 * 8 + 0 * 4 + 0 * 2 + suc w) 0 (λ e. omega arith) ∙ sym (rw (eqb-suc-zero w))
none-set zero zero (suc z) w = ne_eqb (0 * 8 + 0 * 4 + suc z * 2 + w) 0 (λ e. omega arith) ∙ sym (rw (eqb-suc-zero z))
none-set zero (suc y) z w = ne_eqb (0 * 8 + suc y * 4 + z * 2 + w) 0 (λ e. omega arith) ∙ sym (rw (eqb-suc-zero y))
none-set (suc x) y z w = ne_eqb (suc x * 8 + y * 4 + z * 2 + w) 0 (λ e. omega arith) ∙ sym (rw (eqb-suc-zero x))

unlocked-agrees : (b : ℕ) → is_unlocked (protection_of b) ≡ sheet.none_protected b
unfolding is_unlocked
unlocked-agrees b =
    ap (λ (n : ℕ). eqb n 0) (protect-bits b) ∙ none-set (bit sheet.BP3 b) (bit sheet.BP2 b) (bit sheet.BP1 b) (bit sheet.BP0 b)

-- a verdict by its two bits
abbrev verdict_of_bits : Bool → Bool → EccVerdict
verdict_of_bits false false = EccVerdict.NoBitFlips
verdict_of_bits false true = EccVerdict.Corrected
verdict_of_bits true false = EccVerdict.Uncorrectable
verdict_of_bits true true = EccVerdict.Reserved

by-numbers : (high low : ℕ) → high < 2 → low < 2 → verdict_at (high * 2 + low) ≡ verdict_of_bits (eqb high 1) (eqb low 1)
by-numbers zero zero h l = refl
by-numbers zero (suc zero) h l = refl
by-numbers (suc zero) zero h l = refl
by-numbers (suc zero) (suc zero) h l = refl
by-numbers (suc (suc high)) low h l = absurd (omega arith)
by-numbers zero (suc (suc low)) h l = absurd (omega arith)
by-numbers (suc zero) (suc (suc low)) h l = absurd (omega arith)

by-bits : (b : ℕ) → verdict_of (status_of b) ≡ verdict_of_bits (is_set sheet.ECC-1 b) (is_set sheet.ECC-0 b)
unfolding verdict_of
by-bits b =
    ap verdict_at (verdict-bits b)
    ∙ by-numbers (bit sheet.ECC-1 b) (bit sheet.ECC-0 b) (bit_below sheet.ECC-1 b) (bit_below sheet.ECC-0 b)

bits-mean : (part : Part) (high low : Bool) → status_of_verdict part (verdict_of_bits high low) ≡ sheet.ecc_of_bits part high low
bits-mean part false false = refl
bits-mean part false true = refl
bits-mean part true false = refl
bits-mean w25n01gv true true = refl
bits-mean w25n02kv true true = refl

verdict-means : (part : Part) (b : ℕ) → status_of_verdict part (verdict_of (status_of b)) ≡ sheet.ecc_status part b
verdict-means part b = ap (status_of_verdict part) (by-bits b) ∙ bits-mean part (is_set sheet.ECC-1 b) (is_set sheet.ECC-0 b)

refused-second : (b : ℕ) → uncorrectable (verdict_of (status_of b)) ≡ not (sheet.data_good (sheet.ecc_status w25n02kv b))
refused-second b = ap uncorrectable (by-bits b) ∙ cases (is_set sheet.ECC-1 b) (is_set sheet.ECC-0 b)
  where
    cases : (high low : Bool) → uncorrectable (verdict_of_bits high low) ≡ not (sheet.data_good (sheet.ecc_of_bits w25n02kv high low))
    cases false false = refl
    cases false true = refl
    cases true false = refl
    cases true true = refl

-- bit k of the mask of ECC-E and BUF, and of that of bit 0, over what was there
operational-bit : (k : ℕ) → k < 8 → (x : ℕ)
    → pick (is_set k 24) (bit k 24) x ≡ (if k == sheet.ECC-E || k == sheet.BUF || k == sheet.RESERVED-OR-H-DIS && false then 1 else x)
operational-bit zero h x = refl
operational-bit (suc zero) h x = refl
operational-bit (suc (suc zero)) h x = refl
operational-bit (suc (suc (suc zero))) h x = refl
operational-bit (suc (suc (suc (suc zero)))) h x = refl
operational-bit (suc (suc (suc (suc (suc zero))))) h x = refl
operational-bit (suc (suc (suc (suc (suc (suc zero)))))) h x = refl
operational-bit (suc (suc (suc (suc (suc (suc (suc zero))))))) h x = refl
operational-bit (suc (suc (suc (suc (suc (suc (suc (suc k)))))))) h x = absurd (omega arith)

quad-bit : (k : ℕ) → k < 8 → (x : ℕ)
    → pick (is_set k 1) (bit k 1) (pick (is_set k 24) (bit k 24) x)
    ≡ (if k == sheet.ECC-E || k == sheet.BUF || k == sheet.RESERVED-OR-H-DIS && true then 1 else x)
quad-bit zero h x = refl
quad-bit (suc zero) h x = refl
quad-bit (suc (suc zero)) h x = refl
quad-bit (suc (suc (suc zero))) h x = refl
quad-bit (suc (suc (suc (suc zero)))) h x = refl
quad-bit (suc (suc (suc (suc (suc zero))))) h x = refl
quad-bit (suc (suc (suc (suc (suc (suc zero)))))) h x = refl
quad-bit (suc (suc (suc (suc (suc (suc (suc zero))))))) h x = refl
quad-bit (suc (suc (suc (suc (suc (suc (suc (suc k)))))))) h x = absurd (omega arith)

wanted-bit : (quad : Option NandQuadConfig) (k : ℕ) → k < 8 → (b : ℕ)
    → bit k (configuration_byte (with_quad quad (with_bits (configuration_of b) 24 24)))
    ≡ (if k == sheet.ECC-E || k == sheet.BUF || k == sheet.RESERVED-OR-H-DIS && is_some quad then 1 else bit k b)
unfolding with_bits
wanted-bit None k h b = replaced-bit k h b 24 24 (lit< tt) ∙ operational-bit k h (bit k b)
wanted-bit (Some q) k h b =
    replaced-bit k h (configuration_byte (with_bits (configuration_of b) 24 24)) 1 1 (lit< tt)
    ∙ ap (pick (is_set k 1) (bit k 1)) (replaced-bit k h b 24 24 (lit< tt))
    ∙ quad-bit k h (bit k b)

configured-lem : (config : SpiNandConfig) (k : ℕ) → k < 8 → (b : ℕ)
    → bit k (configuration_byte (wanted_for config (configuration_of b)))
    ≡ (if k == sheet.ECC-E || k == sheet.BUF || k == sheet.RESERVED-OR-H-DIS && is_some config.quad then 1 else bit k b)
unfolding wanted_for
configured-lem config = wanted-bit config.quad

registers-agree : RegistersAgree
unfolding busy_of write_enabled_of erase_failed_of program_failed_of ecc_enabled_of buffer_read_of otp_enabled_of with_bits
registers-agree = record {
  protection = refl;
  configuration = refl;
  status = refl;
  busy = any-bit sheet.BUSY;
  write_enabled = any-bit sheet.WEL;
  erase_failed = any-bit sheet.E-FAIL;
  program_failed = any-bit sheet.P-FAIL;
  verdict = verdict-agrees;
  refused = refused-second;
  ecc_enabled = any-bit sheet.ECC-E;
  buffer_read = any-bit sheet.BUF;
  otp_enabled = any-bit sheet.OTP-E;
  with_bits = replaced-bit;
  configured = configured-lem;
  block_protect = protect-bits;
  unlocked = unlocked-agrees;
  unprotected = refl;
  quad_allowed = refl;
}

enough : (operation : Operation) → sheet.longest_time operation ≤ (timings_of operation).timeout_us
unfolding timings_of
enough Operation.Reset = omega arith
enough Operation.PageRead = omega arith
enough Operation.Program = omega arith
enough Operation.Erase = omega arith
enough Operation.WriteRegister = omega arith

pub datasheet-agrees : DatasheetAgrees
datasheet-agrees = record { commands = commands-agree; geometries = geometries-agree; registers = registers-agree; limits = record { enough = enough } }

-- ---- departures

refused-first : (b : ℕ) → (is_set sheet.ECC-1 b && is_set sheet.ECC-0 b) ≡ false
    → uncorrectable (verdict_of (status_of b)) ≡ not (sheet.data_good (sheet.ecc_status w25n01gv b))
refused-first b h = ap uncorrectable (by-bits b) ∙ cases (is_set sheet.ECC-1 b) (is_set sheet.ECC-0 b) h
  where
    cases : (high low : Bool) → (high && low) ≡ false
        → uncorrectable (verdict_of_bits high low) ≡ not (sheet.data_good (sheet.ecc_of_bits w25n01gv high low))
    cases false false e = refl
    cases false true e = refl
    cases true false e = refl
    cases true true e = cc

passed-first : (b : ℕ) → (is_set sheet.ECC-1 b && is_set sheet.ECC-0 b) ≡ true
    → (uncorrectable (verdict_of (status_of b)) ≡ false) × (sheet.ecc_status w25n01gv b ≡ sheet.failed_in_several_pages)
passed-first b h =
    let both = cases (is_set sheet.ECC-1 b) (is_set sheet.ECC-0 b) h in
    (ap uncorrectable (by-bits b) ∙ both.0, both.1)
  where
    cases : (high low : Bool) → (high && low) ≡ true
        → (uncorrectable (verdict_of_bits high low) ≡ false) × (sheet.ecc_of_bits w25n01gv high low ≡ sheet.failed_in_several_pages)
    cases false low e = cc
    cases true false e = cc
    cases true true e = (refl, refl)

pub rust-departs : RustDeparts
unfolding from_jedec jedec_id_of quad_enabled_of is_unlocked block_protect_bits
rust-departs = record {
  unknown = refl;
  other_part = refl;
  quad_enabled = any-bit sheet.RESERVED-OR-H-DIS;
  quad_left_off = (refl, refl);
  refused = refused-first;
  passed = passed-first;
  verdict = verdict-means;
}

-- The address bytes of the code are those of the datasheets, and are sent whole.
use Prim.Native.Nat.{ℕ, zero, suc, ◌+◌, ◌*◌, ◌/◌, ◌%◌, ◌^◌}
use native.Mathlib.Nat.{div-one, div-eq_of_lt, div-div-eq-div-mul, pow-suc}
use native.Mathlib.Omega.{arith}
use mathlib.Core.Path.{◌≡◌, ap, sym, ◌∙◌}
use Rattle.qspi.specs.Address.{big_endian, read_from, AddressBytes}

-- where what was read is the address above the bytes to come, these complete it
completes : (width a n : ℕ) → n ≡ a / 256 ^ width → read_from n (big_endian width a) ≡ a
completes zero a n h = h ∙ div-one a
completes (suc w) a n h =
    let above : a / 256 ^ suc w ≡ a / 256 ^ w / 256 = ap (λ d. a / d) (pow-suc 256 w) ∙ sym (div-div-eq-div-mul a (256 ^ w) 256) in
    completes w a (n * 256 + a / 256 ^ w % 256) (omega arith)

pub address-bytes : AddressBytes
address-bytes = record {
  three = λ opcode address. simp div-one;
  two = λ opcode column. simp div-one;
  whole = λ width address h. record { back = completes width address 0 (sym (div-eq_of_lt h)) };
}

-- Numbers as a reply brings them: whole bytes, highest first. Up to eight bytes nothing is lost.
use Rattle.std.specs.Prelude.{ℕ, ◌^◌, ◌≤◌, ◌<◌, ◌≡◌, List, length}
use Rattle.qspi.specs.Address.{big_endian, read_from}
use Rattle.qspi.specs.Bytes.{AllBytes, number_of}

pub record Numbers : Type 0 where
  -- the number of a reply is the number that its bytes are
  pub reads : (bytes : List ℕ) → length bytes ≤ 8 → AllBytes bytes → number_of bytes ≡ read_from 0 bytes
  -- and every number of n bytes is the number of some reply of n bytes
  pub back : (n v : ℕ) → n ≤ 8 → v < 256 ^ n → number_of (big_endian n v) ≡ v
  pub size : (n v : ℕ) → length (big_endian n v) ≡ n
  pub small : (n v : ℕ) → AllBytes (big_endian n v)

-- Addresses as both datasheets send them: whole bytes, highest first. The width is a parameter.
use Rattle.std.specs.Prelude.{ℕ, zero, suc, ◌+◌, ◌*◌, ◌/◌, ◌%◌, ◌^◌, ◌<◌, List, [], ◌∷◌, ◌≡◌}
use Rattle.qspi.specs.Command.{command_bytes}
use Rattle.qspi.specs.declared.command.Command.{Command}

-- so many bytes of an address, highest first
abbrev pub big_endian : ℕ → ℕ → List ℕ
big_endian zero a = []
big_endian (suc width) a = a / 256 ^ width % 256 ∷ big_endian width a

-- the number that bytes are, highest first
abbrev pub read_from : ℕ → List ℕ → ℕ
read_from n [] = n
read_from n (b ∷ bs) = read_from (n * 256 + b) bs

-- an address of so many bytes is sent whole: read back, the bytes are the address
pub record SentWhole (width address : ℕ) : Type 0 where
  pub back : read_from 0 (big_endian width address) ≡ address

-- what the shapes of commands send behind their opcode
pub record AddressBytes : Type 0 where
  pub three : (opcode address : ℕ) → command_bytes (Command.Address opcode address) ≡ opcode ∷ big_endian 3 address
  pub two : (opcode column : ℕ) → command_bytes (Command.Column opcode column) ≡ opcode ∷ big_endian 2 column
  pub whole : (width address : ℕ) → address < 256 ^ width → SentWhole width address

-- Command bytes, and their place in the scratch.
use Rattle.std.specs.Prelude.{ℕ, ◌/◌, ◌%◌, List, [], ◌∷◌, length, leb}
use Rattle.std.proofs.lemmas.List.Edits.{sets}
use Rattle.qspi.specs.Choice.{pick}
use Rattle.qspi.specs.declared.command.Command.{Command}

-- the bytes as they go over the bus: the arrays that the Rust's drivers hand to `command` and `command_then_read`
abbrev pub command_bytes : Command → List ℕ
command_bytes (Command.Opcode opcode) = opcode ∷ []
command_bytes (Command.Byte opcode byte) = opcode ∷ byte ∷ []
command_bytes (Command.RegisterValue opcode register value) = opcode ∷ register ∷ value ∷ []
command_bytes (Command.Address opcode address) = opcode ∷ address / 65536 % 256 ∷ address / 256 % 256 ∷ address % 256 ∷ []
command_bytes (Command.Column opcode column) = opcode ∷ column / 256 % 256 ∷ column % 256 ∷ []
command_bytes (Command.ColumnDummy opcode column) = opcode ∷ column / 256 % 256 ∷ column % 256 ∷ 0 ∷ []
command_bytes (Command.FourDummies opcode) = opcode ∷ 0 ∷ 0 ∷ 0 ∷ 0 ∷ []

-- the least scratch (docs/SPECIFICATION.md, "Lent memory")
abbrev pub scratch_least : ℕ
scratch_least = 264

-- a command at the scratch's start (docs/SPECIFICATION.md, "Lent memory")
unfoldable pub with_command : Command → List ℕ → List ℕ
with_command command scratch = pick (leb scratch_least (length scratch)) (sets scratch 0 (command_bytes command)) scratch

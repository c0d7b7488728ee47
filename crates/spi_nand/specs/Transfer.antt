-- The transfers of the calls (nand/driver.rs), at the configured bus width.
use Rattle.spi_nand.specs.declared.config.NandQuadConfig.{NandQuadConfig}
use Rattle.std.specs.Prelude.{ℕ, ◌+◌, ◌-◌, ◌/◌, ◌%◌, ◌^◌, Bool, Option, Some, None}
use Rattle.qspi.specs.declared.transfer.Payload.{Payload}
use Rattle.qspi.specs.declared.transfer.Sink.{Sink}
use Rattle.qspi.specs.declared.transfer.Body.{Body}
use Rattle.qspi.specs.declared.transfer.Transfer.{Transfer}
use Rattle.spi_flash.specs.Number.{number_transfer}
use Rattle.spi_flash.specs.Range.{range_in_bounds, piece_of}
use Rattle.spi_nand.specs.Command.{read_id_command, get_feature_command, read_cache_command, quad_read_cache_command, load_program_data_command, quad_load_program_data_command}
use Rattle.spi_nand.specs.Config.{cache_size_of, capacity_of}
use Rattle.spi_nand.specs.declared.config.NandGeometry.{NandGeometry}
use Rattle.spi_nand.specs.declared.config.SpiNandConfig.{SpiNandConfig}
use Rattle.spi_nand.specs.declared.opcode.Operation.{Operation}
use Rattle.spi_nand.specs.declared.phase.Task.{Task}

-- read_register: its byte is a number
abbrev pub register_transfer : ℕ → Transfer
register_transfer register = number_transfer (get_feature_command register) 1

-- jedec_id: its three bytes are a number
abbrev pub id_transfer : Transfer
id_transfer = number_transfer read_id_command 3

-- read_cache: single-line or quad
abbrev pub cache_read_at : Option NandQuadConfig → ℕ → ℕ → Sink → Transfer
cache_read_at None column n sink = Transfer.Framed (read_cache_command column) (Body.Read n sink)
cache_read_at (Some q) column n sink =
    Transfer.Framed (quad_read_cache_command q column) (Body.QuadRead q.tclqv_ns q.dummy_margin n sink)

unfoldable pub cache_read_transfer : SpiNandConfig → ℕ → ℕ → Sink → Transfer
cache_read_transfer config column n sink = cache_read_at config.quad column n sink

-- load_program_data: single-line or quad
abbrev pub cache_load_at : Option NandQuadConfig → ℕ → Payload → Transfer
cache_load_at None column payload = Transfer.Framed (load_program_data_command column) (Body.Write payload)
cache_load_at (Some q) column payload = Transfer.Framed (quad_load_program_data_command q column) (Body.QuadWrite payload)

unfoldable pub cache_load_transfer : SpiNandConfig → ℕ → Payload → Transfer
cache_load_transfer config column payload = cache_load_at config.quad column payload

-- whose wait follows
unfoldable pub task_operation : Task → Operation
task_operation (Task.Reset why) = Operation.Reset
task_operation (Task.Register why) = Operation.WriteRegister
task_operation (Task.Load why) = Operation.PageRead
task_operation (Task.Program why) = Operation.Program
task_operation (Task.Erase why) = Operation.Erase

-- check_cache_range
unfoldable pub in_cache : NandGeometry → ℕ → ℕ → Bool
in_cache g column n = range_in_bounds (cache_size_of g) column n

-- check_range
unfoldable pub in_range : NandGeometry → ℕ → ℕ → Bool
in_range g offset n = range_in_bounds (capacity_of g) offset n

-- ---- read: the next piece, behind `done` bytes

-- `offset + done` of usize; inside the bounds it does not wrap
unfoldable pub place_of : ℕ → ℕ → ℕ
place_of offset done = (offset + done) % 2 ^ 64

-- `address / page_size`, `address % page_size`
abbrev pub page_at : NandGeometry → ℕ → ℕ
page_at g address = address / g.page_size

abbrev pub column_at : NandGeometry → ℕ → ℕ
column_at g address = address % g.page_size

-- `(page_size - column).min(buffer.len() - done)`
unfoldable pub chunk_of : NandGeometry → ℕ → ℕ → ℕ → ℕ
chunk_of g offset len done = piece_of (g.page_size - column_at g (place_of offset done)) len done

-- ---- mark_bad_block: `(page_size - column).min(FF_CHUNK.len())`

abbrev pub FILLER-CHUNK : ℕ
FILLER-CHUNK = 256

unfoldable pub filler_of : NandGeometry → ℕ → ℕ
filler_of g column = piece_of FILLER-CHUNK g.page_size column

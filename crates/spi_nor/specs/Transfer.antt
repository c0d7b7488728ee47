-- The transfers of the calls (nor/driver.rs), at the configured bus width.
use Rattle.spi_nor.specs.declared.config.NorQuadConfig.{NorQuadConfig}
use Rattle.std.specs.Prelude.{ℕ, ◌+◌, ◌-◌, ◌%◌, ◌^◌, Bool, ◌==◌, nat_le, Option, Some, None}
use Rattle.qspi.specs.Transfer.{command_only}
use Rattle.qspi.specs.Choice.{pick}
use Rattle.qspi.specs.declared.transfer.Payload.{Payload}
use Rattle.qspi.specs.declared.transfer.Sink.{Sink}
use Rattle.qspi.specs.declared.transfer.Body.{Body}
use Rattle.qspi.specs.declared.transfer.Transfer.{Transfer}
use Rattle.spi_flash.specs.Range.{piece_of}
use Rattle.spi_nor.specs.Opcode.{MAX-BULK-LEN}
use Rattle.spi_nor.specs.Status.{with_quad1_of, with_quad2_of, without_quad1_of, without_quad2_of, unprotected1_of, unprotected2_of}
use Rattle.spi_nor.specs.Command.{write_status1_command, write_status2_command, read_command, page_program_command, sector_erase_command, block_erase_command, quad_read_command, quad_page_program_command}
use Rattle.spi_nor.specs.declared.config.NorDeviceInfo.{NorDeviceInfo}
use Rattle.spi_nor.specs.declared.phase.EraseKind.{EraseKind}
use Rattle.spi_nor.specs.declared.phase.Task.{Task}
use Rattle.spi_nor.specs.declared.setup.Setup.{Setup}
use Rattle.spi_nor.specs.declared.opcode.Operation.{Operation}

-- the Rust's `a + b` of u32, and `n as u32`; inside the bounds neither wraps
abbrev pub u32_add : ℕ → ℕ → ℕ
u32_add a b = (a + b) % 2 ^ 32

abbrev pub as_u32 : ℕ → ℕ
as_u32 n = n % 4294967296

-- read, write: offset + done as u32
unfoldable pub place_of : ℕ → ℕ → ℕ
place_of offset done = u32_add offset (as_u32 done)

-- read: (bytes.len() - done).min(opcode::MAX_BULK_LEN)
unfoldable pub chunk_of : ℕ → ℕ → ℕ
chunk_of len done = piece_of MAX-BULK-LEN len done

-- write: the length of bytes.chunks(page_size)'s next chunk
unfoldable pub page_of : NorDeviceInfo → ℕ → ℕ → ℕ
page_of device len done = piece_of device.page_size len done

-- read: single-line or quad
abbrev pub read_at : Option NorQuadConfig → ℕ → ℕ → Sink → Transfer
read_at None offset n sink = Transfer.Framed (read_command offset) (Body.Read n sink)
read_at (Some q) offset n sink = Transfer.Framed (quad_read_command q offset) (Body.QuadRead q.tclqv_ns q.dummy_margin n sink)

unfoldable pub read_transfer : Setup → ℕ → ℕ → Sink → Transfer
read_transfer setup offset n sink = read_at setup.config.quad offset n sink

-- page_program: single-line or quad
abbrev pub program_at : Option NorQuadConfig → ℕ → ℕ → ℕ → Transfer
program_at None offset from n = Transfer.Framed (page_program_command offset) (Body.Write (Payload.Data from n))
program_at (Some q) offset from n = Transfer.Framed (quad_page_program_command q offset) (Body.QuadWrite (Payload.Data from n))

unfoldable pub program_transfer : Setup → ℕ → ℕ → ℕ → Transfer
program_transfer setup offset from n = program_at setup.config.quad offset from n

-- erase_sector, erase_block: the command
abbrev pub erase_transfer : EraseKind → ℕ → Transfer
erase_transfer EraseKind.Sector address = command_only (sector_erase_command address)
erase_transfer EraseKind.Block address = command_only (block_erase_command address)

-- what a task sends once the write-enable latch is set
unfoldable pub task_transfer : Setup → Task → Transfer
task_transfer setup (Task.EnableQuad2 status2) = command_only (write_status2_command (with_quad2_of status2))
task_transfer setup (Task.EnableQuad1 status1) = command_only (write_status1_command (with_quad1_of status1))
task_transfer setup (Task.DisableQuad2 status2) = command_only (write_status2_command (without_quad2_of status2))
task_transfer setup (Task.DisableQuad1 status1) = command_only (write_status1_command (without_quad1_of status1))
task_transfer setup (Task.Unprotect1 before status2) = command_only (write_status1_command (unprotected1_of before))
task_transfer setup (Task.Unprotect2 before status2) = command_only (write_status2_command (unprotected2_of status2))
task_transfer setup (Task.PageProgram s) =
    program_transfer setup (place_of s.offset s.done) s.done (page_of setup.device s.len s.done)
task_transfer setup (Task.Erase kind address end) = erase_transfer kind address

abbrev pub erase_operation : EraseKind → Operation
erase_operation EraseKind.Sector = Operation.SectorErase
erase_operation EraseKind.Block = Operation.BlockErase

-- whose wait follows
unfoldable pub task_operation : Task → Operation
task_operation (Task.EnableQuad2 status2) = Operation.StatusWrite
task_operation (Task.EnableQuad1 status1) = Operation.StatusWrite
task_operation (Task.DisableQuad2 status2) = Operation.StatusWrite
task_operation (Task.DisableQuad1 status1) = Operation.StatusWrite
task_operation (Task.Unprotect1 before status2) = Operation.StatusWrite
task_operation (Task.Unprotect2 before status2) = Operation.StatusWrite
task_operation (Task.PageProgram s) = Operation.PageProgram
task_operation (Task.Erase kind address end) = erase_operation kind

-- is_multiple_of
unfoldable pub multiple_of : ℕ → ℕ → Bool
multiple_of n unit = n % unit == 0

abbrev pub unit_size : NorDeviceInfo → EraseKind → ℕ
unit_size device EraseKind.Sector = device.sector_size
unit_size device EraseKind.Block = device.block_size

-- erase_step's kind: address.is_multiple_of(block) && end - address >= block
unfoldable pub step_kind : NorDeviceInfo → ℕ → ℕ → EraseKind
step_kind device address end =
    pick (multiple_of address device.block_size)
    (pick (nat_le address end) (pick (nat_le device.block_size (end - address)) EraseKind.Block EraseKind.Sector) EraseKind.Sector)
    EraseKind.Sector

-- erase_step's next address
unfoldable pub after_unit : NorDeviceInfo → EraseKind → ℕ → ℕ
after_unit device kind address = u32_add address (as_u32 (unit_size device kind))

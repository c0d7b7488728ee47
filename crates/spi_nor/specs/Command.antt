-- The commands that the driver sends: the arrays that nor/driver.rs hands to `command`, `command_then_read`, `read_quad` and `write_quad`.
use Rattle.std.specs.Prelude.{ℕ}
use Rattle.qspi.specs.declared.command.Command.{Command}
use Rattle.spi_nor.specs.Opcode.{WRITE-ENABLE, READ-STATUS1, READ-STATUS2, WRITE-STATUS1, WRITE-STATUS2, PAGE-PROGRAM, SECTOR-ERASE, BLOCK-ERASE, READ, READ-ID, READ-UNIQUE-ID}
use Rattle.spi_nor.specs.declared.config.NorQuadConfig.{NorQuadConfig}

-- write_enable: [opcode::WRITE_ENABLE]
abbrev pub write_enable_command : Command
write_enable_command = Command.Opcode WRITE-ENABLE

-- read_status1: [opcode::READ_STATUS1]
abbrev pub read_status1_command : Command
read_status1_command = Command.Opcode READ-STATUS1

-- read_status2: [opcode::READ_STATUS2]
abbrev pub read_status2_command : Command
read_status2_command = Command.Opcode READ-STATUS2

-- write_status1: [opcode::WRITE_STATUS1, value]
abbrev pub write_status1_command : ℕ → Command
write_status1_command value = Command.Byte WRITE-STATUS1 value

-- write_status2: [opcode::WRITE_STATUS2, value]
abbrev pub write_status2_command : ℕ → Command
write_status2_command value = Command.Byte WRITE-STATUS2 value

-- jedec_id: [opcode::READ_ID]
abbrev pub read_id_command : Command
read_id_command = Command.Opcode READ-ID

-- unique_id: [opcode::READ_UNIQUE_ID, 0x00, 0x00, 0x00, 0x00]
abbrev pub read_unique_id_command : Command
read_unique_id_command = Command.FourDummies READ-UNIQUE-ID

-- read_command: [opcode::READ, address[0], address[1], address[2]]
abbrev pub read_command : ℕ → Command
read_command offset = Command.Address READ offset

-- page_program_command, and so on
abbrev pub page_program_command : ℕ → Command
page_program_command offset = Command.Address PAGE-PROGRAM offset

abbrev pub sector_erase_command : ℕ → Command
sector_erase_command offset = Command.Address SECTOR-ERASE offset

abbrev pub block_erase_command : ℕ → Command
block_erase_command offset = Command.Address BLOCK-ERASE offset

-- read, with quad: [quad.read_opcode, address[0], address[1], address[2]]
abbrev pub quad_read_command : NorQuadConfig → ℕ → Command
quad_read_command quad offset = Command.Address quad.read_opcode offset

-- page_program, with quad: [quad.page_program_opcode, address[0], address[1], address[2]]
abbrev pub quad_page_program_command : NorQuadConfig → ℕ → Command
quad_page_program_command quad offset = Command.Address quad.page_program_opcode offset

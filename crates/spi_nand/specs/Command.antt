-- The commands that the driver sends: the arrays of nand/driver.rs.
use Rattle.std.specs.Prelude.{ℕ, ◌%◌}
use Rattle.qspi.specs.declared.command.Command.{Command}
use Rattle.spi_nand.specs.Opcode.{RESET, READ-ID, GET-FEATURE, SET-FEATURE, WRITE-ENABLE, PAGE-READ, READ-CACHE, BLOCK-ERASE, LOAD-PROGRAM-DATA, PROGRAM-EXECUTE}
use Rattle.spi_nand.specs.declared.config.NandQuadConfig.{NandQuadConfig}

-- the Rust's page_address keeps the 24 low bits
abbrev pub row_address : ℕ → ℕ
row_address page = page % 16777216

-- the Rust's `column as u16` keeps the 16 low bits
abbrev pub column_address : ℕ → ℕ
column_address column = column % 65536

-- `[RESET]`
abbrev pub reset_command : Command
reset_command = Command.Opcode RESET

-- `[READ_ID, 0x00]`
abbrev pub read_id_command : Command
read_id_command = Command.Byte READ-ID 0x00

-- `[GET_FEATURE, register]`
abbrev pub get_feature_command : ℕ → Command
get_feature_command register = Command.Byte GET-FEATURE register

-- `[SET_FEATURE, register, value]`
abbrev pub set_feature_command : ℕ → ℕ → Command
set_feature_command register value = Command.RegisterValue SET-FEATURE register value

-- `[WRITE_ENABLE]`
abbrev pub write_enable_command : Command
write_enable_command = Command.Opcode WRITE-ENABLE

-- `[PAGE_READ, address[0], address[1], address[2]]`
abbrev pub page_read_command : ℕ → Command
page_read_command page = Command.Address PAGE-READ (row_address page)

-- `[READ_CACHE, address[0], address[1], 0x00]`
abbrev pub read_cache_command : ℕ → Command
read_cache_command column = Command.ColumnDummy READ-CACHE (column_address column)

-- `[BLOCK_ERASE, address[0], address[1], address[2]]`
abbrev pub block_erase_command : ℕ → Command
block_erase_command page = Command.Address BLOCK-ERASE (row_address page)

-- `[LOAD_PROGRAM_DATA, address[0], address[1]]`
abbrev pub load_program_data_command : ℕ → Command
load_program_data_command column = Command.Column LOAD-PROGRAM-DATA (column_address column)

-- `[PROGRAM_EXECUTE, address[0], address[1], address[2]]`
abbrev pub program_execute_command : ℕ → Command
program_execute_command page = Command.Address PROGRAM-EXECUTE (row_address page)

-- `[quad.read_cache_opcode, address[0], address[1]]`
abbrev pub quad_read_cache_command : NandQuadConfig → ℕ → Command
quad_read_cache_command quad column = Command.Column quad.read_cache_opcode (column_address column)

-- `[quad.load_program_opcode, address[0], address[1]]`
abbrev pub quad_load_program_data_command : NandQuadConfig → ℕ → Command
quad_load_program_data_command quad column = Command.Column quad.load_program_opcode (column_address column)

-- The NOR's settings, and what a line between two calls makes of them.
use Rattle.std.specs.Prelude.{ℕ, List, codes, Option}
use Rattle.std.specs.Option.{option_map}
use Rattle.case_text.specs.declared.line.Four.{Four}
use Rattle.case_text.specs.declared.line.Line.{Line}
use Rattle.case_text.specs.declared.line.Quad.{Quad}
use Rattle.flash_words.specs.Words.{config_by}
use Rattle.spi_nor.specs.declared.config.NorDeviceInfo.{NorDeviceInfo}
use Rattle.spi_nor.specs.declared.config.NorQuadConfig.{NorQuadConfig}
use Rattle.spi_nor.specs.declared.config.SpiNorConfig.{SpiNorConfig}

-- "device 8388608 4096 65536 256 NOR: a device of the caller's own"
abbrev pub own_name : List ℕ
own_name = codes "device"

-- "tclqv_ns, read opcode, program (load) opcode, margin"
abbrev pub quad_config : Quad → NorQuadConfig
quad_config q = record { tclqv_ns = q.tclqv_ns; read_opcode = q.read_opcode; page_program_opcode = q.program_opcode; dummy_margin = q.margin }

-- "capacity, sector, block, page"
abbrev pub device_info : Four → NorDeviceInfo
device_info n = record { capacity = n.first; sector_size = n.second; block_size = n.third; page_size = n.fourth }

abbrev pub quad_given : SpiNorConfig → Option Quad → SpiNorConfig
quad_given config quad = record config { quad = option_map quad_config quad }

abbrev pub own_given : SpiNorConfig → Option Four → SpiNorConfig
own_given config own = record config { device = option_map device_info own }

-- "Settings may stand between calls and count for the next new"
abbrev pub config_at : SpiNorConfig → Line → SpiNorConfig
config_at = config_by quad_given own_given

-- The NAND's settings, and what a line between two calls makes of them.
use Rattle.std.specs.Prelude.{ℕ, List, codes, Option}
use Rattle.std.specs.Option.{option_map}
use Rattle.case_text.specs.declared.line.Four.{Four}
use Rattle.case_text.specs.declared.line.Line.{Line}
use Rattle.case_text.specs.declared.line.Quad.{Quad}
use Rattle.flash_words.specs.Words.{config_by}
use Rattle.spi_nand.specs.declared.config.NandGeometry.{NandGeometry}
use Rattle.spi_nand.specs.declared.config.NandQuadConfig.{NandQuadConfig}
use Rattle.spi_nand.specs.declared.config.SpiNandConfig.{SpiNandConfig}

-- "geometry 2048 64 64 1024 NAND: page, spare, pages per block, blocks"
abbrev pub own_name : List ℕ
own_name = codes "geometry"

-- "tclqv_ns, read opcode, program (load) opcode, margin"
abbrev pub quad_config : Quad → NandQuadConfig
quad_config q = record { tclqv_ns = q.tclqv_ns; read_cache_opcode = q.read_opcode; load_program_opcode = q.program_opcode; dummy_margin = q.margin }

-- "page, spare, pages per block, blocks"
abbrev pub geometry : Four → NandGeometry
geometry n = record { page_size = n.first; oob_size = n.second; pages_per_block = n.third; block_count = n.fourth }

abbrev pub quad_given : SpiNandConfig → Option Quad → SpiNandConfig
quad_given config quad = record config { quad = option_map quad_config quad }

abbrev pub own_given : SpiNandConfig → Option Four → SpiNandConfig
own_given config own = record config { geometry = option_map geometry own }

-- "Settings may stand between calls and count for the next new"
abbrev pub config_at : SpiNandConfig → Line → SpiNandConfig
config_at = config_by quad_given own_given

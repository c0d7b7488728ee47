-- nand/config.rs, transcribed: its geometries, its id table, its settings.
use Rattle.std.specs.Prelude.{ℕ, ◌*◌, ◌&&◌, ◌==◌, List, [], ◌∷◌, if◌then◌else◌, Some, None}
use Rattle.spi_nand.specs.declared.config.NandGeometry.{NandGeometry}
use Rattle.spi_nand.specs.declared.config.NandJedecId.{NandJedecId}
use Rattle.spi_nand.specs.declared.config.NandQuadConfig.{NandQuadConfig}
use Rattle.spi_nand.specs.declared.config.SpiNandConfig.{SpiNandConfig}

-- NandGeometry::W25N01GV
abbrev pub W25N01GV : NandGeometry
W25N01GV = record { page_size = 2048; oob_size = 64; pages_per_block = 64; block_count = 1024 }

-- NandGeometry::W25N02KV
abbrev pub W25N02KV : NandGeometry
W25N02KV = record { page_size = 2048; oob_size = 128; pages_per_block = 64; block_count = 2048 }

-- NandGeometry::block_size
abbrev pub block_size : NandGeometry → ℕ
block_size g = g.page_size * g.pages_per_block

-- NandGeometry::page_count
abbrev pub page_count : NandGeometry → ℕ
page_count g = g.pages_per_block * g.block_count

-- NandGeometry::capacity
abbrev pub capacity : NandGeometry → ℕ
capacity g = block_size g * g.block_count

-- a row of KNOWN_NAND_DEVICES: manufacturer, device, geometry
pub record Row : Type 0 where
  pub mfg : ℕ
  pub dev : ℕ
  pub geom : NandGeometry

-- KNOWN_NAND_DEVICES
abbrev pub known : List Row
known =
    record { mfg = 0xEF; dev = 0xAA21; geom = W25N01GV }
    ∷ record { mfg = 0xEF; dev = 0xAB21; geom = W25N02KV }
    ∷ record { mfg = 0xC8; dev = 0xD148; geom = W25N01GV }
    ∷ record { mfg = 0xC8; dev = 0xF148; geom = W25N01GV }
    ∷ []

-- from_jedec: its loop over the rows, and what comes behind it
unfoldable pub looked_up : List Row → NandJedecId → NandGeometry
looked_up [] id = W25N01GV
looked_up (row ∷ rows) id = if (id.manufacturer == row.mfg) && (id.device == row.dev) then row.geom else looked_up rows id

-- NandGeometry::from_jedec
unfoldable pub from_jedec : NandJedecId → NandGeometry
from_jedec id = looked_up known id

-- NandQuadConfig::W25N01GV, and so NandQuadConfig::default
abbrev pub quad_default : NandQuadConfig
quad_default = record { tclqv_ns = 10; read_cache_opcode = 0x6B; load_program_opcode = 0x32; dummy_margin = 0 }

-- SpiNandConfig::single, and so SpiNandConfig::default
abbrev pub single : SpiNandConfig
single = record { quad = None; geometry = None }

-- SpiNandConfig::quad
abbrev pub quad : NandQuadConfig → SpiNandConfig
quad q = record { quad = Some q; geometry = None }

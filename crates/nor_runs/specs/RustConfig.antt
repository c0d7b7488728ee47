-- nor/config.rs, transcribed: its devices, its id table, its settings.
use Rattle.std.specs.Prelude.{ℕ, ◌*◌, ◌^◌, ◌&&◌, ◌==◌, leb, List, [], ◌∷◌, if◌then◌else◌, Option, Some, None}
use Rattle.spi_nor.specs.declared.config.NorDeviceInfo.{NorDeviceInfo}
use Rattle.spi_nor.specs.declared.config.NorJedecId.{NorJedecId}
use Rattle.spi_nor.specs.declared.config.NorQuadConfig.{NorQuadConfig}
use Rattle.spi_nor.specs.declared.config.SpiNorConfig.{SpiNorConfig}

-- NorDeviceInfo { capacity, sector_size: NOR_SECTOR_SIZE, block_size: NOR_BLOCK_SIZE_64K, page_size: NOR_PAGE_SIZE }
abbrev pub device : ℕ → NorDeviceInfo
device capacity = record { capacity = capacity; sector_size = 4096; block_size = 65536; page_size = 256 }

-- NorDeviceInfo::W25Q64JV
abbrev pub W25Q64JV : NorDeviceInfo
W25Q64JV = device (8 * 1024 * 1024)

-- NorDeviceInfo::W25Q128JV
abbrev pub W25Q128JV : NorDeviceInfo
W25Q128JV = device (16 * 1024 * 1024)

-- a row of KNOWN_NOR_DEVICES: manufacturer, memory type, capacity code, device
pub record Row : Type 0 where
  pub mfg : ℕ
  pub mem : ℕ
  pub cap : ℕ
  pub info : NorDeviceInfo

-- KNOWN_NOR_DEVICES
abbrev pub known : List Row
known =
    record { mfg = 0xEF; mem = 0x40; cap = 0x17; info = W25Q64JV }
    ∷ record { mfg = 0xEF; mem = 0x40; cap = 0x18; info = W25Q128JV }
    ∷ record { mfg = 0xC8; mem = 0x40; cap = 0x18; info = W25Q128JV }
    ∷ []

-- NorJedecId::capacity_bytes
abbrev pub capacity_bytes : NorJedecId → Option ℕ
capacity_bytes id = if leb 16 id.capacity && leb id.capacity 24 then Some (2 ^ id.capacity) else None

-- from_jedec: `if let Some(capacity) = id.capacity_bytes()`
abbrev pub unknown : Option ℕ → NorDeviceInfo
unknown (Some capacity) = device capacity
unknown None = W25Q128JV

-- from_jedec: its loop over the rows, and what comes behind it
unfoldable pub looked_up : List Row → NorJedecId → NorDeviceInfo
looked_up [] id = unknown (capacity_bytes id)
looked_up (row ∷ rows) id =
    if (id.manufacturer == row.mfg) && (id.memory_type == row.mem) && (id.capacity == row.cap) then row.info else looked_up rows id

-- NorDeviceInfo::from_jedec
unfoldable pub from_jedec : NorJedecId → NorDeviceInfo
from_jedec id = looked_up known id

-- NorQuadConfig::W25Q128JV, and so NorQuadConfig::default
abbrev pub quad_default : NorQuadConfig
quad_default = record { tclqv_ns = 8; read_opcode = 0x6B; page_program_opcode = 0x32; dummy_margin = 0 }

-- SpiNorConfig::single, and so SpiNorConfig::default
abbrev pub single : SpiNorConfig
single = record { quad = None; device = None }

-- SpiNorConfig::quad
abbrev pub quad : NorQuadConfig → SpiNorConfig
quad q = record { quad = Some q; device = None }

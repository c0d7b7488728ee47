-- Geometries, the id table and their bounds (nor/config.rs; docs/SPECIFICATION.md, "Geometry").
use Rattle.std.specs.Prelude.{ℕ, ◌%◌, ◌^◌, Bool, false, ◌&&◌, List, [], ◌∷◌, leb, eqb, Option, Some, None}
use Rattle.std.specs.Option.{unwrap_or}
use Rattle.qspi.specs.Choice.{pick}
use Rattle.spi_flash.specs.Rows.{known_in}
use Rattle.spi_nor.specs.Opcode.{QUAD-READ, QUAD-PAGE-PROGRAM}
use Rattle.spi_nor.specs.declared.config.NorJedecId.{NorJedecId}
use Rattle.spi_nor.specs.declared.config.NorDeviceInfo.{NorDeviceInfo}
use Rattle.spi_nor.specs.declared.config.NorQuadConfig.{NorQuadConfig}
use Rattle.spi_nor.specs.declared.config.SpiNorConfig.{SpiNorConfig}

-- ---- devices

abbrev pub NOR-PAGE-SIZE : ℕ
NOR-PAGE-SIZE = 256

abbrev pub NOR-SECTOR-SIZE : ℕ
NOR-SECTOR-SIZE = 4096

abbrev pub NOR-BLOCK-SIZE-64K : ℕ
NOR-BLOCK-SIZE-64K = 65536

abbrev pub NOR-READ-SIZE : ℕ
NOR-READ-SIZE = 1

-- the geometry of every device of nor/config.rs, but for its capacity
abbrev pub standard_device : ℕ → NorDeviceInfo
standard_device capacity =
    record { capacity = capacity; sector_size = NOR-SECTOR-SIZE; block_size = NOR-BLOCK-SIZE-64K; page_size = NOR-PAGE-SIZE }

-- NorDeviceInfo::W25Q64JV: 8 * 1024 * 1024
abbrev pub w25q64jv : NorDeviceInfo
w25q64jv = standard_device 8388608

-- NorDeviceInfo::W25Q128JV: 16 * 1024 * 1024
abbrev pub w25q128jv : NorDeviceInfo
w25q128jv = standard_device 16777216

-- ---- identification

abbrev pub jedec_id : ℕ → ℕ → ℕ → NorJedecId
jedec_id manufacturer memory_type capacity = record { manufacturer = manufacturer; memory_type = memory_type; capacity = capacity }

-- KNOWN_NOR_DEVICES
abbrev pub known_nor_devices : List (NorJedecId × NorDeviceInfo)
known_nor_devices =
    (jedec_id 0xEF 0x40 0x17, w25q64jv)
    ∷ (jedec_id 0xEF 0x40 0x18, w25q128jv)
    ∷ (jedec_id 0xC8 0x40 0x18, w25q128jv)
    ∷ []

-- NorJedecId::capacity_bytes
unfoldable pub capacity_bytes_of : NorJedecId → Option ℕ
capacity_bytes_of id =
    pick (leb 16 id.capacity)
    (pick (leb id.capacity 24) (Some (2 ^ id.capacity)) None)
    None

-- from_jedec's last lines: a part that the table lacks goes by its capacity code, else it is a W25Q128JV
abbrev pub unknown_device : Option ℕ → NorDeviceInfo
unknown_device (Some capacity) = standard_device capacity
unknown_device None = w25q128jv

abbrev pub same_id : NorJedecId → NorJedecId → Bool
same_id a b = eqb a.manufacturer b.manufacturer && eqb a.memory_type b.memory_type && eqb a.capacity b.capacity

-- NorDeviceInfo::from_jedec
unfoldable pub from_jedec : NorJedecId → NorDeviceInfo
from_jedec id = unwrap_or (known_in same_id known_nor_devices id) (unknown_device (capacity_bytes_of id))

-- ---- bounds

abbrev pub largest_capacity : ℕ
largest_capacity = 16777216

abbrev pub largest_page : ℕ
largest_page = 65536

-- whether the driver takes a caller's own geometry (docs/SPECIFICATION.md, "Geometry"); `InBounds` says what it comes to
unfoldable pub in_bounds_of : NorDeviceInfo → Bool
in_bounds_of d =
    pick (leb d.capacity largest_capacity)
    (pick (leb 1 d.page_size)
    (pick (leb d.page_size largest_page)
    (pick (leb 1 d.sector_size)
    (pick (leb 1 d.block_size)
    (pick (leb d.block_size largest_capacity) (eqb (d.block_size % d.sector_size) 0) false)
    false)
    false)
    false)
    false)
    false

-- ---- settings

-- NorQuadConfig::W25Q128JV
abbrev pub quad_w25q128jv : NorQuadConfig
quad_w25q128jv = record { tclqv_ns = 8; read_opcode = QUAD-READ; page_program_opcode = QUAD-PAGE-PROGRAM; dummy_margin = 0 }

-- SpiNorConfig::single, and SpiNorConfig::default
abbrev pub single_config : SpiNorConfig
single_config = record { quad = None; device = None }

-- SpiNorConfig::quad
abbrev pub quad_config : NorQuadConfig → SpiNorConfig
quad_config quad = record { quad = Some quad; device = None }

-- Geometry and settings (nand/config.rs; docs/SPECIFICATION.md, "Geometry").
use Rattle.std.specs.Prelude.{ℕ, ◌+◌, ◌-◌, ◌*◌, ◌^◌, min, Bool, ◌&&◌, List, [], ◌∷◌, get_or, leb, eqb, Option, Some, None}
use Rattle.std.specs.Int.Bits.{bit_or}
use Rattle.std.specs.Option.{unwrap_or}
use Rattle.spi_flash.specs.Rows.{known_in}
use Rattle.spi_nand.specs.Opcode.{QUAD-READ-CACHE, QUAD-LOAD-PROGRAM-DATA}
use Rattle.spi_nand.specs.Status.{ECC-ENABLE, BUFFER-READ, QUAD-ENABLE, OPERATIONAL, configuration_of, configuration_byte, with_bits, protection_of}
use Rattle.spi_nand.specs.declared.config.NandJedecId.{NandJedecId}
use Rattle.spi_nand.specs.declared.config.NandGeometry.{NandGeometry}
use Rattle.spi_nand.specs.declared.config.NandQuadConfig.{NandQuadConfig}
use Rattle.spi_nand.specs.declared.config.SpiNandConfig.{SpiNandConfig}
use Rattle.spi_nand.specs.declared.config.NandInit.{NandInit}
use Rattle.spi_nand.specs.declared.status.Configuration.{Configuration}

-- ---- the id

-- the Rust's from_bytes: the manufacturer, then the device in two bytes, highest first
unfoldable pub jedec_id_of : List ℕ → NandJedecId
jedec_id_of bytes = record { manufacturer = get_or bytes 0 0; device = get_or bytes 1 0 * 256 + get_or bytes 2 0 }

-- ---- geometries

abbrev pub geometry_of : (page spare per_block blocks : ℕ) → NandGeometry
geometry_of page spare per_block blocks =
    record { page_size = page; oob_size = spare; pages_per_block = per_block; block_count = blocks }

-- the Rust's NandGeometry::W25N01GV and NandGeometry::W25N02KV
abbrev pub W25N01GV : NandGeometry
W25N01GV = geometry_of 2048 64 64 1024

abbrev pub W25N02KV : NandGeometry
W25N02KV = geometry_of 2048 128 64 2048

-- the largest usize of a 64-bit build, where a product stops that would be more
abbrev pub usize_max : ℕ
usize_max = 2 ^ 64 - 1

abbrev pub saturating : ℕ → ℕ
saturating n = min n usize_max

-- the Rust's block_size, page_count and capacity
unfoldable pub block_size_of : NandGeometry → ℕ
block_size_of g = saturating (g.page_size * g.pages_per_block)

unfoldable pub page_count_of : NandGeometry → ℕ
page_count_of g = saturating (g.pages_per_block * g.block_count)

unfoldable pub capacity_of : NandGeometry → ℕ
capacity_of g = saturating (g.page_size * g.pages_per_block * g.block_count)

-- the Rust's `page_size + oob_size` and `block * pages_per_block`
unfoldable pub cache_size_of : NandGeometry → ℕ
cache_size_of g = saturating (g.page_size + g.oob_size)

unfoldable pub first_page_of : NandGeometry → ℕ → ℕ
first_page_of g block = saturating (block * g.pages_per_block)

-- whether the driver takes a caller's own geometry; `Bounded` says what it comes to
unfoldable pub in_bounds : NandGeometry → Bool
in_bounds g =
    leb 1 g.page_size && leb 1 g.pages_per_block && leb 1 g.block_count
    && leb (g.page_size + g.oob_size) 65535
    && leb (g.pages_per_block * g.block_count) 16777216

-- ---- known ids

-- a row of the Rust's KNOWN_NAND_DEVICES
abbrev pub KnownNand : Type 0
KnownNand = NandJedecId × NandGeometry

abbrev pub known : ℕ → ℕ → NandGeometry → KnownNand
known m d g = (record { manufacturer = m; device = d }, g)

-- departs from the datasheets: this id is a W25M02GV's, and a W25N02KV answers EF AA 22
abbrev pub rust_w25n02kv : KnownNand
rust_w25n02kv = known 0xEF 0xAB21 W25N02KV

abbrev pub known_nand_devices : List KnownNand
known_nand_devices =
    known 0xEF 0xAA21 W25N01GV
    ∷ rust_w25n02kv
    ∷ known 0xC8 0xD148 W25N01GV
    ∷ known 0xC8 0xF148 W25N01GV
    ∷ []

abbrev pub same_id : NandJedecId → NandJedecId → Bool
same_id a b = eqb a.manufacturer b.manufacturer && eqb a.device b.device

-- NandGeometry::from_jedec: a part that the table lacks is a W25N01GV
unfoldable pub from_jedec : NandJedecId → NandGeometry
from_jedec id = unwrap_or (known_in same_id known_nand_devices id) W25N01GV

-- ---- settings

-- the Rust's NandQuadConfig::W25N01GV
abbrev pub QUAD-W25N01GV : NandQuadConfig
QUAD-W25N01GV =
    record {
      tclqv_ns = 10;
      read_cache_opcode = QUAD-READ-CACHE;
      load_program_opcode = QUAD-LOAD-PROGRAM-DATA;
      dummy_margin = 0;
    }

-- the Rust's `None` and `Some`
abbrev pub single_config : SpiNandConfig
single_config = record { quad = None; geometry = None }

abbrev pub quad_config : NandQuadConfig → SpiNandConfig
quad_config q = record { quad = Some q; geometry = None }

abbrev pub with_quad : Option NandQuadConfig → Configuration → Configuration
with_quad None c = c
with_quad (Some q) c = with_bits c QUAD-ENABLE QUAD-ENABLE

-- ensure_configuration's `wanted`, of the configuration register as it was read
unfoldable pub wanted_for : SpiNandConfig → Configuration → Configuration
wanted_for config before = with_quad config.quad (with_bits before (bit_or ECC-ENABLE BUFFER-READ) (configuration_byte OPERATIONAL))

-- the Rust's NandInit::UNKNOWN
abbrev pub UNKNOWN : NandInit
UNKNOWN =
    record {
      id = record { manufacturer = 0; device = 0 };
      configuration_before = configuration_of 0;
      configuration_after = configuration_of 0;
      protection_before = protection_of 0;
    }

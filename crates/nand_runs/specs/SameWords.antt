-- The driver and the transcription of the Rust name the same sums, pieces, tests and transfers twice, each in its own words. Inside the
-- bounds (docs/SPECIFICATION.md, "Geometry") the driver's come to the Rust's.
use Rattle.std.specs.Prelude.{ℕ, ◌+◌, ◌-◌, ◌*◌, ◌/◌, ◌%◌, ◌≤◌, ◌<◌, ◌≡◌, min, true, eqb, [], ◌∷◌}
use Rattle.qspi.specs.Bytes.{number_of}
use Rattle.qspi.specs.Command.{command_bytes}
use Rattle.qspi.specs.Transfer.{command_only}
use Rattle.qspi.specs.declared.command.Command.{Command}
use Rattle.qspi.specs.declared.transfer.Body.{Body}
use Rattle.qspi.specs.declared.transfer.Payload.{Payload}
use Rattle.qspi.specs.declared.transfer.Sink.{Sink}
use Rattle.qspi.specs.declared.transfer.Transfer.{Transfer}
use Rattle.spi_flash.specs.Number.{number_transfer}
use Rattle.spi_nand.specs.Command.{read_id_command, get_feature_command, quad_read_cache_command, quad_load_program_data_command}
use Rattle.spi_nand.specs.Config as Config
use Rattle.spi_nand.specs.Config.{in_bounds, jedec_id_of, block_size_of, page_count_of, capacity_of, cache_size_of, first_page_of, QUAD-W25N01GV, single_config, quad_config}
use Rattle.spi_nand.specs.Datasheet as sheet
use Rattle.spi_nand.specs.Status.{busy_value, busy_of, status_of, configuration_of, same_configuration}
use Rattle.spi_nand.specs.Transfer.{register_transfer, id_transfer, cache_read_transfer, cache_load_transfer, in_cache, in_range, place_of, page_at, column_at, chunk_of, filler_of}
use Rattle.spi_nand.specs.declared.config.NandGeometry.{NandGeometry}
use Rattle.spi_nand.specs.declared.config.NandJedecId.{NandJedecId}
use Rattle.spi_nand.specs.declared.config.NandQuadConfig.{NandQuadConfig}
use Rattle.spi_nand.specs.declared.config.SpiNandConfig.{SpiNandConfig}
use Rattle.nand_steps.specs.Register as Register
use Rattle.nand_steps.specs.Register.{id_of, geometry_for}
use Rattle.nand_driver.specs.Call.{fresh_setup}
use Rattle.nand_runs.specs.RustConfig.{W25N01GV, W25N02KV, block_size, page_count, capacity, from_jedec, quad_default, single, quad}
use Rattle.nand_runs.specs.Rust.{MAX-VERIFY-PAGE-SIZE, FF-CHUNK-LEN, checked_add, ends_within, id-of, cache-read, cache-load, resolved}

-- of a geometry within the bounds
pub record SameIn (g : NandGeometry) : Type 0 where
  -- block_size, page_count, capacity, `page_size + oob_size`
  pub block_bytes : block_size_of g ≡ block_size g
  pub all_pages : page_count_of g ≡ page_count g
  pub all_bytes : capacity_of g ≡ capacity g
  pub cache_bytes : cache_size_of g ≡ g.page_size + g.oob_size
  -- fn erase_block, fn is_bad_block, fn mark_bad_block: the first page of a block
  pub first_page : (block : ℕ) → block < g.block_count → first_page_of g block ≡ block * g.pages_per_block
  -- fn check_cache_range, fn check_range
  pub caches : (column n : ℕ) → in_cache g column n ≡ ends_within (g.page_size + g.oob_size) (checked_add column n)
  pub ranges : (offset n : ℕ) → in_range g offset n ≡ ends_within (capacity g) (checked_add offset n)
  -- fn read: the place of a piece, its page, its column and its length
  pub places : (offset done : ℕ) → offset + done ≤ capacity g → place_of offset done ≡ offset + done
  pub page : (address : ℕ) → page_at g address ≡ address / g.page_size
  pub column : (address : ℕ) → column_at g address ≡ address % g.page_size
  pub pieces : (offset len done : ℕ) → offset + done ≤ capacity g → chunk_of g offset len done ≡ min (g.page_size - (offset + done) % g.page_size) (len - done)
  -- fn mark_bad_block: a chunk of filler
  pub fillers : (column : ℕ) → filler_of g column ≡ min (g.page_size - column) FF-CHUNK-LEN

pub record SameWords : Type 0 where
  pub inside : (g : NandGeometry) → in_bounds g ≡ true → SameIn g
  -- fn command and fn command_then_read: their frames
  pub commands : (command : Command) → command_only command ≡ Transfer.Framed command Body.None
  pub numbers : (command : Command) (n : ℕ) → number_transfer command n ≡ Transfer.Framed command (Body.Read n Sink.Number)
  -- fn read_register, fn jedec_id, fn read_cache, fn load_program_data: their frames
  pub registers : (register : ℕ) → register_transfer register ≡ number_transfer (get_feature_command register) 1
  pub identification : id_transfer ≡ number_transfer read_id_command 3
  pub reads : (config : SpiNandConfig) (column n : ℕ) (sink : Sink) → cache_read_transfer config column n sink ≡ cache-read config.quad column n sink
  pub loads : (config : SpiNandConfig) (column : ℕ) (payload : Payload) → cache_load_transfer config column payload ≡ cache-load config.quad column payload
  -- fn wait_ready: the bit in the byte that was read
  pub busy : (b : ℕ) → b < 256 → busy_value b ≡ busy_of (status_of b)
  -- fn ensure_configuration: registers are compared by their whole bytes
  pub compared : (a b : ℕ) → same_configuration (configuration_of a) (configuration_of b) ≡ eqb a b
  -- fn read_cache, fn load_program_data: with any quad config, its own opcodes and the column in two bytes
  pub quad_reads : (q : NandQuadConfig) (column : ℕ) → command_bytes (quad_read_cache_command q column) ≡ q.read_cache_opcode ∷ column / 256 % 256 ∷ column % 256 ∷ []
  pub quad_loads : (q : NandQuadConfig) (column : ℕ) → command_bytes (quad_load_program_data_command q column) ≡ q.load_program_opcode ∷ column / 256 % 256 ∷ column % 256 ∷ []
  -- NandJedecId::from_bytes
  pub bytes : (a b c : ℕ) → a < 256 → b < 256 → c < 256 → id-of (number_of (a ∷ b ∷ c ∷ [])) ≡ jedec_id_of (a ∷ b ∷ c ∷ [])
  pub ids : (v : ℕ) → id_of v ≡ id-of v
  -- NandGeometry::from_jedec
  pub geometries : (id : NandJedecId) → Config.from_jedec id ≡ from_jedec id
  pub w25n01gv : Config.W25N01GV ≡ W25N01GV
  pub w25n02kv : Config.W25N02KV ≡ W25N02KV
  -- the three bytes of a W25N01GV's id give its geometry; those of a W25N02KV are no row of the Rust's table (docs/DIFFERENCES.md)
  pub w25n01gv_known : from_jedec (id-of (number_of (sheet.identification sheet.w25n01gv))) ≡ W25N01GV
  -- fn with_config: the limit of a page, and the geometry once the id is read
  pub page_limit : Register.MAX-VERIFY-PAGE-SIZE ≡ MAX-VERIFY-PAGE-SIZE
  pub held : (config : SpiNandConfig) (id : NandJedecId) → geometry_for (fresh_setup config) id ≡ resolved config.geometry id
  -- NandQuadConfig::default, SpiNandConfig::single, SpiNandConfig::quad
  pub quad_numbers : QUAD-W25N01GV ≡ quad_default
  pub single_line : single_config ≡ single
  pub four_lines : (q : NandQuadConfig) → quad_config q ≡ quad q

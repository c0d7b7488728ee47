-- The status registers (nor/driver.rs: with_config, quad_enabled, disable_quad), cut where they use the bus.
use Rattle.std.specs.Prelude.{ℕ, ◌/◌, ◌%◌, true, leb, Err, Option, Some, None}
use Rattle.spi_nor.specs.declared.config.NorQuadConfig.{NorQuadConfig}
use Rattle.qspi.specs.Choice.{pick}
use Rattle.spi_flash.specs.declared.error.FlashError.{FlashError}
use Rattle.spi_nor.specs.Status.{quad_enabled1_of, quad_enabled2_of}
use Rattle.spi_nor.specs.Config.{from_jedec, jedec_id}
use Rattle.spi_nor.specs.declared.config.NorDeviceInfo.{NorDeviceInfo}
use Rattle.spi_nor.specs.declared.config.NorJedecId.{NorJedecId}
use Rattle.spi_nor.specs.declared.phase.Phase.{Phase}
use Rattle.spi_nor.specs.declared.phase.Task.{Task}
use Rattle.spi_nor.specs.declared.answer.Answer.{Answer}
use Rattle.spi_nor.specs.declared.setup.Setup.{Setup}
use Rattle.nor_steps.specs.Then.{Then}
use Rattle.nor_steps.specs.Go.{end_with, read1_then, read2_then, enabled_then}

-- MAX_VERIFY_PAGE_SIZE
abbrev pub MAX-VERIFY-PAGE-SIZE : ℕ
MAX-VERIFY-PAGE-SIZE = 512

-- jedec_id's three bytes
abbrev pub id_of : ℕ → NorJedecId
id_of v = jedec_id (v / 65536 % 256) (v / 256 % 256) (v % 256)

-- with_config: the caller's own device stays; else it is that of the id
abbrev pub device_at : Option NorDeviceInfo → NorDeviceInfo → NorJedecId → NorDeviceInfo
device_at None device id = from_jedec id
device_at (Some own) device id = device

-- with_config: `if config.device.is_none() { flash.device = from_jedec(id) }`
unfoldable pub device_for : Setup → NorJedecId → NorDeviceInfo
device_for setup id = device_at setup.config.device setup.device id

-- with_config: what the struct holds once the id has been read
abbrev pub known_as : Setup → ℕ → Setup
known_as setup v = record { config = setup.config; device = device_for setup (id_of v); id = id_of v }

-- with_config: `if config.quad.is_some() { flash.enable_quad()?; }`
abbrev pub built_then : Option NorQuadConfig → Setup → Then
built_then None setup = end_with setup Answer.Done
built_then (Some q) setup = read2_then setup Phase.EnableCheck2

-- with_config: `if flash.device.page_size > MAX_VERIFY_PAGE_SIZE`, once the id has been read
unfoldable pub identified_then : Setup → ℕ → Then
identified_then setup v =
    pick (leb (device_for setup (id_of v)).page_size MAX-VERIFY-PAGE-SIZE)
    (built_then setup.config.quad (known_as setup v))
    (Err FlashError.NotSupported)

-- quad_enabled: `if self.read_status2()? & status::QE_SR2 != 0 { return Ok(true); }`
abbrev pub quad_flag : Setup → ℕ → Then
quad_flag setup status2 = pick (quad_enabled2_of status2) (end_with setup (Answer.Flag true)) (read1_then setup Phase.QuadEnabled1)

-- disable_quad: `if status2 & status::QE_SR2 != 0`
abbrev pub disable_first : Setup → ℕ → Then
disable_first setup status2 = pick (quad_enabled2_of status2) (enabled_then setup (Task.DisableQuad2 status2)) (read1_then setup Phase.DisableRead1)

-- disable_quad: `if status1 & status::QE_SR1 == 0 { return Ok(()); }`
abbrev pub disable_second : Setup → ℕ → Then
disable_second setup status1 = pick (quad_enabled1_of status1) (enabled_then setup (Task.DisableQuad1 status1)) (end_with setup Answer.Done)

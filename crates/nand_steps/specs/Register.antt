-- The feature registers (nand/driver.rs: bring_up, ensure_configuration, unprotect, disable_quad), cut where they use the bus.
use Rattle.std.specs.Prelude.{ℕ, ◌/◌, ◌%◌, Bool, true, false, leb, Err, Option, Some, None}
use Rattle.qspi.specs.Choice.{pick}
use Rattle.spi_flash.specs.declared.error.FlashError.{FlashError}
use Rattle.spi_nand.specs.Config.{from_jedec, wanted_for}
use Rattle.spi_nand.specs.Opcode.{REG-CONFIGURATION, REG-BLOCK-PROTECTION}
use Rattle.spi_nand.specs.Status.{QUAD-ENABLE, configuration_byte, quad_enabled_of, with_bits, same_configuration, UNPROTECTED, is_unlocked}
use Rattle.spi_nand.specs.declared.config.NandGeometry.{NandGeometry}
use Rattle.spi_nand.specs.declared.config.NandJedecId.{NandJedecId}
use Rattle.spi_nand.specs.declared.status.Configuration.{Configuration}
use Rattle.spi_nand.specs.declared.status.Protection.{Protection}
use Rattle.spi_nand.specs.declared.answer.Answer.{Answer}
use Rattle.spi_nand.specs.BringUp.{in_bring_up}
use Rattle.spi_nand.specs.Setup.{identified_as, with_before, with_protection, with_after}
use Rattle.spi_nand.specs.declared.phase.Asked.{Asked}
use Rattle.spi_nand.specs.declared.phase.EnableFor.{EnableFor}
use Rattle.spi_nand.specs.declared.phase.RegisterFor.{RegisterFor}
use Rattle.spi_nand.specs.declared.setup.Setup.{Setup}
use Rattle.nand_steps.specs.Go.{end_with, done, ask, enable}
use Rattle.nand_steps.specs.Then.{Then}

-- MAX_VERIFY_PAGE_SIZE
abbrev pub MAX-VERIFY-PAGE-SIZE : ℕ
MAX-VERIFY-PAGE-SIZE = 4096

-- ---- bring_up

-- jedec_id's three bytes: the manufacturer, then the device in two
abbrev pub id_of : ℕ → NandJedecId
id_of v = record { manufacturer = v / 65536 % 256; device = v % 65536 }

abbrev pub geometry_at : Option NandGeometry → NandGeometry → NandJedecId → NandGeometry
geometry_at None geometry id = from_jedec id
geometry_at (Some own) geometry id = geometry

-- with_config: `if config.geometry.is_none() { flash.geometry = from_jedec(id) }`
unfoldable pub geometry_for : Setup → NandJedecId → NandGeometry
geometry_for setup id = geometry_at setup.config.geometry setup.geometry id

-- differs from the Rust, which goes on where a page is too large for its read-back
unfoldable pub identified_then : Setup → NandJedecId → Then
identified_then setup id =
    pick (leb (geometry_for setup id).page_size MAX-VERIFY-PAGE-SIZE)
    (ask (identified_as setup (geometry_for setup id) id) REG-CONFIGURATION (Asked.Configure in_bring_up))
    (Err FlashError.NotSupported)

-- the last read of bring_up
abbrev pub brought_up : Setup → Configuration → Then
brought_up setup after = done (with_after setup after)

-- ---- ensure_configuration

unfoldable pub configured_then : Setup → Configuration → Bool → Then
configured_then setup before false = end_with setup (Answer.Configuration before)
configured_then setup before true = ask (with_before setup before) REG-BLOCK-PROTECTION (Asked.Unprotect in_bring_up)

-- `if wanted != before { self.write_register(..)? .. }`
unfoldable pub configure_then : Setup → Configuration → Bool → Then
configure_then setup before bring_up =
    pick (same_configuration (wanted_for setup.config before) before) (configured_then setup before bring_up)
    (enable setup (EnableFor.Register REG-CONFIGURATION (configuration_byte (wanted_for setup.config before)) (RegisterFor.Configure before bring_up)))

-- `if self.read_configuration()? != wanted`
unfoldable pub check_configuration : Setup → Configuration → Bool → Configuration → Then
check_configuration setup before bring_up after =
    pick (same_configuration after (wanted_for setup.config before)) (configured_then setup before bring_up) (Err FlashError.NotSupported)

-- ---- unprotect

unfoldable pub unprotected_then : Setup → Protection → Bool → Then
unprotected_then setup before false = end_with setup (Answer.Protection before)
unprotected_then setup before true = ask (with_protection setup before) REG-CONFIGURATION Asked.BroughtUp

unfoldable pub unprotect_then : Setup → Protection → Bool → Then
unprotect_then setup before bring_up =
    pick (is_unlocked before) (unprotected_then setup before bring_up)
    (enable setup (EnableFor.Register REG-BLOCK-PROTECTION UNPROTECTED (RegisterFor.Unprotect before bring_up)))

-- ---- disable_quad

unfoldable pub disable_quad : Setup → Configuration → Then
disable_quad setup before =
    pick (quad_enabled_of before)
    (enable setup (EnableFor.Register REG-CONFIGURATION (configuration_byte (with_bits before QUAD-ENABLE 0)) RegisterFor.DisableQuad))
    (done setup)

unfoldable pub quad_disabled : Setup → Configuration → Then
quad_disabled setup after = pick (quad_enabled_of after) (Err FlashError.NotSupported) (done setup)

-- ---- behind write_register

unfoldable pub written_then : Setup → RegisterFor → Then
written_then setup RegisterFor.Call = done setup
written_then setup (RegisterFor.Configure before bring_up) = ask setup REG-CONFIGURATION (Asked.Configured before bring_up)
written_then setup RegisterFor.DisableQuad = ask setup REG-CONFIGURATION Asked.QuadDisabled
written_then setup (RegisterFor.Unprotect before bring_up) = unprotected_then setup before bring_up

-- What the Rust's struct holds beside its bus, and how bring_up puts down what it finds.
use Rattle.spi_nand.specs.declared.config.NandGeometry.{NandGeometry}
use Rattle.spi_nand.specs.declared.config.NandInit.{NandInit}
use Rattle.spi_nand.specs.declared.config.NandJedecId.{NandJedecId}
use Rattle.spi_nand.specs.declared.config.SpiNandConfig.{SpiNandConfig}
use Rattle.spi_nand.specs.declared.status.Configuration.{Configuration}
use Rattle.spi_nand.specs.declared.status.Protection.{Protection}
use Rattle.spi_nand.specs.declared.setup.Setup.{Setup}

-- NandInit
abbrev pub init_of : NandJedecId → Configuration → Configuration → Protection → NandInit
init_of id before after protection =
    record { id = id; configuration_before = before; configuration_after = after; protection_before = protection }

abbrev pub setup_of : SpiNandConfig → NandGeometry → NandInit → Setup
setup_of config geometry init = record { config = config; geometry = geometry; init = init }

abbrev pub identified_as : Setup → NandGeometry → NandJedecId → Setup
identified_as s geometry id =
    setup_of s.config geometry (init_of id s.init.configuration_before s.init.configuration_after s.init.protection_before)

abbrev pub with_before : Setup → Configuration → Setup
with_before s before = setup_of s.config s.geometry (init_of s.init.id before s.init.configuration_after s.init.protection_before)

abbrev pub with_protection : Setup → Protection → Setup
with_protection s protection =
    setup_of s.config s.geometry (init_of s.init.id s.init.configuration_before s.init.configuration_after protection)

abbrev pub with_after : Setup → Configuration → Setup
with_after s after = setup_of s.config s.geometry (init_of s.init.id s.init.configuration_before after s.init.protection_before)

-- The settings for the next new ("Settings may stand between calls and count for the next new"), in the one or the other driver's words.
use Rattle.case_text.specs.declared.line.Line.{Line}
use Rattle.flash_calls.specs.declared.call.Kind.{Kind}
use Rattle.spi_nor.specs.Config as nor
use Rattle.spi_nand.specs.Config as nand
use Rattle.flash_words.specs.NorSetting as nor_setting
use Rattle.flash_words.specs.NandSetting as nand_setting
use Rattle.flash_turns.specs.declared.settings.Settings.{Settings}

-- "none at first"
abbrev pub none_of : Kind → Settings
none_of Kind.Nor = Settings.Nor nor.single_config
none_of Kind.Nand = Settings.Nand nand.single_config

abbrev pub settled_by : Settings → Line → Settings
settled_by (Settings.Nor config) line = Settings.Nor (nor_setting.config_at config line)
settled_by (Settings.Nand config) line = Settings.Nand (nand_setting.config_at config line)

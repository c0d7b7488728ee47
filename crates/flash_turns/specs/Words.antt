-- A line and a call, in the one or the other driver's words ("In").
use Rattle.std.specs.Prelude.{ℕ, List, Option}
use Rattle.case_text.specs.Line.{read_at}
use Rattle.case_text.specs.declared.line.Line.{Line}
use Rattle.flash_words.specs.declared.asked.Asked.{Asked}
use Rattle.flash_words.specs.NorName as nor
use Rattle.flash_words.specs.NorSetting as nor_setting
use Rattle.flash_words.specs.NandName as nand
use Rattle.flash_words.specs.NandSetting as nand_setting
use Rattle.flash_turns.specs.declared.settings.Settings.{Settings}

-- the line that begins at a place
unfoldable pub line_of : List ℕ → ℕ → Settings → Option Line
line_of text at (Settings.Nor config) = read_at text at nor_setting.own_name
line_of text at (Settings.Nand config) = read_at text at nand_setting.own_name

-- "call new: a call, with its numbers"
abbrev pub asked_of : List ℕ → Settings → ℕ → Option Asked
asked_of line (Settings.Nor config) room = nor.asked_of line config room
asked_of line (Settings.Nand config) room = nand.asked_of line config room

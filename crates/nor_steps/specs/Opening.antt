-- How each call begins (nor/driver.rs), with a buffer and data of these lengths.
use Rattle.std.specs.Prelude.{ℕ, Option, Some, None}
use Rattle.machine.specs.Then.{plain, filling, sending}
use Rattle.machine.specs.declared.then.Opening.{Opening}
use Rattle.spi_nor.specs.Config.{w25q128jv, single_config, jedec_id}
use Rattle.spi_nor.specs.declared.config.NorDeviceInfo.{NorDeviceInfo}
use Rattle.spi_nor.specs.declared.config.SpiNorConfig.{SpiNorConfig}
use Rattle.spi_nor.specs.declared.answer.Answer.{Answer}
use Rattle.spi_nor.specs.declared.call.Call.{Call}
use Rattle.spi_nor.specs.declared.phase.EraseKind.{EraseKind}
use Rattle.spi_nor.specs.declared.phase.Phase.{Phase}
use Rattle.spi_nor.specs.declared.setup.Setup.{Setup}
use Rattle.nor_steps.specs.Go.{read1_then, read2_then, read_id_then, read_unique_id_then}
use Rattle.nor_steps.specs.Read.{read_then}
use Rattle.nor_steps.specs.Write.{write_then}
use Rattle.nor_steps.specs.Erase.{erase_then, erase_one}

-- the device of a setting, where one is given
abbrev pub given_at : Option NorDeviceInfo → NorDeviceInfo
given_at None = w25q128jv
given_at (Some device) = device

-- with_config: `config.device.unwrap_or(NorDeviceInfo::W25Q128JV)`
abbrev pub given_device : SpiNorConfig → NorDeviceInfo
given_device config = given_at config.device

-- with_config: the struct before the id is known
abbrev pub fresh_setup : SpiNorConfig → Setup
fresh_setup config = record { config = config; device = given_device config; id = jedec_id 0 0 0 }

-- what the call is to a driver at rest that holds this: the first transfer of each of the Rust's calls, or the Rust's own refusal
unfoldable pub opening_of : Setup → Call → ℕ → ℕ → Opening Setup Phase Answer
opening_of setup Call.New b d = Opening.Constructs (fresh_setup single_config)
opening_of setup (Call.WithConfig config) b d = Opening.Constructs (fresh_setup config)
opening_of setup Call.Config b d = Opening.Tells (Answer.Config setup.config)
opening_of setup Call.Device b d = Opening.Tells (Answer.Device setup.device)
opening_of setup Call.Id b d = Opening.Tells (Answer.Id setup.id)
opening_of setup Call.Free b d = Opening.Releases
opening_of setup Call.ReadStatus1 b d = plain (read1_then setup Phase.Status1)
opening_of setup Call.ReadStatus2 b d = plain (read2_then setup Phase.Status2)
opening_of setup Call.IsBusy b d = plain (read1_then setup Phase.Busy)
opening_of setup Call.JedecId b d = plain (read_id_then setup Phase.JedecId)
opening_of setup Call.UniqueId b d = plain (read_unique_id_then setup Phase.UniqueId)
opening_of setup Call.QuadEnabled b d = plain (read2_then setup Phase.QuadEnabled2)
opening_of setup Call.EnableQuad b d = plain (read2_then setup Phase.EnableCheck2)
opening_of setup Call.DisableQuad b d = plain (read2_then setup Phase.DisableRead2)
opening_of setup (Call.Read offset) b d = filling b (read_then setup offset b)
opening_of setup (Call.Write offset) b d = sending d (write_then setup offset d)
opening_of setup Call.Unprotect b d = plain (read1_then setup Phase.UnprotectRead1)
opening_of setup (Call.Erase from to) b d = plain (erase_then setup from to)
opening_of setup (Call.EraseSector offset) b d = plain (erase_one setup EraseKind.Sector offset)
opening_of setup (Call.EraseBlock offset) b d = plain (erase_one setup EraseKind.Block offset)

-- How each call begins (nand/driver.rs), with a buffer and data of these lengths.
use Rattle.std.specs.Prelude.{ℕ, Option, Some, None}
use Rattle.qspi.specs.declared.transfer.Payload.{Payload}
use Rattle.qspi.specs.declared.transfer.Sink.{Sink}
use Rattle.machine.specs.Then.{plain, filling, sending}
use Rattle.machine.specs.declared.then.Opening.{Opening}
use Rattle.spi_nand.specs.Config.{W25N01GV, single_config, UNKNOWN}
use Rattle.spi_nand.specs.declared.config.NandGeometry.{NandGeometry}
use Rattle.spi_nand.specs.declared.config.SpiNandConfig.{SpiNandConfig}
use Rattle.spi_nand.specs.Opcode.{REG-STATUS, REG-CONFIGURATION, REG-BLOCK-PROTECTION}
use Rattle.spi_nand.specs.declared.answer.Answer.{Answer}
use Rattle.spi_nand.specs.BringUp.{its_own}
use Rattle.spi_nand.specs.declared.call.Call.{Call}
use Rattle.spi_nand.specs.declared.phase.Asked.{Asked}
use Rattle.spi_nand.specs.declared.phase.EnableFor.{EnableFor}
use Rattle.spi_nand.specs.declared.phase.EraseFor.{EraseFor}
use Rattle.spi_nand.specs.declared.phase.LoadFor.{LoadFor}
use Rattle.spi_nand.specs.declared.phase.MarkerFor.{MarkerFor}
use Rattle.spi_nand.specs.declared.phase.Phase.{Phase}
use Rattle.spi_nand.specs.declared.phase.ProgramFor.{ProgramFor}
use Rattle.spi_nand.specs.declared.phase.RegisterFor.{RegisterFor}
use Rattle.spi_nand.specs.declared.phase.ResetFor.{ResetFor}
use Rattle.spi_nand.specs.declared.setup.Setup.{Setup}
use Rattle.nand_steps.specs.Block.{erase_then}
use Rattle.nand_steps.specs.Cache.{read_cache_then, load_program_then}
use Rattle.nand_steps.specs.Go.{ask, ask_id, reset, enable}
use Rattle.nand_steps.specs.Page.{page_read_then, is_bad_then, program_then, read_page_then, write_page_then}
use Rattle.nand_steps.specs.Read.{read_then}

-- with_config: what stands in the struct before the id is known
abbrev pub given_at : Option NandGeometry → NandGeometry
given_at None = W25N01GV
given_at (Some geometry) = geometry

abbrev pub given_geometry : SpiNandConfig → NandGeometry
given_geometry config = given_at config.geometry

abbrev pub fresh_setup : SpiNandConfig → Setup
fresh_setup config = record { config = config; geometry = given_geometry config; init = UNKNOWN }

-- what the call is to a driver at rest that holds this; mark_bad_block tests its block and so does the is_bad_block in it: one test
unfoldable pub opening_of : Setup → Call → ℕ → ℕ → Opening Setup Phase Answer
opening_of setup Call.New b d = Opening.Constructs (fresh_setup single_config)
opening_of setup (Call.WithConfig config) b d = Opening.Constructs (fresh_setup config)
opening_of setup Call.Info b d = Opening.Tells (Answer.Info setup.init)
opening_of setup Call.Config b d = Opening.Tells (Answer.Config setup.config)
opening_of setup Call.Geometry b d = Opening.Tells (Answer.Geometry setup.geometry)
opening_of setup Call.Free b d = Opening.Releases
opening_of setup Call.DisableQuad b d = plain (ask setup REG-CONFIGURATION Asked.DisableQuad)
opening_of setup (Call.WriteRegister register value) b d = plain (enable setup (EnableFor.Register register value RegisterFor.Call))
opening_of setup Call.WriteEnable b d = plain (enable setup EnableFor.Call)
opening_of setup Call.ReadStatus b d = plain (ask setup REG-STATUS Asked.Status)
opening_of setup Call.ReadConfiguration b d = plain (ask setup REG-CONFIGURATION Asked.Configuration)
opening_of setup Call.ReadProtection b d = plain (ask setup REG-BLOCK-PROTECTION Asked.Protection)
opening_of setup Call.Reset b d = plain (reset setup ResetFor.Reset)
opening_of setup Call.JedecId b d = plain (ask_id setup its_own)
opening_of setup Call.ResetAndIdentify b d = plain (reset setup (ResetFor.Identify its_own))
opening_of setup Call.EnsureConfiguration b d = plain (ask setup REG-CONFIGURATION (Asked.Configure its_own))
opening_of setup Call.Unprotect b d = plain (ask setup REG-BLOCK-PROTECTION (Asked.Unprotect its_own))
opening_of setup (Call.PageRead page) b d = plain (page_read_then setup page LoadFor.PageRead)
opening_of setup (Call.ReadCache column) b d = filling b (read_cache_then setup column b (Sink.Buffer 0) Phase.ReadingCache)
opening_of setup (Call.LoadProgramData column) b d = sending d (load_program_then setup column (Payload.Data 0 d) Phase.LoadingData)
opening_of setup (Call.ProgramExecute page) b d = plain (program_then setup page ProgramFor.Call)
opening_of setup (Call.ReadPage page) b d = filling b (read_page_then setup page b)
opening_of setup (Call.WritePage page) b d = sending d (write_page_then setup page d)
opening_of setup (Call.EraseBlock block) b d = plain (erase_then setup block EraseFor.Call)
opening_of setup (Call.Read offset) b d = filling b (read_then setup offset b)
opening_of setup (Call.IsBadBlock block) b d = plain (is_bad_then setup block MarkerFor.Call)
opening_of setup (Call.MarkBadBlock block) b d = plain (is_bad_then setup block (MarkerFor.Check block))

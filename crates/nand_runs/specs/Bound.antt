-- The largest sum of delays that a call asks for, a number of actions that it does not pass, and whether it can end well
-- (docs/SPECIFICATION.md, "Waits and bounds").
use Rattle.std.specs.Prelude.{ℕ, ◌+◌, ◌*◌, ◌-◌, ◌/◌, Bool, true, not, eqb}
use Rattle.qspi.specs.Choice.{pick}
use Rattle.flash_runs.specs.Weight.{Figures, action_figures}
use Rattle.spi_nand.specs.WaitTable.{looks_of}
use Rattle.spi_nand.specs.declared.config.NandGeometry.{NandGeometry}
use Rattle.spi_nand.specs.declared.config.SpiNandConfig.{SpiNandConfig}
use Rattle.spi_nand.specs.declared.opcode.Operation.{Operation}
use Rattle.spi_nand.specs.Transfer.{FILLER-CHUNK}
use Rattle.spi_nand.specs.declared.call.Call.{Call}
use Rattle.spi_nand.specs.declared.setup.Setup.{Setup}
use Rattle.nand_runs.specs.Program.{page_taken}

-- a construction that refuses the page ends once the id is known
abbrev pub construction_bound : SpiNandConfig → ℕ
construction_bound config = pick (page_taken config.geometry) 520000 500000

-- without spare bytes there is no marker: the call ends once the page is loaded
abbrev pub mark_bound : NandGeometry → ℕ
mark_bound g = pick (eqb g.oob_size 0) 400000 1600005

-- the pages that a read touches (docs/SPECIFICATION.md, "Reads on the bus")
abbrev pub first_touched : NandGeometry → ℕ → ℕ
first_touched g offset = offset / g.page_size

abbrev pub last_touched : NandGeometry → ℕ → ℕ → ℕ
last_touched g offset len = (offset + len - 1) / g.page_size

unfoldable pub pages_touched : NandGeometry → ℕ → ℕ → ℕ
pages_touched g offset len = pick (eqb len 0) 0 (last_touched g offset len - first_touched g offset + 1)

-- the call, with a buffer of b bytes
unfoldable pub delay_bound : Setup → Call → ℕ → ℕ
delay_bound flash Call.New b = 520000
delay_bound flash (Call.WithConfig config) b = construction_bound config
delay_bound flash Call.Info b = 0
delay_bound flash Call.Config b = 0
delay_bound flash Call.Geometry b = 0
delay_bound flash Call.Free b = 0
delay_bound flash Call.DisableQuad b = 10000
delay_bound flash (Call.WriteRegister register value) b = 10000
delay_bound flash Call.WriteEnable b = 0
delay_bound flash Call.ReadStatus b = 0
delay_bound flash Call.ReadConfiguration b = 0
delay_bound flash Call.ReadProtection b = 0
delay_bound flash Call.Reset b = 500000
delay_bound flash Call.JedecId b = 0
delay_bound flash Call.ResetAndIdentify b = 500000
delay_bound flash Call.EnsureConfiguration b = 10000
delay_bound flash Call.Unprotect b = 10000
delay_bound flash (Call.PageRead page) b = 400000
delay_bound flash (Call.ReadCache column) b = 0
delay_bound flash (Call.LoadProgramData column) b = 0
delay_bound flash (Call.ProgramExecute page) b = 400005
delay_bound flash (Call.ReadPage page) b = 400000
delay_bound flash (Call.WritePage page) b = 800005
delay_bound flash (Call.EraseBlock block) b = 400000
delay_bound flash (Call.Read offset) b = 400000 * pages_touched flash.geometry offset b
delay_bound flash (Call.IsBadBlock block) b = 400000
delay_bound flash (Call.MarkBadBlock block) b = mark_bound flash.geometry

-- ---- what a call weighs, by what its parts weigh

-- the loads of filler
abbrev pub fillers : NandGeometry → ℕ
fillers g = (g.page_size + (FILLER-CHUNK - 1)) / FILLER-CHUNK

module _ (x : Figures Operation) where
  -- a command and its wait
  abbrev pub task : Operation → ℕ
  task operation = x.send + x.waits operation

  -- write_enable and its look
  abbrev pub enabling : ℕ
  enabling = x.send + x.moved

  abbrev pub writing : ℕ
  writing = enabling + task Operation.WriteRegister

  abbrev pub identifying : ℕ
  identifying = task Operation.Reset + x.moved

  abbrev pub configuring : ℕ
  configuring = 2 * x.moved + writing

  abbrev pub unprotecting : ℕ
  unprotecting = x.moved + writing

  abbrev pub constructing : ℕ
  constructing = x.raise + (identifying + configuring + unprotecting + x.moved)

  -- a load, and its verdict or the marker
  abbrev pub loading : ℕ
  loading = task Operation.PageRead + x.moved

  abbrev pub programming : ℕ
  programming = task Operation.Program + x.moved

  abbrev pub erasing : ℕ
  erasing = enabling + task Operation.Erase + x.moved

  abbrev pub marking : NandGeometry → ℕ
  marking g = loading + erasing + enabling + fillers g * x.stamp + x.stamp + programming + loading

  -- the call, with a buffer of b bytes
  unfoldable pub weight_of : Setup → Call → ℕ → ℕ
  weight_of flash Call.New b = constructing
  weight_of flash (Call.WithConfig config) b = constructing
  weight_of flash Call.Info b = 0
  weight_of flash Call.Config b = 0
  weight_of flash Call.Geometry b = 0
  weight_of flash Call.Free b = 0
  weight_of flash Call.DisableQuad b = configuring
  weight_of flash (Call.WriteRegister register value) b = writing
  weight_of flash Call.WriteEnable b = enabling
  weight_of flash Call.ReadStatus b = x.moved
  weight_of flash Call.ReadConfiguration b = x.moved
  weight_of flash Call.ReadProtection b = x.moved
  weight_of flash Call.Reset b = task Operation.Reset
  weight_of flash Call.JedecId b = x.moved
  weight_of flash Call.ResetAndIdentify b = identifying
  weight_of flash Call.EnsureConfiguration b = configuring
  weight_of flash Call.Unprotect b = unprotecting
  weight_of flash (Call.PageRead page) b = loading
  weight_of flash (Call.ReadCache column) b = x.fill
  weight_of flash (Call.LoadProgramData column) b = x.given
  weight_of flash (Call.ProgramExecute page) b = programming
  weight_of flash (Call.ReadPage page) b = loading + x.fill
  weight_of flash (Call.WritePage page) b = enabling + x.given + programming + (loading + x.given)
  weight_of flash (Call.EraseBlock block) b = erasing
  weight_of flash (Call.Read offset) b = pages_touched flash.geometry offset b * (loading + x.fill)
  weight_of flash (Call.IsBadBlock block) b = loading
  weight_of flash (Call.MarkBadBlock block) b = marking flash.geometry

-- ---- actions

-- the first delay, and looks of 4 actions with a delay behind every look but the last
abbrev pub wait_actions : Operation → ℕ
wait_actions operation = 1 + 5 * looks_of operation

-- no call gives out more; not every call gives out so many
abbrev pub most_actions : Setup → Call → ℕ → ℕ
most_actions = weight_of (action_figures wait_actions)

-- ---- good ends

-- a construction whose page is too large is refused once the id is read, and without spare bytes there is no marker: every other call
-- that begins can end well
abbrev pub can_end : Setup → Call → Bool
can_end flash (Call.WithConfig config) = page_taken config.geometry
can_end flash (Call.IsBadBlock block) = not (eqb flash.geometry.oob_size 0)
can_end flash (Call.MarkBadBlock block) = not (eqb flash.geometry.oob_size 0)
can_end flash _ = true

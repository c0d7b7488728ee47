-- Every action, result and delivered byte of the NAND driver is the Rust's, but for the one difference that is listed: a construction
-- with a page above 4,096 (docs/SPECIFICATION.md, "Same as the Rust"; docs/DIFFERENCES.md).
use Rattle.std.specs.Prelude.{ℕ, true, false, ◌≡◌, List, [], ◌∷◌, map}
use Rattle.std.proofs.Math.Option.{none}
use Rattle.qspi.specs.Choice.{pick}
use Rattle.qspi.specs.declared.transfer.Transfer.{Transfer}
use Rattle.spi_flash.specs.Loan.{Lent}
use Rattle.spi_flash.specs.OnBus.{program_on_bus, performed}
use Rattle.spi_flash.specs.Prog.{Prog, fail, ◌>>=◌, ◌>>◌, transfer}
use Rattle.spi_flash.specs.Run.{Event}
use Rattle.spi_flash.specs.Seen.{Did, told, gives_of, replies_of, accepted, Undisturbed}
use Rattle.spi_flash.specs.declared.error.FlashError.{FlashError}
use Rattle.spi_flash.specs.declared.loan.Takes.{Takes}
use Rattle.flash_runs.specs.Built.{AllAdmissible}
use Rattle.flash_runs.specs.Heeding.{heeding}
use Rattle.flash_runs.specs.Driver.{Driver, steps_at}
use Rattle.flash_runs.specs.SameAsRust.{left_by, Turn, Steady, Regular, rust_call, rust_heeding, driver_of, EachTurn, turn_by_turn, Alone, SteadyAlone, turn_does, turn_gives, heeding_turn, rust_session}
use Rattle.spi_nand.specs.declared.answer.Answer as Nand
use Rattle.spi_nand.specs.declared.config.NandJedecId.{NandJedecId}
use Rattle.spi_nand.specs.declared.config.SpiNandConfig.{SpiNandConfig}
use Rattle.spi_nand.specs.declared.call.Call.{Call}
use Rattle.spi_nand.specs.declared.setup.Setup.{Setup}
use Rattle.nand_driver.specs.Settle.{SpiNandFlash}
use Rattle.nand_runs.specs.Program.{Left, rust_program, large_page, refused-page}
use Rattle.nand_runs.specs.Rust.{read-configuration, reset-and-identify, ensure-configuration, unprotect}
use Rattle.nand_runs.specs.Run.{nand_driver}

-- ---- the Rust

-- the driver, but that each call's program is the Rust's own
abbrev pub rust_driver : Driver SpiNandFlash Call Setup Nand.Answer
rust_driver = record nand_driver { program = rust_program }

-- select raised, then reset and id
abbrev pub identification : Prog NandJedecId
identification = transfer Transfer.Raise >> reset-and-identify

-- the Rust's construction begins with the identification
pub record BeginsIdentifying (program : Prog Left) : Type 0 where
  pub rest : NandJedecId → Prog Left
  pub is : program ≡ identification >>= rest

-- with a page above 4,096 it configures and unlocks the part and reads the configuration again, and only then fails with 11
abbrev pub configured_then_refused : SpiNandConfig → Prog Left
configured_then_refused config = do
  id ← identification
  before ← ensure-configuration config
  protection ← unprotect
  after ← read-configuration
  fail FlashError.NotSupported

-- ---- the port

-- where the Rust goes on to configure the part, it fails with 11 at once: what it does on the replies of a call, each action with its bytes,
-- then its result, and the buffer after each
abbrev pub refused_by : Lent → List (Event Call) → List (Did Left)
refused_by l es = performed (program_on_bus l.given refused-page) (replies_of es) l.buffer

-- and on any events, of which it passes over those that do not fit
abbrev pub refused_heeding : Lent → List (Event Call) → List (Did Left)
refused_heeding l es = heeding Takes.Nothing (program_on_bus l.given refused-page) es l.buffer

-- what calls give or do, but for the constructions that are the difference
abbrev pub but_large : {B : Type 0} → List (Turn Call) → List (List B) → List (List B)
but_large [] gs = []
but_large (x ∷ xs) [] = []
but_large (x ∷ xs) (g ∷ gs) = pick (large_page x.call) [] g ∷ but_large xs gs

-- ---- the statement

pub record AsRust : Type 0 where
  -- of every other call every action with its bytes and every result, refusals passed over, is the Rust's
  pub gives : (flash : SpiNandFlash) (call : Call) (l : Lent) (es : List (Event Call)) → Steady nand_driver flash call l es → large_page call ≡ false →
      gives_of (told (accepted (steps_at nand_driver flash call l es))) ≡ gives_of (rust_heeding rust_driver flash.setup call l es)
  -- and so is every delivered byte, where nobody else writes into the buffer
  pub delivers : (flash : SpiNandFlash) (call : Call) (l : Lent) (es : List (Event Call)) → Steady nand_driver flash call l es →
      Undisturbed l.buffer (steps_at nand_driver flash call l es) → large_page call ≡ false →
      told (accepted (steps_at nand_driver flash call l es)) ≡ rust_heeding rust_driver flash.setup call l es
  -- where none is refused, on all the replies
  pub same : (flash : SpiNandFlash) (call : Call) (l : Lent) (es : List (Event Call)) → Regular nand_driver flash call l es → large_page call ≡ false →
      told (steps_at nand_driver flash call l es) ≡ rust_call rust_driver flash.setup call l es
  -- a construction with a page above 4,096: the actions are the Rust's up to and with the identification, then 11
  pub large : (flash : SpiNandFlash) (call : Call) (l : Lent) (es : List (Event Call)) → Regular nand_driver flash call l es → large_page call ≡ true →
      told (steps_at nand_driver flash call l es) ≡ refused_by l es
  pub large_gives : (flash : SpiNandFlash) (call : Call) (l : Lent) (es : List (Event Call)) → Steady nand_driver flash call l es → large_page call ≡ true →
      gives_of (told (accepted (steps_at nand_driver flash call l es))) ≡ gives_of (refused_heeding l es)
  pub identifies : (flash : SpiNandFlash) (config : SpiNandConfig) (b d : ℕ) → BeginsIdentifying (rust_program flash.setup (Call.WithConfig config) b d)
  -- what the Rust does there
  pub goes_on : (flash : SpiNandFlash) (config : SpiNandConfig) (b d : ℕ) → large_page (Call.WithConfig config) ≡ true →
      rust_program flash.setup (Call.WithConfig config) b d ≡ configured_then_refused config
  -- neither leaves a driver, whatever the replies
  pub rust_leaves_none : (flash : SpiNandFlash) (config : SpiNandConfig) (l : Lent) (es : List (Event Call)) → large_page (Call.WithConfig config) ≡ true →
      (left_by (rust_call rust_driver flash.setup (Call.WithConfig config) l es) ≡ none) × (left_by (rust_heeding rust_driver flash.setup (Call.WithConfig config) l es) ≡ none)
  pub leaves_none : (l : Lent) (es : List (Event Call)) → (left_by (refused_by l es) ≡ none) × (left_by (refused_heeding l es) ≡ none)
  -- so that over any sequence of calls every other call gives what the Rust's gives, each on the driver that the calls before it have left
  pub sessions : (flash : SpiNandFlash) (turns : List (Turn Call)) → EachTurn nand_driver (λ flash x. Steady nand_driver flash x.call x.lent x.events) flash turns →
      but_large turns (turn_by_turn nand_driver (turn_gives nand_driver) flash turns) ≡
      but_large turns (map gives_of (rust_session rust_driver (heeding_turn rust_driver) (driver_of nand_driver flash) turns))
  -- with every delivered byte, where in every call nobody else writes into the buffer
  pub delivered_sessions : (flash : SpiNandFlash) (turns : List (Turn Call)) → EachTurn nand_driver (SteadyAlone nand_driver) flash turns →
      but_large turns (turn_by_turn nand_driver (turn_does nand_driver) flash turns) ≡
      but_large turns (rust_session rust_driver (heeding_turn rust_driver) (driver_of nand_driver flash) turns)
  -- from a driver before any construction on, where constructions alone are given a geometry inside the bounds
  pub fresh_sessions : (turns : List (Turn Call)) → AllAdmissible nand_driver turns →
      but_large turns (turn_by_turn nand_driver (turn_gives nand_driver) nand_driver.fresh turns) ≡
      but_large turns (map gives_of (rust_session rust_driver (heeding_turn rust_driver) none turns))
  -- and there too with every delivered byte
  pub fresh_delivered_sessions : (turns : List (Turn Call)) → AllAdmissible nand_driver turns → EachTurn nand_driver (Alone nand_driver) nand_driver.fresh turns →
      but_large turns (turn_by_turn nand_driver (turn_does nand_driver) nand_driver.fresh turns) ≡
      but_large turns (rust_session rust_driver (heeding_turn rust_driver) none turns)

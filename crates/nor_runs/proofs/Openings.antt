-- How each call begins on a driver at rest, and that the Rust's program begins likewise.
use Rattle.std.specs.Prelude.{Option, Some, None}
use Rattle.spi_nor.specs.declared.config.NorQuadConfig.{NorQuadConfig}
use Prim.Native.Nat.{ℕ}
use native.Mathlib.Omega.{arith}
use mathlib.Core.Bool.{Bool, true, false}
use mathlib.Core.Path.{◌≡◌, refl, ap, sym, ◌∙◌}
use lib.ListN.{length}
use lib.Dec.{ltb}
use borrow.Author.Tests.{le-ltb}
use Rattle.qspi.specs.Choice.{pick}
use Rattle.qspi.specs.declared.transfer.Sink.{Sink}
use Rattle.qspi.specs.declared.transfer.Transfer.{Transfer}
use Rattle.spi_flash.proofs.Laws.{then-assoc}
use Rattle.spi_flash.specs.Loan.{Lent}
use Rattle.spi_flash.specs.Prog.{Prog, ret, ask, ◌>>=◌, ◌>>◌, refuse}
use Rattle.spi_flash.proofs.Machine.{tree}
use Rattle.spi_flash.specs.declared.loan.Takes.{Takes}
use Rattle.qspi.proofs.Cases.{by_cases, keeps-pick}
use Rattle.flash_runs.specs.Begins.{SameTaken}
use Rattle.flash_runs.specs.Driver.{constructs, uses, takes_at}
use Rattle.flash_runs.proofs.General as General
use Rattle.flash_runs.proofs.Supplies.{Selects, SelectsFirst, Construction, Use, OpensAs, onward-stays}
use Rattle.spi_nor.specs.Config.{in_bounds_of, single_config}
use Rattle.spi_nor.specs.declared.config.SpiNorConfig.{SpiNorConfig}
use Rattle.spi_flash.specs.Range.{range_in_bounds}
use Rattle.spi_nor.specs.Transfer.{place_of, chunk_of, read_at, read_transfer, multiple_of, unit_size, step_kind, after_unit}
use Rattle.nor_steps.specs.Read.{read_then, read_from}
use Rattle.nor_steps.specs.Write.{write_then, program_from}
use Rattle.nor_steps.specs.Erase.{erase_unit, erase_one, erase_then, erase_from}
use Rattle.machine.specs.Shape.{opening_as}
use Rattle.nor_driver.specs.Call.{fresh_setup}
use Rattle.nor_driver.specs.Settle.{then_as}
use Rattle.nor_steps.specs.Opening.{opening_of}
use Rattle.nor_runs.proofs.AsCoded.{read, write, erase-unit, erase, erasing}
use Rattle.nor_runs.specs.Program.{Left, leaving, program_of}
use Rattle.nor_runs.specs.Run.{sort_of, nor_driver}
use Rattle.spi_nor.specs.declared.phase.EraseKind.{EraseKind}
use Rattle.spi_nor.specs.declared.phase.Phase.{Phase}
use Rattle.spi_nor.specs.declared.answer.Answer.{Answer}
use Rattle.spi_nor.specs.declared.call.Call.{Call}
use Rattle.spi_nor.specs.declared.setup.Setup.{Setup}
use Rattle.nor_steps.specs.Go.{go_to}
use Rattle.nor_steps.specs.Then.{Then}
use Rattle.nor_runs.proofs.AsCoded.{coded}
use Rattle.nor_runs.proofs.Agrees.{same}
use Rattle.nor_runs.proofs.Loops.{erasing-loop}
use Rattle.nor_runs.proofs.Places.{place, decide, nor_parts, Valid, Built, Stays}
use Rattle.nor_runs.proofs.Keeps.{stays, keeps-read, keeps-program, keeps-unit, keeps-erase}
use Rattle.nor_runs.proofs.Simulation.{meaning, starts, reads_on, writes-on, erases-unit, erases-on, beginnings}

-- ---- the Rust's tests before the bus

reads : (s : Setup) (offset len : ℕ) → read s offset len >> ret (leaving s Answer.Done) ≡ tree meaning (decide (read_then s offset len))
unfolding read read_then refuse ◌>>=◌ ◌>>◌
reads s offset len = by_cases (range_in_bounds s.device.capacity offset len) (λ e. rw e (reads_on s offset len 0)) (λ e. rw e)

module _ (s : Setup) (valid : in_bounds_of s.device ≡ true) where
  writes : (offset len : ℕ) → write s offset len >> ret (leaving s Answer.Done) ≡ tree meaning (decide (write_then s offset len))
  unfolding write write_then refuse ◌>>=◌ ◌>>◌
  writes offset len =
      by_cases (range_in_bounds s.device.capacity offset len)
      (λ e. by_cases (multiple_of offset s.device.page_size)
      (λ d. by_cases (multiple_of len s.device.page_size) (λ c. rw (e, d, c) (writes-on s valid offset len 0)) (λ c. rw (e, d, c)))
      (λ d. rw (e, d)))
      (λ e. rw e)

  erases : (from to : ℕ) → erase s from to >> ret (leaving s Answer.Done) ≡ tree meaning (decide (erase_then s from to))
  unfolding erase erase_then refuse ◌>>=◌ ◌>>◌
  erases from to =
      by_cases (ltb to from)
      (λ e. rw e)
      (λ e. by_cases (ltb s.device.capacity to)
      (λ d. rw (e, d))
      (λ d. by_cases (multiple_of from s.device.sector_size)
      (λ c. by_cases (multiple_of to s.device.sector_size) (λ b. rw (e, d, c, b) (erases-on s valid from to)) (λ b. rw (e, d, c, b)))
      (λ c. rw (e, d, c))))

  -- a single erase is an erase of one step
  nothing_left : (address : ℕ) → erasing s address address ≡ ret tt
  nothing_left address = rw (erasing-loop s valid address address, le-ltb address address (omega arith)) refl

  erases-one : (kind : EraseKind) (offset : ℕ) → erase-unit s kind offset >> ret (leaving s Answer.Done) ≡ tree meaning (decide (erase_unit s kind offset (after_unit s.device kind offset)))
  erases-one kind offset =
      sym (then-assoc (erase-unit s kind offset) (ret tt) (ret (leaving s Answer.Done)) ∙ ap (λ p. erase-unit s kind offset >> p) (starts (leaving s Answer.Done)))
      ∙ ap (λ p. (erase-unit s kind offset >> p) >> ret (leaving s Answer.Done)) (sym (nothing_left (after_unit s.device kind offset)))
      ∙ erases-unit s valid kind offset (after_unit s.device kind offset)

-- ---- what the driver holds

keeps-read-call : (s : Setup) (offset len : ℕ) → Stays s (read_then s offset len)
unfolding read_then
keeps-read-call s offset len = keeps-pick (Stays s) (range_in_bounds s.device.capacity offset len) _ _ (keeps-read (Stays s) s (stays s) offset len 0) tt

keeps-write-call : (s : Setup) (offset len : ℕ) → Stays s (write_then s offset len)
unfolding write_then
keeps-write-call s offset len =
    keeps-pick (Stays s) (range_in_bounds s.device.capacity offset len) _ _
    (keeps-pick (Stays s) (multiple_of offset s.device.page_size) _ _
    (keeps-pick (Stays s) (multiple_of len s.device.page_size) _ _ (keeps-program (Stays s) s (stays s) offset len 0) tt) tt) tt

keeps-erase-call : (s : Setup) (from to : ℕ) → Stays s (erase_then s from to)
unfolding erase_then
keeps-erase-call s from to =
    keeps-pick (Stays s) (ltb to from) _ _ tt
    (keeps-pick (Stays s) (ltb s.device.capacity to) _ _ tt
    (keeps-pick (Stays s) (multiple_of from s.device.sector_size) _ _
    (keeps-pick (Stays s) (multiple_of to s.device.sector_size) _ _ (keeps-erase (Stays s) s (stays s) from to) tt) tt))

-- ---- the first action

abbrev Selecting : Then → Type 0
Selecting x = SelectsFirst (then_as x)

selects-pick : (b : Bool) (x y : Then) → Selecting x → Selecting y → Selecting (pick b x y)
selects-pick true x y h k = h
selects-pick false x y h k = k

selects-read : (s : Setup) (offset len : ℕ) → Selecting (read_then s offset len)
unfolding read_then read_from read_transfer
selects-read s offset len = selects-pick (range_in_bounds s.device.capacity offset len) _ _ (selects-pick (ltb 0 len) _ _ (at s.config.quad) tt) tt
  where
    at : (q : Option NorQuadConfig) → Selects (read_at q (place_of offset 0) (chunk_of len 0) (Sink.Buffer 0))
    at None = λ select. refl
    at (Some q) = λ select. refl

selects-write : (s : Setup) (offset len : ℕ) → Selecting (write_then s offset len)
unfolding write_then program_from
selects-write s offset len =
    selects-pick (range_in_bounds s.device.capacity offset len) _ _
    (selects-pick (multiple_of offset s.device.page_size) _ _
    (selects-pick (multiple_of len s.device.page_size) _ _ (selects-pick (ltb 0 len) _ _ (λ select. refl) tt) tt) tt) tt

selects-unit : (s : Setup) (kind : EraseKind) (address end : ℕ) → Selecting (erase_unit s kind address end)
unfolding erase_unit
selects-unit s kind address end =
    selects-pick (range_in_bounds s.device.capacity address (unit_size s.device kind)) _ _
    (selects-pick (multiple_of address (unit_size s.device kind)) _ _ (λ select. refl) tt) tt

selects-erase : (s : Setup) (from to : ℕ) → Selecting (erase_then s from to)
unfolding erase_then erase_from
selects-erase s from to =
    selects-pick (ltb to from) _ _ tt
    (selects-pick (ltb s.device.capacity to) _ _ tt
    (selects-pick (multiple_of from s.device.sector_size) _ _
    (selects-pick (multiple_of to s.device.sector_size) _ _ (selects-pick (ltb from to) _ _ (selects-unit s (step_kind s.device from to) from to) tt) tt) tt))

-- ---- every call

module _ (s : Setup) (c : Call) (b d : ℕ) where
  abbrev program : Prog Left
  program = program_of s c b d

  -- a call on a driver that is built
  used : (takes : Takes) (x : Then) → sort_of c b d ≡ uses takes → (in_bounds_of s.device ≡ true → coded s c b d ≡ tree meaning (decide x)) → Stays s x → Selecting x →
      Use nor_driver nor_parts Valid Built meaning s c b d takes (then_as x)
  used takes x sorted follows keeps selects = record {
    sorted = sorted;
    follows = λ inside. same s c b d (rw sorted inside) ∙ follows inside;
    valid = λ inside. onward-stays Valid Built s (λ phase built. inside) (then_as x) keeps;
    stays = keeps;
    selects = selects;
  }

  -- one that begins with a transfer whatever it is asked for
  transfers : (t : Transfer) (phase : Phase) → sort_of c b d ≡ uses Takes.Nothing → coded s c b d ≡ ask t (meaning (place s phase)) → Built phase → Selects t →
      Use nor_driver nor_parts Valid Built meaning s c b d Takes.Nothing (General.go s t phase)
  transfers t phase sorted follows built selects = used Takes.Nothing (go_to s t phase) sorted (λ inside. follows) (refl, built) selects

  -- a single erase
  unit-used : (kind : EraseKind) (offset : ℕ) → sort_of c b d ≡ uses Takes.Nothing → (in_bounds_of s.device ≡ true → coded s c b d ≡ tree meaning (decide (erase_one s kind offset))) →
      Use nor_driver nor_parts Valid Built meaning s c b d Takes.Nothing (then_as (erase_one s kind offset))
  unit-used kind offset sorted follows =
      let end = after_unit s.device kind offset in
      used Takes.Nothing (erase_one s kind offset) sorted follows (keeps-unit (Stays s) s (stays s) kind offset end) (selects-unit s kind offset end)

  constructed : (config : SpiNorConfig) → sort_of c b d ≡ constructs (fresh_setup config) → ((before : Setup) → program_of before c b d ≡ program) →
      coded s c b d ≡ ask Transfer.Raise (meaning (place (fresh_setup config) Phase.Raised)) → Construction nor_driver nor_parts Valid Built meaning s c b d (fresh_setup config)
  constructed config sorted alike follows = record { sorted = sorted; follows = λ inside. same s c b d (rw sorted inside) ∙ follows; valid = λ inside. inside; alike = alike }

pub opened : (s : Setup) (c : Call) (b d : ℕ) → OpensAs nor_driver nor_parts Valid Built meaning s c b d (opening_as (opening_of s c b d))
unfolding opening_of coded program_of
opened s Call.New b d = constructed s Call.New b d single_config refl (λ before. refl) ((beginnings s).construction single_config)
opened s (Call.WithConfig config) b d = constructed s (Call.WithConfig config) b d config refl (λ before. refl) ((beginnings s).construction config)
opened s Call.Config b d = record { sorted = refl; follows = refl }
opened s Call.Device b d = record { sorted = refl; follows = refl }
opened s Call.Id b d = record { sorted = refl; follows = refl }
opened s Call.Free b d = record { sorted = refl; follows = refl }
opened s Call.ReadStatus1 b d = transfers s Call.ReadStatus1 b d _ _ refl (beginnings s).status1 tt (λ select. refl)
opened s Call.ReadStatus2 b d = transfers s Call.ReadStatus2 b d _ _ refl (beginnings s).status2 tt (λ select. refl)
opened s Call.IsBusy b d = transfers s Call.IsBusy b d _ _ refl (beginnings s).busy tt (λ select. refl)
opened s Call.JedecId b d = transfers s Call.JedecId b d _ _ refl (beginnings s).id tt (λ select. refl)
opened s Call.UniqueId b d = transfers s Call.UniqueId b d _ _ refl (beginnings s).unique_id tt (λ select. refl)
opened s Call.QuadEnabled b d = transfers s Call.QuadEnabled b d _ _ refl (beginnings s).quad_enabled tt (λ select. refl)
opened s Call.EnableQuad b d = transfers s Call.EnableQuad b d _ _ refl (beginnings s).enable_quad tt (λ select. refl)
opened s Call.DisableQuad b d = transfers s Call.DisableQuad b d _ _ refl (beginnings s).disable_quad tt (λ select. refl)
opened s (Call.Read offset) b d = used s (Call.Read offset) b d (Takes.Buffer b) (read_then s offset b) refl (λ h. reads s offset b) (keeps-read-call s offset b) (selects-read s offset b)
opened s (Call.Write offset) b d = used s (Call.Write offset) b d (Takes.Data d) (write_then s offset d) refl (λ h. writes s h offset d) (keeps-write-call s offset d) (selects-write s offset d)
opened s Call.Unprotect b d = transfers s Call.Unprotect b d _ _ refl (beginnings s).unprotected tt (λ select. refl)
opened s (Call.Erase from to) b d = used s (Call.Erase from to) b d Takes.Nothing (erase_then s from to) refl (λ h. erases s h from to) (keeps-erase-call s from to) (selects-erase s from to)
opened s (Call.EraseSector offset) b d = unit-used s (Call.EraseSector offset) b d EraseKind.Sector offset refl (λ h. erases-one s h EraseKind.Sector offset)
opened s (Call.EraseBlock offset) b d = unit-used s (Call.EraseBlock offset) b d EraseKind.Block offset refl (λ h. erases-one s h EraseKind.Block offset)

-- by the length of what the call takes alone
pub alike : (s : Setup) (c : Call) (l m : Lent) → SameTaken (takes_at nor_driver c l) l m →
    nor_parts.opening s c (length l.buffer) (length l.given) ≡ nor_parts.opening s c (length m.buffer) (length m.given)
unfolding opening_of
alike s Call.New l m h = refl
alike s (Call.WithConfig config) l m h = refl
alike s Call.Config l m h = refl
alike s Call.Device l m h = refl
alike s Call.Id l m h = refl
alike s Call.Free l m h = refl
alike s Call.ReadStatus1 l m h = refl
alike s Call.ReadStatus2 l m h = refl
alike s Call.IsBusy l m h = refl
alike s Call.JedecId l m h = refl
alike s Call.UniqueId l m h = refl
alike s Call.QuadEnabled l m h = refl
alike s Call.EnableQuad l m h = refl
alike s Call.DisableQuad l m h = refl
alike s (Call.Read offset) l m h = rw h refl
alike s (Call.Write offset) l m h = rw h refl
alike s Call.Unprotect l m h = refl
alike s (Call.Erase from to) l m h = refl
alike s (Call.EraseSector offset) l m h = refl
alike s (Call.EraseBlock offset) l m h = refl

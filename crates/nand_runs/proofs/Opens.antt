-- How each call opens, as the general theory asks for it.
use Rattle.spi_flash.specs.Range.{span}
use Rattle.std.specs.Prelude.{Option, Some, None}
use Rattle.spi_nand.specs.declared.config.NandQuadConfig.{NandQuadConfig}
use Prim.Native.Nat.{ℕ}
use mathlib.Core.Bool.{Bool, true, false}
use mathlib.Core.Path.{◌≡◌, refl, ◌∙◌}
use lib.ListN.{length}
use lib.Dec.{ltb, eqb}
use Rattle.qspi.specs.Choice.{pick}
use Rattle.qspi.specs.declared.transfer.Payload.{Payload}
use Rattle.qspi.specs.declared.transfer.Sink.{Sink}
use Rattle.spi_flash.specs.Loan.{Lent}
use Rattle.spi_flash.proofs.Machine.{tree}
use Rattle.spi_flash.specs.declared.loan.Takes.{Takes}
use Rattle.flash_runs.specs.Begins.{SameTaken}
use Rattle.flash_runs.specs.Driver.{uses, takes_at}
use Rattle.flash_runs.proofs.Supplies.{Stays, Selects, SelectsFirst, Use, OpensAs, onward-stays}
use Rattle.spi_nand.specs.Command.{reset_command}
use Rattle.spi_nand.specs.Config.{in_bounds, page_count_of, single_config}
use Rattle.spi_nand.specs.Opcode.{REG-STATUS, REG-CONFIGURATION, REG-BLOCK-PROTECTION}
use Rattle.spi_nand.specs.Transfer.{in_cache, in_range, place_of, page_at, cache_read_at, cache_read_transfer, cache_load_at, cache_load_transfer}
use Rattle.spi_nand.specs.declared.call.Call.{Call}
use Rattle.spi_nand.specs.declared.phase.Asked.{Asked}
use Rattle.spi_nand.specs.declared.phase.EnableFor.{EnableFor}
use Rattle.spi_nand.specs.declared.phase.EraseFor.{EraseFor}
use Rattle.spi_nand.specs.declared.phase.LoadFor.{LoadFor}
use Rattle.spi_nand.specs.declared.phase.MarkerFor.{MarkerFor}
use Rattle.spi_nand.specs.declared.phase.Phase.{Phase}
use Rattle.spi_nand.specs.declared.phase.ProgramFor.{ProgramFor}
use Rattle.spi_nand.specs.declared.phase.RegisterFor.{RegisterFor}
use Rattle.spi_nand.specs.declared.phase.ResetFor.{ResetFor}
use Rattle.spi_nand.specs.declared.phase.Task.{Task}
use Rattle.spi_nand.specs.declared.setup.Setup.{Setup}
use Rattle.nand_steps.specs.Go.{ask as ask_then, ask_id, send, enable}
use Rattle.nand_steps.specs.Cache.{read_cache_then, load_program_then, payload_length}
use Rattle.nand_steps.specs.Page.{page_read_then, is_bad_then, program_then, read_page_then, write_page_then}
use Rattle.nand_steps.specs.Read.{read_from, read_then}
use Rattle.nand_steps.specs.Block.{erase_then}
use Rattle.nand_steps.specs.Then.{Then}
use Rattle.nand_steps.specs.Opening.{opening_of}
use Rattle.nand_runs.specs.Program.{rust_program}
use Rattle.nand_runs.proofs.AsCoded.{coded_rust, coded}
use Rattle.nand_runs.proofs.Agrees.{same, same-construction}
use Rattle.nand_runs.specs.Run.{sort_of, nand_driver}
use Rattle.machine.specs.Shape.{opening_as}
use Rattle.nand_driver.specs.Settle.{then_as}
use Rattle.nand_runs.proofs.Places.{parts, decide, Valid}
use Rattle.nand_runs.proofs.Meaning.{meaning}
use Rattle.nand_runs.proofs.Keeps.{Built, stays, keeps-page-read, keeps-read-cache, keeps-load-data, keeps-program, keeps-read-page, keeps-write-page, keeps-erase, keeps-read-call, keeps-is-bad}
use Rattle.nand_runs.proofs.Construction.{constructs}
use Rattle.nand_runs.proofs.Openings.{disables, writes-register, enables-write, tells-status, tells-configuration, tells-protection, resets, tells-id, identifies, configures, unprotects, loads-page, reads-from-cache, loads-data, executes, reads-page, writes-page, erases-block, reads, tells-bad, marks}

-- ---- the first action takes select low

abbrev SelectsAt : Then → Type 0
SelectsAt x = SelectsFirst (then_as x)

selects-pick : (test : Bool) (x y : Then) → SelectsAt x → SelectsAt y → SelectsAt (pick test x y)
selects-pick true x y h k = h
selects-pick false x y h k = k

module _ (s : Setup) where
  selects-page-read : (page : ℕ) (why : LoadFor) → SelectsAt (page_read_then s page why)
  unfolding page_read_then
  selects-page-read page why = selects-pick (ltb page (page_count_of s.geometry)) _ _ (λ select. refl) tt

  selects-read-cache : (column n : ℕ) → SelectsAt (read_cache_then s column n (Sink.Buffer 0) Phase.ReadingCache)
  unfolding read_cache_then cache_read_transfer
  selects-read-cache column n = selects-pick (in_cache s.geometry column n) _ _ (at s.config.quad) tt
    where
      at : (q : Option NandQuadConfig) → Selects (cache_read_at q column n (Sink.Buffer 0))
      at None = λ select. refl
      at (Some q) = λ select. refl

  selects-load-data : (column : ℕ) (payload : Payload) → SelectsAt (load_program_then s column payload Phase.LoadingData)
  unfolding load_program_then cache_load_transfer
  selects-load-data column payload = selects-pick (in_cache s.geometry column (payload_length payload)) _ _ (at s.config.quad) tt
    where
      at : (q : Option NandQuadConfig) → Selects (cache_load_at q column payload)
      at None = λ select. refl
      at (Some q) = λ select. refl

  selects-program : (page : ℕ) → SelectsAt (program_then s page ProgramFor.Call)
  unfolding program_then
  selects-program page = selects-pick (ltb page (page_count_of s.geometry)) _ _ (λ select. refl) tt

  selects-read-page : (page n : ℕ) → SelectsAt (read_page_then s page n)
  unfolding read_page_then
  selects-read-page page n = selects-pick (eqb n s.geometry.page_size) _ _ (selects-page-read page LoadFor.ReadPage) tt

  selects-write-page : (page n : ℕ) → SelectsAt (write_page_then s page n)
  unfolding write_page_then
  selects-write-page page n =
      selects-pick (eqb n s.geometry.page_size) _ _ (selects-pick (ltb page (page_count_of s.geometry)) _ _ (λ select. refl) tt) tt

  selects-erase : (block : ℕ) → SelectsAt (erase_then s block EraseFor.Call)
  unfolding erase_then
  selects-erase block = selects-pick (ltb block s.geometry.block_count) _ _ (λ select. refl) tt

  selects-is-bad : (block : ℕ) (why : MarkerFor) → SelectsAt (is_bad_then s block why)
  unfolding is_bad_then
  selects-is-bad block why = selects-pick (ltb block s.geometry.block_count) _ _ (λ select. refl) tt

  selects-read : (offset n : ℕ) → SelectsAt (read_then s offset n)
  unfolding read_then read_from
  selects-read offset n =
      selects-pick (in_range s.geometry offset n) _ _
      (selects-pick (ltb 0 n) _ _ (selects-page-read (page_at s.geometry (place_of offset 0)) (LoadFor.Read (span offset n 0))) tt) tt

-- ---- every call

-- a call on a built driver
module _ (s : Setup) (c : Call) (b d : ℕ) where
  used : (takes : Takes) (x : Then) → sort_of c b d ≡ uses takes → (in_bounds s.geometry ≡ true → coded s c b d ≡ tree meaning (decide x)) →
      Stays Built s (then_as x) → SelectsAt x → Use nand_driver parts Valid Built meaning s c b d takes (then_as x)
  used takes x sorted follows keeps selects = record {
    sorted = sorted;
    follows = λ h. same s h c b d ∙ follows h;
    valid = λ h. onward-stays Valid Built s (λ phase k. h) (then_as x) keeps;
    stays = keeps;
    selects = selects;
  }

pub opens : (s : Setup) (c : Call) (b d : ℕ) → OpensAs nand_driver parts Valid Built meaning s c b d (opening_as (opening_of s c b d))
unfolding opening_of sort_of coded_rust rust_program
opens s Call.New b d = record { sorted = refl; follows = λ h. same-construction s single_config b d ∙ constructs single_config s b d; valid = λ h. h; alike = λ before. refl }
opens s (Call.WithConfig config) b d = record { sorted = refl; follows = λ h. same-construction s config b d ∙ constructs config s b d; valid = λ h. h; alike = λ before. refl }
opens s Call.Info b d = record { sorted = refl; follows = refl }
opens s Call.Config b d = record { sorted = refl; follows = refl }
opens s Call.Geometry b d = record { sorted = refl; follows = refl }
opens s Call.Free b d = record { sorted = refl; follows = refl }
opens s Call.DisableQuad b d = used s Call.DisableQuad b d Takes.Nothing (ask_then s REG-CONFIGURATION Asked.DisableQuad) refl (λ h. disables s) ((refl, tt)) (λ select. refl)
opens s (Call.WriteRegister register value) b d = used s (Call.WriteRegister register value) b d Takes.Nothing (enable s (EnableFor.Register register value RegisterFor.Call)) refl (λ h. writes-register s register value) ((refl, tt)) (λ select. refl)
opens s Call.WriteEnable b d = used s Call.WriteEnable b d Takes.Nothing (enable s EnableFor.Call) refl (λ h. enables-write s) ((refl, tt)) (λ select. refl)
opens s Call.ReadStatus b d = used s Call.ReadStatus b d Takes.Nothing (ask_then s REG-STATUS Asked.Status) refl (λ h. tells-status s) ((refl, tt)) (λ select. refl)
opens s Call.ReadConfiguration b d = used s Call.ReadConfiguration b d Takes.Nothing (ask_then s REG-CONFIGURATION Asked.Configuration) refl (λ h. tells-configuration s) ((refl, tt)) (λ select. refl)
opens s Call.ReadProtection b d = used s Call.ReadProtection b d Takes.Nothing (ask_then s REG-BLOCK-PROTECTION Asked.Protection) refl (λ h. tells-protection s) ((refl, tt)) (λ select. refl)
opens s Call.Reset b d = used s Call.Reset b d Takes.Nothing (send s reset_command (Task.Reset ResetFor.Reset)) refl (λ h. resets s) ((refl, tt)) (λ select. refl)
opens s Call.JedecId b d = used s Call.JedecId b d Takes.Nothing (ask_id s false) refl (λ h. tells-id s) ((refl, tt)) (λ select. refl)
opens s Call.ResetAndIdentify b d = used s Call.ResetAndIdentify b d Takes.Nothing (send s reset_command (Task.Reset (ResetFor.Identify false))) refl (λ h. identifies s) ((refl, tt)) (λ select. refl)
opens s Call.EnsureConfiguration b d = used s Call.EnsureConfiguration b d Takes.Nothing (ask_then s REG-CONFIGURATION (Asked.Configure false)) refl (λ h. configures s) ((refl, tt)) (λ select. refl)
opens s Call.Unprotect b d = used s Call.Unprotect b d Takes.Nothing (ask_then s REG-BLOCK-PROTECTION (Asked.Unprotect false)) refl (λ h. unprotects s) ((refl, tt)) (λ select. refl)
opens s (Call.PageRead page) b d = used s (Call.PageRead page) b d Takes.Nothing (page_read_then s page LoadFor.PageRead) refl (λ h. loads-page s page) (keeps-page-read (stays s) s refl page LoadFor.PageRead) (selects-page-read s page LoadFor.PageRead)
opens s (Call.ReadCache column) b d = used s (Call.ReadCache column) b d (Takes.Buffer b) (read_cache_then s column b (Sink.Buffer 0) Phase.ReadingCache) refl (λ h. reads-from-cache s column b) (keeps-read-cache (stays s) s refl column b (Sink.Buffer 0) Phase.ReadingCache tt) (selects-read-cache s column b)
opens s (Call.LoadProgramData column) b d = used s (Call.LoadProgramData column) b d (Takes.Data d) (load_program_then s column (Payload.Data 0 d) Phase.LoadingData) refl (λ h. loads-data s column d) (keeps-load-data (stays s) s refl column (Payload.Data 0 d) Phase.LoadingData tt) (selects-load-data s column (Payload.Data 0 d))
opens s (Call.ProgramExecute page) b d = used s (Call.ProgramExecute page) b d Takes.Nothing (program_then s page ProgramFor.Call) refl (λ h. executes s page) (keeps-program (stays s) s refl page ProgramFor.Call) (selects-program s page)
opens s (Call.ReadPage page) b d = used s (Call.ReadPage page) b d (Takes.Buffer b) (read_page_then s page b) refl (λ h. reads-page s page b) (keeps-read-page (stays s) s refl page b) (selects-read-page s page b)
opens s (Call.WritePage page) b d = used s (Call.WritePage page) b d (Takes.Data d) (write_page_then s page d) refl (λ h. writes-page s page d) (keeps-write-page (stays s) s refl page d) (selects-write-page s page d)
opens s (Call.EraseBlock block) b d = used s (Call.EraseBlock block) b d Takes.Nothing (erase_then s block EraseFor.Call) refl (λ h. erases-block s block) (keeps-erase (stays s) s refl block EraseFor.Call) (selects-erase s block)
opens s (Call.Read offset) b d = used s (Call.Read offset) b d (Takes.Buffer b) (read_then s offset b) refl (λ h. reads s h offset b) (keeps-read-call (stays s) s refl offset b) (selects-read s offset b)
opens s (Call.IsBadBlock block) b d = used s (Call.IsBadBlock block) b d Takes.Nothing (is_bad_then s block MarkerFor.Call) refl (λ h. tells-bad s block) (keeps-is-bad (stays s) s refl block MarkerFor.Call) (selects-is-bad s block MarkerFor.Call)
opens s (Call.MarkBadBlock block) b d = used s (Call.MarkBadBlock block) b d Takes.Nothing (is_bad_then s block (MarkerFor.Check block)) refl (λ h. marks s block) (keeps-is-bad (stays s) s refl block (MarkerFor.Check block)) (selects-is-bad s block (MarkerFor.Check block))

-- by the length of what the call takes alone
pub alike : (s : Setup) (c : Call) (l m : Lent) → SameTaken (takes_at nand_driver c l) l m →
    parts.opening s c (length l.buffer) (length l.given) ≡ parts.opening s c (length m.buffer) (length m.given)
unfolding opening_of sort_of
alike s Call.New l m h = refl
alike s (Call.WithConfig config) l m h = refl
alike s Call.Info l m h = refl
alike s Call.Config l m h = refl
alike s Call.Geometry l m h = refl
alike s Call.Free l m h = refl
alike s Call.DisableQuad l m h = refl
alike s (Call.WriteRegister register value) l m h = refl
alike s Call.WriteEnable l m h = refl
alike s Call.ReadStatus l m h = refl
alike s Call.ReadConfiguration l m h = refl
alike s Call.ReadProtection l m h = refl
alike s Call.Reset l m h = refl
alike s Call.JedecId l m h = refl
alike s Call.ResetAndIdentify l m h = refl
alike s Call.EnsureConfiguration l m h = refl
alike s Call.Unprotect l m h = refl
alike s (Call.PageRead page) l m h = refl
alike s (Call.ReadCache column) l m h = rw h refl
alike s (Call.LoadProgramData column) l m h = rw h refl
alike s (Call.ProgramExecute page) l m h = refl
alike s (Call.ReadPage page) l m h = rw h refl
alike s (Call.WritePage page) l m h = rw h refl
alike s (Call.EraseBlock block) l m h = refl
alike s (Call.Read offset) l m h = rw h refl
alike s (Call.IsBadBlock block) l m h = refl
alike s (Call.MarkBadBlock block) l m h = refl

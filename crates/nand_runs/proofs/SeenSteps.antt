-- What is seen of a read's steps on a driver at rest: what is seen of its run, and nothing where it has none.
use Prim.Native.Nat.{ℕ, zero, suc}
use native.Mathlib.Omega.{arith}
use mathlib.Core.Bool.{Bool, true, false, true≢false}
use mathlib.Core.Logic.{⊎_elim}
use mathlib.Core.Path.{◌≡◌, refl, ap, sym, ◌∙◌, subst}
use mathlib.Core.List.{List, [], ◌++◌}
use lib.ListN.{length}
use lib.Dec.{ltb}
use borrow.Author.Tests.{ltb-false}
use Rattle.qspi.proofs.Cases.{by_cases}
use Rattle.spi_flash.specs.Loan.{Lent}
use Rattle.spi_flash.specs.Prog.{Prog, ret, fail, ask, ◌>>=◌, ◌>>◌, refuse}
use Rattle.spi_flash.specs.Run.{Event, Given, act, ended, failed, refused, Entry, delay_asked}
use Rattle.spi_flash.specs.Settling as Settling
use Rattle.spi_flash.specs.declared.loan.Takes.{Takes}
use Rattle.flash_runs.specs.Driver.{run_at, steps_at}
use Rattle.flash_runs.specs.Refusals.{RefusesJust, RefusalsKeep}
use Rattle.flash_runs.specs.Watch.{Succeeded}
use Rattle.flash_runs.specs.WithinBound.{GivesAction}
use Rattle.flash_runs.proofs.AtOnce.{ended-well}
use Rattle.flash_runs.proofs.NoRun.{acts-alike, quiet-watched, quiet-bytes, quiet-asked}
use Rattle.flash_runs.proofs.Judged.{refuses-just}
use Rattle.flash_runs.proofs.Refusals.{refusals-keep}
use Rattle.spi_nand.specs.declared.call.Call.{Call}
use Rattle.spi_nand.specs.declared.config.NandGeometry.{NandGeometry}
use Rattle.spi_nand.specs.declared.setup.Setup.{Setup}
use Rattle.spi_nand.specs.Config.{page_count_of}
use Rattle.spi_nand.specs.Transfer.{in_range, place_of, page_at}
use Rattle.nand_driver.specs.Settle.{SpiNandFlash}
use Rattle.nand_runs.specs.Bound.{pages_touched}
use Rattle.nand_runs.specs.Observer.{reads_cache, unseen, observer}
use Rattle.nand_runs.specs.Program.{Left}
use Rattle.nand_runs.specs.ReadSeen.{sight_of, read_so_far, touched, placed, NoneUncorrectable, ReadSeen}
use Rattle.nand_runs.specs.Run.{sort_of, nand, nand_driver}
use Rattle.nand_runs.specs.Rust.{load-page}
use Rattle.nand_runs.proofs.AsCoded.{page-read, read-loop, reading, read}
use Rattle.nand_runs.proofs.AsCoded.{coded_rust}
use Rattle.nand_runs.proofs.Agrees as Agrees
use Rattle.nand_runs.proofs.Is.{nand-is}
use Rattle.nand_runs.proofs.Known.{known}
use Rattle.nand_runs.proofs.Places.{parts}

-- where nothing is seen, and only a read of nothing succeeds
module _ (g : NandGeometry) (offset len : ℕ) (xs : List (Entry Call Left)) (sight : sight_of xs ≡ unseen) (bytes : read_so_far xs ≡ []) (asked : delay_asked xs ≡ 0)
    (empty : Succeeded xs → len ≡ 0) where
  pub quiet-seen : ReadSeen xs g offset len
  unfolding pages_touched
  quiet-seen = record {
    loads = record { rest = touched g offset len; whole = ap (λ s. s.loads ++ touched g offset len) sight };
    reads = ap (λ s. s.reads) sight ∙ ap (placed g offset) (sym bytes);
    in_order = ap (λ s. s.in_order) sight;
    whole = λ s.
        let none : pages_touched g offset len ≡ 0 = ap (pages_touched g offset) (empty s) in
        record {
          loads = ap (λ s. s.loads) sight ∙ ap (touched g offset) (sym (empty s));
          verdicts = ap (λ s. length s.verdicts) sight ∙ sym none;
          correctable = subst NoneUncorrectable (sym (ap (λ s. s.verdicts) sight)) tt;
          filled = ap length bytes ∙ sym (empty s);
          programs = ap (λ s. s.programs) sight;
          plain = ap (λ s. s.plain) sight;
          least = omega (arith, none);
          most = omega (arith, asked);
        };
  }

-- ---- only a read of nothing succeeds at once

is_ret : {A : Type 0} → Prog A → Bool
is_ret (ret a) = true
is_ret (fail e) = false
is_ret (ask t k) = false

-- a load is never the end
page-asks : (flash : Setup) (page : ℕ) → is_ret (page-read flash page) ≡ false
unfolding page-read load-page refuse ◌>>=◌ ◌>>◌ is_ret
page-asks flash page = by_cases (ltb page (page_count_of flash.geometry)) (λ e. rw e refl) (λ e. rw e refl)

then-asks : {A B : Type 0} (p : Prog A) (f : A → Prog B) → is_ret p ≡ false → is_ret (p >>= f) ≡ false
unfolding ◌>>=◌ is_ret
then-asks (ret a) f h = absurd (true≢false h)
then-asks (fail e) f h = refl
then-asks (ask t k) f h = refl

loop-asks : (flash : Setup) (offset n m : ℕ) → m ≡ suc n → is_ret (read-loop flash m offset (suc n) 0) ≡ false
unfolding read-loop ◌>>◌
loop-asks flash offset n m e =
    rw e
    (by_cases (ltb 0 (suc n))
    (λ some. rw some (then-asks (page-read flash (page_at flash.geometry (place_of offset 0))) _ (page-asks flash _)))
    (λ none. let z = ltb-false 0 (suc n) none in absurd (omega arith)))

pub read-at-once : (flash : Setup) (offset len : ℕ) (a b : Left) → (read flash offset len >> ret a) ≡ ret b → len ≡ 0
unfolding read reading refuse ◌>>=◌ ◌>>◌ is_ret
read-at-once flash offset zero a b h = refl
read-at-once flash offset (suc n) a b h =
    by_cases (in_range flash.geometry offset (suc n))
    (λ e. absurd (true≢false (sym (ap is_ret (rw e at h)) ∙ then-asks _ (λ x. ret a) (loop-asks flash offset n _ (omega arith)))))
    (λ e. absurd (true≢false (sym (ap is_ret (rw e at h)))))

module _ (flash : SpiNandFlash) (offset : ℕ) (l : Lent) (es : List (Event Call)) (free : nand_driver.system.running flash ≡ false) where
  abbrev c : Call
  c = Call.Read offset

  abbrev began : Given Left
  began = (nand.begin flash c l).given

  just : RefusesJust nand_driver
  just = refuses-just known

  keep : RefusalsKeep nand_driver
  keep = refusals-keep nand_driver parts nand-is

  empty : (GivesAction began → ⊥) → Succeeded (steps_at nand_driver flash c l es) → length l.buffer ≡ 0
  unfolding sort_of coded_rust Settling.settled
  empty silent s =
      ⊎_elim (λ x. read-at-once flash.setup offset (length l.buffer) _ _ (sym (Agrees.same flash.setup x.bounds c (length l.buffer) (length l.given)) ∙ x.program))
      (λ o. absurd (silent (subst GivesAction (sym ((known.is.begins flash c l).given ∙ ap (λ m. m.given) o.is)) tt)))
      (ended-well known flash c l (Takes.Buffer (length l.buffer)) refl es s)

  at-once : (GivesAction began → ⊥) → ReadSeen (steps_at nand_driver flash c l es) flash.setup.geometry offset (length l.buffer)
  at-once silent =
      quiet-seen flash.setup.geometry offset (length l.buffer) (steps_at nand_driver flash c l es)
      (quiet-watched just keep flash c l free silent es observer unseen)
      (quiet-bytes just keep flash c l free silent es reads_cache)
      (quiet-asked just keep flash c l free silent es)
      (empty silent)

  by-given : (g : Given Left) → began ≡ g → ReadSeen (run_at nand_driver flash c l es) flash.setup.geometry offset (length l.buffer) →
      ReadSeen (steps_at nand_driver flash c l es) flash.setup.geometry offset (length l.buffer)
  by-given (act shown) e h = rw (acts-alike nand flash c l es shown e) h
  by-given (ended a) e h = at-once (λ a. subst GivesAction e a)
  by-given (failed x) e h = at-once (λ a. subst GivesAction e a)
  by-given (refused x) e h = at-once (λ a. subst GivesAction e a)

  pub steps-seen : ReadSeen (run_at nand_driver flash c l es) flash.setup.geometry offset (length l.buffer) →
      ReadSeen (steps_at nand_driver flash c l es) flash.setup.geometry offset (length l.buffer)
  steps-seen h = by-given began refl h

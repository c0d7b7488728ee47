-- What is refused leaves the driver and every lent byte as they were.
use Prim.Native.Nat.{ℕ}
use native.Mathlib.Omega.{arith}
use mathlib.Core.Bool.{Bool, true, false}
use mathlib.Core.Path.{◌≡◌, refl, ap, sym, ◌∙◌}
use mathlib.Core.List.{List}
use lib.ListN.{length}
use Rattle.std.specs.Prelude.{Result, Ok, Err}
use Rattle.qspi.specs.Choice.{pick}
use Rattle.qspi.specs.Shown.{Shown}
use Rattle.qspi.specs.declared.bus.Reply.{Reply}
use Rattle.spi_flash.specs.Entry.{entry_of}
use Rattle.spi_flash.specs.Beginning as Beginning
use Rattle.spi_flash.specs.Settling as Settling
use Rattle.spi_flash.specs.Loan.{Lent}
use Rattle.spi_flash.specs.Run as Run
use Rattle.spi_flash.specs.declared.error.FlashError.{FlashError}
use Rattle.spi_flash.specs.declared.loan.Takes.{Takes}
use Rattle.flash_runs.specs.Driver.{Left, Driver}
use Rattle.flash_runs.specs.Refusals.{RefusalsKeep}
use Rattle.flash_runs.specs.System.{left_with}
use Rattle.flash_runs.proofs.General as General
use Rattle.flash_runs.proofs.General.{Then, Opening, constructing, telling, releasing, working, Parts, Job, Running, idle, busy, Flash, Stepped, plain, Step, settled, told, opened, freed, constructed, begun, opened_as, proceeds, answer_at, begin_at}
use Rattle.flash_runs.proofs.Supplies.{Alike, Is}
use Rattle.flash_runs.proofs.Steps.{step-view}
use Rattle.flash_runs.proofs.Runs.{viewed}

-- an action or an end is no refusal
acts-not : {B : Type 0} (shown : Shown) (e : FlashError) → ◌≡◌ {A = Run.Given B} (Run.act shown) (Run.refused e) → ⊥
acts-not shown e h = let z : ◌≡◌ {A = ℕ} 0 1 = cc in omega arith

ends-not : {B : Type 0} (b : B) (e : FlashError) → ◌≡◌ {A = Run.Given B} (Run.ended b) (Run.refused e) → ⊥
ends-not b e h = let z : ◌≡◌ {A = ℕ} 0 1 = cc in omega arith

fails-not : {B : Type 0} (x e : FlashError) → ◌≡◌ {A = Run.Given B} (Run.failed x) (Run.refused e) → ⊥
fails-not x e h = let z : ◌≡◌ {A = ℕ} 0 1 = cc in omega arith

-- ---- the general driver

module _ {S P A : Type 0} where
  Keeps : Flash S P → Lent → Step S P A → Type 0
  Keeps flash l m = (e : FlashError) → m.given ≡ Run.refused e → (m.flash ≡ flash) × (m.left ≡ l)

  kept-pick : (flash : Flash S P) (l : Lent) (b : Bool) (x y : Stepped S P A) → Keeps flash l (left_with plain x l) → Keeps flash l (left_with plain y l) → Keeps flash l (left_with plain (pick b x y) l)
  kept-pick flash l true x y h k = h
  kept-pick flash l false x y h k = k

  settled-kept : (flash kept : Flash S P) (takes : Takes) (x : Then S P A) (l k : Lent) → Keeps kept k (settled flash takes x l)
  unfolding Keeps Settling.settled
  settled-kept flash kept takes (General.go s t p) l k e h = absurd (acts-not _ e h)
  settled-kept flash kept takes (General.end s a) l k e h = absurd (ends-not _ e h)
  settled-kept flash kept takes (General.fail x) l k e h = absurd (fails-not x e h)

  told-kept : (flash : Flash S P) (answer : A) (l : Lent) → Keeps flash l (told flash answer l)
  unfolding Keeps Beginning.told
  told-kept flash answer l = kept-pick flash l flash.built _ _ (λ e h. absurd (ends-not _ e h)) (λ e h. (refl, refl))

  opened-kept : (flash : Flash S P) (takes : Takes) (x : Then S P A) (l : Lent) → Keeps flash l (opened flash takes x l)
  unfolding Keeps Beginning.opened
  opened-kept flash takes (General.go s t p) l = settled-kept _ flash takes (General.go s t p) l l
  opened-kept flash takes (General.end s a) l = settled-kept _ flash takes (General.end s a) l l
  opened-kept flash takes (General.fail x) l = λ e h. (refl, refl)

  module _ {C : Type 0} (parts : Parts S P A C) where
    -- a reply
    busy-kept : (flash : Flash S P) (job : Job P) (r : Reply) (bytes : List ℕ) (l : Lent) → Keeps flash l (proceeds parts flash job r bytes l)
    unfolding Keeps
    busy-kept flash job r bytes l =
        step-view parts flash job r bytes l (Keeps flash l)
        (λ e h. (refl, refl))
        (λ g ready fits is e h. absurd (acts-not _ e h))
        (λ o ready fits is. settled-kept flash flash job.takes (parts.next flash.setup job.phase o) _ l)

    reply-kept : (running : Running P) (flash : Flash S P) (r : Reply) (bytes : List ℕ) (l : Lent) → Keeps flash l (answer_at parts running flash r bytes l)
    unfolding Keeps
    reply-kept idle flash r bytes l = λ e h. (refl, refl)
    reply-kept (busy job) flash r bytes l = busy-kept flash job r bytes l

    -- a call
    module _ (in_bounds : S → Bool) where
      freed-kept : (flash : Flash S P) (l : Lent) → Keeps flash l (freed parts in_bounds flash l)
      unfolding Keeps Beginning.freed
      freed-kept flash l = kept-pick flash l flash.built _ _ (λ e h. absurd (ends-not _ e h)) (λ e h. (refl, refl))

      entered-kept : (flash : Flash S P) (l : Lent) (entry : Result (Unit {0}) FlashError) (x : Stepped S P A) → Keeps flash l (left_with plain x l) → Keeps flash l (left_with plain (Beginning.entered plain flash entry x) l)
      unfolding Keeps
      entered-kept flash l (Ok _) x h = h
      entered-kept flash l (Err error) x h = λ e k. (refl, refl)

      begun_kept : (flash : Flash S P) (takes : Takes) (x : Then S P A) (l : Lent) → Keeps flash l (begun parts in_bounds flash takes x l)
      unfolding Beginning.begun
      begun_kept flash takes x l = entered-kept flash l (entry_of flash.built (length l.scratch) (in_bounds flash.setup)) _ (opened-kept flash takes x l)

      constructed-kept : (flash : Flash S P) (fresh : S) (l : Lent) → Keeps flash l (constructed parts in_bounds flash fresh l)
      unfolding Beginning.constructed
      constructed-kept flash fresh l = entered-kept flash l (entry_of true (length l.scratch) (in_bounds fresh)) _ (settled-kept _ flash Takes.Nothing _ l l)

      opening-kept : (flash : Flash S P) (x : Opening S P A) (l : Lent) → Keeps flash l (opened_as parts in_bounds flash x l)
      unfolding Beginning.at_rest
      opening-kept flash (constructing fresh) l = constructed-kept flash fresh l
      opening-kept flash (telling answer) l = told-kept flash answer l
      opening-kept flash releasing l = freed-kept flash l
      opening-kept flash (working takes then) l = begun_kept flash takes then l

      call_kept : (running : Running P) (flash : Flash S P) (c : C) (l : Lent) → Keeps flash l (begin_at parts in_bounds running flash c l)
      unfolding Keeps
      call_kept idle flash c l = opening-kept flash (parts.opening flash.setup c (length l.buffer) (length l.given)) l
      call_kept (busy job) flash c l = λ e h. (refl, refl)

-- ---- every driver

module _ {F C S P A : Type 0} (driver : Driver F C S A) (parts : Parts S P A C) (is : Is driver parts) where
  -- what the general driver keeps is all there is
  transferred : (flash : F) (l : Lent) (m : Run.Moved F (Left S A)) (k : Step S P A) → Alike (viewed driver parts is) m k → Keeps (viewed driver parts is flash) l k →
      (e : FlashError) → m.given ≡ Run.refused e → (m.flash ≡ flash) × (m.left ≡ l)
  unfolding Keeps
  transferred flash l m k s kept e h =
      let both = kept e (sym s.given ∙ h) in
      (sym (is.whole m.flash) ∙ ap is.back (s.flash ∙ both.0) ∙ is.whole flash, s.left ∙ both.1)

  pub refusals-keep : RefusalsKeep driver
  refusals-keep = record {
    calls = λ flash c l. transferred flash l _ _ (is.begins flash c l) (call_kept parts driver.in_bounds (is.running flash) (viewed driver parts is flash) c l);
    replies = λ flash r bytes l. transferred flash l _ _ (is.answers flash r bytes l) (reply-kept parts (is.running flash) (viewed driver parts is flash) r bytes l);
  }

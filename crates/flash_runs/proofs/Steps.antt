-- What one reply can do to a running call: it is refused, the frame goes on, or the transfer is over.
use Prim.Native.Nat.{ℕ}
use mathlib.Core.Bool.{true}
use mathlib.Core.Path.{◌≡◌, refl}
use mathlib.Core.List.{List}
use lib.ListN.{length}
use Rattle.qspi.specs.Bus.{fits_of}
use Rattle.qspi.specs.Frame.{Outcome, action_of, exchange_of, advanced_of, taken_in, gave, given_scratch, delivered_by}
use Rattle.qspi.specs.declared.bus.Reply.{Reply}
use Rattle.qspi.specs.declared.frame.Advanced.{Advanced}
use Rattle.qspi.specs.declared.frame.Exchanged.{Exchanged}
use Rattle.qspi.specs.declared.frame.Frame.{Frame}
use Rattle.spi_flash.specs.Loan.{Lent, ready_for, exchange_for, lent_as}
use Rattle.spi_flash.proofs.Machine.{refusing}
use Rattle.spi_flash.specs.declared.error.FlashError.{FlashError}
use Rattle.qspi.proofs.Cases.{by_cases}
use Rattle.flash_runs.proofs.General.{Parts, Job, Flash, Step, settled, exchanged, afterwards, proceeds}

module _ {S P A C : Type 0} (parts : Parts S P A C) (flash : Flash S P) (job : Job P) (r : Reply) (bytes : List ℕ) (l : Lent) (Q : Step S P A → Type 0) where
  abbrev delivered : ℕ
  delivered = delivered_by job.frame r (length bytes) (length l.buffer) flash.delivered

  -- the lent bytes, when the reply fits, with this scratch
  abbrev left : List ℕ → Lent
  left scratch = lent_as scratch (taken_in job.frame r bytes l.buffer) l

  module _ (refused : Q (refusing FlashError.Misfit flash l))
      (goes : (g : Frame) → ready_for job.takes l ≡ true → fits_of (action_of job.frame) r (length bytes) ≡ true → advanced_of job.frame r bytes l.given ≡ Advanced.More g →
      Q (exchanged parts flash job delivered (Exchanged.Gave g (action_of g)) (left (given_scratch g l.scratch))))
      (over : (o : Outcome) → ready_for job.takes l ≡ true → fits_of (action_of job.frame) r (length bytes) ≡ true → advanced_of job.frame r bytes l.given ≡ Advanced.Over o →
      Q (settled flash job.takes (parts.next flash.setup job.phase o) (left l.scratch))) where
    pub step-view : Q (proceeds parts flash job r bytes l)
    unfolding exchange_for exchange_of
    step-view =
        by_cases (ready_for job.takes l)
        (λ ready. by_cases (fits_of (action_of job.frame) r (length bytes))
        (λ fits. rw (ready, fits) (at ready fits (advanced_of job.frame r bytes l.given) refl))
        (λ fits. rw (ready, fits) refused))
        (λ ready. rw ready refused)
      where
        at : ready_for job.takes l ≡ true → fits_of (action_of job.frame) r (length bytes) ≡ true → (x : Advanced) → advanced_of job.frame r bytes l.given ≡ x →
            Q (afterwards parts flash job delivered (gave x l.scratch (taken_in job.frame r bytes l.buffer)) l)
        at ready fits (Advanced.More g) e = goes g ready fits e
        at ready fits (Advanced.Over o) e = over o ready fits e

-- What the general driver of flash_runs gives to a reply goes by what the reply does to the frame.
use Prim.Native.Nat.{ℕ}
use mathlib.Core.Path.{refl}
use mathlib.Core.List.{List}
use Rattle.qspi.specs.declared.bus.Reply.{Reply}
use Rattle.qspi.proofs.Cases.{by_cases}
use Rattle.qspi.specs.Frame.{exchange_of}
use Rattle.qspi.specs.declared.frame.Exchanged.{Exchanged}
use Rattle.spi_flash.specs.Settling as Settling
use Rattle.spi_flash.specs.Loan.{Lent, ready_for, exchange_for, lent_as}
use Rattle.spi_flash.specs.declared.loan.Takes.{Takes}
use Rattle.flash_runs.proofs.General as General
use Rattle.flash_runs.proofs.General.{Then, Parts, Job, Running, idle, busy, Flash, settled, exchanged, answer_at}
use Rattle.tape_runs.specs.Player.{awaited_in}
use Rattle.tape_runs.proofs.Laws.{Unrefused, Heard, Hears}

module _ {S P A C : Type 0} (parts : Parts S P A C) where
  settled-taken : (flash : Flash S P) (takes : Takes) (then : Then S P A) (l : Lent) → Unrefused (settled flash takes then l).given
  unfolding Settling.settled
  settled-taken flash takes (General.go setup t phase) l = tt
  settled-taken flash takes (General.end setup answer) l = tt
  settled-taken flash takes (General.fail error) l = tt

  exchanged-heard : (flash : Flash S P) (job : Job P) (delivered : ℕ) (x : Exchanged) (l : Lent) → Heard x (exchanged parts flash job delivered x l).given
  exchanged-heard flash job delivered Exchanged.Misfit l = refl
  exchanged-heard flash job delivered (Exchanged.Gave next action) l = tt
  exchanged-heard flash job delivered (Exchanged.Over outcome) l = settled-taken flash job.takes (parts.next flash.setup job.phase outcome) l

  pub general-hears : (running : Running P) (flash : Flash S P) (kind : Reply) (bytes : List ℕ) (l : Lent) →
      Hears (awaited_in running) kind bytes l (answer_at parts running flash kind bytes l).given
  unfolding exchange_for
  general-hears idle flash kind bytes l = refl
  general-hears (busy job) flash kind bytes l =
      let x = exchange_of job.frame kind bytes l.scratch l.buffer l.given in
      by_cases (ready_for job.takes l)
      (λ ready. rw ready (exchanged-heard flash job _ x.exchanged (lent_as x.scratch x.buffer l)))
      (λ ready. rw ready refl)

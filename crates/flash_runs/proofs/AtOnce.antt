-- A call that has ended well has gone to the bus, or it has ended at once, without the bus, as its program does.
use Prim.Native.Nat.{ℕ}
use native.Mathlib.Omega.{arith}
use mathlib.Core.Bool.{true}
use mathlib.Core.Logic.{◌⊎◌, inl, inr}
use mathlib.Core.Path.{◌≡◌, refl, ap, sym, ◌∙◌, subst}
use mathlib.Core.List.{List, ◌∷◌}
use lib.ListN.{length}
use lib.Dec.{ltb}
use borrow.Author.Tests.{ltb-false}
use Rattle.qspi.specs.Command.{scratch_least}
use Rattle.qspi.proofs.Cases.{by_cases}
use Rattle.spi_flash.specs.Loan.{Lent}
use Rattle.spi_flash.specs.Prog.{ret}
use Rattle.spi_flash.specs.Run.{Event, call, Given, act, ended, failed, refused, goes_on, opening, call_of}
use Rattle.spi_flash.proofs.Machine.{machine, rest}
use Rattle.spi_flash.specs.declared.error.FlashError.{FlashError}
use Rattle.spi_flash.specs.declared.loan.Takes.{Takes}
use Rattle.flash_runs.specs.Driver.{Left, leaving, uses, Driver, sort_at, program_at, bounded_at, steps_at}
use Rattle.flash_runs.specs.Refusals.{RefusedAs, call_refusal}
use Rattle.flash_runs.specs.SameAsRust.{Ready, Usable}
use Rattle.flash_runs.specs.Watch.{Succeeded}
use Rattle.flash_runs.proofs.General.{decide_next}
use Rattle.flash_runs.proofs.Judged.{refuses-just}
use Rattle.flash_runs.proofs.Runs.{machine-runs, same-call}
use Rattle.flash_runs.proofs.Supplies.{Known}
use Rattle.flash_runs.proofs.Views.{shape, driven, Opens, Answered, gives, turns, usable, begun-opens}

not-refused : {B : Type 0} (b : B) (e : FlashError) → ◌≡◌ {A = Given B} (ended b) (refused e) → ⊥
not-refused b e h = let z : ◌≡◌ {A = ℕ} 0 1 = cc in omega arith

module _ {F C S A : Type 0} {driver : Driver F C S A} (known : Known driver) (flash : F) (c : C) (l : Lent) where
  -- the call's end without the bus: nothing is done then, whatever the events
  pub record EndsAtOnce : Type 0 where
    pub answer : A
    pub program : program_at driver (driver.setup flash) c l ≡ ret (leaving (driver.setup flash) answer)
    pub bounds : bounded_at driver flash c l ≡ true
    pub steps : (es : List (Event C)) → steps_at driver flash c l es ≡
        record { event = call c l; given = ended (leaving (driver.setup flash) answer); left = l } ∷ goes_on (machine (decide_next known.parts) C) rest es

  module _ (takes : Takes) (sorted : sort_at driver c l ≡ uses takes) where
    abbrev Begins : Given (Left S A) → Type 0
    Begins g = (driver.system.begin flash c l).given ≡ g

    -- what ends at once was not turned away
    taken : (a : Left S A) → Begins (ended a) → Usable driver flash c l
    taken a e =
        let just : RefusedAs (call_refusal driver flash c l) (ended a) = subst (RefusedAs (call_refusal driver flash c l)) e ((refuses-just known).calls flash c l) in
        by_cases (driver.system.running flash)
        (λ busy. absurd (not-refused a FlashError.OutOfTurn (rw busy at just)))
        (λ free. by_cases (driver.built flash)
        (λ there. by_cases (ltb (length l.scratch) scratch_least)
        (λ short. absurd (not-refused a FlashError.Misfit (rw (free, sorted, there, short) at just)))
        (λ lent. by_cases (bounded_at driver flash c l)
        (λ inside. record {
          idle = free;
          ready = subst (λ x. Ready driver x flash l) (sym sorted) (there, ltb-false (length l.scratch) scratch_least lent);
          bounds = inside;
        })
        (λ outside. absurd (not-refused a FlashError.InvalidGeometry (rw (free, outside, sorted, there, lent) at just)))))
        (λ absent. absurd (not-refused a FlashError.OutOfTurn (rw (free, sorted, absent) at just))))

    answered : (a : Left S A) → Begins (ended a) → Usable driver flash c l → Answered known (shape known flash) c l → EndsAtOnce
    unfolding call_of
    answered a e u (gives answer built delivered program is kept) = record {
      answer = answer;
      program = program;
      bounds = u.bounds;
      steps = λ es.
          same-call driver known.parts known.is flash c l es
          ∙ ap (λ m. opening c l m ∷ goes_on (driven known) m.flash es) is
          ∙ ap (λ xs. record { event = call c l; given = ended (leaving (driver.setup flash) answer); left = l } ∷ xs) (machine-runs known.parts driver.in_bounds _ es);
    }
    answered a e u (turns error takes program is kind) =
        absurd (not-refused a error (sym e ∙ (known.is.begins flash c l).given ∙ ap (λ m. m.given) is))

    ended-so : (a : Left S A) → Begins (ended a) → EndsAtOnce ⊎ Opens known (shape known flash) c l
    ended-so a e = let u = taken a e in by (usable known flash c l u) u
      where
        by : Answered known (shape known flash) c l ⊎ Opens known (shape known flash) c l → Usable driver flash c l → EndsAtOnce ⊎ Opens known (shape known flash) c l
        by (inl x) u = inl (answered a e u x)
        by (inr o) u = inr o

    pub ended-well : (es : List (Event C)) → Succeeded (steps_at driver flash c l es) → EndsAtOnce ⊎ Opens known (shape known flash) c l
    unfolding call_of Succeeded
    ended-well es h = by ((driver.system.begin flash c l).given) refl h
      where
        by : (g : Given (Left S A)) → Begins g →
            Succeeded (opening c l (driver.system.begin flash c l) ∷ goes_on driver.system (driver.system.begin flash c l).flash es) →
            EndsAtOnce ⊎ Opens known (shape known flash) c l
        by (act shown) e h = inr (begun-opens known flash c l (rw e tt))
        by (ended a) e h = ended-so a e
        by (failed x) e h = absurd (rw e at h)
        by (refused x) e h = absurd (rw e at h)

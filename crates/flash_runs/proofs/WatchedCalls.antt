-- What a watcher sees of every run of a call, and of every good end, from what it sees of the call's program.
use mathlib.Core.Bool.{true}
use mathlib.Core.Logic.{⊎_elim}
use mathlib.Core.Path.{◌≡◌, sym, ◌∙◌, subst}
use mathlib.Core.List.{List}
use Rattle.spi_flash.specs.Loan.{Lent}
use Rattle.spi_flash.specs.Run.{Event}
use Rattle.spi_flash.specs.declared.loan.Takes.{Takes}
use Rattle.flash_runs.specs.Driver.{uses, Driver, sort_at, takes_at, program_at, bounded_at, run_at, steps_at}
use Rattle.flash_runs.specs.Watch.{Watcher, watched, Succeeded}
use Rattle.flash_runs.proofs.AtOnce.{EndsAtOnce, ended-well}
use Rattle.flash_runs.proofs.General.{decide_next}
use Rattle.flash_runs.proofs.Supplies.{Known}
use Rattle.flash_runs.proofs.Views.{shape, Opens, Nothing-begun, view, no_run, opens-run, opens-call}
use Rattle.flash_runs.proofs.WatchedRuns.{watches, rest-sees}
use Rattle.flash_runs.proofs.Watching.{Shows}

module _ {F C S A : Type 0} {driver : Driver F C S A} (known : Known driver) (flash : F) (c : C) (l : Lent) (es : List (Event C))
    {Z : Type 0} (w : Watcher Z) (Q E : Z → Type 0) (z : Z) (first : Q z)
    (shows : bounded_at driver flash c l ≡ true → Shows w Q (λ a y. E y) z (program_at driver (driver.setup flash) c l)) where
  opened-sees : (o : Opens known (shape known flash) c l) → Q (watched w z (run_at driver flash c l es)) × (Succeeded (run_at driver flash c l es) → E (watched w z (run_at driver flash c l es)))
  opened-sees o =
      rw (opens-run known flash o es)
      (watches C known.Valid (decide_next known.parts) known.meaning known.supplies.simulates (takes_at driver c l) w Q E o.first o.at c l es z o.valid
      (subst (Shows w Q (λ a y. E y) z) o.program (shows o.bounds)))

  nothing-sees : Nothing-begun known (shape known flash) c l → Q (watched w z (run_at driver flash c l es)) × (Succeeded (run_at driver flash c l es) → E (watched w z (run_at driver flash c l es)))
  unfolding watched Succeeded
  nothing-sees n = rw (no_run known flash n es) (first, (λ h. absurd h))

  pub run-sees : Q (watched w z (run_at driver flash c l es)) × (Succeeded (run_at driver flash c l es) → E (watched w z (run_at driver flash c l es)))
  run-sees = ⊎_elim nothing-sees opened-sees (view known flash c l)

  -- at a good end
  module _ (takes : Takes) (sorted : sort_at driver c l ≡ uses takes) (e : Succeeded (steps_at driver flash c l es)) where
    Ended : Type 0
    Ended = Q (watched w z (steps_at driver flash c l es)) × E (watched w z (steps_at driver flash c l es))

    at-once : EndsAtOnce known flash c l → Ended
    unfolding Ended watched
    at-once x =
        let none = rest-sees C known.Valid (decide_next known.parts) known.meaning known.supplies.simulates (takes_at driver c l) w Q E es z in
        let end = subst (Shows w Q (λ a y. E y) z) x.program (shows x.bounds) in
        rw (x.steps es, none) (first, end.shows)

    by_run : Opens known (shape known flash) c l → Ended
    unfolding Ended
    by_run o =
        let same : steps_at driver flash c l es ≡ run_at driver flash c l es = opens-call known flash o es ∙ sym (opens-run known flash o es) in
        let seen = opened-sees o in
        rw same (seen.0, seen.1 (subst Succeeded same e))

    pub steps-see : Q (watched w z (steps_at driver flash c l es)) × E (watched w z (steps_at driver flash c l es))
    unfolding Ended
    steps-see = ⊎_elim at-once by_run (ended-well known flash c l takes sorted es e)

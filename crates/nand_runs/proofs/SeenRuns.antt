-- What holds of every run of a read, as it is seen from outside.
use Prim.Native.Nat.{ℕ, ◌+◌, ◌*◌, ◌≤◌}
use native.Mathlib.Omega.{arith}
use mathlib.Core.Bool.{true, false}
use mathlib.Core.Path.{◌≡◌, ap, subst}
use mathlib.Core.List.{List, [], ◌∷◌}
use Rattle.qspi.specs.Frame.{Outcome, first_of}
use Rattle.qspi.specs.declared.transfer.Transfer.{Transfer}
use Rattle.spi_flash.specs.Loan.{Lent}
use Rattle.spi_flash.specs.Path.{delays, Bounded}
use Rattle.spi_flash.proofs.Paths.{AtLeast}
use Rattle.spi_flash.specs.Prog.{Prog, ret, ask, ◌>>◌}
use Rattle.spi_flash.specs.Run.{Event, call, Entry, entry, goes_on, delay_asked}
use Rattle.spi_flash.proofs.Machine.{Decision, more, out, settle, machine, Simulates}
use Rattle.spi_flash.specs.declared.loan.Takes.{Takes}
use Rattle.spi_flash.proofs.Laws.{at-least-zero, at-least-then, at-least-eq}
use Rattle.spi_flash.proofs.Runs.{first-delay, run-bound}
use Rattle.flash_runs.specs.Watch.{watched, Succeeded}
use Rattle.flash_runs.proofs.Least.{run-least}
use Rattle.flash_runs.proofs.Watchers.{both-watch, got, reader, reader-reads}
use Rattle.flash_runs.proofs.Watching.{Shows, shows-ret, shows_then}
use Rattle.flash_runs.proofs.WatchedRuns.{watches}
use Rattle.spi_nand.specs.Config.{in_bounds}
use Rattle.spi_nand.specs.declared.setup.Setup.{Setup}
use Rattle.nand_runs.specs.Bound.{pages_touched}
use Rattle.nand_runs.specs.Observer.{reads_cache, unseen, observer}
use Rattle.nand_runs.specs.ReadSeen.{sight_of, read_so_far, ReadSeen}
use Rattle.nand_runs.proofs.AsCoded.{read}
use Rattle.nand_runs.proofs.LeastDelay.{least-read}
use Rattle.nand_runs.proofs.SeenCalls.{Sights, watcher, Q}
use Rattle.nand_runs.proofs.SeenRead.{Sound, Whole, read-shows}

module _ (flash : Setup) (bounds : in_bounds flash.geometry ≡ true) (offset len : ℕ) where
  abbrev pages : ℕ
  pages = pages_touched flash.geometry offset len

  abbrev Fine : Sights → Type 0
  Fine = Q (Sound flash bounds offset len)

  abbrev Full : Sights → Type 0
  Full = Whole flash bounds offset len

  abbrev first : Sights
  first = (unseen, got false [])

  -- what both watchers see is what each sees
  abbrev each : {C A : Type 0} → List (Entry C A) → Sights
  each xs = (sight_of xs, watched (reader reads_cache) (got false []) xs)

  seen : {C A : Type 0} (xs : List (Entry C A)) → watched watcher first xs ≡ each xs
  seen xs = both-watch observer (reader reads_cache) xs unseen (got false [])

  read_is : {C A : Type 0} (xs : List (Entry C A)) → (each xs).1.bytes ≡ read_so_far xs
  read_is xs = reader-reads reads_cache xs false []

  module _ (C : Type 0) {S A : Type 0} (Valid : S → Type 0) (next : S → Outcome → Decision S A) (meaning : S → ℕ → Prog A) (sim : Simulates Valid next meaning) (k : Takes)
      (t : Transfer) (s : S) (valid : Valid s) (a : A) (follows : (read flash offset len >> ret a) ≡ ask t (meaning s))
      (bounded : Bounded delays (400000 * pages) (read flash offset len >> ret a)) (c : C) (l : Lent) (es : List (Event C)) where
    abbrev later : List (Entry C A)
    later = goes_on (machine next C) (out k s (first_of t)) es

    abbrev xs : List (Entry C A)
    xs = entry (call c l) (settle k (more t s) l) ∷ later

    shows : Shows watcher Fine (λ b y. Full y) first (ask t (meaning s))
    shows = subst (Shows watcher Fine (λ b y. Full y) first) follows (shows_then watcher Fine (read-shows flash bounds offset len) (λ u y w. shows-ret watcher Fine w))

    told : Fine (each xs) × (Succeeded xs → Full (each xs))
    told = subst (λ z. Fine z × (Succeeded xs → Full z)) (seen xs) (watches C Valid next meaning sim k watcher Fine Full t s c l es first valid shows)

    -- the delays given out, the first action's among them
    delay-is : delay_asked xs ≡ delays t + delay_asked later
    unfolding delay_asked
    delay-is = ap (λ n. n + delay_asked later) (first-delay t l.scratch l.given)

    least : Succeeded xs → 10 * pages ≤ delay_asked xs
    unfolding Succeeded
    least e =
        let long : AtLeast delays (10 * pages) (ask t (meaning s)) =
        subst (AtLeast delays (10 * pages)) follows (at-least-eq (omega arith) (at-least-then {c = 0} (least-read flash bounds offset len) at-least-zero)) in
        omega (arith, delay-is, run-least Valid next k meaning sim t s valid long es e)

    most : delay_asked xs ≤ 400000 * pages
    most = omega (arith, delay-is, run-bound Valid next k meaning sim t s valid (subst (Bounded delays (400000 * pages)) follows bounded) es)

    pub read-seen : ReadSeen xs flash.geometry offset len
    read-seen =
        let fine = told.0 in
        record {
          loads = fine.begun;
          reads = rw (read_is xs) at fine.recorded;
          in_order = fine.in_order;
          whole = λ e. let full = told.1 e in record {
            loads = full.loads;
            verdicts = full.verdicts;
            correctable = full.correctable;
            filled = rw (read_is xs) at full.filled;
            programs = full.programs;
            plain = full.plain;
            least = least e;
            most = most;
          };
        }

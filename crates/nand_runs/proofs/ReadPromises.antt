-- What every read of the NAND driver does on the bus, and what it asks.
use Prim.Native.Nat.{ℕ, ◌*◌}
use native.Mathlib.Omega.{arith}
use mathlib.Core.Bool.{true}
use mathlib.Core.Logic.{⊎_elim}
use mathlib.Core.Path.{◌≡◌, refl, sym, subst, ◌∙◌}
use mathlib.Core.List.{List, []}
use lib.ListN.{length}
use Rattle.spi_flash.specs.Loan.{Lent}
use Rattle.spi_flash.specs.Path.{delays, Bounded, Ends}
use Rattle.spi_flash.specs.Run.{Event, Entry, delay_asked}
use Rattle.spi_flash.proofs.Laws.{ends-ret, ends-then, ends-eq}
use Rattle.flash_runs.specs.Driver.{leaving, takes_at, program_at, run_at}
use Rattle.flash_runs.specs.Reading.{bytes_read}
use Rattle.flash_runs.specs.Watch.{watched, Succeeded}
use Rattle.flash_runs.specs.WithinBound.{Begun}
use Rattle.flash_runs.proofs.WithinBound.{within_bound}
use Rattle.flash_runs.proofs.EndsAsking.{ends-asking}
use Rattle.flash_runs.proofs.General.{decide_next}
use Rattle.flash_runs.proofs.Lent.{lent_bytes}
use Rattle.flash_runs.proofs.Supplies.{Asks}
use Rattle.flash_runs.proofs.Views.{shape, Opens, view, no_run, begun-opens, opens-run}
use Rattle.spi_nand.specs.Config.{in_bounds}
use Rattle.spi_nand.specs.Transfer.{in_range}
use Rattle.spi_nand.specs.declared.answer.Answer.{Answer}
use Rattle.spi_nand.specs.declared.call.Call.{Call}
use Rattle.spi_nand.specs.declared.config.NandGeometry.{NandGeometry}
use Rattle.spi_nand.specs.declared.opcode.Operation.{Operation}
use Rattle.nand_driver.specs.Settle.{SpiNandFlash}
use Rattle.nand_runs.specs.Bound.{pages_touched, delay_bound}
use Rattle.nand_runs.specs.Program.{Left}
use Rattle.nand_runs.proofs.AsCoded.{coded_rust, coded}
use Rattle.nand_runs.proofs.Agrees.{same}
use Rattle.nand_runs.specs.Promises.{EndsAsking, ReadsAsAsked}
use Rattle.nand_runs.specs.ReadSeen.{ReadSeen}
use Rattle.nand_runs.specs.Run.{sort_of, nand_driver}
use Rattle.nand_runs.specs.Rust.{wait-ready}
use Rattle.nand_runs.proofs.Begins.{begins}
use Rattle.nand_runs.proofs.Ends.{read-by}
use Rattle.nand_runs.proofs.Known.{known}
use Rattle.nand_runs.proofs.Meaning.{meaning}
use Rattle.nand_runs.proofs.Places.{parts, Valid}
use Rattle.nand_runs.proofs.ProgramBounds.{program-bounds}
use Rattle.nand_runs.proofs.SeenRuns.{read-seen}
use Rattle.nand_runs.proofs.SeenSteps.{quiet-seen, steps-seen}
use Rattle.nand_runs.proofs.Simulation.{simulates}
use Rattle.nand_runs.proofs.Waits.{wait-ends, wait-soonest}

module _ (flash : SpiNandFlash) (offset : ℕ) (l : Lent) (es : List (Event Call)) where
  abbrev len : ℕ
  len = length l.buffer

  abbrev geometry : NandGeometry
  geometry = flash.setup.geometry

  abbrev run : List (Entry Call Left)
  run = run_at nand_driver flash (Call.Read offset) l es

  in-words : in_bounds flash.setup.geometry ≡ true → program_at nand_driver flash.setup (Call.Read offset) l ≡ coded flash.setup (Call.Read offset) len (length l.given)
  in-words inside = same flash.setup inside (Call.Read offset) len (length l.given)

  opened : Opens known (shape known flash) (Call.Read offset) l → ReadSeen run geometry offset len
  unfolding sort_of coded_rust delay_bound
  opened o =
      rw (opens-run known flash o es)
      (read-seen flash.setup o.bounds offset len Call Valid (decide_next parts) meaning simulates (takes_at nand_driver (Call.Read offset) l)
      o.first o.at o.valid (leaving flash.setup Answer.Done) (sym (in-words o.bounds) ∙ o.program)
      (subst (Bounded delays (delay_bound flash.setup (Call.Read offset) len)) (in-words o.bounds) (program-bounds.bounded flash.setup o.bounds (Call.Read offset) len (length l.given)))
      (Call.Read offset) l es)

  no-run-seen : (xs : List (Entry Call Left)) → xs ≡ [] → ReadSeen xs geometry offset len
  unfolding watched bytes_read delay_asked Succeeded
  no-run-seen xs e = rw e (quiet-seen geometry offset len [] refl refl refl (λ s. absurd s))

  pub seen : ReadSeen run geometry offset len
  seen = ⊎_elim (λ n. no-run-seen run (no_run known flash {c = Call.Read offset} {l = l} n es)) opened (view known flash (Call.Read offset) l)

-- ---- the least and the most that a read may ask

module _ (flash : SpiNandFlash) (offset : ℕ) (l : Lent) (begun : Begun nand_driver flash (Call.Read offset) l) where
  ends-asking-on : (o : Opens known (shape known flash) (Call.Read offset) l) (n d : ℕ) → n ≡ pages_touched flash.setup.geometry offset (length l.buffer) * d →
      Ends l.given delays d tt (wait-ready Operation.PageRead) → EndsAsking nand_driver flash (Call.Read offset) l n
  unfolding sort_of coded_rust
  ends-asking-on o n d e waits =
      let words = same flash.setup o.bounds (Call.Read offset) (length l.buffer) (length l.given) in
      let inside : in_range flash.setup.geometry offset (length l.buffer) ≡ true = begins flash.setup (length l.buffer) (length l.given) (Call.Read offset) (subst Asks words (asks-of o)) in
      let r = ends-asking known flash (Call.Read offset) l o n (leaving flash.setup Answer.Done)
      (subst (Ends l.given delays n (leaving flash.setup Answer.Done)) (sym words) (ends-eq (omega (arith, e)) (ends-then (read-by l.given flash.setup o.bounds offset (length l.buffer) inside d waits) ends-ret))) in
      record {
        replies = r.0;
        real = r.1;
        fits = λ ls n w. (r.2 ls n w).0;
        succeeds = λ ls n w. (r.2 ls n w).1;
        asks = λ ls n w. (r.2 ls n w).2;
      }
    where
      asks-of : Opens known (shape known flash) (Call.Read offset) l → Asks (program_at nand_driver flash.setup (Call.Read offset) l)
      asks-of o = rw o.program tt

  ends-asking-at : (n d : ℕ) → n ≡ pages_touched flash.setup.geometry offset (length l.buffer) * d → Ends l.given delays d tt (wait-ready Operation.PageRead) →
      EndsAsking nand_driver flash (Call.Read offset) l n
  ends-asking-at = ends-asking-on (begun-opens known flash (Call.Read offset) l begun)

pub reads-as-asked : ReadsAsAsked nand_driver
unfolding sort_of
reads-as-asked = record {
  within_bound = within_bound known;
  read = λ flash offset l es free. steps-seen flash offset l es free (seen flash offset l es);
  read_runs = seen;
  read_ends = λ flash offset l small begun. (within_bound known).ends_well flash (Call.Read offset) l small begun refl;
  read_least = λ flash offset l small begun. ends-asking-at flash offset l begun _ 10 (omega arith) (wait-soonest l.given);
  read_most = λ flash offset l small begun. ends-asking-at flash offset l begun _ 400000 (omega arith) (wait-ends l.given Operation.PageRead);
  changes = λ flash offset l es. (lent_bytes known).changes flash (Call.Read offset) l es refl;
  holds = λ flash offset l es. (lent_bytes known).holds flash (Call.Read offset) l es refl;
}

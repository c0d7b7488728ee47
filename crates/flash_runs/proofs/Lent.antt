-- What is lent and what is selected, over every run.
use Rattle.std.specs.Prelude.{Ok}
use Prim.Native.Nat.{ℕ}
use native.Mathlib.Nat.{zero-add}
use mathlib.Core.Bool.{Bool, true, false}
use mathlib.Core.Logic.{◌⊎◌, ⊎_elim}
use mathlib.Core.Option.{none}
use mathlib.Core.Path.{◌≡◌, refl, ap, sym, ◌∙◌, subst}
use mathlib.Core.List.{List, []}
use lib.ListN.{length, take}
use Rattle.qspi.specs.Choice.{pick}
use Rattle.qspi.specs.Frame.{first_of, action_of}
use Rattle.qspi.specs.Shown.{shown_of}
use Rattle.qspi.specs.declared.frame.Stage.{Stage}
use Rattle.spi_flash.specs.Settling as Settling
use Rattle.spi_flash.specs.Loan.{Lent}
use Rattle.spi_flash.proofs.Machine.{more}
use Rattle.spi_flash.specs.Path.{Bounded}
use Rattle.spi_flash.specs.Prog.{Prog, ask}
use Rattle.spi_flash.specs.Run.{Event, state_after}
use Rattle.spi_flash.specs.Seen.{Undisturbed, KeepsBuffer, select_after, EndsHigh}
use Rattle.spi_flash.specs.declared.loan.Takes.{Takes}
use Rattle.spi_flash.proofs.Performs.{first-shown}
use Rattle.spi_flash.proofs.Select.{Raised, first-raised, ends-high}
use Rattle.spi_flash.proofs.Unread.{buffer_reads, keeps-buffer}
use Rattle.flash_runs.specs.Driver.{Left, takes_buffer, Driver, takes_at, program_at, run_at, flash_after}
use Rattle.flash_runs.specs.LentBytes.{LentBytes}
use Rattle.flash_runs.specs.Reading.{bytes_read, ChangesRead, HoldsRead}
use Rattle.flash_runs.specs.Scratch.{Payloads, payloads_of, PutsOver}
use Rattle.flash_runs.specs.Watch.{closed, StopsOnError}
use Rattle.flash_runs.proofs.General.{Parts, Place, decide_next, general}
use Rattle.flash_runs.proofs.Filling.{Fills, first-filling}
use Rattle.flash_runs.proofs.Buffer.{changes-read, holds_read}
use Rattle.flash_runs.proofs.Supplies.{LendsAs, Supplies, Known}
use Rattle.flash_runs.proofs.Runs.{same-run, same-state}
use Rattle.flash_runs.proofs.Begins.{begins_alike, begins_leave, delivered_first}
use Rattle.flash_runs.proofs.Breaking.{stops}
use Rattle.flash_runs.proofs.Delivered.{counts, still-counts}
use Rattle.flash_runs.proofs.Refusals.{refusals-keep}
use Rattle.flash_runs.proofs.Payloads.{Pays}
use Rattle.flash_runs.proofs.Scratch.{settled-puts, puts-over}
use Rattle.flash_runs.proofs.Views.{true≢false, shape, Opens, Nothing-begun, view, begun-opens, no_run, opens-steps, opens-run}

module _ {F C S A : Type 0} {driver : Driver F C S A} (known : Known driver) (flash : F) (c : C) (l : Lent) (es : List (Event C)) where
  abbrev P : Type 0
  P = known.P

  abbrev parts : Parts S P A C
  parts = known.parts

  abbrev meaning : Place S P → ℕ → Prog (Left S A)
  meaning = known.meaning

  abbrev supplies : Supplies driver parts known.Valid known.Built meaning
  supplies = known.supplies

  abbrev Opened : Type 0
  Opened = Opens known (shape known flash) c l

  abbrev Quiet : Type 0
  Quiet = Nothing-begun known (shape known flash) c l

  begins : Quiet ⊎ Opened
  begins = view known flash c l

  nothing : Quiet → run_at driver flash c l es ≡ []
  nothing n = no_run known flash n es

  abbrev reads : List ℕ → Bool
  reads = driver.reads

  abbrev len : ℕ
  len = length l.buffer

  -- what is known of a call's program, by what the call takes
  abbrev Lends : Takes → Type 0
  Lends takes = LendsAs driver (driver.setup flash) c len (length l.given) takes

  lends : Opened → Lends (takes_at driver c l)
  lends o = supplies.lent (driver.setup flash) c len (length l.given) o.bounds

  filling : (takes : Takes) → takes_buffer takes ≡ true → Lends takes → (takes ≡ Takes.Buffer len) × Fills reads len 0 (program_at driver (driver.setup flash) c l)
  filling Takes.Nothing own h = absurd (true≢false (sym own))
  filling (Takes.Buffer n) own h = (ap Takes.Buffer h.0, h.1)
  filling (Takes.Data n) own h = absurd (true≢false (sym own))

  unread : (takes : Takes) → takes_buffer takes ≡ false → Lends takes → Bounded buffer_reads 0 (program_at driver (driver.setup flash) c l)
  unread Takes.Nothing other h = h
  unread (Takes.Buffer n) other h = absurd (true≢false other)
  unread (Takes.Data n) other h = h

  -- ---- a call that reads into the buffer

  module _ (own : takes_buffer (takes_at driver c l) ≡ true) where
    module _ (o : Opened) where
      filled : (takes_at driver c l ≡ Takes.Buffer len) × Fills reads len 0 (program_at driver (driver.setup flash) c l)
      filled = filling (takes_at driver c l) own (lends o)

      fills_first : Fills reads len 0 (ask o.first (meaning o.at))
      fills_first = subst (Fills reads len 0) o.program filled.1

      opened-changes : ChangesRead reads false 0 (run_at driver flash c l es)
      unfolding ChangesRead first_of
      opened-changes =
          rw (opens-run known flash o es, filled.0) (
            record { size = refl; kept = refl },
            changes-read C known.Valid (decide_next parts) meaning supplies.simulates reads len es o.at o.first Stage.Start (Ok 0) _ 0 o.valid (first-filling reads len _ fills_first),
          )

      opened-holds : Undisturbed l.buffer (run_at driver flash c l es) → HoldsRead reads false l.buffer [] (run_at driver flash c l es)
      unfolding HoldsRead Undisturbed first_of
      opened-holds h =
          let still = rw (opens-run known flash o es, filled.0) at h in
          rw (opens-run known flash o es, filled.0) (
            refl,
            holds_read C known.Valid (decide_next parts) meaning supplies.simulates reads len es o.at o.first Stage.Start (Ok 0) _ l.buffer [] l.buffer o.valid (first-filling reads len _ fills_first) refl still.1,
          )

      opened-delivers : known.is.count (flash_after driver flash c l es) ≡ length (bytes_read reads false (run_at driver flash c l es))
      unfolding bytes_read Settling.settled first_of
      opened-delivers =
          ap (λ g. g.delivered) (same-state driver parts known.is flash c l es)
          ∙ ap (λ m. (state_after (general parts driver.in_bounds) m.flash es).delivered) o.is
          ∙ rw filled.0
          (counts parts driver.in_bounds reads known.Valid meaning supplies.simulates len o.built es o.at.setup o.at.phase _ 0 (first_of o.first) (record { valid = o.valid; filling = first-filling reads len _ fills_first }))
          ∙ zero-add _
          ∙ ap (λ xs. length (bytes_read reads false xs)) (sym (same-run driver parts known.is flash c l es ∙ opens-steps known o es))

    changes : ChangesRead reads false 0 (run_at driver flash c l es)
    unfolding ChangesRead
    changes = ⊎_elim (λ n. rw (nothing n) tt) opened-changes begins

    holds : Undisturbed l.buffer (run_at driver flash c l es) → HoldsRead reads false l.buffer [] (run_at driver flash c l es)
    unfolding HoldsRead
    holds = ⊎_elim (λ n h. rw (nothing n) tt) opened-holds begins

  -- ---- every other call

  module _ (other : takes_buffer (takes_at driver c l) ≡ false) where
    reads-none : (o : Opened) → Bounded buffer_reads 0 (ask o.first (meaning o.at))
    reads-none o = subst (Bounded buffer_reads 0) o.program (unread (takes_at driver c l) other (lends o))

    kept : KeepsBuffer (run_at driver flash c l es)
    unfolding KeepsBuffer first_of
    kept = ⊎_elim (λ n. rw (nothing n) tt) opened begins
      where
        opened : Opened → KeepsBuffer (run_at driver flash c l es)
        opened o =
            rw (opens-run known flash o es)
            (refl, keeps-buffer known.Valid (decide_next parts) (takes_at driver c l) meaning supplies.simulates es o.at (first_of o.first) o.valid (reads-none o))

    -- what is read stays with the driver
    still-delivers : (o : Opened) → known.is.count (flash_after driver flash c l es) ≡ 0
    unfolding Settling.settled first_of
    still-delivers o =
        ap (λ g. g.delivered) (same-state driver parts known.is flash c l es)
        ∙ ap (λ m. (state_after (general parts driver.in_bounds) m.flash es).delivered) o.is
        ∙ still-counts parts driver.in_bounds reads known.Valid meaning supplies.simulates (takes_at driver c l) o.built es o.at.setup o.at.phase 0 (first_of o.first) o.valid (reads-none o)

  -- ---- what is delivered

  counted : (own : Bool) → takes_buffer (takes_at driver c l) ≡ own → Opened →
      known.is.count (flash_after driver flash c l es) ≡ length (pick own (bytes_read reads false (run_at driver flash c l es)) [])
  counted true own o = opened-delivers own o
  counted false other o = still-delivers other o

  -- ---- select

  high-at-end : EndsHigh false (run_at driver flash c l es)
  unfolding EndsHigh first_of
  high-at-end = ⊎_elim (λ n. rw (nothing n) tt) opened begins
    where
      opened : Opened → EndsHigh false (run_at driver flash c l es)
      opened o =
          let shown = shown_of (action_of (first_of o.first)) l.scratch l.given in
          let same : select_after shown false ≡ select_after shown true = rw (first-shown o.first l.scratch l.given) (o.selects false) in
          rw (opens-run known flash o es)
          (ends-high (decide_next parts) (takes_at driver c l) o.at (first_of o.first) es (select_after shown false)
          (subst (Raised Stage.Start o.first) (sym same) (first-raised o.first l.scratch l.given)))

  -- ---- a bus error

  breaks-off : StopsOnError none (run_at driver flash c l es)
  unfolding StopsOnError first_of
  breaks-off = ⊎_elim (λ n. rw (nothing n) tt) opened begins
    where
      opened : Opened → StopsOnError none (run_at driver flash c l es)
      opened o = rw (opens-run known flash o es) (tt, stops (decide_next parts) (takes_at driver c l) supplies.simulates.on_failure es none o.at o.first Stage.Start _ tt)

  -- ---- the scratch

  abbrev payloads : Payloads
  payloads = payloads_of (takes_at driver c l) (driver.stamps (driver.setup flash) c)

  puts : PutsOver payloads closed payloads (run_at driver flash c l es)
  unfolding PutsOver
  puts = ⊎_elim (λ n. rw (nothing n) tt) opened begins
    where
      opened : Opened → PutsOver payloads closed payloads (run_at driver flash c l es)
      opened o =
          let over = puts-over payloads C known.Valid (decide_next parts) (takes_at driver c l) meaning supplies.simulates es in
          let pays : Pays payloads payloads (ask o.first (meaning o.at)) = subst (Pays payloads payloads) o.program (supplies.pays (driver.setup flash) c len (length l.given) o.bounds) in
          rw (opens-run known flash o es)
          (settled-puts payloads C known.Valid (decide_next parts) (takes_at driver c l) meaning supplies.simulates es over (more o.first o.at) closed payloads l l.buffer o.valid pays)

module _ {F C S A : Type 0} {driver : Driver F C S A} (known : Known driver) where
  pub lent_bytes : LentBytes driver
  lent_bytes = record {
    begins_alike = begins_alike known;
    begins_leave = begins_leave known;
    changes = changes known;
    holds = holds known;
    keeps = kept known;
    delivered = λ flash c l es h buffer.
        known.is.shows (flash_after driver flash c l es) buffer
        ∙ ap (λ n. take n buffer) (counted known flash c l es (takes_buffer (takes_at driver c l)) refl (begun-opens known flash c l h));
    delivered_first = delivered_first known;
    delivered_kept = λ flash r bytes l e h buffer. ap (λ f. driver.delivered f buffer) ((refusals-keep driver known.parts known.is).replies flash r bytes l e h).0;
    scratch = puts known;
    ends_high = high-at-end known;
    stops_on_error = breaks-off known;
  }

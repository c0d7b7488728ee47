-- Each sham run breaks a part of `ReadSeen`, by computation.
use Prim.Native.Nat.{ℕ}
use native.Mathlib.Omega.{arith}
use mathlib.Core.Bool.{Bool, false, true≢false}
use mathlib.Core.Path.{◌≡◌, refl, ap, sym, subst}
use mathlib.Core.List.{List, [], ◌∷◌, ◌++◌}
use lib.ListN.{length}
use lib.Dec.{eqb}
use Rattle.qspi.specs.Shown.{Shown, low, high, write}
use Rattle.spi_flash.specs.Loan.{Lent}
use Rattle.spi_flash.specs.Run.{Event, reply, act, entry, goes_on, run_of, call_of, delay_asked}
use Rattle.spi_flash.specs.Seen.{Undisturbed}
use Rattle.flash_runs.specs.Driver.{run_at, steps_at}
use Rattle.flash_runs.specs.Contents.{contents_from, buffer_after}
use Rattle.spi_nand.specs.Config.{W25N01GV}
use Rattle.spi_nand.specs.declared.call.Call.{Call}
use Rattle.flash_runs.specs.Reading.{bytes_read, HoldsRead}
use Rattle.flash_runs.specs.Watch.{watched, Succeeded}
use Rattle.nand_runs.specs.Bound.{pages_touched}
use Rattle.nand_runs.specs.Observer.{ReadByte, read_byte}
use Rattle.nand_runs.specs.Promises.{ReadsAsAsked}
use Rattle.nand_runs.specs.ReadSeen.{ReadSeen}
use Rattle.nand_runs.specs.Chip.{Chip, byte_at, FromChip, DeliversTheChip}
use Rattle.nand_runs.specs.Observer.{reads_cache, unseen}
use Rattle.nand_runs.specs.Shams as Shams
use Rattle.nand_runs.specs.Shams.{done, holding, true_run, before_verdict, before_look, ChipsTold, Exchange, two_places, success, gave, asked_to_read, run_from, claimed, at_rest, played, actor, actions_in, page_0, Ruled, LawfulRuns, ShamRuns, ShamsRuledOut}

-- ---- what tells two lists apart

abbrev first : List ℕ → ℕ
first [] = 0
first (x ∷ xs) = x

abbrev second : List ℕ → ℕ
second [] = 0
second (x ∷ xs) = first xs

abbrev first_byte : List ReadByte → ReadByte
first_byte [] = read_byte 0 0 0
first_byte (x ∷ xs) = x

abbrev second_byte : List ReadByte → ReadByte
second_byte [] = read_byte 0 0 0
second_byte (x ∷ xs) = first_byte xs

-- ---- runs

lawful : LawfulRuns
unfolding watched Succeeded bytes_read delay_asked pages_touched
lawful =
    record {
      true-run = record {
        loads = record { rest = []; whole = refl };
        reads = refl;
        in_order = refl;
        whole = λ e. record { loads = refl; verdicts = refl; correctable = (refl, (refl, tt)); filled = refl; programs = refl; plain = refl; least = omega arith; most = omega arith };
      };
      by-quad = record {
        loads = record { rest = []; whole = refl };
        reads = refl;
        in_order = refl;
        whole = λ e. record { loads = refl; verdicts = refl; correctable = (refl, (refl, tt)); filled = refl; programs = refl; plain = refl; least = omega arith; most = omega arith };
      };
      looked-again = record {
        loads = record { rest = []; whole = refl };
        reads = refl;
        in_order = refl;
        whole = λ e. record { loads = refl; verdicts = refl; correctable = (refl, (refl, tt)); filled = refl; programs = refl; plain = refl; least = omega arith; most = omega arith };
      };
      looked-before = record {
        loads = record { rest = []; whole = refl };
        reads = refl;
        in_order = refl;
        whole = λ e. record { loads = refl; verdicts = refl; correctable = (refl, (refl, tt)); filled = refl; programs = refl; plain = refl; least = omega arith; most = omega arith };
      };
      wait-is-no-verdict = record {
        loads = record { rest = []; whole = refl };
        reads = refl;
        in_order = refl;
        whole = λ e. record { loads = refl; verdicts = refl; correctable = (refl, (refl, tt)); filled = refl; programs = refl; plain = refl; least = omega arith; most = omega arith };
      };
      second-data = record {
        loads = record { rest = []; whole = refl };
        reads = refl;
        in_order = refl;
        whole = λ e. record { loads = refl; verdicts = refl; correctable = (refl, (refl, tt)); filled = refl; programs = refl; plain = refl; least = omega arith; most = omega arith };
      };
      unselected-data = record {
        loads = record { rest = []; whole = refl };
        reads = refl;
        in_order = refl;
        whole = λ e. record { loads = refl; verdicts = refl; correctable = (refl, (refl, tt)); filled = refl; programs = refl; plain = refl; least = omega arith; most = omega arith };
      };
    }

page-is-0 : List ReadByte → Bool
page-is-0 xs = eqb (second_byte xs).page 0

ruled : ShamRuns
unfolding watched Succeeded bytes_read delay_asked pages_touched page-is-0
ruled = record {
  no-traffic = λ h. true≢false (ap (λ xs. eqb (length xs) 0) (h.whole tt).loads);
  rest-claimed = λ h. true≢false (ap (λ xs. eqb (length xs) 1) (h.whole tt).loads);
  load-skipped = λ h. true≢false (ap page-is-0 h.reads);
  loaded-twice = λ h. true≢false (ap (λ xs. eqb (second xs) 0) h.loads.whole);
  other-order = λ h. true≢false (ap (λ xs. eqb (first xs) 1) h.loads.whole);
  short-address = λ h. true≢false (ap page-is-0 h.reads);
  long-address = λ h. true≢false (ap page-is-0 h.reads);
  second-write = λ h. true≢false (ap page-is-0 h.reads);
  unselected-load = λ h. true≢false (ap page-is-0 h.reads);
  before-look = λ h. true≢false (ap (λ xs. eqb (length xs) 1) h.reads);
  before-verdict = λ h. true≢false (ap (λ xs. eqb (length xs) 1) h.reads);
  busy-part = λ h. true≢false (ap (λ xs. eqb (length xs) 1) h.reads);
  no-register = λ h. true≢false (ap (λ xs. eqb (length xs) 1) h.reads);
  long-register = λ h. true≢false (ap (λ xs. eqb (length xs) 1) h.reads);
  other-register = λ h. true≢false (ap (λ xs. eqb (length xs) 1) h.reads);
  other-opcode = λ h. true≢false (ap (λ xs. eqb (length xs) 1) h.reads);
  second-command = λ h. true≢false (ap (λ xs. eqb (length xs) 1) h.reads);
  unselected-look = λ h. true≢false (ap (λ xs. eqb (length xs) 1) h.reads);
  look-behind = λ h. true≢false (ap (λ xs. eqb (length xs) 1) h.reads);
  overwritten-cache = λ h. true≢false (ap (λ xs. eqb (length xs) 1) h.reads);
  quad-overwritten-cache = λ h. true≢false (ap (λ xs. eqb (length xs) 1) h.reads);
  cache-overwritten-in-part = λ h. true≢false (ap (λ xs. eqb (length xs) 1) h.reads);
  cache-overwritten-late = λ h. true≢false (ap (λ xs. eqb (length xs) 1) h.reads);
  reset-between = λ h. true≢false (ap (λ xs. eqb (length xs) 1) h.reads);
  programmed-cache = λ h. true≢false (ap (λ xs. eqb (length xs) 1) h.reads);
  long-program = λ h. true≢false (ap (λ xs. eqb (length xs) 1) h.reads);
  long-load = λ h. true≢false (ap (λ xs. eqb (length xs) 1) h.reads);
  uncorrectable-delivered = λ h. true≢false (h.whole tt).correctable.0;
  second-opinion = λ h. true≢false (h.whole tt).correctable.0;
  other-column = λ h. true≢false (ap (λ xs. eqb (first_byte xs).column 0) h.reads);
  short-column = λ h. true≢false (ap (λ n. eqb n 1) (h.whole tt).filled);
  no-dummy = λ h. true≢false (ap (λ n. eqb n 1) (h.whole tt).filled);
  two-dummies = λ h. true≢false (ap (λ n. eqb n 1) (h.whole tt).filled);
  read-behind = λ h. true≢false (ap (λ xs. eqb (length xs) 1) h.reads);
  rewritten-column = λ h. true≢false (ap (λ xs. eqb (length xs) 1) h.reads);
  programmed-too = λ h. true≢false (sym (ap (λ xs. eqb (length xs) 0) (h.whole tt).programs));
  erased-too = λ h. true≢false (sym (h.whole tt).plain);
  low-again = λ h. true≢false (ap (λ xs. eqb (length xs) 1) h.reads);
  quad-behind = λ h. true≢false (ap (λ xs. eqb (length xs) 1) h.reads);
  unselected-quad = λ h. true≢false (ap (λ xs. eqb (length xs) 1) h.reads);
  long-quad = λ h. true≢false (ap (λ xs. eqb (length xs) 1) h.reads);
  overtaken-byte = λ h. true≢false (sym h.in_order);
  no-delay = λ h. omega (arith, (h.whole tt).least);
  long-delay = λ h. omega (arith, (h.whole tt).most);
}

-- ---- drivers

events : List Exchange → List (Event Call)
events [] = []
events (x ∷ xs) = reply x.kind x.bytes two_places ∷ events xs

-- behind an action that is out
module _ (own : List Shown) where
  plays : (event : Event Call) (xs : List Exchange) →
      entry event (played (actions_in xs) two_places) ∷ goes_on (actor own).system (played (actions_in xs) two_places).flash (events xs) ≡
      run_from event xs (λ last. gave last success ∷ [])
  unfolding goes_on events
  plays event [] = refl
  plays event (x ∷ xs) = ap (λ rest. gave event (act x.shown) ∷ rest) (plays (reply x.kind x.bytes two_places) xs)

begins : (xs : List Exchange) → steps_at (actor (actions_in xs)) at_rest (Call.Read 2047) two_places (events xs) ≡ claimed xs
unfolding call_of goes_on events
begins [] = refl
begins (x ∷ xs) = ap (λ rest. gave asked_to_read (act x.shown) ∷ rest) (plays (actions_in (x ∷ xs)) (reply x.kind x.bytes two_places) xs)

drivers : (xs : List Exchange) → Ruled (claimed xs) → ReadsAsAsked (actor (actions_in xs)) → ⊥
drivers xs rule kept =
    rule (subst (λ ys. ReadSeen ys W25N01GV 2047 2) (begins xs) (kept.read at_rest 2047 two_places (events xs) refl))

-- ---- chips

runs : (x : Exchange) (xs : List Exchange) → run_at (actor (actions_in (x ∷ xs))) at_rest (Call.Read 2047) two_places (events (x ∷ xs)) ≡ claimed (x ∷ xs)
unfolding run_of goes_on events
runs x xs = ap (λ rest. gave asked_to_read (act x.shown) ∷ rest) (plays (actions_in (x ∷ xs)) (reply x.kind x.bytes two_places) xs)

-- the actions behind its first
abbrev later : List Exchange
later = done (write (Shams.load_command 0)) ∷ done high ∷ (Shams.waited ++ Shams.status 0 ++ Shams.last_byte ++ Shams.first_byte)

abbrev skipping : List Exchange
skipping = page_0 ++ Shams.first_byte

skipped : DeliversTheChip (actor (actions_in skipping)) → ⊥
unfolding watched FromChip Succeeded bytes_read
skipped kept =
    let chip : Chip = holding 161 0 178 in
    let answers : FromChip chip unseen (claimed skipping) = (tt, (tt, (tt, (tt, (tt, (tt, (tt, (tt, (tt, (tt, (tt, (tt, (tt, (tt, (tt, (refl, (tt, (tt, (tt, (refl, (tt, tt))))))))))))))))))))) in
    let delivers = kept.read chip at_rest 2047 two_places (events skipping) (subst (FromChip chip unseen) (sym (runs (done low) later)) answers) in
    let well : Succeeded (claimed skipping) = tt in
    let whole = delivers.whole (subst Succeeded (sym (begins skipping)) well) in
    true≢false (ap (λ xs. eqb (second xs) 178) (subst (λ ys. bytes_read reads_cache false ys ≡ contents_from (byte_at W25N01GV chip) 2047 2) (begins skipping) whole))

no-page-written : DeliversTheChip (actor []) → ⊥
unfolding watched Succeeded call_of goes_on
no-page-written kept = true≢false (ap (λ xs. eqb (length xs) 0) (kept.write_page at_rest 0 two_places [] tt).loads)

one_byte : Lent
one_byte = record { scratch = []; buffer = []; given = 7 ∷ [] }

replies : List Exchange → List (Event Call)
replies [] = []
replies (x ∷ xs) = reply x.kind x.bytes one_byte ∷ replies xs

unequal-found : DeliversTheChip (actor (actions_in Shams.unequal)) → ⊥
unfolding watched Succeeded call_of goes_on replies one_byte
unequal-found kept = true≢false (ap (λ xs. eqb (first_byte xs).value 8) (kept.write_page at_rest 0 one_byte (replies Shams.unequal) tt).reads)

stale-found : DeliversTheChip (actor (actions_in Shams.stale)) → ⊥
unfolding watched Succeeded call_of goes_on replies one_byte
stale-found kept = true≢false (ap (λ xs. eqb (length xs) 0) (kept.write_page at_rest 0 one_byte (replies Shams.stale) tt).reads)

program-found : DeliversTheChip (actor (actions_in Shams.programmed_behind)) → ⊥
unfolding watched Succeeded call_of goes_on replies one_byte
program-found kept = true≢false (sym (kept.write_page at_rest 0 one_byte (replies Shams.programmed_behind) tt).plain)

erase-found : DeliversTheChip (actor (actions_in Shams.erased_behind)) → ⊥
unfolding watched Succeeded call_of goes_on replies one_byte
erase-found kept = true≢false (sym (kept.write_page at_rest 0 one_byte (replies Shams.erased_behind) tt).plain)

-- the true run: its actions behind the first, what the chip has answered in it, and nobody else in its buffer
abbrev behind_low : List Exchange
behind_low = done (write (Shams.load_command 0)) ∷ done high ∷ (Shams.waited ++ Shams.status 0 ++ Shams.last_byte ++ Shams.page_1)

abbrev both : List Exchange
both = page_0 ++ Shams.page_1

true-answers : FromChip (holding 161 178 0) unseen true_run
unfolding watched FromChip
true-answers = (tt, (tt, (tt, (tt, (tt, (tt, (tt, (tt, (tt, (tt, (tt, (tt, (tt, (tt, (tt, (refl, (tt, (tt, (tt, (tt, (tt, (tt, (tt, (tt, (tt, (tt, (tt, (tt, (tt, (tt, (tt, (refl, (tt, tt)))))))))))))))))))))))))))))))))

undisturbed : Undisturbed (0 ∷ 0 ∷ []) true_run
unfolding Undisturbed
undisturbed = (refl, (refl, (refl, (refl, (refl, (refl, (refl, (refl, (refl, (refl, (refl, (refl, (refl, (refl, (refl, (refl, (refl, (refl, (refl, (refl, (refl, (refl, (refl, (refl, (refl, (refl, (refl, (refl, (refl, (refl, (refl, (refl, (refl, tt)))))))))))))))))))))))))))))))))

not-filled : DeliversTheChip (actor (actions_in both)) → ⊥
unfolding buffer_after Succeeded
not-filled kept =
    let chip : Chip = holding 161 178 0 in
    let delivers = kept.read chip at_rest 2047 two_places (events both) (subst (FromChip chip unseen) (sym (runs (done low) behind_low)) true-answers) in
    let fills =
    subst (λ ys. Succeeded ys → Undisturbed (0 ∷ 0 ∷ []) ys → buffer_after (0 ∷ 0 ∷ []) ys ≡ contents_from (byte_at W25N01GV chip) 2047 2)
    (begins both) delivers.fills in
    true≢false (ap (λ xs. eqb (first xs) 0) (fills tt undisturbed))

not-held : ReadsAsAsked (actor (actions_in both)) → ⊥
unfolding HoldsRead
not-held kept =
    let holds =
    subst (λ ys. Undisturbed (0 ∷ 0 ∷ []) ys → HoldsRead reads_cache false (0 ∷ 0 ∷ []) [] ys) (runs (done low) behind_low)
    (kept.holds at_rest 2047 two_places (events both)) in
    let held : 0 ∷ 0 ∷ [] ≡ 161 ∷ 0 ∷ [] = (holds undisturbed).1.1.1.1.1.1.1.1.1.1.1.1.1.1.1.0 in
    true≢false (ap (λ xs. eqb (first xs) 0) held)

chips : ChipsTold
unfolding watched FromChip
chips = record {
  answers = true-answers;
  holds = λ chip h. (sym (ap first h.1.1.1.1.1.1.1.1.1.1.1.1.1.1.1.0), sym (ap first h.1.1.1.1.1.1.1.1.1.1.1.1.1.1.1.1.1.1.1.1.1.1.1.1.1.1.1.1.1.1.1.0));
  unjudged = λ chip h. sym (ap first h.1.1.1.1.1.1.1.1.1.1.1.0);
  unlooked = λ chip h. sym (ap first h.1.1.1.1.1.1.1.0);
  load-skipped = skipped;
  unfilled = not-filled;
  no-traffic = no-page-written;
  unequal-data = unequal-found;
  stale-cache = stale-found;
  programmed-behind = program-found;
  erased-behind = erase-found;
}

pub shams-ruled-out : ShamsRuledOut
shams-ruled-out = record { lawful = lawful; runs = ruled; chips = chips; drivers = drivers; buffer-kept = not-held }

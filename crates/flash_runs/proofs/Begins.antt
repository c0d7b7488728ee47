-- How a call begins: what it looks at, what it leaves, and what is delivered behind it.
use Prim.Native.Nat.{ℕ}
use mathlib.Core.Bool.{Bool, true, false}
use mathlib.Core.Path.{◌≡◌, refl, ap, sym, ◌∙◌, subst}
use mathlib.Core.List.{List}
use lib.ListN.{length, take}
use Rattle.std.specs.Prelude.{Result, Ok, Err}
use Rattle.qspi.specs.Choice.{pick}
use Rattle.spi_flash.specs.Entry.{entry_of}
use Rattle.spi_flash.specs.Beginning as Beginning
use Rattle.spi_flash.specs.Settling as Settling
use Rattle.spi_flash.specs.Loan.{Lent}
use Rattle.spi_flash.specs.Run as Run
use Rattle.spi_flash.specs.Run.{System}
use Rattle.spi_flash.specs.Seen.{unless_refused}
use Rattle.spi_flash.specs.declared.error.FlashError.{FlashError}
use Rattle.spi_flash.specs.declared.loan.Takes.{Takes}
use Rattle.spi_flash.proofs.Performs.{first-shown}
use Rattle.flash_runs.specs.Begins.{short_scratch, SameLooked, SameStep, first_delivered}
use Rattle.flash_runs.specs.Driver.{Left, Sort, constructs, tells, releases, uses, Driver, sort_at}
use Rattle.flash_runs.specs.System.{left_with}
use Rattle.flash_runs.proofs.General as General
use Rattle.flash_runs.proofs.General.{Then, Opening, constructing, telling, releasing, working, Parts, Running, idle, busy, Flash, flash_of, Stepped, plain, calls_of, general}
use Rattle.flash_runs.proofs.Supplies.{OpensAs, Known}
use Rattle.flash_runs.proofs.Runs.{viewed}

-- ---- the general driver

module _ {S P A C : Type 0} (parts : Parts S P A C) (in_bounds : S → Bool) where
  -- what a step gives is the same, whatever is lent
  abbrev Alone : Stepped S P A → Type 0
  Alone x = (l m : Lent) → (left_with plain x l).given ≡ (left_with plain x m).given

  -- the bytes delivered behind it, of a driver that has delivered n
  abbrev first_count : Sort S → ℕ → ℕ
  first_count tells n = n
  first_count releases n = n
  first_count (constructs fresh) n = 0
  first_count (uses takes) n = 0

  abbrev Counts : Sort S → ℕ → Stepped S P A → Type 0
  Counts sort n x = (l : Lent) → x.flash.delivered ≡ unless_refused (left_with plain x l).given (first_count sort n) n

  abbrev Begun : Sort S → ℕ → Stepped S P A → Type 0
  Begun sort n x = Alone x × Counts sort n x

  module _ (setup : S) (built : Bool) (n : ℕ) where
    abbrev at : Running P → Flash S P
    at running = flash_of setup built n running

    settled-alone : (flash : Flash S P) (takes : Takes) (x : Then S P A) → Alone (Settling.settled plain flash takes x)
    unfolding Settling.settled
    settled-alone flash takes (General.go s t phase) l m = ap Run.act (first-shown t l.scratch l.given ∙ sym (first-shown t m.scratch m.given))
    settled-alone flash takes (General.end s answer) l m = refl
    settled-alone flash takes (General.fail error) l m = refl

    settled-counts : (s : S) (there : Bool) (takes : Takes) (x : Then S P A) (sort : Sort S) → first_count sort n ≡ 0 → Counts sort n (Settling.settled plain (flash_of s there 0 idle) takes x)
    unfolding Settling.settled
    settled-counts s there takes (General.go s' t phase) sort e l = sym e
    settled-counts s there takes (General.end s' answer) sort e l = sym e
    settled-counts s there takes (General.fail error) sort e l = sym e

    refused-begun : (sort : Sort S) (running : Running P) (error : FlashError) → Begun sort n (plain.refused (at running) error)
    refused-begun sort running error = (λ l m. refl, λ l. refl)

    entered-begun : (sort : Sort S) (entry : Result (Unit {0}) FlashError) (x : Stepped S P A) → Begun sort n x → Begun sort n (Beginning.entered plain (at idle) entry x)
    entered-begun sort (Ok _) x h = h
    entered-begun sort (Err error) x h = refused-begun sort idle error

    picked-begun : (sort : Sort S) (b : Bool) (x y : Stepped S P A) → Begun sort n x → Begun sort n y → Begun sort n (pick b x y)
    picked-begun sort true x y h k = h
    picked-begun sort false x y h k = k

    opened-begun : (takes own : Takes) (x : Then S P A) → Begun (uses own) n (Beginning.opened plain (at idle) takes x)
    unfolding Beginning.opened
    opened-begun takes own (General.go s t phase) = (settled-alone _ takes (General.go s t phase), settled-counts setup built takes (General.go s t phase) (uses own) refl)
    opened-begun takes own (General.end s answer) = (settled-alone _ takes (General.end s answer), settled-counts setup built takes (General.end s answer) (uses own) refl)
    opened-begun takes own (General.fail error) = refused-begun (uses own) idle error

    abbrev opening : Opening S P A → ℕ → Stepped S P A
    opening x s = Beginning.at_rest plain (calls_of parts in_bounds) (at idle) x s

    -- what each opening is
    abbrev sorted : Opening S P A → Sort S
    sorted (constructing fresh) = constructs fresh
    sorted (telling answer) = tells
    sorted releasing = releases
    sorted (working takes then) = uses takes

    opening-begun : (x : Opening S P A) (s : ℕ) → Begun (sorted x) n (opening x s)
    unfolding Beginning.at_rest Beginning.constructed Beginning.told Beginning.freed Beginning.begun
    opening-begun (constructing fresh) s =
        entered-begun (constructs fresh) (entry_of true s (in_bounds fresh)) _ (settled-alone _ Takes.Nothing _, settled-counts fresh false Takes.Nothing _ (constructs fresh) refl)
    opening-begun (telling answer) s = picked-begun tells built _ _ (λ l m. refl, λ l. refl) (refused-begun tells idle FlashError.OutOfTurn)
    opening-begun releasing s = picked-begun releases built _ _ (λ l m. refl, λ l. refl) (refused-begun releases idle FlashError.OutOfTurn)
    opening-begun (working takes then) s =
        entered-begun (uses takes) (entry_of built s (in_bounds setup)) _ (opened-begun takes takes then)

    -- the scratch counts by whether it is long enough
    opening-same : (x : Opening S P A) (l m : Lent) → short_scratch (sorted x) l ≡ short_scratch (sorted x) m → opening x (length l.scratch) ≡ opening x (length m.scratch)
    unfolding Beginning.at_rest Beginning.constructed Beginning.begun entry_of
    opening-same (constructing fresh) l m e = rw e refl
    opening-same (telling answer) l m e = refl
    opening-same releasing l m e = refl
    opening-same (working takes then) l m e = rw e refl

-- ---- every driver

module _ {F C S A : Type 0} {driver : Driver F C S A} (known : Known driver) where
  abbrev P : Type 0
  P = known.P

  abbrev parts : Parts S P A C
  parts = known.parts

  abbrev system : System (Flash S P) C (Left S A)
  system = general parts driver.in_bounds

  abbrev view : F → Flash S P
  view = viewed driver parts known.is

  module _ (setup : S) (built : Bool) (n : ℕ) (c : C) where
    abbrev opens : Lent → Opening S P A
    opens l = parts.opening setup c (length l.buffer) (length l.given)

    sort-is : (l : Lent) → sort_at driver c l ≡ sorted parts driver.in_bounds setup built n (opens l)
    sort-is l = at (opens l) (known.supplies.opens setup c (length l.buffer) (length l.given))
      where
        at : (x : Opening S P A) → OpensAs driver parts known.Valid known.Built known.meaning setup c (length l.buffer) (length l.given) x →
            sort_at driver c l ≡ sorted parts driver.in_bounds setup built n x
        at (constructing fresh) k = k.sorted
        at (telling answer) k = k.sorted
        at releasing k = k.sorted
        at (working takes then) k = k.sorted

    abbrev from : Running P → Flash S P
    from running = flash_of setup built n running

    -- what is delivered
    counts : (running : Running P) (l : Lent) → (system.begin (from running) c l).flash.delivered ≡
        unless_refused (system.begin (from running) c l).given (first_count parts driver.in_bounds (sort_at driver c l) n) n
    counts idle l = rw (sort-is l) ((opening-begun parts driver.in_bounds setup built n (opens l) (length l.scratch)).1 l)
    counts (busy job) l = refl

    -- what is looked at
    alike : (running : Running P) (l m : Lent) → SameLooked (sort_at driver c l) l m → SameStep (system.begin (from running) c l) (system.begin (from running) c m)
    alike idle l m h =
        let scratch = subst (λ x. short_scratch x l ≡ short_scratch x m) (sort-is l) h.scratch in
        let same = opening-same parts driver.in_bounds setup built n (opens l) l m scratch
        ∙ ap (λ x. opening parts driver.in_bounds setup built n x (length m.scratch)) (known.supplies.alike setup c l m h.taken) in
        record {
          given = (opening-begun parts driver.in_bounds setup built n (opens l) (length l.scratch)).0 l m ∙ ap (λ x. (left_with plain x m).given) same;
          flash = ap (λ x. x.flash) same;
        }
    alike (busy job) l m h = record { given = refl; flash = refl }

  pub begins_alike : (flash : F) (c : C) (l m : Lent) → SameLooked (sort_at driver c l) l m → SameStep (driver.system.begin flash c l) (driver.system.begin flash c m)
  begins_alike flash c l m h =
      let is = known.is in
      let x = is.begins flash c l in
      let y = is.begins flash c m in
      let s = alike (driver.setup flash) (driver.built flash) (is.count flash) c (is.running flash) l m h in
      record {
        given = x.given ∙ s.given ∙ sym y.given;
        flash = sym (is.whole _) ∙ ap is.back (x.flash ∙ s.flash ∙ sym y.flash) ∙ is.whole _;
      }

  pub begins_leave : (flash : F) (c : C) (l : Lent) → (driver.system.begin flash c l).left ≡ l
  begins_leave flash c l = (known.is.begins flash c l).left

  -- the places of the buffer that so many bytes are
  shown-first : (sort : Sort S) (n : ℕ) (buffer : List ℕ) → take (first_count parts driver.in_bounds sort n) buffer ≡ first_delivered sort (take n buffer)
  shown-first (constructs fresh) n buffer = refl
  shown-first tells n buffer = refl
  shown-first releases n buffer = refl
  shown-first (uses takes) n buffer = refl

  shown : {B : Type 0} (given : Run.Given B) (sort : Sort S) (n : ℕ) (buffer : List ℕ) →
      take (unless_refused given (first_count parts driver.in_bounds sort n) n) buffer ≡ unless_refused given (first_delivered sort (take n buffer)) (take n buffer)
  shown (Run.act x) sort n buffer = shown-first sort n buffer
  shown (Run.ended a) sort n buffer = shown-first sort n buffer
  shown (Run.failed e) sort n buffer = shown-first sort n buffer
  shown (Run.refused e) sort n buffer = refl

  pub delivered_first : (flash : F) (c : C) (l : Lent) (buffer : List ℕ) → let before = driver.delivered flash buffer in
      driver.delivered (driver.system.begin flash c l).flash buffer ≡ unless_refused (driver.system.begin flash c l).given (first_delivered (sort_at driver c l) before) before
  delivered_first flash c l buffer =
      let is = known.is in
      let given = (driver.system.begin flash c l).given in
      let n = is.count flash in
      let same = (is.begins flash c l).given in
      let count : is.count (driver.system.begin flash c l).flash ≡ unless_refused given (first_count parts driver.in_bounds (sort_at driver c l) n) n =
      ap (λ f. f.delivered) (is.begins flash c l).flash
      ∙ counts (driver.setup flash) (driver.built flash) n c (is.running flash) l
      ∙ ap (λ g. unless_refused g (first_count parts driver.in_bounds (sort_at driver c l) n) n) (sym same) in
      is.shows (driver.system.begin flash c l).flash buffer
      ∙ ap (λ k. take k buffer) count
      ∙ shown given (sort_at driver c l) n buffer
      ∙ ap (λ b. unless_refused given (first_delivered (sort_at driver c l) b) b) (sym (is.shows flash buffer))

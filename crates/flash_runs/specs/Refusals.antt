-- Who is turned away, and why (docs/SPECIFICATION.md, "Refusals and numbers"): the calls and replies that the driver refuses are these and
-- no others, so that a reply that fits is always taken.
use Rattle.std.specs.Prelude.{ℕ, Bool, true, false, ◌&&◌, ◌≡◌, List, [], ◌∷◌, ltb, length}
use Rattle.std.proofs.Math.Option.{Option, none, some}
use Rattle.qspi.specs.Bus.{fits_at}
use Rattle.qspi.specs.Choice.{pick}
use Rattle.qspi.specs.Command.{scratch_least}
use Rattle.qspi.specs.Shown.{Shown, low, high, write, read, quad_read, quad_write, delay}
use Rattle.qspi.specs.declared.bus.Awaits.{Awaits}
use Rattle.qspi.specs.declared.bus.Reply.{Reply}
use Rattle.spi_flash.specs.Loan.{Lent, ready_for}
use Rattle.spi_flash.specs.Run.{Event, Entry, Given, act, ended, failed, refused}
use Rattle.spi_flash.specs.declared.error.FlashError.{FlashError}
use Rattle.spi_flash.specs.declared.loan.Takes.{Takes}
use Rattle.flash_runs.specs.Driver.{Sort, constructs, tells, releases, uses, Driver, sort_at, takes_at, bounded_at, run_at, flash_after}

-- ---- calls

-- 14 for a scratch that is too short, then 12 for a geometry outside the bounds
abbrev pub host_refusal : (scratch : ℕ) (bounded : Bool) → Option FlashError
host_refusal scratch bounded =
    pick (ltb scratch scratch_least) (some FlashError.Misfit) (pick bounded none (some FlashError.InvalidGeometry))

-- 13 for a call that needs a driver, where there is none
abbrev pub rest_refusal : {S : Type 0} → Sort S → (built : Bool) (scratch : ℕ) (bounded : Bool) → Option FlashError
rest_refusal (constructs fresh) built scratch bounded = host_refusal scratch bounded
rest_refusal tells built scratch bounded = pick built none (some FlashError.OutOfTurn)
rest_refusal releases built scratch bounded = pick built none (some FlashError.OutOfTurn)
rest_refusal (uses takes) built scratch bounded = pick built (host_refusal scratch bounded) (some FlashError.OutOfTurn)

-- refused so; of a call that is not, the Rust's own tests are left, of which specs/SameAsRust.antt speaks
abbrev pub RefusedAs : {A : Type 0} → Option FlashError → Given A → Type 0
RefusedAs none given = Unit {0}
RefusedAs (some e) given = given ≡ refused e

-- ---- replies

-- the replies that fit an action (docs/SPECIFICATION.md, "Actions and replies")
abbrev pub awaits : Shown → Awaits
awaits low = Awaits.Done
awaits high = Awaits.Done
awaits (write bytes) = Awaits.DoneOrError
awaits (read n) = Awaits.BytesOrError n
awaits (quad_read command tclqv margin n) = Awaits.BytesOrError n
awaits (quad_write command payload) = Awaits.DoneOrError
awaits (delay us) = Awaits.Done

-- behind a refusal the action that was awaited is still awaited
abbrev pub out_then : {A : Type 0} → Given A → Option Shown → Option Shown
out_then (act shown) before = some shown
out_then (ended a) before = none
out_then (failed e) before = none
out_then (refused e) before = before

abbrev pub is_out : Option Shown → Bool
is_out none = false
is_out (some shown) = true

-- the action that is awaited after these steps
unfoldable pub out_after : {C A : Type 0} → Option Shown → List (Entry C A) → Option Shown
out_after before [] = before
out_after before (x ∷ xs) = out_after (out_then x.given before) xs

-- why a reply with n bytes is refused, if it is: 13 where none is awaited, 14 where it does not fit or what is lent does not
abbrev pub reply_refusal : Option Shown → Takes → Lent → Reply → ℕ → Option FlashError
reply_refusal none takes l r n = some FlashError.OutOfTurn
reply_refusal (some shown) takes l r n = pick (ready_for takes l && fits_at (awaits shown) r n) none (some FlashError.Misfit)

abbrev pub refusal_in : {A : Type 0} → Given A → Option FlashError
refusal_in (act shown) = none
refusal_in (ended a) = none
refusal_in (failed e) = none
refusal_in (refused e) = some e

-- ---- the statement

module _ {F C S A : Type 0} (driver : Driver F C S A) where
  -- 13 for a call during another
  abbrev pub call_refusal : F → C → Lent → Option FlashError
  call_refusal flash call l =
      pick (driver.system.running flash) (some FlashError.OutOfTurn)
      (rest_refusal (sort_at driver call l) (driver.built flash) (length l.scratch) (bounded_at driver flash call l))

  -- what a state says of itself is told by what has happened (docs/SPECIFICATION.md, "Refusals and numbers")
  pub record ToldByHistory : Type 0 where
    -- before any construction no call is running, and there is no driver
    pub at_rest : driver.system.running driver.fresh ≡ false
    pub not_built : driver.built driver.fresh ≡ false
    -- a call that was begun at rest is running, whatever the events, just while an action of its run is out
    pub running : (flash : F) (call : C) (l : Lent) (es : List (Event C)) → driver.system.running flash ≡ false →
        driver.system.running (flash_after driver flash call l es) ≡ is_out (out_after none (run_at driver flash call l es))

  pub record RefusesJust : Type 0 where
    -- a call, on every state, in the order 13, 14, 12, before the Rust's own tests
    pub calls : (flash : F) (call : C) (l : Lent) → RefusedAs (call_refusal flash call l) (driver.system.begin flash call l).given
    -- a reply, wherever a call stands that was begun on a driver at rest: refused for these reasons, and else taken
    pub replies : (flash : F) (call : C) (l : Lent) (es : List (Event C)) → driver.system.running flash ≡ false → (r : Reply) (bytes : List ℕ) (now : Lent) →
        refusal_in (driver.system.answer (flash_after driver flash call l es) r bytes now).given ≡
        reply_refusal (out_after none (run_at driver flash call l es)) (takes_at driver call l) now r (length bytes)

  -- what is refused leaves the driver and every lent byte as they were, on every state, forged ones too
  pub record RefusalsKeep : Type 0 where
    pub calls : (flash : F) (call : C) (l : Lent) (e : FlashError) → (driver.system.begin flash call l).given ≡ refused e →
        ((driver.system.begin flash call l).flash ≡ flash) × ((driver.system.begin flash call l).left ≡ l)
    pub replies : (flash : F) (r : Reply) (bytes : List ℕ) (l : Lent) (e : FlashError) → (driver.system.answer flash r bytes l).given ≡ refused e →
        ((driver.system.answer flash r bytes l).flash ≡ flash) × ((driver.system.answer flash r bytes l).left ≡ l)

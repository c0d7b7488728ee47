-- The delays and actions of a call over every run: it never asks more than its bound, some replies bring it there, it comes to an end and
-- on some replies ends well (docs/SPECIFICATION.md, "Waits and bounds" and "Runs").
use Rattle.std.specs.Prelude.{ℕ, ◌+◌, ◌≤◌, true, false, ◌≡◌, List, [], ◌∷◌, length}
use Rattle.std.proofs.Math.Option.{some}
use Rattle.qspi.specs.Bytes.{AllBytes}
use Rattle.spi_flash.specs.Loan.{Lent}
use Rattle.spi_flash.specs.Run.{Event, Entry, Given, act, ended, failed, refused, delay_asked, Fitting, HasEnded, Answer, RealReplies, answering, Lending}
use Rattle.spi_flash.specs.Seen.{told}
use Rattle.flash_runs.specs.Driver.{Left, Driver, takes_at, bound_at, most_actions_at, ends_at, run_at, steps_at}
use Rattle.flash_runs.specs.SameAsRust.{left_by, rust_call}
use Rattle.flash_runs.specs.Watch.{Succeeded}

-- a call has begun when it gives out its first action
abbrev pub GivesAction : {A : Type 0} → Given A → Type 0
GivesAction (act shown) = Unit {0}
GivesAction (ended a) = ⊥
GivesAction (failed e) = ⊥
GivesAction (refused e) = ⊥

-- the actions given out
abbrev pub action_given : {A : Type 0} → Given A → ℕ
action_given (act shown) = 1
action_given _ = 0

unfoldable pub actions_given : {C A : Type 0} → List (Entry C A) → ℕ
actions_given [] = 0
actions_given (x ∷ xs) = action_given x.given + actions_given xs

-- the bound where an action is given, and 0 elsewhere
abbrev pub begun_bound : {A : Type 0} → Given A → (bound : ℕ) → ℕ
begun_bound (act shown) bound = bound
begun_bound _ bound = 0

module _ {F C S A : Type 0} (driver : Driver F C S A) where
  abbrev pub Begun : F → C → Lent → Type 0
  Begun flash call l = GivesAction (driver.system.begin flash call l).given

  -- replies, and that they come to b whatever scratch and buffer are lent with the caller's data
  pub record ComesTo (flash : F) (call : C) (l : Lent) (b : ℕ) : Type 0 where
    pub replies : List Answer
    pub real : RealReplies replies
    pub fits : (ls : List Lent) → length ls ≡ length replies → Lending (takes_at driver call l) l.given ls →
        Fitting (run_at driver flash call l (answering replies ls))
    pub asks : (ls : List Lent) → length ls ≡ length replies → Lending (takes_at driver call l) l.given ls →
        delay_asked (run_at driver flash call l (answering replies ls)) ≡ b

  -- fitting replies on which the call ends well, leaving what the program leaves on them: its answer, and the Rust's struct
  pub record EndsWell (flash : F) (call : C) (l : Lent) : Type 0 where
    pub left : Left S A
    pub replies : List Answer
    pub real : RealReplies replies
    pub fits : (ls : List Lent) → length ls ≡ length replies → Lending (takes_at driver call l) l.given ls →
        Fitting (run_at driver flash call l (answering replies ls))
    pub ends : (ls : List Lent) → length ls ≡ length replies → Lending (takes_at driver call l) l.given ls →
        left_by (told (run_at driver flash call l (answering replies ls))) ≡ some left
    pub as_rust : (ls : List Lent) → length ls ≡ length replies → Lending (takes_at driver call l) l.given ls →
        left_by (rust_call driver (driver.setup flash) call l (answering replies ls)) ≡ some left

  -- what the call may ask: nothing, where it is turned away or ends without an action
  abbrev pub begun_bound_at : F → C → Lent → ℕ
  begun_bound_at flash call l = begun_bound (driver.system.begin flash call l).given (bound_at driver flash call l)

  pub record WithinBound : Type 0 where
    -- a run asks no more than the bound of its call, on any state
    pub bounded : (flash : F) (call : C) (l : Lent) (es : List (Event C)) → delay_asked (run_at driver flash call l es) ≤ bound_at driver flash call l
    -- nor do the steps of a call on a driver at rest ask more than that
    pub asks_within : (flash : F) (call : C) (l : Lent) (es : List (Event C)) → driver.system.running flash ≡ false →
        delay_asked (steps_at driver flash call l es) ≤ begun_bound_at flash call l
    -- so that one without a run asks nothing
    pub without_run : (flash : F) (call : C) (l : Lent) (es : List (Event C)) → driver.system.running flash ≡ false → (Begun flash call l → ⊥) →
        delay_asked (steps_at driver flash call l es) ≡ 0
    -- for each call that has begun some replies bring it to its bound
    pub reached : (flash : F) (call : C) (l : Lent) → AllBytes l.given → Begun flash call l → ComesTo flash call l (bound_at driver flash call l)
    -- a run gives out no more actions than that
    pub actions : (flash : F) (call : C) (l : Lent) (es : List (Event C)) → actions_given (run_at driver flash call l es) ≤ most_actions_at driver flash call l
    -- a call comes to an end on every list of fitting replies that is as long
    pub ends : (flash : F) (call : C) (l : Lent) (es : List (Event C)) → Begun flash call l →
        Fitting (run_at driver flash call l es) → most_actions_at driver flash call l ≤ length es → HasEnded (run_at driver flash call l es)
    -- every call that has begun ends well on some replies, but for those that never do
    pub ends_well : (flash : F) (call : C) (l : Lent) → AllBytes l.given → Begun flash call l → ends_at driver flash call l ≡ true → EndsWell flash call l
    pub never_ends : (flash : F) (call : C) (l : Lent) (es : List (Event C)) → ends_at driver flash call l ≡ false → Succeeded (run_at driver flash call l es) → ⊥

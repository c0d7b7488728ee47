-- A step of a replay ends it with 16 just where no record is left, and with 14 just where the record does not fit.
use Prim.Native.Nat.{ℕ}
use mathlib.Core.Bool.{Bool, true, false, true≢false}
use mathlib.Core.Path.{◌≡◌, refl, ap, sym, ◌∙◌, subst}
use Rattle.std.proofs.Common.{Option, Some, None}
use mathlib.Core.List.{List}
use lib.ListN.{length}
use native.Mathlib.Omega.{arith}
use Rattle.qspi.specs.Bus.{fits_of, on_bus}
use Rattle.qspi.specs.declared.bus.Reply.{Reply}
use Rattle.qspi.proofs.Cases.{by_cases}
use Rattle.qspi.specs.Frame.{action_of, exchange_of, advanced_of, gave, taken_in}
use Rattle.qspi.specs.declared.frame.Advanced.{Advanced}
use Rattle.qspi.specs.declared.frame.Exchanged.{Exchanged}
use Rattle.qspi.specs.declared.frame.Frame.{Frame}
use Rattle.spi_flash.specs.Error.{error_number}
use Rattle.spi_flash.specs.Loan.{Lent, ready_for}
use Rattle.spi_flash.proofs.Machine.{heard}
use Rattle.spi_flash.specs.Run as Run
use Rattle.spi_flash.specs.Shape.{Given, acts, ends, fails, refuses}
use Rattle.spi_flash.specs.declared.error.FlashError.{FlashError}
use Rattle.spi_flash.specs.declared.loan.Takes.{Takes}
use Rattle.flash_runs.specs.System.{shown_as}
use Rattle.tape.specs.Record.{data_of, spent_of, reply_of}
use Rattle.tape.specs.declared.record.Record.{Record}
use Rattle.tape_runs.specs.Player.{Played, Awaited, nothing, frame, Player}
use Rattle.tape_runs.specs.Exactly.{Just, next_record, Exactly}
use Rattle.tape_runs.proofs.Laws.{Unrefused, Heard, Hears, Steps, Acts, Moves, Follows}

-- ---- the refusals of a driver's step are 13 and 14

-- the error of a refusal, and a success where there is none
abbrev refusal : {A : Type 0} → Run.Given A → ℕ
refusal (Run.act shown) = 0
refusal (Run.ended a) = 0
refusal (Run.failed e) = 0
refusal (Run.refused e) = error_number e

module _ {A : Type 0} (given : Run.Given A) where
  heard-never-spent : (x : Exchanged) → Heard x given → given ≡ Run.refused FlashError.TapeSpent → ⊥
  heard-never-spent Exchanged.Misfit h e = let z = ap refusal (sym h ∙ e) in omega arith
  heard-never-spent (Exchanged.Gave next action) h e = subst Unrefused e h
  heard-never-spent (Exchanged.Over outcome) h e = subst Unrefused e h

  never-spent : (awaited : Awaited) (kind : Reply) (bytes : List ℕ) (l : Lent) → Hears awaited kind bytes l given → given ≡ Run.refused FlashError.TapeSpent → ⊥
  never-spent nothing kind bytes l h e = let z = ap refusal (sym h ∙ e) in omega arith
  never-spent (frame takes f) kind bytes l h e = heard-never-spent (heard takes f kind bytes l) h e

  -- a reply that fits is taken
  taken : (x : Advanced) (scratch buffer : List ℕ) → Heard (gave x scratch buffer).exchanged given → Unrefused given
  taken (Advanced.More next) scratch buffer h = h
  taken (Advanced.Over outcome) scratch buffer h = h

  module _ (takes : Takes) (f : Frame) (kind : Reply) (bytes : List ℕ) (l : Lent) (ready : ready_for takes l ≡ true) (h : Heard (heard takes f kind bytes l) given) where
    fitting : fits_of (action_of f) kind (length bytes) ≡ true → Unrefused given
    unfolding exchange_of
    fitting fits = taken (advanced_of f kind bytes l.given) l.scratch (taken_in f kind bytes l.buffer) (rw (ready, fits) at h)

    unfit : fits_of (action_of f) kind (length bytes) ≡ false → given ≡ Run.refused FlashError.Misfit
    unfolding exchange_of
    unfit fits = rw (ready, fits) at h

    exact : Just (given ≡ Run.refused FlashError.Misfit) (fits_of (action_of f) kind (length bytes) ≡ false)
    exact = (
      λ e. by_cases (fits_of (action_of f) kind (length bytes)) (λ fits. absurd (subst Unrefused e (fitting fits))) (λ fits. fits),
      unfit,
    )

-- ---- 16

-- a refusal is told by what it shows
refuses-shown : {A : Type 0} (last : Given A) (scratch lent : List ℕ) (e : FlashError) → shown_as last scratch lent ≡ Run.refused e → last ≡ refuses e
refuses-shown (acts action) s g e is = cc
refuses-shown (ends a) s g e is = cc
refuses-shown (fails x) s g e is = cc
refuses-shown (refuses x) s g e is = cc

is-spent : (x : Option Record) → spent_of x ≡ true → x ≡ None
is-spent (Some r) none = absurd (true≢false (sym none))
is-spent None none = refl

module _ {R F C A : Type 0} (player : Player R F C A) (follows : Follows player) where
  -- what a step that takes a reply gives is what the driver gives
  module _ {p : Played R} {flash : F} {kind : Reply} {bytes : List ℕ} {l : Lent} {next : ℕ} (s : Steps player p flash kind bytes l next) (e : FlashError) where
    refuses-as : Just (player.last p.replay ≡ refuses e) ((player.system.answer flash kind bytes l).given ≡ Run.refused e)
    refuses-as = (
      λ is. rw is at (sym s.stands.shown),
      λ is. refuses-shown (player.last p.replay) _ _ e (s.stands.shown ∙ is),
    )

  steps-never-spent : {p : Played R} {flash : F} {kind : Reply} {bytes : List ℕ} {l : Lent} {next : ℕ} → Steps player p flash kind bytes l next → player.last p.replay ≡ refuses FlashError.TapeSpent → ⊥
  steps-never-spent {flash} {kind} {bytes} {l} s e =
      never-spent (player.system.answer flash kind bytes l).given (player.awaited flash) kind bytes l (follows.hears flash kind bytes l) ((refuses-as s FlashError.TapeSpent).0 e)

  acts-spent : (bus none : Bool) (p : Played R) (r : R) (tape : List ℕ) (l : Lent) → Acts player bus none p r tape l →
      Just (player.last p.replay ≡ refuses FlashError.TapeSpent) ((bus ≡ true) × (none ≡ true))
  acts-spent false none p r tape l s = (λ e. absurd (steps-never-spent s e), λ both. absurd (true≢false (sym both.0)))
  acts-spent true false p r tape l s = (λ e. absurd (steps-never-spent s e), λ both. absurd (true≢false (sym both.1)))
  acts-spent true true p r tape l s = (λ e. (refl, refl), λ both. s.last)

  -- the step of a replay with an action out
  acting : (r : R) (tape : List ℕ) (l : Lent) (last : Given A) → player.last r ≡ last → Moves player last (player.advance r tape l) r tape l
  acting r tape l last e = subst (λ x. Moves player x (player.advance r tape l) r tape l) e (follows.moves r tape l)

  pub exactly : Exactly player
  exactly = record {
    spent = λ r tape l action e.
        let s = acts-spent (on_bus action) (spent_of (next_record player r tape)) (player.advance r tape l) r tape l (acting r tape l (acts action) e) in
        (λ is. ((s.0 is).0, is-spent (next_record player r tape) (s.0 is).1), λ both. s.1 (both.0, ap spent_of both.1));
    misfit = λ r tape l takes f out e bus some ready.
        let x = next_record player r tape in
        let s : Acts player true false (player.advance r tape l) r tape l = rw (bus, some) at (acting r tape l (acts (action_of f)) e) in
        let h : Heard (heard takes f (reply_of x) (data_of tape x) l) (player.system.answer (player.flash r) (reply_of x) (data_of tape x) l).given = rw out at (follows.hears (player.flash r) (reply_of x) (data_of tape x) l) in
        let both = exact _ takes f (reply_of x) (data_of tape x) l ready h in
        let same = refuses-as s FlashError.Misfit in
        (λ is. both.0 (same.0 is), λ unfit. same.1 (both.1 unfit));
  }

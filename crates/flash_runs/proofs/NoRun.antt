-- A call that has no run: what follows it is refused, and of its steps a watcher sees nothing.
use Prim.Native.Nat.{ℕ, ◌+◌}
use native.Mathlib.Nat.{zero-add}
use mathlib.Core.Bool.{Bool, true, false, true≢false}
use mathlib.Core.Option.{Option, none, some}
use mathlib.Core.Path.{◌≡◌, refl, ap, sym, ◌∙◌, subst}
use mathlib.Core.List.{List, [], ◌∷◌, ◌++◌}
use lib.ListN.{length}
use Rattle.qspi.specs.Choice.{pick}
use Rattle.qspi.specs.Shown.{Shown}
use Rattle.qspi.specs.declared.bus.Reply.{Reply}
use Rattle.qspi.proofs.Cases.{by_cases}
use Rattle.spi_flash.specs.Loan.{Lent}
use Rattle.spi_flash.specs.Run.{Event, reply, call, Given, act, ended, failed, refused, Entry, Moved, System, at_once, goes_on, begun_with, run_of, call_of, state_after, delay_given, delay_asked}
use Rattle.spi_flash.specs.Seen.{unless_refused}
use Rattle.spi_flash.specs.declared.error.FlashError.{FlashError}
use Rattle.flash_runs.specs.Driver.{Left, Driver, sort_at, takes_at, bounded_at, run_at, steps_at}
use Rattle.flash_runs.specs.Reading.{data_in, mine_then, bytes_read}
use Rattle.flash_runs.specs.Refusals.{RefusedAs, rest_refusal, out_after, reply_refusal, refusal_in, RefusesJust, RefusalsKeep}
use Rattle.flash_runs.specs.WithinBound.{GivesAction}
use Rattle.flash_runs.specs.Watch.{Watcher, hearing, giving, watched, succeeded_then, Succeeded}

-- every step is refused
unfoldable pub AllRefused : {C A : Type 0} → List (Entry C A) → Type 0
AllRefused [] = Unit {0}
AllRefused (x ∷ xs) = ((e : FlashError) × (x.given ≡ refused e)) × AllRefused xs

module _ {C A : Type 0} where
  pub refused-watched : {Z : Type 0} (w : Watcher Z) (xs : List (Entry C A)) → AllRefused xs → (z : Z) → watched w z xs ≡ z
  unfolding watched AllRefused
  refused-watched w [] h z = refl
  refused-watched w (x ∷ xs) h z =
      ap (λ g. watched w (unless_refused g (giving w g (hearing w x.event z)) z) xs) h.0.1 ∙ refused-watched w xs h.1 z

  pub refused-reads : (reads : List ℕ → Bool) (xs : List (Entry C A)) → AllRefused xs → (mine : Bool) → bytes_read reads mine xs ≡ []
  unfolding bytes_read AllRefused
  refused-reads reads [] h mine = refl
  refused-reads reads (x ∷ xs) h mine =
      ap (λ g. unless_refused g (data_in mine x.event) [] ++ bytes_read reads (mine_then reads g mine) xs) h.0.1 ∙ refused-reads reads xs h.1 mine

  pub refused-asks : (xs : List (Entry C A)) → AllRefused xs → delay_asked xs ≡ 0
  unfolding delay_asked AllRefused
  refused-asks [] h = refl
  refused-asks (x ∷ xs) h = ap (λ g. delay_given g + delay_asked xs) h.0.1 ∙ zero-add (delay_asked xs) ∙ refused-asks xs h.1

  pub refused-fails : (xs : List (Entry C A)) → AllRefused xs → Succeeded xs → ⊥
  unfolding Succeeded AllRefused
  refused-fails [] h s = s
  refused-fails (x ∷ xs) h s = refused-fails xs h.1 (subst (λ g. succeeded_then g (Succeeded xs)) h.0.1 s)

  -- a call that gives an action has its steps as its run
  pub acts-alike : {F : Type 0} (system : System F C A) (f : F) (c : C) (l : Lent) (es : List (Event C)) (shown : Shown) → (system.begin f c l).given ≡ act shown →
      call_of system f c l es ≡ run_of system f c l es
  unfolding call_of run_of
  acts-alike system f c l es shown e =
      let m = system.begin f c l in
      ap (λ g. record { event = call c l; given = at_once g; left = m.left } ∷ goes_on system m.flash es) e
      ∙ sym (ap (λ g. record { event = call c l; given = g; left = m.left } ∷ goes_on system m.flash es) e)
      ∙ sym (ap (λ g. begun_with system g c l m es) e)

or_misfit : Option FlashError → FlashError
or_misfit none = FlashError.Misfit
or_misfit (some e) = e

is_none : Option FlashError → Bool
is_none none = true
is_none (some e) = false

some-none : {P : Type 0} (e : FlashError) → none ≡ some e → P
unfolding is_none
some-none e h = absurd (true≢false (ap is_none h))

refusal-is : {A : Type 0} (g : Given A) (e : FlashError) → refusal_in g ≡ some e → g ≡ refused e
unfolding or_misfit
refusal-is (act shown) e h = some-none e h
refusal-is (ended a) e h = some-none e h
refusal-is (failed x) e h = some-none e h
refusal-is (refused x) e h = ap (λ o. refused (or_misfit o)) h

-- ---- a beginning without an action

module _ {A : Type 0} where
  quiet-given : {Z : Type 0} (w : Watcher Z) (z : Z) (g : Given A) → (GivesAction g → ⊥) → unless_refused (at_once g) (giving w (at_once g) z) z ≡ z
  quiet-given w z (act shown) silent = absurd (silent tt)
  quiet-given w z (ended a) silent = refl
  quiet-given w z (failed e) silent = refl
  quiet-given w z (refused e) silent = refl

  quiet-reads : (g : Given A) → (GivesAction g → ⊥) → unless_refused {A = A} {B = List ℕ} (at_once g) [] [] ≡ []
  quiet-reads (act shown) silent = refl
  quiet-reads (ended a) silent = refl
  quiet-reads (failed e) silent = refl
  quiet-reads (refused e) silent = refl

  quiet-asks : (g : Given A) → (GivesAction g → ⊥) → delay_given (at_once g) ≡ 0
  quiet-asks (act shown) silent = absurd (silent tt)
  quiet-asks (ended a) silent = refl
  quiet-asks (failed e) silent = refl
  quiet-asks (refused e) silent = refl

  quiet-run : {F C : Type 0} (system : System F C A) (g : Given A) (c : C) (l : Lent) (m : Moved F A) (es : List (Event C)) → (GivesAction g → ⊥) → begun_with system g c l m es ≡ []
  quiet-run system (act shown) c l m es silent = absurd (silent tt)
  quiet-run system (ended a) c l m es silent = refl
  quiet-run system (failed e) c l m es silent = refl
  quiet-run system (refused e) c l m es silent = refl

module _ {F C S A : Type 0} {driver : Driver F C S A} (just : RefusesJust driver) (keep : RefusalsKeep driver) (flash : F) (c : C) (l : Lent)
    (free : driver.system.running flash ≡ false) (silent : GivesAction (driver.system.begin flash c l).given → ⊥) where
  abbrev began : Moved F (Left S A)
  began = driver.system.begin flash c l

  abbrev behind : F
  behind = began.flash

  no-run : run_at driver flash c l [] ≡ []
  unfolding run_of
  no-run = quiet-run driver.system began.given c l began [] silent

  reply-refused : (r : Reply) (bytes : List ℕ) (now : Lent) → (driver.system.answer behind r bytes now).given ≡ refused FlashError.OutOfTurn
  unfolding state_after out_after
  reply-refused r bytes now =
      refusal-is _ FlashError.OutOfTurn
      (just.replies flash c l [] free r bytes now ∙ ap (λ xs. reply_refusal (out_after none xs) (takes_at driver c l) now r (length bytes)) no-run)

  call-refused : driver.system.running behind ≡ true → (other : C) (now : Lent) → (driver.system.begin behind other now).given ≡ refused FlashError.OutOfTurn
  call-refused runs other now =
      subst (λ b. RefusedAs (pick b (some FlashError.OutOfTurn) (rest_refusal (sort_at driver other now) (driver.built behind) (length now.scratch) (bounded_at driver behind other now)))
      (driver.system.begin behind other now).given) runs (just.calls behind other now)

  rest-refused : (es : List (Event C)) → AllRefused (goes_on driver.system behind es)
  unfolding goes_on AllRefused
  rest-refused [] = tt
  rest-refused (reply r bytes now ∷ es) =
      let e = reply-refused r bytes now in
      ((FlashError.OutOfTurn, e), subst (λ f. AllRefused (goes_on driver.system f es)) (sym (keep.replies behind r bytes now FlashError.OutOfTurn e).0) (rest-refused es))
  rest-refused (call other now ∷ es) =
      by_cases (driver.system.running behind)
      (λ runs.
      let e = call-refused runs other now in
      rw runs ((FlashError.OutOfTurn, e), subst (λ f. AllRefused (goes_on driver.system f es)) (sym (keep.calls behind other now FlashError.OutOfTurn e).0) (rest-refused es)))
      (λ rests. rw rests tt)

  module _ (es : List (Event C)) where
    abbrev rest : List (Entry C (Left S A))
    rest = goes_on driver.system behind es

    pub quiet-watched : {Z : Type 0} (w : Watcher Z) (z : Z) → watched w z (steps_at driver flash c l es) ≡ z
    unfolding watched call_of
    quiet-watched w z = ap (λ y. watched w y rest) (quiet-given w z began.given silent) ∙ refused-watched w rest (rest-refused es) z

    pub quiet-bytes : (reads : List ℕ → Bool) → bytes_read reads false (steps_at driver flash c l es) ≡ []
    unfolding bytes_read call_of
    quiet-bytes reads =
        let g = at_once began.given in
        ap (λ bytes. bytes ++ bytes_read reads (mine_then reads g false) rest) (quiet-reads began.given silent) ∙ refused-reads reads rest (rest-refused es) _

    pub quiet-asked : delay_asked (steps_at driver flash c l es) ≡ 0
    unfolding delay_asked call_of
    quiet-asked = ap (λ n. n + delay_asked rest) (quiet-asks began.given silent) ∙ zero-add (delay_asked rest) ∙ refused-asks rest (rest-refused es)

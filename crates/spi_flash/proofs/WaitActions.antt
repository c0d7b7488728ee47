-- The actions of a wait, from its turns: a look has 4, and a delay comes only behind a look.
use Prim.Native.Nat.{ℕ, ◌+◌, ◌*◌, ◌≤◌}
use native.Mathlib.Omega.{arith}
use mathlib.Core.Bool.{Bool}
use mathlib.Core.Path.{◌≡◌, refl, subst}
use mathlib.Core.List.{List}
use Rattle.qspi.specs.declared.command.Command.{Command}
use Rattle.qspi.specs.declared.transfer.Body.{Body}
use Rattle.qspi.specs.declared.transfer.Transfer.{Transfer}
use Rattle.spi_flash.specs.declared.wait.Timings.{Timings}
use Rattle.spi_flash.specs.Prog.{Prog, ret, fail, ask, ◌>>=◌, ◌>>◌}
use Rattle.spi_flash.specs.Path.{Past, End, Every, asked, delays, Bounded}
use Rattle.spi_flash.proofs.Paths.{actions}
use Rattle.spi_flash.specs.WaitLaw.{waiting, delayed_wait, prompt_wait, looks, look_weight, wait_step, OnlyPause, OnlyLook, Turn, looking, pausing, TakesTurns, WaitLaw}
use Rattle.spi_flash.proofs.Laws.{every-mono, every-both, bounded-then, bounded-transfer}

looked : (t : Transfer) (P : Type 0) → OnlyLook (wait_step t) P → (actions t ≡ 4) × (look_weight t ≡ 1) × P
looked Transfer.Raise P h = absurd h
looked (Transfer.Pause us) P h = absurd h
looked (Transfer.Framed c Body.None) P h = absurd h
looked (Transfer.Framed c (Body.Read n sink)) P h = (refl, refl, h)
looked (Transfer.Framed c (Body.Write payload)) P h = absurd h
looked (Transfer.Framed c (Body.QuadRead tclqv margin n sink)) P h = absurd h
looked (Transfer.Framed c (Body.QuadWrite payload)) P h = absurd h

paused : (t : Transfer) (P : ℕ → Type 0) → OnlyPause (wait_step t) P → (actions t ≡ 1) × (look_weight t ≡ 0) × P (delays t)
paused Transfer.Raise P h = absurd h
paused (Transfer.Pause us) P h = (refl, refl, h)
paused (Transfer.Framed c Body.None) P h = absurd h
paused (Transfer.Framed c (Body.Read n sink)) P h = absurd h
paused (Transfer.Framed c (Body.Write payload)) P h = absurd h
paused (Transfer.Framed c (Body.QuadRead tclqv margin n sink)) P h = absurd h
paused (Transfer.Framed c (Body.QuadWrite payload)) P h = absurd h

abbrev Counted : Turn → List Past → End (Unit {0}) → Type 0
Counted looking past end = asked actions past end ≤ 5 * asked look_weight past end
Counted pausing past end = asked actions past end ≤ 5 * asked look_weight past end + 1

module _ (busy : ℕ → Bool) (limit : ℕ) where
  counted : (p : Prog (Unit {0})) (turn : Turn) (sum seen : ℕ) → Every p (TakesTurns busy limit turn sum seen) → Every p (Counted turn)
  counted (ret a) looking sum seen h = omega arith
  counted (ret a) pausing sum seen h = omega arith
  counted (fail e) looking sum seen h = omega arith
  counted (fail e) pausing sum seen h = omega arith
  counted (ask t k) looking sum seen h =
      let s = looked t (Unit {0}) h.0 in (
        omega arith,
        (λ code. omega arith),
        (λ v. every-mono (k v) (λ past end (m : Counted pausing past end). omega arith)
            (counted (k v) pausing sum v (every-mono (k v) (λ past end m. (looked t (TakesTurns busy limit pausing sum v past end) m).2) (h.2 v)))),
      )
  counted (ask t k) pausing sum seen h =
      let s = paused t _ h.0 in (
        omega arith,
        (λ code. omega arith),
        (λ v. every-mono (k v) (λ past end (m : Counted looking past end). omega arith)
            (counted (k v) looking (sum + delays t) seen (every-mono (k v) (λ past end m. (paused t (λ us. TakesTurns busy limit looking (sum + us) seen past end) m).2) (h.2 v)))),
      )

module _ (status : Command) (busy : ℕ → Bool) (t : Timings) where
  -- five actions a look
  by-looks : (p : Prog (Unit {0})) → Every p (TakesTurns busy t.timeout_us looking t.initial_us 0) → Every p (λ past end. asked look_weight past end ≤ looks t) →
      Bounded actions (5 * looks t) p
  by-looks p turns most = record {
    bound = every-mono p (λ past end m. omega arith)
        (every-both p (Counted looking) (λ past end. asked look_weight past end ≤ looks t) (counted busy t.timeout_us p looking t.initial_us 0 turns) most);
  }

  pub delayed-actions : WaitLaw status busy t (delayed_wait status busy t) → Bounded actions (1 + 5 * looks t) (delayed_wait status busy t)
  unfolding delayed_wait ◌>>◌ ◌>>=◌
  delayed-actions law =
      let p = waiting status busy t t.initial_us in
      bounded-then bounded-transfer (by-looks p law.turns (every-mono p (λ past end m. omega arith) (law.looked.bound.2 0)))

  pub prompt-actions : t.initial_us ≡ 0 → WaitLaw status busy t (prompt_wait status busy t) → Bounded actions (5 * looks t) (prompt_wait status busy t)
  unfolding prompt_wait
  prompt-actions first law =
      by-looks (waiting status busy t 0)
      (subst (λ n. Every (waiting status busy t n) (TakesTurns busy t.timeout_us looking t.initial_us 0)) first law.turns)
      law.looked.bound

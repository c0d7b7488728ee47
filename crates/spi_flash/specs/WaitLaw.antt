-- The wait in general: any first delay, any limit, any poll delay of at least 1 (docs/SPECIFICATION.md, "Waits and bounds"). Over the
-- command that asks for status and the test that tells busy.
use Rattle.std.specs.Prelude.{ℕ, zero, suc, ◌+◌, ◌-◌, ◌*◌, ◌/◌, ◌^◌, ◌≤◌, ◌<◌, Bool, true, false, not, ◌≡◌, List, [], ◌∷◌, leb, if◌then◌else◌, Ok, Err}
use Rattle.qspi.specs.declared.command.Command.{Command}
use Rattle.qspi.specs.declared.transfer.Sink.{Sink}
use Rattle.qspi.specs.declared.transfer.Body.{Body}
use Rattle.qspi.specs.declared.transfer.Transfer.{Transfer}
use Rattle.spi_flash.specs.declared.error.FlashError.{FlashError}
use Rattle.spi_flash.specs.declared.wait.Timings.{Timings}
use Rattle.spi_flash.specs.declared.wait.Wait.{Wait}
use Rattle.spi_flash.specs.Prog.{Prog, ret, fail, ◌>>=◌, ◌>>◌, transfer}
use Rattle.spi_flash.specs.Path.{Past, back, End, going, done, failed, delays, Every, Bounded, Ends}
use Rattle.spi_flash.specs.Wait.{first_wait, next_wait}

-- ---- the Rust's loop

module _ (status : Command) (busy : ℕ → Bool) where
  abbrev pub look_at : Prog ℕ
  look_at = transfer (Transfer.Framed status (Body.Read 1 Sink.Number))

  -- both drivers' `loop` of `wait_ready`, by fuel; `WaitLoop` below says that the fuel is enough
  unfoldable pub wait_loop : ℕ → Timings → ℕ → Prog (Unit {0})
  wait_loop zero t waited = fail FlashError.Timeout
  wait_loop (suc fuel) t waited = do
    s ← look_at
    if not (busy s)
        then ret tt
        else if leb t.timeout_us waited
        then fail FlashError.Timeout
        else do
          transfer (Transfer.Pause t.poll_us)
          wait_loop fuel t (waited + t.poll_us)

  unfoldable pub waiting : Timings → ℕ → Prog (Unit {0})
  waiting t waited = wait_loop (suc (t.timeout_us - waited)) t waited

  -- the NAND's `wait_ready` asks its first delay, then loops; the NOR's loops at once
  unfoldable pub delayed_wait : Timings → Prog (Unit {0})
  delayed_wait t = do
    transfer (Transfer.Pause t.initial_us)
    waiting t t.initial_us

  unfoldable pub prompt_wait : Timings → Prog (Unit {0})
  prompt_wait t = waiting t 0

  -- the loop satisfies the Rust's equation, without fuel
  pub record WaitLoop (t : Timings) : Type 0 where
    pub loops : (waited : ℕ) → waiting t waited ≡ (do
      s ← look_at
      if not (busy s)
          then ret tt
          else if leb t.timeout_us waited
          then fail FlashError.Timeout
          else do
            transfer (Transfer.Pause t.poll_us)
            waiting t (waited + t.poll_us))

-- ---- the law

-- the least number of polls after which the requested sum is at or above the limit
abbrev pub poll_count : Timings → ℕ
poll_count t = (t.timeout_us - t.initial_us + (t.poll_us - 1)) / t.poll_us

abbrev pub largest_sum : Timings → ℕ
largest_sum t = t.initial_us + poll_count t * t.poll_us

abbrev pub looks : Timings → ℕ
looks t = poll_count t + 1

-- the looks of a wait: it reads nothing else
abbrev pub look_weight : Transfer → ℕ
look_weight Transfer.Raise = 0
look_weight (Transfer.Pause us) = 0
look_weight (Transfer.Framed c Body.None) = 0
look_weight (Transfer.Framed c (Body.Read n sink)) = 1
look_weight (Transfer.Framed c (Body.Write payload)) = 0
look_weight (Transfer.Framed c (Body.QuadRead tclqv margin n sink)) = 0
look_weight (Transfer.Framed c (Body.QuadWrite payload)) = 0

-- what a wait does with a transfer: it asks a delay, or looks
pub data WaitStep : Type 0 where
  pauses : ℕ → WaitStep
  looks_at other : WaitStep

abbrev pub wait_step : Transfer → WaitStep
wait_step Transfer.Raise = other
wait_step (Transfer.Pause us) = pauses us
wait_step (Transfer.Framed c Body.None) = other
wait_step (Transfer.Framed c (Body.Read n sink)) = looks_at
wait_step (Transfer.Framed c (Body.Write payload)) = other
wait_step (Transfer.Framed c (Body.QuadRead tclqv margin n sink)) = other
wait_step (Transfer.Framed c (Body.QuadWrite payload)) = other

abbrev pub OnlyPause : WaitStep → (ℕ → Type 0) → Type 0
OnlyPause (pauses us) P = P us
OnlyPause looks_at P = ⊥
OnlyPause other P = ⊥

abbrev pub OnlyLook : WaitStep → Type 0 → Type 0
OnlyLook (pauses us) P = ⊥
OnlyLook looks_at P = P
OnlyLook other P = ⊥

pub data Turn : Type 0 where
  looking pausing : Turn

-- a path of a wait that has asked `sum` and whose last look found `seen`: a look comes after each delay; a delay only after
-- a look that found busy with the sum below the limit; it ends well when a look finds the part ready, and refuses only when
-- busy with the sum at or above the limit
module _ (busy : ℕ → Bool) (limit : ℕ) where
  abbrev pub TakesTurns : Turn → (sum seen : ℕ) → List Past → End (Unit {0}) → Type 0
  TakesTurns looking sum seen [] (going t) = OnlyLook (wait_step t) (Unit {0})
  TakesTurns looking sum seen [] (done u) = ⊥
  TakesTurns looking sum seen [] (failed e) = ⊥
  TakesTurns looking sum seen (back t (Ok v) ∷ past) end = OnlyLook (wait_step t) (TakesTurns pausing sum v past end)
  TakesTurns looking sum seen (back t (Err error) ∷ past) end = end ≡ failed (FlashError.Spi error.0)
  TakesTurns pausing sum seen [] (going t) = OnlyPause (wait_step t) (λ us. (busy seen ≡ true) × (sum < limit))
  TakesTurns pausing sum seen [] (done u) = busy seen ≡ false
  TakesTurns pausing sum seen [] (failed e) = (e ≡ FlashError.Timeout) × (busy seen ≡ true) × (limit ≤ sum)
  TakesTurns pausing sum seen (back t (Ok v) ∷ past) end = OnlyPause (wait_step t) (λ us. TakesTurns looking (sum + us) seen past end)
  TakesTurns pausing sum seen (back t (Err error) ∷ past) end = end ≡ failed (FlashError.Spi error.0)

-- what holds of a wait over a row of a table: of its loop behind the first delay, and of p, the whole wait
pub record WaitLaw (status : Command) (busy : ℕ → Bool) (t : Timings) (p : Prog (Unit {0})) : Type 0 where
  -- the loop, begun with the sum at the first delay, takes turns
  pub turns : Every (waiting status busy t t.initial_us) (TakesTurns busy t.timeout_us looking t.initial_us 0)
  -- the largest requested sum, and that replies bring it there
  pub bound : Bounded delays (largest_sum t) p
  pub reached : (given : List ℕ) → Ends given delays (largest_sum t) tt p
  -- the number of looks, likewise
  pub looked : Bounded look_weight (looks t) p
  pub looked_reached : (given : List ℕ) → Ends given look_weight (looks t) tt p

-- ---- the code's rule

-- what a step of the rule comes to, and what follows it after delays of so many in all
abbrev pub ruled : Wait → (ℕ → Prog (Unit {0})) → Prog (Unit {0})
ruled Wait.Look later = later 0
ruled (Wait.Pause us waited) later = do
  transfer (Transfer.Pause us)
  later waited
ruled Wait.Ready later = ret tt
ruled Wait.Timeout later = fail FlashError.Timeout

module _ (status : Command) (busy : ℕ → Bool) (t : Timings) where
  -- p is a wait by the code's rule: after delays of so many in all it looks, and does what the rule says of that look
  pub record ByRule (p : ℕ → Prog (Unit {0})) : Type 0 where
    pub goes : (waited : ℕ) → p waited ≡ (do
      s ← look_at status busy
      ruled (next_wait t waited (busy s)) p)

  -- the Rust's loop is a wait by the code's rule, and there is no other; the rule begins it in the NAND's form or in the NOR's
  pub record RuleIsLoop : Type 0 where
    pub loop : ByRule (waiting status busy t)
    pub only : (p : ℕ → Prog (Unit {0})) → ByRule p → (waited : ℕ) → p waited ≡ waiting status busy t waited
    pub delayed : 1 ≤ t.initial_us → ruled (first_wait t) (waiting status busy t) ≡ delayed_wait status busy t
    pub prompt : t.initial_us ≡ 0 → ruled (first_wait t) (waiting status busy t) ≡ prompt_wait status busy t

-- the wait law, in the NAND's form and in the NOR's; and that the code's rule makes these loops, where no sum passes 32 bits
pub record WaitInGeneral : Type 0 where
  pub loop : (status : Command) (busy : ℕ → Bool) (t : Timings) → 1 ≤ t.poll_us → WaitLoop status busy t
  pub delayed : (status : Command) (busy : ℕ → Bool) → busy 0 ≡ false → busy 1 ≡ true → (t : Timings) → 1 ≤ t.poll_us →
      WaitLaw status busy t (delayed_wait status busy t)
  pub prompt : (status : Command) (busy : ℕ → Bool) → busy 0 ≡ false → busy 1 ≡ true → (t : Timings) → t.initial_us ≡ 0 → 1 ≤ t.poll_us →
      WaitLaw status busy t (prompt_wait status busy t)
  pub rule : (status : Command) (busy : ℕ → Bool) (t : Timings) → 1 ≤ t.poll_us → t.timeout_us + t.poll_us < 2 ^ 32 → RuleIsLoop status busy t

-- The wait law, for any first delay, any limit and any poll delay of at least 1.
use Prim.Native.Nat.{ℕ, zero, suc, ◌+◌, ◌-◌, ◌*◌, ◌/◌, ◌%◌, ◌^◌, ◌≤◌, ◌<◌}
use native.Mathlib.Omega.{arith}
use native.Mathlib.Nat.{mul-le-mul_left, mul-le-mul_right, div-add-mod', mod-lt}
use mathlib.Core.Bool.{Bool, true, false, not}
use mathlib.Core.Path.{◌≡◌, refl, ap, sym, ◌∙◌, fun_ext}
use mathlib.Core.List.{List}
use borrow.Author.Tests.{le-leb, lt-leb, leb-false}
use Rattle.std.proofs.lemmas.Bool.{ne_eqb}
use lib.Dec.{leb, lit<}
use Rattle.qspi.specs.declared.command.Command.{Command}
use Rattle.qspi.specs.declared.transfer.Sink.{Sink}
use Rattle.qspi.specs.declared.transfer.Body.{Body}
use Rattle.qspi.specs.declared.transfer.Transfer.{Transfer}
use Rattle.spi_flash.specs.declared.error.FlashError.{FlashError}
use Rattle.spi_flash.specs.declared.wait.Timings.{Timings}
use Rattle.std.specs.Prelude.{if◌then◌else◌}
use Rattle.spi_flash.specs.Wait.{u32_max, saturating_add, first_wait, next_wait}
use Rattle.spi_flash.specs.Prog.{Prog, ret, fail, ◌>>=◌, ◌>>◌, transfer}
use Rattle.spi_flash.specs.Path.{Every, delays, Bounded, Ends}
use Rattle.spi_flash.specs.WaitLaw.{look_at, wait_loop, waiting, delayed_wait, prompt_wait, WaitLoop, poll_count, look_weight, looking, pausing, TakesTurns, WaitLaw, ruled, ByRule, RuleIsLoop, WaitInGeneral}
use Rattle.spi_flash.proofs.Laws.{bounded-ask, bounded-ret, bounded-fail, bounded-then, bounded-if, bounded-more, bounded-transfer, ends-ask, ends-ret, ends-then, ends-transfer, ends-eq}
use Rattle.spi_flash.proofs.Replies.{byte}

-- the least number of polls after which the sum is at or above the limit
record Least (first poll limit k : ℕ) : Type 0 where
  enough : limit ≤ first + k * poll
  before : (j : ℕ) → j < k → first + j * poll < limit

least : (t : Timings) → 1 ≤ t.poll_us → Least t.initial_us t.poll_us t.timeout_us (poll_count t)
least t h =
    let poll = t.poll_us in
    let x = t.timeout_us - t.initial_us + (poll - 1) in
    let d : x / poll * poll + x % poll ≡ x = div-add-mod' x poll in
    let r : x % poll < poll = mod-lt x h in
    record { enough = omega arith; before = λ j i. let m : suc j * poll ≤ x / poll * poll = mul-le-mul_right poll i in omega arith }

least-next : {w p l k : ℕ} → Least w p l (suc k) → Least (w + p) p l k
least-next {w} {p} {l} {k} h = record {
  enough = omega (arith, h.enough);
  before = λ j i. omega (arith, h.before (suc j) (omega arith));
}

-- k polls of at least 1 each stay below the limit before the last: the fuel is enough
enough-fuel : {w p l : ℕ} (k : ℕ) → 1 ≤ p → Least w p l k → k ≤ l - w
enough-fuel zero h m = omega arith
enough-fuel (suc k) h m = omega (arith, m.before k (omega arith), mul-le-mul_left k h)

module _ (status : Command) (busy : ℕ → Bool) where
  -- a look; while it finds busy, a poll and another look, k times at most; busy at the last look is refused
  polls : ℕ → ℕ → Prog (Unit {0})
  polls zero poll = do
    s ← look_at status busy
    if not (busy s) then ret tt else fail FlashError.Timeout
  polls (suc k) poll = do
    s ← look_at status busy
    if not (busy s) then ret tt else do
      transfer (Transfer.Pause poll)
      polls k poll

  loop-is-polls : (t : Timings) (k n waited : ℕ) → Least waited t.poll_us t.timeout_us k → k < n → wait_loop status busy n t waited ≡ polls k t.poll_us
  unfolding wait_loop polls ◌>>=◌ ◌>>◌
  loop-is-polls t k zero waited l h = absurd (omega arith)
  loop-is-polls t zero (suc n) waited l h = rw (le-leb t.timeout_us waited (omega (arith, l.enough)))
  loop-is-polls t (suc k) (suc n) waited l h =
      rw (lt-leb t.timeout_us waited (omega (arith, l.before 0 (omega arith))), loop-is-polls t k n (waited + t.poll_us) (least-next l) (omega arith))

  waiting-is-polls : (t : Timings) (waited : ℕ) {k : ℕ} → 1 ≤ t.poll_us → Least waited t.poll_us t.timeout_us k → waiting status busy t waited ≡ polls k t.poll_us
  unfolding waiting
  waiting-is-polls t waited {k} h l = loop-is-polls t k (suc (t.timeout_us - waited)) waited l (omega (arith, enough-fuel k h l))

  -- any fuel above what is left to the limit gives the same loop
  fuel-free : (t : Timings) (n m waited : ℕ) → 1 ≤ t.poll_us → t.timeout_us - waited < n → t.timeout_us - waited < m → wait_loop status busy n t waited ≡ wait_loop status busy m t waited
  unfolding wait_loop ◌>>=◌ ◌>>◌
  fuel-free t zero m waited h a b = absurd (omega arith)
  fuel-free t (suc n) zero waited h a b = absurd (omega arith)
  fuel-free t (suc n) (suc m) waited h a b = by (leb t.timeout_us waited) refl (λ x y. fuel-free t n m (waited + t.poll_us) h x y)
    where
      next : ℕ
      next = t.timeout_us - (waited + t.poll_us)

      by : (b : Bool) → leb t.timeout_us waited ≡ b → (next < n → next < m → wait_loop status busy n t (waited + t.poll_us) ≡ wait_loop status busy m t (waited + t.poll_us)) → wait_loop status busy (suc n) t waited ≡ wait_loop status busy (suc m) t waited
      by true e ih = rw e
      by false e ih = let l = leb-false t.timeout_us waited e in rw (e, ih (omega arith) (omega arith))

  -- the loop is the Rust's
  loops : (t : Timings) → 1 ≤ t.poll_us → WaitLoop status busy t
  unfolding waiting wait_loop
  loops t h = record { loops = λ waited. by waited (leb t.timeout_us waited) refl }
    where
      by : (waited : ℕ) (b : Bool) → leb t.timeout_us waited ≡ b → waiting status busy t waited ≡ (do
        s ← look_at status busy
        if not (busy s)
            then ret tt
            else if leb t.timeout_us waited
            then fail FlashError.Timeout
            else do
              transfer (Transfer.Pause t.poll_us)
              waiting status busy t (waited + t.poll_us))
      by waited true e = rw e
      by waited false e =
          let l = leb-false t.timeout_us waited e in
          let next = waited + t.poll_us in
          rw (e, fuel-free t (t.timeout_us - waited) (suc (t.timeout_us - next)) next h (omega arith) (omega arith))

  -- ---- the code's rule

  module _ (t : Timings) (h : 1 ≤ t.poll_us) (fits : t.timeout_us + t.poll_us < 2 ^ 32) where
    -- below the limit the sum stays
    sum-stays : (waited : ℕ) → waited < t.timeout_us → saturating_add waited t.poll_us ≡ waited + t.poll_us
    sum-stays waited l = rw (le-leb t.poll_us (u32_max - waited) (omega arith)) refl

    -- the rule of a look goes on as the loop does
    as-loop : (waited : ℕ) (b : Bool) → ruled (next_wait t waited b) (waiting status busy t) ≡ (
        if not b
        then ret tt
        else if leb t.timeout_us waited
        then fail FlashError.Timeout
        else do
          transfer (Transfer.Pause t.poll_us)
          waiting status busy t (waited + t.poll_us))
    unfolding next_wait
    as-loop waited false = refl
    as-loop waited true = by (leb t.timeout_us waited) refl
      where
        by : (b : Bool) → leb t.timeout_us waited ≡ b → ruled (next_wait t waited true) (waiting status busy t) ≡ (
            if leb t.timeout_us waited
            then fail FlashError.Timeout
            else do
              transfer (Transfer.Pause t.poll_us)
              waiting status busy t (waited + t.poll_us))
        by true e = rw e
        by false e = rw (e, sum-stays waited (leb-false t.timeout_us waited e))

    by-rule : ByRule status busy t (waiting status busy t)
    by-rule = record {
      goes = λ waited. (loops t h).loops waited ∙ ap (λ f. look_at status busy >>= f) (fun_ext (λ s. sym (as-loop waited (busy s))));
    }

    -- the rule of a look, before two waits that are one behind the next poll
    same-step : (p q : ℕ → Prog (Unit {0})) (waited : ℕ) → (waited < t.timeout_us → p (waited + t.poll_us) ≡ q (waited + t.poll_us)) →
        (b : Bool) → ruled (next_wait t waited b) p ≡ ruled (next_wait t waited b) q
    unfolding next_wait
    same-step p q waited e false = refl
    same-step p q waited e true = by (leb t.timeout_us waited) refl
      where
        by : (b : Bool) → leb t.timeout_us waited ≡ b → ruled (next_wait t waited true) p ≡ ruled (next_wait t waited true) q
        by true g = rw g
        by false g =
            let l = leb-false t.timeout_us waited g in
            rw (g, sum-stays waited l) (ap (λ r. transfer (Transfer.Pause t.poll_us) >> r) (e l))

    only-loop : (p : ℕ → Prog (Unit {0})) → ByRule status busy t p → (n waited : ℕ) → t.timeout_us - waited < n → p waited ≡ waiting status busy t waited
    only-loop p r zero waited l = absurd (omega arith)
    only-loop p r (suc n) waited l =
        r.goes waited
        ∙ ap (λ f. look_at status busy >>= f)
        (fun_ext (λ s. same-step p (waiting status busy t) waited (λ below. only-loop p r n (waited + t.poll_us) (omega arith)) (busy s)))
        ∙ sym (by-rule.goes waited)

    rule-is-loop : RuleIsLoop status busy t
    unfolding first_wait delayed_wait prompt_wait
    rule-is-loop = record {
      loop = by-rule;
      only = λ p r waited. only-loop p r (suc (t.timeout_us - waited)) waited (omega arith);
      delayed = λ some. rw (ne_eqb t.initial_us 0 (λ z. omega arith)) refl;
      prompt = λ none. rw none refl;
    }

  -- ---- sums over the polls

  module _ (w : Transfer → ℕ) (poll : ℕ) where
    abbrev each : ℕ
    each = w (Transfer.Pause poll) + w (Transfer.Framed status (Body.Read 1 Sink.Number))

    bounded-polls : (k : ℕ) → Bounded w (k * each + w (Transfer.Framed status (Body.Read 1 Sink.Number))) (polls k poll)
    unfolding polls ◌>>=◌ ◌>>◌
    bounded-polls zero = bounded-more (omega arith) (bounded-ask (λ s. bounded-if (not (busy s)) bounded-ret (bounded-fail {b = 0})))
    bounded-polls (suc k) =
        bounded-more (omega arith) (bounded-ask (λ s. bounded-if (not (busy s)) bounded-ret (bounded-then bounded-transfer (bounded-polls k))))

    -- busy k times, and then ready
    ends-polls : (given : List ℕ) → busy 0 ≡ false → busy 1 ≡ true → (k : ℕ) → Ends given w (k * each + w (Transfer.Framed status (Body.Read 1 Sink.Number))) tt (polls k poll)
    unfolding polls ◌>>=◌ ◌>>◌
    ends-polls given ready waits zero = ends-eq (omega arith) (ends-ask _ {b = 0} 0 (byte given 0 (lit< tt)) (rw ready ends-ret))
    ends-polls given ready waits (suc k) =
        ends-eq (omega arith)
        (ends-ask _ {b = w (Transfer.Pause poll) + (k * each + w (Transfer.Framed status (Body.Read 1 Sink.Number)))} 1 (byte given 1 (lit< tt))
        (rw waits (ends-then (ends-transfer 0 refl) (ends-polls given ready waits k))))

  -- ---- the turns of a wait

  module _ (limit poll : ℕ) where
    -- after the last look
    last-look : (sum v : ℕ) (b : Bool) → busy v ≡ b → limit ≤ sum →
        Every (if not (busy v) then ret (tt {0}) else fail FlashError.Timeout) (λ past end. TakesTurns busy limit pausing sum v past end)
    last-look sum v true e h = rw e (refl, e, h)
    last-look sum v false e h = rw e e

    -- after a look with polls left
    next-look : (k sum v : ℕ) (b : Bool) → busy v ≡ b → sum < limit → Every (polls k poll) (TakesTurns busy limit looking (sum + poll) v) →
        Every (if not (busy v) then ret (tt {0}) else (transfer (Transfer.Pause poll) >> polls k poll)) (λ past end. TakesTurns busy limit pausing sum v past end)
    unfolding ◌>>=◌ ◌>>◌
    next-look k sum v true e h ih = rw e ((e, h), (λ code. refl), (λ u. ih))
    next-look k sum v false e h ih = rw e e

    takes-turns : (k sum seen : ℕ) → Least sum poll limit k → Every (polls k poll) (TakesTurns busy limit looking sum seen)
    unfolding polls ◌>>=◌ ◌>>◌
    takes-turns zero sum seen h = (tt, (λ code. refl), (λ v. last-look sum v (busy v) refl (omega (arith, h.enough))))
    takes-turns (suc k) sum seen h =
        (tt, (λ code. refl), (λ v. next-look k sum v (busy v) refl (omega (arith, h.before 0 (omega arith))) (takes-turns k (sum + poll) v (least-next h))))

  -- ---- the law in both forms

  module _ (ready : busy 0 ≡ false) (waits : busy 1 ≡ true) (t : Timings) (h : 1 ≤ t.poll_us) where
    is-polls : waiting status busy t t.initial_us ≡ polls (poll_count t) t.poll_us
    is-polls = waiting-is-polls t t.initial_us h (least t h)

    turned : Every (waiting status busy t t.initial_us) (TakesTurns busy t.timeout_us looking t.initial_us 0)
    turned = rw is-polls (takes-turns t.timeout_us t.poll_us (poll_count t) t.initial_us 0 (least t h))

    delayed-law : WaitLaw status busy t (delayed_wait status busy t)
    unfolding delayed_wait
    delayed-law = record {
      turns = turned;
      bound = rw is-polls (bounded-more (omega arith) (bounded-then bounded-transfer (bounded-polls delays t.poll_us (poll_count t))));
      reached = λ given. rw is-polls (ends-eq (omega arith) (ends-then (ends-transfer 0 refl) (ends-polls delays t.poll_us given ready waits (poll_count t))));
      looked = rw is-polls (bounded-more (omega arith) (bounded-then bounded-transfer (bounded-polls look_weight t.poll_us (poll_count t))));
      looked_reached = λ given. rw is-polls (ends-eq (omega arith) (ends-then (ends-transfer 0 refl) (ends-polls look_weight t.poll_us given ready waits (poll_count t))));
    }

    prompt-law : t.initial_us ≡ 0 → WaitLaw status busy t (prompt_wait status busy t)
    unfolding prompt_wait
    prompt-law z =
        let is : waiting status busy t 0 ≡ polls (poll_count t) t.poll_us = ap (waiting status busy t) (sym z) ∙ is-polls in
        record {
          turns = turned;
          bound = rw is (bounded-more (omega arith) (bounded-polls delays t.poll_us (poll_count t)));
          reached = λ given. rw is (ends-eq (omega arith) (ends-polls delays t.poll_us given ready waits (poll_count t)));
          looked = rw is (bounded-more (omega arith) (bounded-polls look_weight t.poll_us (poll_count t)));
          looked_reached = λ given. rw is (ends-eq (omega arith) (ends-polls look_weight t.poll_us given ready waits (poll_count t)));
        }

pub wait-in-general : WaitInGeneral
wait-in-general = record { loop = loops; delayed = delayed-law; prompt = λ status busy ready waits t z h. prompt-law status busy ready waits t h z; rule = rule-is-loop }

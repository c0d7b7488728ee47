-- The count of bytes that the driver has delivered is the number of bytes read for the caller.
use Rattle.std.specs.Prelude.{Option, Some, None, Ok, Err}
use Prim.Native.Nat.{ℕ, ◌+◌, ◌≤◌}
use native.Mathlib.Omega.{arith}
use native.Mathlib.Nat.{add-zero}
use mathlib.Core.Bool.{Bool, true}
use mathlib.Core.Path.{◌≡◌, refl, ap, sym, ◌∙◌, subst}
use mathlib.Core.List.{List, [], ◌∷◌, ◌++◌}
use lib.ListN.{length, length-append}
use Rattle.qspi.specs.Bus.{fits_of}
use Rattle.qspi.specs.Shown.{shown_of}
use Rattle.qspi.specs.Frame.{Outcome, first_of, action_of, next_stage, sink_of, moved_on, delivered_into, delivered_by, advanced_at, advanced_of, given_scratch}
use Rattle.qspi.specs.declared.bus.Reply.{Reply}
use Rattle.qspi.specs.declared.frame.Advanced.{Advanced}
use Rattle.qspi.specs.declared.frame.Frame.{Frame}
use Rattle.qspi.specs.declared.frame.Stage.{Stage}
use Rattle.qspi.specs.declared.transfer.Sink.{Sink}
use Rattle.qspi.specs.declared.transfer.Transfer.{Transfer}
use Rattle.spi_flash.specs.Settling as Settling
use Rattle.spi_flash.specs.Loan.{Lent, ready_for}
use Rattle.spi_flash.specs.Path.{Bounded}
use Rattle.spi_flash.specs.Prog.{Prog, ask}
use Rattle.spi_flash.specs.Run.{Event, reply, call, System, goes_on, state_after}
use Rattle.spi_flash.proofs.Machine.{tree, Onward, Simulates}
use Rattle.spi_flash.specs.Seen.{unless_refused}
use Rattle.spi_flash.specs.declared.loan.Takes.{Takes}
use Rattle.spi_flash.proofs.Laws.{bounded-fail}
use Rattle.spi_flash.proofs.Unread.{sink_reads, buffer_reads, none_first, none-later}
use Rattle.flash_runs.specs.Driver.{Left}
use Rattle.flash_runs.specs.Reading.{data_at, mine_after, mine_then, bytes_read}
use Rattle.flash_runs.proofs.General as General
use Rattle.flash_runs.proofs.General.{Then, Parts, job_of, Running, idle, busy, Flash, flash_of, Place, place, decide, decide_next, Step, settled, general}
use Rattle.flash_runs.proofs.Filling.{Fills, FillsOn, Filling, FillsNext, first-filling, Fed, fed, over-quiet}
use Rattle.flash_runs.proofs.Buffer.{buffer-length, shown-filling, fills-next, keeps-next}
use Rattle.flash_runs.proofs.Steps.{step-view}
use Rattle.flash_runs.proofs.LeftBehind.{rest-state}

-- nothing is delivered by a transfer that reads nothing into the buffer
none-delivered : (f : Frame) (r : Reply) (m size n : ℕ) → buffer_reads f.transfer ≤ 0 → delivered_by f r m size n ≡ n
unfolding delivered_by
none-delivered f Reply.Done m size n h = refl
none-delivered f Reply.Data m size n h = at (sink_of f.transfer) h
  where
    at : (sink : Sink) → sink_reads sink ≤ 0 → delivered_into sink m size n ≡ n
    at Sink.Number h = refl
    at (Sink.Buffer place) h = absurd (omega arith)
    at (Sink.Compare from) h = refl
none-delivered f (Reply.Error code) m size n h = refl

-- a frame that goes on is the same transfer's
same-transfer : (f : Frame) (r : Reply) (bytes given : List ℕ) (g : Frame) → advanced_of f r bytes given ≡ Advanced.More g → g.transfer ≡ f.transfer
unfolding advanced_of
same-transfer f r bytes given g e = at r e
  where
    moved-on : (x : Option Stage) (o : Outcome) → moved_on f.transfer x o ≡ Advanced.More g → g.transfer ≡ f.transfer
    moved-on (Some stage) o e = cc
    moved-on None o e = let z : ◌≡◌ {A = ℕ} 0 1 = cc in absurd (omega arith)

    at : (r : Reply) → advanced_at f r bytes given ≡ Advanced.More g → g.transfer ≡ f.transfer
    at Reply.Done e = moved-on (next_stage f.transfer f.stage) _ e
    at Reply.Data e = moved-on (next_stage f.transfer f.stage) _ e
    at (Reply.Error code) e = moved-on (Some Stage.High) _ e

module _ {S P A C : Type 0} (parts : Parts S P A C) (in_bounds : S → Bool) (reads : List ℕ → Bool) where
  abbrev system : System (Flash S P) C (Left S A)
  system = general parts in_bounds

  -- after the end nothing is read
  rest-reads : (setup : S) (built : Bool) (delivered : ℕ) (mine : Bool) (es : List (Event C)) → bytes_read reads mine (goes_on system (flash_of setup built delivered idle) es) ≡ []
  unfolding goes_on bytes_read
  rest-reads s u n mine [] = refl
  rest-reads s u n mine (call c l ∷ es) = refl
  rest-reads s u n mine (reply r bytes l ∷ es) = rest-reads s u n mine es

  -- what is said of a step that was answered by data
  abbrev CountsBy : List (Event C) → Bool → ℕ → List ℕ → Step S P A → Type 0
  CountsBy es mine n bytes m =
      (state_after system m.flash es).delivered ≡ n + length (unless_refused m.given bytes [] ++ bytes_read reads (mine_then reads m.given mine) (goes_on system m.flash es))

  rest-counts : (setup : S) (there : Bool) (n : ℕ) (mine : Bool) (es : List (Event C)) →
      (state_after system (flash_of setup there n idle) es).delivered ≡ n + length (bytes_read reads mine (goes_on system (flash_of setup there n idle) es))
  rest-counts s u n mine es = rw (rest-state parts in_bounds s u n es, rest-reads s u n mine es) (sym (add-zero n))

  module _ (Valid : Place S P → Type 0) (meaning : Place S P → ℕ → Prog (Left S A)) (simulates : Simulates Valid (decide_next parts) meaning) (len : ℕ) (built : Bool) where
    abbrev k : Takes
    k = Takes.Buffer len

    abbrev running_at : S → ℕ → P → Frame → Flash S P
    running_at setup n phase f = flash_of setup built n (busy (job_of phase f k))

    -- n bytes stand in the buffer, and the program goes on behind them
    pub record At (setup : S) (phase : P) (mine : Bool) (n : ℕ) (f : Frame) : Type 0 where
      pub valid : Valid (place setup phase)
      pub filling : Filling reads len n mine (meaning (place setup phase)) f.stage f.transfer f.outcome

    abbrev Counts : List (Event C) → Type 0
    Counts es = (setup : S) (phase : P) (mine : Bool) (n : ℕ) (f : Frame) → At setup phase mine n f →
        (state_after system (running_at setup n phase f) es).delivered ≡ n + length (bytes_read reads mine (goes_on system (running_at setup n phase f) es))

    settled-counts : (es : List (Event C)) → Counts es → (setup : S) (mine : Bool) (n : ℕ) (running : Running P) (x : Then S P A) (l : Lent) →
        Onward Valid (decide x) → Fills reads len n (tree meaning (decide x)) → CountsBy es mine n [] (settled (flash_of setup built n running) k x l)
    unfolding Settling.settled first_of
    settled-counts es ih s mine n running (General.go setup t phase) l w h = ih setup phase _ n (first_of t) (record { valid = w; filling = first-filling reads len _ h })
    settled-counts es ih s mine n running (General.end setup answer) l w h = rest-counts setup true n mine es
    settled-counts es ih s mine n running (General.fail e) l w h = rest-counts s built n mine es

    module _ (es : List (Event C)) (ih : Counts es) (setup : S) (phase : P) (mine : Bool) (n : ℕ) (f : Frame) (at : At setup phase mine n f) (r : Reply) (bytes : List ℕ) (l : Lent)
        (ready : ready_for k l ≡ true) (fits : fits_of (action_of f) r (length bytes) ≡ true) where
      abbrev s : Place S P
      s = place setup phase

      abbrev mine_data : List ℕ
      mine_data = data_at mine r bytes

      feeds : Fed reads len n mine (meaning s) f.stage f.transfer f.outcome r bytes
      unfolding fits_of action_of
      feeds = fed reads len n mine (meaning s) f.outcome bytes f.stage f.transfer at.filling r fits

      counted : delivered_by f r (length bytes) (length l.buffer) n ≡ n + length mine_data
      unfolding delivered_by
      counted = rw (buffer-length len l ready) feeds.counts

      goes-counts : (g : Frame) → advanced_of f r bytes l.given ≡ Advanced.More g →
          let m = delivered_by f r (length bytes) (length l.buffer) n in
          (state_after system (running_at setup m phase g) es).delivered ≡
          n + length (mine_data ++ bytes_read reads (mine_after reads (shown_of (action_of g) (given_scratch g l.scratch) l.given) mine) (goes_on system (running_at setup m phase g) es))
      unfolding advanced_of
      goes-counts g e =
          let after = mine_after reads (shown_of (action_of g) (given_scratch g l.scratch) l.given) mine in
          let next : FillsNext reads len (n + length mine_data) mine l.given (meaning s) (Advanced.More g) =
          subst (FillsNext reads len (n + length mine_data) mine l.given (meaning s)) e (feeds.next l.given) in
          rw counted
          (ih setup phase after (n + length mine_data) g (record { valid = at.valid; filling = shown-filling reads len _ mine (meaning s) k l g ready next })
          ∙ omega (arith, length-append mine_data (bytes_read reads after (goes_on system (running_at setup (n + length mine_data) phase g) es))))

      over-counts : (o : Outcome) → advanced_of f r bytes l.given ≡ Advanced.Over o → (left : Lent) →
          CountsBy es mine n mine_data (settled (running_at setup n phase f) k (parts.next setup phase o) left)
      unfolding advanced_of fits_of action_of
      over-counts o e left =
          let none : mine_data ≡ [] = over-quiet reads len n mine (meaning s) f.outcome bytes f.stage f.transfer o r l.given at.filling fits e in
          let next : FillsOn reads len (n + length mine_data) (meaning s) o =
          subst (FillsNext reads len (n + length mine_data) mine l.given (meaning s)) e (feeds.next l.given) in
          let same : n + length mine_data ≡ n = ap (λ x. n + length x) none ∙ add-zero n in
          rw none
          (settled-counts es ih setup mine n (busy (job_of phase f k)) (parts.next setup phase o) left
          (keeps-next C Valid (decide_next parts) meaning simulates reads len s o at.valid)
          (fills-next C Valid (decide_next parts) meaning simulates reads len s n o at.valid (subst (λ m. FillsOn reads len m (meaning s) o) same next)))

    pub counts : (es : List (Event C)) → Counts es
    unfolding state_after goes_on bytes_read
    counts [] s phase mine n f at = sym (add-zero n)
    counts (call c l ∷ es) s phase mine n f at = counts es s phase mine n f at
    counts (reply r bytes l ∷ es) s phase mine n f at =
        step-view parts (running_at s n phase f) (job_of phase f k) r bytes l
        (CountsBy es mine n (data_at mine r bytes))
        (counts es s phase mine n f at)
        (λ g ready fits e. goes-counts es (counts es) s phase mine n f at r bytes l ready fits g e)
        (λ o ready fits e. over-counts es (counts es) s phase mine n f at r bytes l ready fits o e l)

  -- ---- a call that reads nothing into the buffer

  module _ (Valid : Place S P → Type 0) (meaning : Place S P → ℕ → Prog (Left S A)) (simulates : Simulates Valid (decide_next parts) meaning) (takes : Takes) (built : Bool) where
    abbrev StillBy : List (Event C) → ℕ → Step S P A → Type 0
    StillBy es n m = (state_after system m.flash es).delivered ≡ n

    abbrev Still : List (Event C) → Type 0
    Still es = (setup : S) (phase : P) (n : ℕ) (f : Frame) → Valid (place setup phase) → Bounded buffer_reads 0 (ask f.transfer (meaning (place setup phase))) →
        (state_after system (flash_of setup built n (busy (job_of phase f takes))) es).delivered ≡ n

    settled-still : (es : List (Event C)) → Still es → (setup : S) (n : ℕ) (running : Running P) (x : Then S P A) (l : Lent) → Onward Valid (decide x) →
        Bounded buffer_reads 0 (tree meaning (decide x)) → StillBy es n (settled (flash_of setup built n running) takes x l)
    unfolding Settling.settled first_of
    settled-still es ih s n running (General.go setup t phase) l w h = ih setup phase n (first_of t) w h
    settled-still es ih s n running (General.end setup answer) l w h = ap (λ f. f.delivered) (rest-state parts in_bounds setup true n es)
    settled-still es ih s n running (General.fail e) l w h = ap (λ f. f.delivered) (rest-state parts in_bounds s built n es)

    over-still : (es : List (Event C)) → Still es → (s : Place S P) (n : ℕ) (running : Running P) (t : Transfer) (o : Outcome) (l : Lent) → Valid s → Bounded buffer_reads 0 (ask t (meaning s)) →
        StillBy es n (settled (flash_of s.setup built n running) takes (parts.next s.setup s.phase o) l)
    over-still es ih s n running t o l w h =
        settled-still es ih s.setup n running (parts.next s.setup s.phase o) l (onward o) (asks-none o)
      where
        onward : (o : Outcome) → Onward Valid (decide_next parts s o)
        onward (Ok v) = simulates.keeps s v w
        onward (Err error) = rw (simulates.on_failure s error) tt

        asks-none : (o : Outcome) → Bounded buffer_reads 0 (tree meaning (decide_next parts s o))
        asks-none (Ok v) = subst (Bounded buffer_reads 0) (simulates.on_value s v w) (none-later t (meaning s) h v)
        asks-none (Err error) = rw (simulates.on_failure s error) bounded-fail

    pub still-counts : (es : List (Event C)) → Still es
    unfolding state_after advanced_of
    still-counts [] s phase n f w h = refl
    still-counts (call c l ∷ es) s phase n f w h = still-counts es s phase n f w h
    still-counts (reply r bytes l ∷ es) s phase n f w h =
        let none = none-delivered f r (length bytes) (length l.buffer) n (none_first f.transfer (meaning (place s phase)) h) in
        step-view parts (flash_of s built n (busy (job_of phase f takes))) (job_of phase f takes) r bytes l
        (StillBy es n)
        (still-counts es s phase n f w h)
        (λ g ready fits e. rw none (still-counts es s phase n g w (rw (same-transfer f r bytes l.given g e) h)))
        (λ o ready fits e. over-still es (still-counts es) (place s phase) n (busy (job_of phase f takes)) f.transfer o l w h)

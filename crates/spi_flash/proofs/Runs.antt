-- A run follows its program, for every list of events.
use Rattle.std.specs.Prelude.{Option, Some, None, Ok, Err}
use Prim.Native.Nat.{ℕ, suc, ◌+◌, ◌≤◌, ◌<◌}
use native.Mathlib.Omega.{arith}
use mathlib.Core.Bool.{Bool, true, false}
use mathlib.Core.Logic.{◌⊎◌, inl, inr, ⊎_elim}
use mathlib.Core.Path.{◌≡◌, refl, ap, ◌∙◌, subst}
use mathlib.Core.List.{List, [], ◌∷◌}
use lib.ListN.{length}
use lib.Dec.{lit<}
use Rattle.qspi.specs.Choice.{pick}
use Rattle.qspi.specs.Bus.{awaits_of, fits_at, fits_of}
use Rattle.qspi.specs.Shown.{shown_of, delay_of}
use Rattle.qspi.specs.Frame.{Outcome, first_of, action_of, action_at, command_action, payload_action, exchanged_to, exchange_of, advanced_of, advanced_at, frame_at, moved_on, next_stage, gave, taken_in}
use Rattle.qspi.specs.declared.bus.Reply.{Reply}
use Rattle.qspi.specs.declared.transfer.Body.{Body}
use Rattle.qspi.specs.declared.transfer.Transfer.{Transfer}
use Rattle.qspi.specs.declared.frame.Frame.{Frame}
use Rattle.qspi.specs.declared.frame.Stage.{Stage}
use Rattle.qspi.specs.declared.frame.Advanced.{Advanced}
use Rattle.qspi.specs.declared.frame.Exchanged.{Exchanged}
use Rattle.spi_flash.specs.declared.loan.Takes.{Takes}
use Rattle.spi_flash.specs.Loan.{Lent, ready_for, lent_as}
use Rattle.spi_flash.specs.Prog.{Prog, ask}
use Rattle.spi_flash.specs.Path.{Past, back, End, Every, asked, delays, Bounded}
use Rattle.spi_flash.proofs.Paths.{actions}
use Rattle.spi_flash.specs.Run.{Event, reply, call, Entry, Moved, goes_on, delay_given, delay_asked, fitting_then, Fitting, ended_then, HasEnded}
use Rattle.spi_flash.proofs.Machine.{Decision, more, well, bad, Config, out, rest, heard, settle, moved, machine, tree, Onward, Simulates, Trail, push, decided_trail, heard_trail, trail}

-- ---- one reply to a frame

false≢true : false ≡ true → ⊥
false≢true h = let z : ◌≡◌ {A = ℕ} 0 1 = cc in omega arith

-- the replies that a frame still takes, at most
abbrev pub remaining_at : Stage → Transfer → ℕ
remaining_at Stage.Start t = actions t
remaining_at Stage.Command Transfer.Raise = 2
remaining_at Stage.Command (Transfer.Pause us) = 2
remaining_at Stage.Command (Transfer.Framed c Body.None) = 2
remaining_at Stage.Command (Transfer.Framed c (Body.Read n k)) = 3
remaining_at Stage.Command (Transfer.Framed c (Body.Write p)) = 3
remaining_at Stage.Command (Transfer.Framed c (Body.QuadRead q m n k)) = 2
remaining_at Stage.Command (Transfer.Framed c (Body.QuadWrite p)) = 2
remaining_at Stage.Payload t = 2
remaining_at Stage.High t = 1

abbrev pub remaining : Frame → ℕ
remaining f = remaining_at f.stage f.transfer

-- the frames whose action is the last of their transfer
abbrev pub Last : Stage → Transfer → Type 0
Last Stage.Start Transfer.Raise = Unit {0}
Last Stage.Start (Transfer.Pause us) = Unit {0}
Last Stage.Start (Transfer.Framed c body) = ⊥
Last Stage.Command t = ⊥
Last Stage.Payload t = ⊥
Last Stage.High t = Unit {0}

abbrev pub Begun : Stage → Type 0
Begun Stage.Start = ⊥
Begun Stage.Command = Unit {0}
Begun Stage.Payload = Unit {0}
Begun Stage.High = Unit {0}

-- a frame that goes on keeps its transfer, takes fewer replies, and its action is no delay
pub record Goes (f g : Frame) : Type 0 where
  pub same : g.transfer ≡ f.transfer
  pub begun : Begun g.stage
  pub shorter : remaining g < remaining f
  pub quiet : (scratch lent : List ℕ) → delay_of (shown_of (action_of g) scratch lent) ≡ 0

command-quiet : (t : Transfer) (scratch lent : List ℕ) → delay_of (shown_of (command_action t) scratch lent) ≡ 0
command-quiet Transfer.Raise s l = refl
command-quiet (Transfer.Pause us) s l = refl
command-quiet (Transfer.Framed c Body.None) s l = refl
command-quiet (Transfer.Framed c (Body.Read n k)) s l = refl
command-quiet (Transfer.Framed c (Body.Write p)) s l = refl
command-quiet (Transfer.Framed c (Body.QuadRead q m n k)) s l = refl
command-quiet (Transfer.Framed c (Body.QuadWrite p)) s l = refl

payload-quiet : (t : Transfer) (scratch lent : List ℕ) → delay_of (shown_of (payload_action t) scratch lent) ≡ 0
payload-quiet Transfer.Raise s l = refl
payload-quiet (Transfer.Pause us) s l = refl
payload-quiet (Transfer.Framed c Body.None) s l = refl
payload-quiet (Transfer.Framed c (Body.Read n k)) s l = refl
payload-quiet (Transfer.Framed c (Body.Write p)) s l = refl
payload-quiet (Transfer.Framed c (Body.QuadRead q m n k)) s l = refl
payload-quiet (Transfer.Framed c (Body.QuadWrite p)) s l = refl

-- a stage leads on to a later one
abbrev Later : Stage → Transfer → Option Stage → Type 0
Later stage t (Some Stage.Start) = ⊥
Later stage t (Some Stage.Command) = remaining_at Stage.Command t < remaining_at stage t
Later stage t (Some Stage.Payload) = remaining_at Stage.Payload t < remaining_at stage t
Later stage t (Some Stage.High) = remaining_at Stage.High t < remaining_at stage t
Later stage t None = Last stage t

onward : (t : Transfer) (stage : Stage) → Later stage t (next_stage t stage)
onward Transfer.Raise Stage.Start = tt
onward (Transfer.Pause us) Stage.Start = tt
onward (Transfer.Framed c Body.None) Stage.Start = lit< tt
onward (Transfer.Framed c (Body.Read n k)) Stage.Start = lit< tt
onward (Transfer.Framed c (Body.Write p)) Stage.Start = lit< tt
onward (Transfer.Framed c (Body.QuadRead q m n k)) Stage.Start = lit< tt
onward (Transfer.Framed c (Body.QuadWrite p)) Stage.Start = lit< tt
onward Transfer.Raise Stage.Command = lit< tt
onward (Transfer.Pause us) Stage.Command = lit< tt
onward (Transfer.Framed c Body.None) Stage.Command = lit< tt
onward (Transfer.Framed c (Body.Read n k)) Stage.Command = lit< tt
onward (Transfer.Framed c (Body.Write p)) Stage.Command = lit< tt
onward (Transfer.Framed c (Body.QuadRead q m n k)) Stage.Command = lit< tt
onward (Transfer.Framed c (Body.QuadWrite p)) Stage.Command = lit< tt
onward t Stage.Payload = lit< tt
onward t Stage.High = tt

-- an error answers neither select nor a delay, so select high is still to come
error-onward : (t : Transfer) (stage : Stage) (code n : ℕ) → fits_at (awaits_of (action_at stage t)) (Reply.Error code) n ≡ true → 1 < remaining_at stage t
error-onward Transfer.Raise Stage.Start code n h = absurd (false≢true h)
error-onward (Transfer.Pause us) Stage.Start code n h = absurd (false≢true h)
error-onward (Transfer.Framed c Body.None) Stage.Start code n h = lit< tt
error-onward (Transfer.Framed c (Body.Read m k)) Stage.Start code n h = lit< tt
error-onward (Transfer.Framed c (Body.Write p)) Stage.Start code n h = lit< tt
error-onward (Transfer.Framed c (Body.QuadRead q m i k)) Stage.Start code n h = lit< tt
error-onward (Transfer.Framed c (Body.QuadWrite p)) Stage.Start code n h = lit< tt
error-onward Transfer.Raise Stage.Command code n h = lit< tt
error-onward (Transfer.Pause us) Stage.Command code n h = lit< tt
error-onward (Transfer.Framed c Body.None) Stage.Command code n h = lit< tt
error-onward (Transfer.Framed c (Body.Read m k)) Stage.Command code n h = lit< tt
error-onward (Transfer.Framed c (Body.Write p)) Stage.Command code n h = lit< tt
error-onward (Transfer.Framed c (Body.QuadRead q m i k)) Stage.Command code n h = lit< tt
error-onward (Transfer.Framed c (Body.QuadWrite p)) Stage.Command code n h = lit< tt
error-onward t Stage.Payload code n h = lit< tt
error-onward t Stage.High code n h = absurd (false≢true h)

module _ (f : Frame) (P : Advanced → Type 0) (mored : (g : Frame) → Goes f g → P (Advanced.More g)) (overed : (o : Outcome) → Last f.stage f.transfer → P (Advanced.Over o)) where
  goes_on-lem : (x : Option Stage) (o : Outcome) → Later f.stage f.transfer x → P (moved_on f.transfer x o)
  unfolding action_of
  goes_on-lem (Some Stage.Start) o h = absurd h
  goes_on-lem (Some Stage.Command) o h = mored (frame_at f.transfer Stage.Command o) (record { same = refl; begun = tt; shorter = h; quiet = command-quiet f.transfer })
  goes_on-lem (Some Stage.Payload) o h = mored (frame_at f.transfer Stage.Payload o) (record { same = refl; begun = tt; shorter = h; quiet = payload-quiet f.transfer })
  goes_on-lem (Some Stage.High) o h = mored (frame_at f.transfer Stage.High o) (record { same = refl; begun = tt; shorter = h; quiet = λ s l. refl })
  goes_on-lem None o h = overed o h

  advanced-view : (r : Reply) (bytes lent : List ℕ) → fits_of (action_of f) r (length bytes) ≡ true → P (advanced_at f r bytes lent)
  unfolding fits_of action_of
  advanced-view Reply.Done bytes lent h = goes_on-lem (next_stage f.transfer f.stage) _ (onward f.transfer f.stage)
  advanced-view Reply.Data bytes lent h = goes_on-lem (next_stage f.transfer f.stage) _ (onward f.transfer f.stage)
  advanced-view (Reply.Error code) bytes lent h = goes_on-lem (Some Stage.High) _ (error-onward f.transfer f.stage code (length bytes) h)

-- a reply is refused, or the frame goes on, or it is over
module _ (k : Takes) (f : Frame) (r : Reply) (bytes : List ℕ) (l : Lent) (P : Exchanged → Type 0)
    (misfit : P Exchanged.Misfit) (goes : (g : Frame) → Goes f g → P (Exchanged.Gave g (action_of g))) (over : (o : Outcome) → Last f.stage f.transfer → P (Exchanged.Over o)) where
  fitted : (fits : Bool) → fits_of (action_of f) r (length bytes) ≡ fits →
      P (pick fits (gave (advanced_of f r bytes l.given) l.scratch (taken_in f r bytes l.buffer)) (exchanged_to Exchanged.Misfit l.scratch l.buffer)).exchanged
  unfolding advanced_of
  fitted true h = advanced-view f (λ x. P (gave x l.scratch (taken_in f r bytes l.buffer)).exchanged) goes over r bytes l.given h
  fitted false h = misfit

  readied : (ready : Bool) → P (pick ready (exchange_of f r bytes l.scratch l.buffer l.given).exchanged Exchanged.Misfit)
  unfolding exchange_of
  readied true = fitted (fits_of (action_of f) r (length bytes)) refl
  readied false = misfit

  pub heard-view : P (heard k f r bytes l)
  heard-view = readied (ready_for k l)

-- ---- a run and its path

abbrev At : {A : Type 0} → (List Past → End A → Type 0) → Trail A → Type 0
At Q x = Q x.past x.stop

module _ {S A C : Type 0} (Valid : S → Type 0) (next : S → Outcome → Decision S A) (k : Takes) (meaning : S → ℕ → Prog A) (sim : Simulates Valid next meaning) where
  module _ (es : List (Event C)) (ih : (s : S) (f : Frame) (R : List Past → End A → Type 0) → Valid s → Every (ask f.transfer (meaning s)) R → At R (trail next k s f es)) where
    decided : (d : Decision S A) (Q : List Past → End A → Type 0) → Onward Valid d → Every (tree meaning d) Q → At Q (decided_trail d (λ t s. trail next k s (first_of t) es))
    unfolding first_of
    decided (more t s) Q w h = ih s (first_of t) Q w h
    decided (well a) Q w h = h
    decided (bad e) Q w h = h

    overed : (s : S) (t : Transfer) (o : Outcome) (Q : List Past → End A → Type 0) → Valid s → Every (ask t (meaning s)) Q →
        At Q (push (back t o) (decided_trail (next s o) (λ t s. trail next k s (first_of t) es)))
    overed s t (Ok v) Q w h =
        let Q' : List Past → End A → Type 0 = λ past end. Q (back t (Ok v) ∷ past) end in
        decided (next s (Ok v)) Q' (sim.keeps s v w) (subst (λ p. Every p Q') (sim.on_value s v w) (h.2 v))
    overed s t (Err error) Q w h = rw (sim.on_failure s error) (h.1 error)

  -- what holds on every path holds of the path of every run
  pub every-trail : (s : S) (f : Frame) (Q : List Past → End A → Type 0) → Valid s → Every (ask f.transfer (meaning s)) Q → (es : List (Event C)) →
      Q (trail next k s f es).past (trail next k s f es).stop
  unfolding trail
  every-trail s f Q w h [] = h.0
  every-trail s f Q w h (call c l ∷ es) = every-trail s f Q w h es
  every-trail s f Q w h (reply r bytes l ∷ es) =
      heard-view k f r bytes l (λ x. At Q (heard_trail next s f x (λ g. trail next k s g es) (λ t s'. trail next k s' (first_of t) es)))
      (every-trail s f Q w h es)
      (λ g e. every-trail s g Q w (rw e.same h) es)
      (λ o c. overed es (λ s' g R v i. every-trail s' g R v i es) s f.transfer o Q w h)

-- ---- the delays given out

pub first-delay : (t : Transfer) (scratch lent : List ℕ) → delay_of (shown_of (action_of (first_of t)) scratch lent) ≡ delays t
unfolding action_of first_of
first-delay Transfer.Raise s l = refl
first-delay (Transfer.Pause us) s l = refl
first-delay (Transfer.Framed c body) s l = refl

module _ {S A C : Type 0} (next : S → Outcome → Decision S A) (k : Takes) where
  -- after the end nothing is given out
  rest-asks : (es : List (Event C)) → delay_asked (goes_on (machine next C) rest es) ≡ 0
  unfolding goes_on delay_asked
  rest-asks [] = refl
  rest-asks (call c l ∷ es) = refl
  rest-asks (reply r bytes l ∷ es) = omega (arith, rest-asks es)

  abbrev asks_of : Moved (Config S) A → List (Event C) → ℕ
  asks_of m es = delay_given m.given + delay_asked (goes_on (machine next C) m.flash es)

  module _ (es : List (Event C)) (ih : (s : S) (f : Frame) → delays f.transfer + delay_asked (goes_on (machine next C) (out k s f) es) ≡ asked delays (trail next k s f es).past (trail next k s f es).stop) where
    settled-asks : (d : Decision S A) (l : Lent) →
        asks_of (settle k d l) es ≡ asked delays (decided_trail d (λ t s. trail next k s (first_of t) es)).past (decided_trail d (λ t s. trail next k s (first_of t) es)).stop
    unfolding first_of
    settled-asks (more t s) l = ap (λ n. n + delay_asked (goes_on (machine next C) (out k s (first_of t)) es)) (first-delay t _ _) ∙ ih s (first_of t)
    settled-asks (well a) l = omega (arith, rest-asks es)
    settled-asks (bad e) l = omega (arith, rest-asks es)

  -- the delays given out are those of the path
  pub trail-asks : (s : S) (f : Frame) (es : List (Event C)) →
      delays f.transfer + delay_asked (goes_on (machine next C) (out k s f) es) ≡ asked delays (trail next k s f es).past (trail next k s f es).stop
  unfolding goes_on delay_asked trail
  trail-asks s f [] = omega arith
  trail-asks s f (call c l ∷ es) = omega (arith, trail-asks s f es)
  trail-asks s f (reply r bytes l ∷ es) =
      let x = exchange_of f r bytes l.scratch l.buffer l.given in
      let onward : Exchanged → Trail A = λ h. heard_trail next s f h (λ g. trail next k s g es) (λ t s'. trail next k s' (first_of t) es) in
      heard-view k f r bytes l
      (λ h. delays f.transfer + asks_of (moved next k s f h l x.scratch x.buffer) es ≡ asked delays (onward h).past (onward h).stop)
      (omega (arith, trail-asks s f es))
      (λ g e. omega (arith, e.quiet x.scratch l.given, ap delays e.same, trail-asks s g es))
      (λ o c. omega (arith, settled-asks es (λ s' g. trail-asks s' g es) (next s o) (lent_as x.scratch x.buffer l)))

-- ---- the bound of a whole run: no list of events brings the delay asked past the program's

module _ {S A C : Type 0} (Valid : S → Type 0) (next : S → Outcome → Decision S A) (k : Takes) (meaning : S → ℕ → Prog A) (sim : Simulates Valid next meaning) where
  pub run-bound : (t : Transfer) (s : S) {b : ℕ} → Valid s → Bounded delays b (ask t (meaning s)) → (es : List (Event C)) →
      delays t + delay_asked (goes_on (machine next C) (out k s (first_of t)) es) ≤ b
  unfolding first_of
  run-bound t s {b} w h es =
      let f = first_of t in
      omega (arith, trail-asks next k s f es, every-trail Valid next k meaning sim s f (λ past end. asked delays past end ≤ b) w h.bound es)

-- ---- every call ends

pub remaining-some : (stage : Stage) (t : Transfer) → 0 < remaining_at stage t
remaining-some Stage.Start Transfer.Raise = lit< tt
remaining-some Stage.Start (Transfer.Pause us) = lit< tt
remaining-some Stage.Start (Transfer.Framed c Body.None) = lit< tt
remaining-some Stage.Start (Transfer.Framed c (Body.Read m k)) = lit< tt
remaining-some Stage.Start (Transfer.Framed c (Body.Write p)) = lit< tt
remaining-some Stage.Start (Transfer.Framed c (Body.QuadRead q m i k)) = lit< tt
remaining-some Stage.Start (Transfer.Framed c (Body.QuadWrite p)) = lit< tt
remaining-some Stage.Command Transfer.Raise = lit< tt
remaining-some Stage.Command (Transfer.Pause us) = lit< tt
remaining-some Stage.Command (Transfer.Framed c Body.None) = lit< tt
remaining-some Stage.Command (Transfer.Framed c (Body.Read n k)) = lit< tt
remaining-some Stage.Command (Transfer.Framed c (Body.Write p)) = lit< tt
remaining-some Stage.Command (Transfer.Framed c (Body.QuadRead q m n k)) = lit< tt
remaining-some Stage.Command (Transfer.Framed c (Body.QuadWrite p)) = lit< tt
remaining-some Stage.Payload t = lit< tt
remaining-some Stage.High t = lit< tt

module _ {S A C : Type 0} (next : S → Outcome → Decision S A) (k : Takes) where
  -- the call has ended, or each event so far is one of the path's actions
  abbrev Counted : ℕ → ℕ → List (Entry C A) → Trail A → Type 0
  Counted n m entries x = HasEnded entries ⊎ (n < m + asked actions x.past x.stop)

  abbrev CountedFrom : S → Frame → List (Event C) → Type 0
  CountedFrom s f es = Counted (length es + actions f.transfer) (remaining f) (goes_on (machine next C) (out k s f) es) (trail next k s f es)

  module _ (es : List (Event C)) (ih : (s : S) (f : Frame) → Fitting (goes_on (machine next C) (out k s f) es) → CountedFrom s f es) where
    abbrev after : Moved (Config S) A → List (Entry C A)
    after m = goes_on (machine next C) m.flash es

    -- the end of a transfer leads to the call's end, or the next transfer counts on
    settled-counts : (d : Decision S A) (l : Lent) → fitting_then (settle k d l).given (Fitting (after (settle k d l))) →
        ended_then (settle k d l).given (HasEnded (after (settle k d l))) ⊎
        (length es < asked actions (decided_trail d (λ t s. trail next k s (first_of t) es)).past (decided_trail d (λ t s. trail next k s (first_of t) es)).stop)
    unfolding first_of
    settled-counts (more t s) l h = ⊎_elim inl (λ n. inr (omega arith)) (ih s (first_of t) h)
    settled-counts (well a) l h = inl tt
    settled-counts (bad e) l h = inl tt

  counted : (s : S) (f : Frame) (es : List (Event C)) → Fitting (goes_on (machine next C) (out k s f) es) → CountedFrom s f es
  unfolding goes_on trail Fitting HasEnded
  counted s f [] h = inr (omega (arith, remaining-some f.stage f.transfer))
  counted s f (call c l ∷ es) h = absurd h
  counted s f (reply r bytes l ∷ es) h =
      let x = exchange_of f r bytes l.scratch l.buffer l.given in
      let to : Exchanged → Moved (Config S) A = λ y. moved next k s f y l x.scratch x.buffer in
      let onward : Exchanged → Trail A = λ y. heard_trail next s f y (λ g. trail next k s g es) (λ t s'. trail next k s' (first_of t) es) in
      heard-view k f r bytes l
      (λ y. fitting_then (to y).given (Fitting (goes_on (machine next C) (to y).flash es)) →
      ended_then (to y).given (HasEnded (goes_on (machine next C) (to y).flash es)) ⊎
      (suc (length es) + actions f.transfer < remaining f + asked actions (onward y).past (onward y).stop))
      (λ i. absurd i)
      (λ g e i. ⊎_elim inl (λ n. inr (omega (arith, ap actions e.same, e.shorter))) (counted s g es i))
      (λ o c i. ⊎_elim inl (λ n. inr (omega (arith, remaining-some f.stage f.transfer))) (settled-counts es (λ s' g j. counted s' g es j) (next s o) (lent_as x.scratch x.buffer l) i))
      h

  -- on every list of fitting replies as long as the program's bound on its actions, the call has ended
  pub run_ends : (Valid : S → Type 0) (meaning : S → ℕ → Prog A) → Simulates Valid next meaning → (t : Transfer) (s : S) {b : ℕ} → Valid s → Bounded actions b (ask t (meaning s)) → (es : List (Event C)) →
      Fitting (goes_on (machine next C) (out k s (first_of t)) es) → b ≤ length es → HasEnded (goes_on (machine next C) (out k s (first_of t)) es)
  unfolding first_of
  run_ends Valid meaning sim t s {b} w h es fit long =
      let f = first_of t in
      ⊎_elim (λ e. e) (λ n. absurd (omega (arith, every-trail Valid next k meaning sim s f (λ past end. asked actions past end ≤ b) w h.bound es))) (counted s f es fit)

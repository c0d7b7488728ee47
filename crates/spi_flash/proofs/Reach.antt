-- What some path of a program comes to, some list of fitting replies brings the run to, whatever scratch and buffer are lent.
use Rattle.std.specs.Prelude.{Ok}
use Prim.Native.Nat.{ℕ, suc}
use native.Mathlib.Omega.{arith}
use mathlib.Core.Bool.{true}
use mathlib.Core.Path.{◌≡◌, refl, sym, subst}
use mathlib.Core.List.{List, [], ◌∷◌, ◌++◌}
use lib.ListN.{length}
use borrow.Author.Tests.{eq-eqb}
use Rattle.qspi.specs.Bus.{fits_of}
use Rattle.qspi.specs.Frame.{Outcome, first_of, action_of, exchange_of, advanced_of, frame_at, value_of}
use Rattle.qspi.specs.declared.bus.Reply.{Reply}
use Rattle.qspi.specs.declared.transfer.Body.{Body}
use Rattle.qspi.specs.declared.transfer.Transfer.{Transfer}
use Rattle.qspi.specs.declared.transfer.Sink.{Sink}
use Rattle.qspi.specs.declared.frame.Frame.{Frame}
use Rattle.qspi.specs.declared.frame.Stage.{Stage}
use Rattle.qspi.specs.declared.frame.Advanced.{Advanced}
use Rattle.spi_flash.specs.declared.loan.Takes.{Takes}
use Rattle.spi_flash.specs.Loan.{Lent}
use Rattle.spi_flash.specs.Prog.{Prog, ret, fail, ask}
use Rattle.spi_flash.specs.Path.{Past, back, End, done, failed, Some, Fits, Answers}
use Rattle.spi_flash.specs.Run.{Entry, goes_on, fitting_then, Fitting, ended_then, HasEnded, Answer, RealReplies, answering, Lending}
use Rattle.spi_flash.proofs.Machine.{Decision, more, well, bad, out, settle, machine, tree, Onward, Simulates, Trail, decided_trail, trail}

-- ---- the values of a path, to the call's end

abbrev Along : {A : Type 0} → List ℕ → Prog A → List ℕ → (List Past → End A → Type 0) → Type 0
Along given (ret a) [] Q = Q [] (done a)
Along given (ret a) (v ∷ vs) Q = ⊥
Along given (fail e) [] Q = Q [] (failed e)
Along given (fail e) (v ∷ vs) Q = ⊥
Along given (ask t k) [] Q = ⊥
Along given (ask t k) (v ∷ vs) Q = Fits given t v × Along given (k v) vs (λ past end. Q (back t (Ok v) ∷ past) end)

some_along : {A : Type 0} (given : List ℕ) (p : Prog A) (Q : List Past → End A → Type 0) → Some given p Q → (vs : List ℕ) × Along given p vs Q
some_along given (ret a) Q h = ([], h)
some_along given (fail e) Q h = ([], h)
some_along given (ask t k) Q h =
    let r = some_along given (k h.0) (λ past end. Q (back t (Ok h.0) ∷ past) end) h.2 in
    (h.0 ∷ r.0, (h.1, r.1))

module _ (C : Type 0) {S A : Type 0} (next : S → Outcome → Decision S A) (takes : Takes) (given : List ℕ) where
  abbrev pub entries : S → Frame → List Answer → List Lent → List (Entry C A)
  entries s f rs ls = goes_on (machine next C) (out takes s f) (answering rs ls)

  abbrev pub path : S → Frame → List Answer → List Lent → Trail A
  path s f rs ls = trail next takes s f (answering {C = C} rs ls)

  -- replies that bring the run from a frame to its end, and there to Q, whatever else is lent
  pub record Brings (s : S) (f : Frame) (Q : List Past → End A → Type 0) (rs : List Answer) : Type 0 where
    pub fits : (ls : List Lent) → length ls ≡ length rs → Lending takes given ls → Fitting (entries s f rs ls)
    pub ends : (ls : List Lent) → length ls ≡ length rs → Lending takes given ls → HasEnded (entries s f rs ls)
    pub leads : (ls : List Lent) → length ls ≡ length rs → Lending takes given ls → Q (path s f rs ls).past (path s f rs ls).stop

  -- the same from a decision on
  abbrev decided_entries : Decision S A → Lent → List Answer → List Lent → List (Entry C A)
  decided_entries d l rs ls = goes_on (machine next C) (settle takes d l).flash (answering rs ls)

  abbrev decided_path : Decision S A → List Answer → List Lent → Trail A
  decided_path d rs ls = decided_trail d (λ t s. path s (first_of t) rs ls)

  record Decides (d : Decision S A) (Q : List Past → End A → Type 0) (rs : List Answer) : Type 0 where
    fits : (l : Lent) (ls : List Lent) → length ls ≡ length rs → Lending takes given ls → fitting_then (settle takes d l).given (Fitting (decided_entries d l rs ls))
    ends : (l : Lent) (ls : List Lent) → length ls ≡ length rs → Lending takes given ls → ended_then (settle takes d l).given (HasEnded (decided_entries d l rs ls))
    leads : (ls : List Lent) → length ls ≡ length rs → Lending takes given ls → Q (decided_path d rs ls).past (decided_path d rs ls).stop

  -- a reply that fits and leads on inside the frame
  module _ (s : S) (f g : Frame) (Q : List Past → End A → Type 0) (a : Answer) (rs : List Answer)
      (fit : fits_of (action_of f) a.kind (length a.bytes) ≡ true) (advances : advanced_of f a.kind a.bytes given ≡ Advanced.More g) where
    goes : Brings s g Q rs → Brings s f Q (a ∷ rs)
    unfolding goes_on trail Fitting HasEnded exchange_of
    goes h = record { fits = at-fits; ends = at-ends; leads = at-leads }
      where
        at-fits : (ls : List Lent) → length ls ≡ suc (length rs) → Lending takes given ls → Fitting (entries s f (a ∷ rs) ls)
        at-fits [] n w = absurd (omega arith)
        at-fits (l ∷ ls) n w = rw (w.0, w.1, fit, advances) (h.fits ls (omega arith) w.2)

        at-ends : (ls : List Lent) → length ls ≡ suc (length rs) → Lending takes given ls → HasEnded (entries s f (a ∷ rs) ls)
        at-ends [] n w = absurd (omega arith)
        at-ends (l ∷ ls) n w = rw (w.0, w.1, fit, advances) (h.ends ls (omega arith) w.2)

        at-leads : (ls : List Lent) → length ls ≡ suc (length rs) → Lending takes given ls → Q (path s f (a ∷ rs) ls).past (path s f (a ∷ rs) ls).stop
        at-leads [] n w = absurd (omega arith)
        at-leads (l ∷ ls) n w = rw (w.0, w.1, fit, advances) (h.leads ls (omega arith) w.2)

  -- a reply that fits and ends the transfer
  module _ (s : S) (f : Frame) (Q : List Past → End A → Type 0) (a : Answer) (rs : List Answer) (o : Outcome)
      (fit : fits_of (action_of f) a.kind (length a.bytes) ≡ true) (advances : advanced_of f a.kind a.bytes given ≡ Advanced.Over o) where
    overs : Decides (next s o) (λ past end. Q (back f.transfer o ∷ past) end) rs → Brings s f Q (a ∷ rs)
    unfolding goes_on trail Fitting HasEnded exchange_of
    overs h = record { fits = at-fits; ends = at-ends; leads = at-leads }
      where
        at-fits : (ls : List Lent) → length ls ≡ suc (length rs) → Lending takes given ls → Fitting (entries s f (a ∷ rs) ls)
        at-fits [] n w = absurd (omega arith)
        at-fits (l ∷ ls) n w = rw (w.0, w.1, fit, advances) (h.fits _ ls (omega arith) w.2)

        at-ends : (ls : List Lent) → length ls ≡ suc (length rs) → Lending takes given ls → HasEnded (entries s f (a ∷ rs) ls)
        at-ends [] n w = absurd (omega arith)
        at-ends (l ∷ ls) n w = rw (w.0, w.1, fit, advances) (h.ends _ ls (omega arith) w.2)

        at-leads : (ls : List Lent) → length ls ≡ suc (length rs) → Lending takes given ls → Q (path s f (a ∷ rs) ls).past (path s f (a ∷ rs) ls).stop
        at-leads [] n w = absurd (omega arith)
        at-leads (l ∷ ls) n w = rw (w.0, w.1, fit, advances) (h.leads ls (omega arith) w.2)

  ok : Answer
  ok = record { kind = Reply.Done; bytes = [] }

  got : List ℕ → Answer
  got bytes = record { kind = Reply.Data; bytes = bytes }

  -- the replies that give a transfer its value
  replies_to : (t : Transfer) (v : ℕ) → Fits given t v → List Answer
  replies_to Transfer.Raise v h = ok ∷ []
  replies_to (Transfer.Pause us) v h = ok ∷ []
  replies_to (Transfer.Framed c Body.None) v h = ok ∷ ok ∷ ok ∷ []
  replies_to (Transfer.Framed c (Body.Read n sink)) v h = ok ∷ ok ∷ got h.bytes ∷ ok ∷ []
  replies_to (Transfer.Framed c (Body.Write p)) v h = ok ∷ ok ∷ ok ∷ ok ∷ []
  replies_to (Transfer.Framed c (Body.QuadRead q m n sink)) v h = ok ∷ got h.bytes ∷ ok ∷ []
  replies_to (Transfer.Framed c (Body.QuadWrite p)) v h = ok ∷ ok ∷ ok ∷ []

  -- they are replies that a host can give
  replies-real : (t : Transfer) (v : ℕ) (h : Fits given t v) (rs : List Answer) → RealReplies rs → RealReplies (replies_to t v h ++ rs)
  unfolding replies_to ok got
  replies-real Transfer.Raise v h rs r = (tt, tt, r)
  replies-real (Transfer.Pause us) v h rs r = (tt, tt, r)
  replies-real (Transfer.Framed c Body.None) v h rs r = (tt, tt, (tt, tt, (tt, tt, r)))
  replies-real (Transfer.Framed c (Body.Read n sink)) v h rs r = (tt, tt, (tt, tt, (tt, h.small, (tt, tt, r))))
  replies-real (Transfer.Framed c (Body.Write p)) v h rs r = (tt, tt, (tt, tt, (tt, tt, (tt, tt, r))))
  replies-real (Transfer.Framed c (Body.QuadRead q m n sink)) v h rs r = (tt, tt, (tt, h.small, (tt, tt, r)))
  replies-real (Transfer.Framed c (Body.QuadWrite p)) v h rs r = (tt, tt, (tt, tt, (tt, tt, r)))

  module _ (s : S) (Q : List Past → End A → Type 0) (rs : List Answer) where
    -- the transfer's value is v, and the call goes on to Q
    abbrev GoesOn : Transfer → ℕ → Type 0
    GoesOn t v = Decides (next s (Ok v)) (λ past end. Q (back t (Ok v) ∷ past) end) rs

    at : (t : Transfer) (stage : Stage) → Frame
    at t stage = frame_at t stage (Ok 0)

    -- select high, with what has come of the transfer
    high : (t : Transfer) (u v : ℕ) → v ≡ u → GoesOn t v → Brings s (frame_at t Stage.High (Ok u)) Q (ok ∷ rs)
    unfolding fits_of action_of advanced_of ok
    high t u v e h = overs s (frame_at t Stage.High (Ok u)) Q ok rs (Ok u) refl refl (subst (GoesOn t) e h)

    -- the data of a read
    data-read : (t : Transfer) (n : ℕ) (sink : Sink) (v : ℕ) (h : Answers given n sink v) →
        fits_of (action_of (at t Stage.Payload)) Reply.Data (length h.bytes) ≡ true →
        advanced_of (at t Stage.Payload) Reply.Data h.bytes given ≡ Advanced.More (frame_at t Stage.High (Ok (value_of sink h.bytes given))) →
        GoesOn t v → Brings s (at t Stage.Payload) Q (got h.bytes ∷ ok ∷ rs)
    unfolding got
    data-read t n sink v h fit to d =
        goes s (at t Stage.Payload) (frame_at t Stage.High (Ok (value_of sink h.bytes given))) Q (got h.bytes) (ok ∷ rs) fit to (high t (value_of sink h.bytes given) v (sym h.value) d)

    -- a done that leads on inside the frame
    onwards : (t : Transfer) (from to : Stage) (as' : List Answer) →
        fits_of (action_of (at t from)) Reply.Done 0 ≡ true → advanced_of (at t from) Reply.Done [] given ≡ Advanced.More (at t to) →
        Brings s (at t to) Q as' → Brings s (at t from) Q (ok ∷ as')
    unfolding ok
    onwards t from to as' fit leads h = goes s (at t from) (at t to) Q ok as' fit leads h

    -- the replies that a transfer's value stands for
    transferred : (t : Transfer) (v : ℕ) (h : Fits given t v) → GoesOn t v → Brings s (first_of t) Q (replies_to t v h ++ rs)
    unfolding first_of fits_of action_of advanced_of ok replies_to at
    transferred Transfer.Raise v h d = overs s (first_of Transfer.Raise) Q ok rs (Ok 0) refl refl (subst (GoesOn Transfer.Raise) h d)
    transferred (Transfer.Pause us) v h d = overs s (first_of (Transfer.Pause us)) Q ok rs (Ok 0) refl refl (subst (GoesOn (Transfer.Pause us)) h d)
    transferred (Transfer.Framed c Body.None) v h d =
        onwards (Transfer.Framed c Body.None) Stage.Start Stage.Command _ refl refl
        (onwards (Transfer.Framed c Body.None) Stage.Command Stage.High _ refl refl
        (high (Transfer.Framed c Body.None) 0 v h d))
    transferred (Transfer.Framed c (Body.Read n sink)) v h d =
        onwards (Transfer.Framed c (Body.Read n sink)) Stage.Start Stage.Command _ refl refl
        (onwards (Transfer.Framed c (Body.Read n sink)) Stage.Command Stage.Payload _ refl refl
        (data-read (Transfer.Framed c (Body.Read n sink)) n sink v h (eq-eqb _ _ h.size) refl d))
    transferred (Transfer.Framed c (Body.Write p)) v h d =
        onwards (Transfer.Framed c (Body.Write p)) Stage.Start Stage.Command _ refl refl
        (onwards (Transfer.Framed c (Body.Write p)) Stage.Command Stage.Payload _ refl refl
        (onwards (Transfer.Framed c (Body.Write p)) Stage.Payload Stage.High _ refl refl
        (high (Transfer.Framed c (Body.Write p)) 0 v h d)))
    transferred (Transfer.Framed c (Body.QuadRead q m n sink)) v h d =
        onwards (Transfer.Framed c (Body.QuadRead q m n sink)) Stage.Start Stage.Payload _ refl refl
        (data-read (Transfer.Framed c (Body.QuadRead q m n sink)) n sink v h (eq-eqb _ _ h.size) refl d)
    transferred (Transfer.Framed c (Body.QuadWrite p)) v h d =
        onwards (Transfer.Framed c (Body.QuadWrite p)) Stage.Start Stage.Payload _ refl refl
        (onwards (Transfer.Framed c (Body.QuadWrite p)) Stage.Payload Stage.High _ refl refl
        (high (Transfer.Framed c (Body.QuadWrite p)) 0 v h d))

  module _ (Valid : S → Type 0) (meaning : S → ℕ → Prog A) (sim : Simulates Valid next meaning) where
    -- the replies of a whole path
    decides : (vs : List ℕ) (d : Decision S A) (Q : List Past → End A → Type 0) → Onward Valid d → Along given (tree meaning d) vs Q → (rs : List Answer) × RealReplies rs × Decides d Q rs
    decides [] (well a) Q w h = ([], tt, record { fits = λ l ls n i. tt; ends = λ l ls n i. tt; leads = λ ls n i. h })
    decides [] (bad e) Q w h = ([], tt, record { fits = λ l ls n i. tt; ends = λ l ls n i. tt; leads = λ ls n i. h })
    decides [] (more t s) Q w h = absurd h
    decides (v ∷ vs) (well a) Q w h = absurd h
    decides (v ∷ vs) (bad e) Q w h = absurd h
    decides (v ∷ vs) (more t s) Q w h =
        let Q' : List Past → End A → Type 0 = λ past end. Q (back t (Ok v) ∷ past) end in
        let r = decides vs (next s (Ok v)) Q' (sim.keeps s v w) (subst (λ p. Along given p vs Q') (sim.on_value s v w) h.1) in
        let b = transferred s Q r.0 t v h.0 r.2 in
        (replies_to t v h.0 ++ r.0, replies-real t v h.0 r.0 r.1, record { fits = λ l ls n i. b.fits ls n i; ends = λ l ls n i. b.ends ls n i; leads = λ ls n i. b.leads ls n i })

    pub reached : (t : Transfer) (s : S) (Q : List Past → End A → Type 0) → Valid s → Some given (ask t (meaning s)) Q → (rs : List Answer) × RealReplies rs × Brings s (first_of t) Q rs
    reached t s Q w h =
        let vs = some_along given (ask t (meaning s)) Q h in
        let r = decides vs.0 (more t s) Q w vs.1 in
        let l : Lent = record { scratch = []; buffer = []; given = [] } in
        (r.0, r.1, record { fits = λ ls n i. r.2.fits l ls n i; ends = λ ls n i. r.2.ends l ls n i; leads = λ ls n i. r.2.leads ls n i })

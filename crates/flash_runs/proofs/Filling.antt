-- A program that reads into the caller's buffer, place after place, and what one reply does to it.
use Rattle.std.specs.Prelude.{Ok, Err}
use Prim.Native.Nat.{ℕ, ◌+◌, ◌-◌, ◌≤◌}
use native.Mathlib.Omega.{arith}
use native.Mathlib.Nat.{add-zero}
use mathlib.Core.Bool.{Bool, true, false}
use mathlib.Core.Path.{◌≡◌, refl, ap, sym, ◌∙◌, subst}
use mathlib.Core.List.{List, [], ◌++◌, append-nil}
use lib.ListN.{length, take, drop, length-append}
use lib.Seq.{paste, length-paste, drop-paste, take_at, take-length, drop-append-add, drop-drop}
use borrow.Author.Tests.{eqb-true, le-leb}
use Rattle.qspi.specs.Bus.{awaits_of, fits_at}
use Rattle.qspi.specs.Bytes.{delivered_of}
use Rattle.qspi.specs.Command.{command_bytes}
use Rattle.qspi.specs.Frame.{Outcome, action_at, start_action, sink_of, frame_at, taken_at, delivered_at, advanced_at}
use Rattle.qspi.specs.ShownBytes.{shown_at}
use Rattle.qspi.specs.declared.bus.Reply.{Reply}
use Rattle.qspi.specs.declared.transfer.Sink.{Sink}
use Rattle.qspi.specs.declared.transfer.Body.{Body}
use Rattle.qspi.specs.declared.transfer.Transfer.{Transfer}
use Rattle.qspi.specs.declared.frame.Stage.{Stage}
use Rattle.qspi.specs.declared.frame.Advanced.{Advanced}
use Rattle.qspi.specs.declared.frame.Frame.{Frame}
use Rattle.spi_flash.specs.Prog.{Prog, ret, fail, ask}
use Rattle.spi_flash.proofs.OnBus.{false≢true, Reached, done-at-start}
use Rattle.flash_runs.specs.Reading.{data_at, mine_after, SameFrom, in_front}

-- ---- programs

-- a read of m bytes behind the n that were read: the caller's go to the buffer, which has room, and no others do
abbrev pub FillsSink : Bool → ℕ → ℕ → ℕ → Sink → (ℕ → Type 0) → Type 0
FillsSink mine len n m Sink.Number later = (mine ≡ false) × later n
FillsSink mine len n m (Sink.Buffer at) later = (mine ≡ true) × (at ≡ n) × (n + m ≤ len) × later (n + m)
FillsSink mine len n m (Sink.Compare from) later = (mine ≡ false) × later n

-- bytes that have room are delivered at their place
module _ (buffer bytes : List ℕ) (n : ℕ) (room : n + length bytes ≤ length buffer) where
  delivered-whole : delivered_of buffer n bytes ≡ paste buffer n bytes (length bytes)
  delivered-whole =
      rw (le-leb (length bytes) (length buffer) (omega arith), le-leb n (length buffer - length bytes) (omega arith)) refl

  delivered-behind : SameFrom (n + length bytes) (delivered_of buffer n bytes) buffer
  delivered-behind = rw delivered-whole (record {
    size = length-paste buffer n bytes (length bytes) room (omega arith);
    kept = drop-paste buffer n bytes (length bytes) (omega arith) (omega arith);
  })

  delivered-front : (before old : List ℕ) → length before ≡ n → buffer ≡ in_front before old → delivered_of buffer n bytes ≡ in_front (before ++ bytes) old
  delivered-front before old l e =
      let tail : drop (n + length bytes) buffer ≡ drop (length (before ++ bytes)) old =
      rw e (ap (λ m. drop (m + length bytes) (before ++ drop (length before) old)) (sym l)
      ∙ drop-append-add before (drop (length before) old) (length bytes)
      ∙ drop-drop (length bytes) (length before) old
      ∙ ap (λ m. drop m old) (sym (length-append before bytes))) in
      let head : take n buffer ≡ before = rw e (take_at before (drop (length before) old) n l) in
      delivered-whole ∙ rw (head, take-length bytes, tail) refl

-- by the commands whose data are the caller's, into a buffer of len bytes
module _ (reads : List ℕ → Bool) (len : ℕ) where
  abbrev pub FillsBy : ℕ → Transfer → (ℕ → Type 0) → Type 0
  FillsBy n Transfer.Raise later = later n
  FillsBy n (Transfer.Pause us) later = later n
  FillsBy n (Transfer.Framed c Body.None) later = later n
  FillsBy n (Transfer.Framed c (Body.Read m sink)) later = FillsSink (reads (command_bytes c)) len n m sink later
  FillsBy n (Transfer.Framed c (Body.Write payload)) later = later n
  FillsBy n (Transfer.Framed c (Body.QuadRead tclqv margin m sink)) later = FillsSink true len n m sink later
  FillsBy n (Transfer.Framed c (Body.QuadWrite payload)) later = later n

  -- every byte read for the caller goes to the buffer, behind the n that were read before
  abbrev pub Fills : {A : Type 0} → ℕ → Prog A → Type 0
  Fills n (ret a) = Unit {0}
  Fills n (fail e) = Unit {0}
  Fills n (ask t k) = FillsBy n t (λ m. (v : ℕ) → Fills m (k v))

  -- ---- frames

  -- with n bytes read
  abbrev pub FillsOn : {A : Type 0} → ℕ → (ℕ → Prog A) → Outcome → Type 0
  FillsOn n k (Ok v) = (w : ℕ) → Fills n (k w)
  FillsOn n k (Err error) = Unit {0}

  abbrev FillsAt : {A : Type 0} → ℕ → (ℕ → Prog A) → Stage → Transfer → Outcome → Type 0
  FillsAt n k Stage.Start t o = Fills n (ask t k)
  FillsAt n k Stage.Command t o = Fills n (ask t k)
  FillsAt n k Stage.Payload t o = Fills n (ask t k)
  FillsAt n k Stage.High t o = FillsOn n k o

  -- once its command is out, it is known whose data a transfer reads
  abbrev MineAt : Stage → Transfer → Bool → Type 0
  MineAt Stage.Start t mine = Unit {0}
  MineAt Stage.Command Transfer.Raise mine = Unit {0}
  MineAt Stage.Command (Transfer.Pause us) mine = Unit {0}
  MineAt Stage.Command (Transfer.Framed c Body.None) mine = Unit {0}
  MineAt Stage.Command (Transfer.Framed c (Body.Read m sink)) mine = mine ≡ reads (command_bytes c)
  MineAt Stage.Command (Transfer.Framed c (Body.Write payload)) mine = Unit {0}
  MineAt Stage.Command (Transfer.Framed c (Body.QuadRead tclqv margin m sink)) mine = Unit {0}
  MineAt Stage.Command (Transfer.Framed c (Body.QuadWrite payload)) mine = Unit {0}
  MineAt Stage.Payload Transfer.Raise mine = Unit {0}
  MineAt Stage.Payload (Transfer.Pause us) mine = Unit {0}
  MineAt Stage.Payload (Transfer.Framed c Body.None) mine = Unit {0}
  MineAt Stage.Payload (Transfer.Framed c (Body.Read m sink)) mine = mine ≡ reads (command_bytes c)
  MineAt Stage.Payload (Transfer.Framed c (Body.Write payload)) mine = Unit {0}
  MineAt Stage.Payload (Transfer.Framed c (Body.QuadRead tclqv margin m sink)) mine = mine ≡ true
  MineAt Stage.Payload (Transfer.Framed c (Body.QuadWrite payload)) mine = Unit {0}
  MineAt Stage.High t mine = Unit {0}

  -- a frame that a call comes to
  pub record Filling {A : Type 0} (n : ℕ) (mine : Bool) (k : ℕ → Prog A) (stage : Stage) (t : Transfer) (o : Outcome) : Type 0 where
    pub reached : Reached stage t
    pub whose : MineAt stage t mine
    pub fills : FillsAt n k stage t o

  -- a transfer that begins
  pub first-filling : {A : Type 0} {n : ℕ} {k : ℕ → Prog A} {t : Transfer} (mine : Bool) → Fills n (ask t k) → Filling n mine k Stage.Start t (Ok 0)
  first-filling mine h = record { reached = tt; whose = tt; fills = h }

  abbrev pub FillsNext : {A : Type 0} → ℕ → Bool → List ℕ → (ℕ → Prog A) → Advanced → Type 0
  FillsNext n mine given k (Advanced.More g) = Filling n (mine_after reads (shown_at g.stage g.transfer given) mine) k g.stage g.transfer g.outcome
  FillsNext n mine given k (Advanced.Over o) = FillsOn n k o

  -- ---- one reply

  -- what a reply that fits does to a frame, to the buffer and to the count of bytes delivered
  pub record Fed {A : Type 0} (n : ℕ) (mine : Bool) (k : ℕ → Prog A) (stage : Stage) (t : Transfer) (o : Outcome) (r : Reply) (bytes : List ℕ) : Type 0 where
    pub next : (given : List ℕ) → FillsNext (n + length (data_at mine r bytes)) mine given k (advanced_at (frame_at t stage o) r bytes given)
    pub changes : (buffer : List ℕ) → length buffer ≡ len → SameFrom (n + length (data_at mine r bytes)) (taken_at r (sink_of t) bytes buffer) buffer
    pub holds : (buffer before old : List ℕ) → length buffer ≡ len → length before ≡ n → buffer ≡ in_front before old →
        taken_at r (sink_of t) bytes buffer ≡ in_front (before ++ data_at mine r bytes) old
    pub counts : delivered_at r (sink_of t) (length bytes) len n ≡ n + length (data_at mine r bytes)

  module _ {A : Type 0} (n : ℕ) (mine : Bool) (k : ℕ → Prog A) (o : Outcome) (bytes : List ℕ) where
    -- a reply that brings the caller nothing leaves both
    nothing : {stage : Stage} {t : Transfer} (r : Reply) → data_at mine r bytes ≡ [] → ((buffer : List ℕ) → taken_at r (sink_of t) bytes buffer ≡ buffer) →
        delivered_at r (sink_of t) (length bytes) len n ≡ n → ((given : List ℕ) → FillsNext n mine given k (advanced_at (frame_at t stage o) r bytes given)) → Fed n mine k stage t o r bytes
    nothing r none same count next = record {
      next = λ given. rw (none, add-zero n) (next given);
      changes = λ buffer l. rw (none, same buffer) (record { size = refl; kept = refl });
      holds = λ buffer before old l m e. rw (none, append-nil before, same buffer) e;
      counts = rw none (count ∙ sym (add-zero n));
    }

    quiet : {stage : Stage} {t : Transfer} → ((given : List ℕ) → FillsNext n mine given k (advanced_at (frame_at t stage o) Reply.Done bytes given)) → Fed n mine k stage t o Reply.Done bytes
    quiet next = nothing Reply.Done refl (λ buffer. refl) refl next

    broken : {stage : Stage} {t : Transfer} (code : ℕ) → Fed n mine k stage t o (Reply.Error code) bytes
    broken code = nothing (Reply.Error code) refl (λ buffer. refl) refl (λ given. record { reached = tt; whose = tt; fills = tt })

    -- ---- a data reply

    -- to a read into the buffer
    fed-buffer : (m : ℕ) (t : Transfer) (at : ℕ) → sink_of t ≡ Sink.Buffer at → mine ≡ true → at ≡ n → n + m ≤ len → length bytes ≡ m → ((v : ℕ) → Fills (n + m) (k v)) →
        Fed n mine k Stage.Payload t o Reply.Data bytes
    fed-buffer m t at is own place room size fills = record {
      next = λ given. record { reached = tt; whose = tt; fills = rw (own, size) fills };
      changes = λ buffer l. rw (is, own, place) (delivered-behind buffer bytes n (omega arith));
      holds = λ buffer before old l e h. rw (is, own, place) (delivered-front buffer bytes n (omega arith) before old e h);
      counts = rw (is, own, place, le-leb (length bytes) len (omega arith), le-leb n (len - length bytes) (omega arith)) refl;
    }

    -- to any other read
    fed-other : (t : Transfer) → ((buffer : List ℕ) → taken_at Reply.Data (sink_of t) bytes buffer ≡ buffer) → delivered_at Reply.Data (sink_of t) (length bytes) len n ≡ n →
        mine ≡ false → ((v : ℕ) → Fills n (k v)) → Fed n mine k Stage.Payload t o Reply.Data bytes
    fed-other t same count other fills = nothing Reply.Data (rw other refl) same count (λ given. record { reached = tt; whose = tt; fills = fills })

    fed-payload : (m : ℕ) (t : Transfer) (sink : Sink) → sink_of t ≡ sink → length bytes ≡ m → FillsSink mine len n m sink (λ i. (v : ℕ) → Fills i (k v)) →
        Fed n mine k Stage.Payload t o Reply.Data bytes
    fed-payload m t Sink.Number is size h = fed-other t (λ buffer. rw is refl) (rw is refl) h.0 h.1
    fed-payload m t (Sink.Buffer at) is size h = fed-buffer m t at is h.0 h.1 h.2 size h.3
    fed-payload m t (Sink.Compare from) is size h = fed-other t (λ buffer. rw is refl) (rw is refl) h.0 h.1

    -- ---- every stage

    -- whatever has come of the transfer so far
    fills-on : (x : Outcome) → ((v : ℕ) → Fills n (k v)) → FillsOn n k x
    fills-on (Ok v) h = h
    fills-on (Err error) h = tt

    fed-start : (t : Transfer) → Fills n (ask t k) → Fed n mine k Stage.Start t o Reply.Done bytes
    fed-start Transfer.Raise h = quiet (λ given. fills-on o h)
    fed-start (Transfer.Pause us) h = quiet (λ given. fills-on o h)
    fed-start (Transfer.Framed c Body.None) h = quiet (λ given. record { reached = tt; whose = tt; fills = h })
    fed-start (Transfer.Framed c (Body.Read m sink)) h = quiet (λ given. record { reached = tt; whose = refl; fills = h })
    fed-start (Transfer.Framed c (Body.Write payload)) h = quiet (λ given. record { reached = tt; whose = tt; fills = h })
    fed-start (Transfer.Framed c (Body.QuadRead tclqv margin m sink)) h = quiet (λ given. record { reached = tt; whose = refl; fills = h })
    fed-start (Transfer.Framed c (Body.QuadWrite payload)) h = quiet (λ given. record { reached = tt; whose = tt; fills = h })

    fed-command : (t : Transfer) → Filling n mine k Stage.Command t o → Fed n mine k Stage.Command t o Reply.Done bytes
    fed-command Transfer.Raise h = absurd h.reached
    fed-command (Transfer.Pause us) h = absurd h.reached
    fed-command (Transfer.Framed c Body.None) h = quiet (λ given. record { reached = tt; whose = tt; fills = fills-on o h.fills })
    fed-command (Transfer.Framed c (Body.Read m sink)) h = quiet (λ given. record { reached = tt; whose = h.whose; fills = h.fills })
    fed-command (Transfer.Framed c (Body.Write payload)) h = quiet (λ given. record { reached = tt; whose = tt; fills = h.fills })
    fed-command (Transfer.Framed c (Body.QuadRead tclqv margin m sink)) h = absurd h.reached
    fed-command (Transfer.Framed c (Body.QuadWrite payload)) h = absurd h.reached

    -- no command is answered by data
    no-data : (t : Transfer) → Reached Stage.Command t → fits_at (awaits_of (action_at Stage.Command t)) Reply.Data (length bytes) ≡ true → ⊥
    no-data Transfer.Raise p fit = p
    no-data (Transfer.Pause us) p fit = p
    no-data (Transfer.Framed c Body.None) p fit = false≢true fit
    no-data (Transfer.Framed c (Body.Read m sink)) p fit = false≢true fit
    no-data (Transfer.Framed c (Body.Write payload)) p fit = false≢true fit
    no-data (Transfer.Framed c (Body.QuadRead tclqv margin m sink)) p fit = p
    no-data (Transfer.Framed c (Body.QuadWrite payload)) p fit = p

    fed-done : (t : Transfer) → Filling n mine k Stage.Payload t o → fits_at (awaits_of (action_at Stage.Payload t)) Reply.Done (length bytes) ≡ true →
        Fed n mine k Stage.Payload t o Reply.Done bytes
    fed-done Transfer.Raise h fit = absurd h.reached
    fed-done (Transfer.Pause us) h fit = absurd h.reached
    fed-done (Transfer.Framed c Body.None) h fit = absurd h.reached
    fed-done (Transfer.Framed c (Body.Read m sink)) h fit = absurd (false≢true fit)
    fed-done (Transfer.Framed c (Body.Write payload)) h fit = quiet (λ given. record { reached = tt; whose = tt; fills = fills-on o h.fills })
    fed-done (Transfer.Framed c (Body.QuadRead tclqv margin m sink)) h fit = absurd (false≢true fit)
    fed-done (Transfer.Framed c (Body.QuadWrite payload)) h fit = quiet (λ given. record { reached = tt; whose = tt; fills = fills-on o h.fills })

    -- what is known of the command is known of its data
    told-whose : (b : Bool) (m : ℕ) (sink : Sink) → mine ≡ b → FillsSink b len n m sink (λ i. (v : ℕ) → Fills i (k v)) → FillsSink mine len n m sink (λ i. (v : ℕ) → Fills i (k v))
    told-whose b m sink e h = subst (λ x. FillsSink x len n m sink (λ i. (v : ℕ) → Fills i (k v))) (sym e) h

    fed-data : (t : Transfer) → Filling n mine k Stage.Payload t o → fits_at (awaits_of (action_at Stage.Payload t)) Reply.Data (length bytes) ≡ true →
        Fed n mine k Stage.Payload t o Reply.Data bytes
    fed-data Transfer.Raise h fit = absurd h.reached
    fed-data (Transfer.Pause us) h fit = absurd h.reached
    fed-data (Transfer.Framed c Body.None) h fit = absurd h.reached
    fed-data (Transfer.Framed c (Body.Read m sink)) h fit =
        fed-payload m (Transfer.Framed c (Body.Read m sink)) sink refl (eqb-true (length bytes) m fit) (told-whose (reads (command_bytes c)) m sink h.whose h.fills)
    fed-data (Transfer.Framed c (Body.Write payload)) h fit = absurd (false≢true fit)
    fed-data (Transfer.Framed c (Body.QuadRead tclqv margin m sink)) h fit =
        fed-payload m (Transfer.Framed c (Body.QuadRead tclqv margin m sink)) sink refl (eqb-true (length bytes) m fit) (told-whose true m sink h.whose h.fills)
    fed-data (Transfer.Framed c (Body.QuadWrite payload)) h fit = absurd (false≢true fit)

    no-start-data : (t : Transfer) → fits_at (awaits_of (start_action t)) Reply.Data (length bytes) ≡ true → ⊥
    no-start-data t fit = false≢true (subst (λ a. fits_at a Reply.Data (length bytes) ≡ true) (done-at-start t) fit)

    pub fed : (stage : Stage) (t : Transfer) → Filling n mine k stage t o → (r : Reply) → fits_at (awaits_of (action_at stage t)) r (length bytes) ≡ true →
        Fed n mine k stage t o r bytes
    fed Stage.Start t h Reply.Done fit = fed-start t h.fills
    fed Stage.Start t h Reply.Data fit = absurd (no-start-data t fit)
    fed Stage.Start t h (Reply.Error code) fit = broken code
    fed Stage.Command t h Reply.Done fit = fed-command t h
    fed Stage.Command t h Reply.Data fit = absurd (no-data t h.reached fit)
    fed Stage.Command t h (Reply.Error code) fit = broken code
    fed Stage.Payload t h Reply.Done fit = fed-done t h fit
    fed Stage.Payload t h Reply.Data fit = fed-data t h fit
    fed Stage.Payload t h (Reply.Error code) fit = broken code
    fed Stage.High t h Reply.Done fit = quiet (λ given. h.fills)
    fed Stage.High t h Reply.Data fit = absurd (false≢true fit)
    fed Stage.High t h (Reply.Error code) fit = broken code

    -- the last reply of a transfer brings no data
    more-not : {g : Frame} {x : Outcome} → Advanced.More g ≡ Advanced.Over x → ⊥
    more-not h = let z : ◌≡◌ {A = ℕ} 0 1 = cc in omega arith

    pub over-quiet : (stage : Stage) (t : Transfer) (x : Outcome) (r : Reply) (given : List ℕ) → Filling n mine k stage t o →
        fits_at (awaits_of (action_at stage t)) r (length bytes) ≡ true → advanced_at (frame_at t stage o) r bytes given ≡ Advanced.Over x → data_at mine r bytes ≡ []
    over-quiet stage t x Reply.Done given h fit e = refl
    over-quiet Stage.Start t x Reply.Data given h fit e = absurd (no-start-data t fit)
    over-quiet Stage.Command t x Reply.Data given h fit e = absurd (no-data t h.reached fit)
    over-quiet Stage.Payload t x Reply.Data given h fit e = absurd (more-not e)
    over-quiet Stage.High t x Reply.Data given h fit e = absurd (false≢true fit)
    over-quiet stage t x (Reply.Error code) given h fit e = refl

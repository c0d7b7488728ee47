-- What a watcher sees of a program: Q at every action that it gives out, E where it ends well.
use Rattle.std.specs.Prelude.{Ok, Err}
use Prim.Native.Nat.{ℕ}
use mathlib.Core.Bool.{Bool, true, false}
use mathlib.Core.Path.{◌≡◌, refl}
use mathlib.Core.List.{List, []}
use lib.ListN.{length}
use Rattle.qspi.specs.Command.{command_bytes}
use Rattle.qspi.specs.Shown.{Shown, high, write, read, quad_read, quad_write}
use Rattle.qspi.specs.Frame.{Outcome, value_of}
use Rattle.qspi.specs.ShownBytes.{payload_bytes, start_shown}
use Rattle.qspi.specs.declared.command.Command.{Command}
use Rattle.qspi.specs.declared.transfer.Sink.{Sink}
use Rattle.qspi.specs.declared.transfer.Body.{Body}
use Rattle.qspi.specs.declared.transfer.Transfer.{Transfer}
use Rattle.spi_flash.specs.declared.error.FlashError.{FlashError}
use Rattle.spi_flash.specs.Prog.{Prog, ret, fail, ask, ◌>>=◌, ◌>>◌, refuse, transfer}
use Rattle.flash_runs.specs.Watch.{Watcher}

-- ---- transfers

-- Q holds of what is seen at every action of a transfer; `later` of what is seen behind it, with its value
module _ {Z : Type 0} (w : Watcher Z) (Q : Z → Type 0) where
  -- a reply without data
  abbrev pub hush : Z → Z
  hush z = w.hears [] [] z

  -- an action is given out
  abbrev pub Gives : Shown → Z → (Z → Type 0) → Type 0
  Gives shown z then = Q (w.gives shown z) × then (w.gives shown z)

  abbrev pub Concludes : Z → Outcome → (Z → ℕ → Type 0) → Type 0
  Concludes z (Ok v) later = later z v
  Concludes z (Err error) later = Unit {0}

  abbrev pub BehindHigh : Z → Outcome → (Z → ℕ → Type 0) → Type 0
  BehindHigh z o later = Q (hush z) × Concludes (hush z) o later

  -- select goes high, with what has come of the transfer
  abbrev pub Closes : Z → Outcome → (Z → ℕ → Type 0) → Type 0
  Closes z o later = Gives high z (λ y. BehindHigh y o later)

  -- the bus failed
  abbrev pub Breaks : Z → Type 0
  Breaks z = Gives high z (λ y. Q (hush y))

  -- the data are any bytes of the length asked for
  abbrev pub BehindRead : Z → ℕ → Sink → (Z → ℕ → Type 0) → Type 0
  BehindRead z n sink later =
      Breaks (hush z) × ((bytes given : List ℕ) → length bytes ≡ n → Closes (w.hears given bytes z) (Ok (value_of sink bytes given)) later)

  abbrev pub BehindPayload : Z → Transfer → (Z → ℕ → Type 0) → Type 0
  BehindPayload z Transfer.Raise later = ⊥
  BehindPayload z (Transfer.Pause us) later = ⊥
  BehindPayload z (Transfer.Framed c Body.None) later = ⊥
  BehindPayload z (Transfer.Framed c (Body.Read n sink)) later = BehindRead z n sink later
  BehindPayload z (Transfer.Framed c (Body.Write payload)) later = Closes (hush z) (Ok 0) later
  BehindPayload z (Transfer.Framed c (Body.QuadRead tclqv margin n sink)) later = BehindRead z n sink later
  BehindPayload z (Transfer.Framed c (Body.QuadWrite payload)) later = Closes (hush z) (Ok 0) later

  abbrev pub BehindCommand : Z → Transfer → (Z → ℕ → Type 0) → Type 0
  BehindCommand z Transfer.Raise later = ⊥
  BehindCommand z (Transfer.Pause us) later = ⊥
  BehindCommand z (Transfer.Framed c Body.None) later = Closes (hush z) (Ok 0) later
  BehindCommand z (Transfer.Framed c (Body.Read n sink)) later = Breaks (hush z) × Gives (read n) (hush z) (λ y. BehindRead y n sink later)
  BehindCommand z (Transfer.Framed c (Body.Write payload)) later =
      Breaks (hush z) × ((given : List ℕ) → Gives (write (payload_bytes payload given)) (hush z) (λ y. BehindPayload y (Transfer.Framed c (Body.Write payload)) later))
  BehindCommand z (Transfer.Framed c (Body.QuadRead tclqv margin n sink)) later = ⊥
  BehindCommand z (Transfer.Framed c (Body.QuadWrite payload)) later = ⊥

  -- the command is given out
  abbrev pub Commands : Z → Command → Transfer → (Z → ℕ → Type 0) → Type 0
  Commands z c t later = Gives (write (command_bytes c)) z (λ y. BehindCommand y t later)

  abbrev pub BehindStart : Z → Transfer → (Z → ℕ → Type 0) → Type 0
  BehindStart z Transfer.Raise later = Q (hush z) × later (hush z) 0
  BehindStart z (Transfer.Pause us) later = Q (hush z) × later (hush z) 0
  BehindStart z (Transfer.Framed c Body.None) later = Commands (hush z) c (Transfer.Framed c Body.None) later
  BehindStart z (Transfer.Framed c (Body.Read n sink)) later = Commands (hush z) c (Transfer.Framed c (Body.Read n sink)) later
  BehindStart z (Transfer.Framed c (Body.Write payload)) later = Commands (hush z) c (Transfer.Framed c (Body.Write payload)) later
  BehindStart z (Transfer.Framed c (Body.QuadRead tclqv margin n sink)) later =
      Gives (quad_read (command_bytes c) tclqv margin n) (hush z) (λ y. BehindRead y n sink later)
  BehindStart z (Transfer.Framed c (Body.QuadWrite payload)) later =
      (given : List ℕ) → Gives (quad_write (command_bytes c) (payload_bytes payload given)) (hush z) (λ y. BehindPayload y (Transfer.Framed c (Body.QuadWrite payload)) later)

  abbrev pub Seen : Z → Transfer → (Z → ℕ → Type 0) → Type 0
  Seen z t later = Gives (start_shown t) z (λ y. BehindStart y t later)

  -- ---- programs

  -- E holds of what is seen where the program ends well
  abbrev pub Sees : {A : Type 0} → (A → Z → Type 0) → Z → Prog A → Type 0
  Sees E z (ret a) = E a z
  Sees E z (fail e) = Unit {0}
  Sees E z (ask t k) = Seen z t (λ y v. Sees E y (k v))

  pub record Shows {A : Type 0} (E : A → Z → Type 0) (z : Z) (p : Prog A) : Type 0 where
    pub shows : Sees E z p

  module _ {later next : Z → ℕ → Type 0} (f : (z : Z) (v : ℕ) → later z v → next z v) where
    read_mono : (z : Z) (n : ℕ) (sink : Sink) → BehindRead z n sink later → BehindRead z n sink next
    read_mono z n sink h = (h.0, (λ bytes given e. let c = h.1 bytes given e in (c.0, (c.1.0, f _ _ c.1.1))))

    payload-mono : (z : Z) (t : Transfer) → BehindPayload z t later → BehindPayload z t next
    payload-mono z Transfer.Raise h = h
    payload-mono z (Transfer.Pause us) h = h
    payload-mono z (Transfer.Framed c Body.None) h = h
    payload-mono z (Transfer.Framed c (Body.Read n sink)) h = read_mono z n sink h
    payload-mono z (Transfer.Framed c (Body.Write payload)) h = (h.0, (h.1.0, f _ _ h.1.1))
    payload-mono z (Transfer.Framed c (Body.QuadRead tclqv margin n sink)) h = read_mono z n sink h
    payload-mono z (Transfer.Framed c (Body.QuadWrite payload)) h = (h.0, (h.1.0, f _ _ h.1.1))

    command-mono : (z : Z) (t : Transfer) → BehindCommand z t later → BehindCommand z t next
    command-mono z Transfer.Raise h = h
    command-mono z (Transfer.Pause us) h = h
    command-mono z (Transfer.Framed c Body.None) h = (h.0, (h.1.0, f _ _ h.1.1))
    command-mono z (Transfer.Framed c (Body.Read n sink)) h = (h.0, (h.1.0, read_mono _ n sink h.1.1))
    command-mono z (Transfer.Framed c (Body.Write payload)) h = (h.0, (λ given. ((h.1 given).0, payload-mono _ (Transfer.Framed c (Body.Write payload)) (h.1 given).1)))
    command-mono z (Transfer.Framed c (Body.QuadRead tclqv margin n sink)) h = h
    command-mono z (Transfer.Framed c (Body.QuadWrite payload)) h = h

    start-mono : (z : Z) (t : Transfer) → BehindStart z t later → BehindStart z t next
    start-mono z Transfer.Raise h = (h.0, f _ _ h.1)
    start-mono z (Transfer.Pause us) h = (h.0, f _ _ h.1)
    start-mono z (Transfer.Framed c Body.None) h = (h.0, command-mono _ (Transfer.Framed c Body.None) h.1)
    start-mono z (Transfer.Framed c (Body.Read n sink)) h = (h.0, command-mono _ (Transfer.Framed c (Body.Read n sink)) h.1)
    start-mono z (Transfer.Framed c (Body.Write payload)) h = (h.0, command-mono _ (Transfer.Framed c (Body.Write payload)) h.1)
    start-mono z (Transfer.Framed c (Body.QuadRead tclqv margin n sink)) h = (h.0, read_mono _ n sink h.1)
    start-mono z (Transfer.Framed c (Body.QuadWrite payload)) h = λ given. ((h given).0, payload-mono _ (Transfer.Framed c (Body.QuadWrite payload)) (h given).1)

  sees-bind : {A B : Type 0} (E : A → Z → Type 0) (F : B → Z → Type 0) (z : Z) (p : Prog A) (k : A → Prog B) → Sees E z p →
      ((a : A) (y : Z) → E a y → Shows F y (k a)) → Sees F z (p >>= k)
  unfolding ◌>>=◌
  sees-bind E F z (ret a) k h l = (l a z h).shows
  sees-bind E F z (fail e) k h l = tt
  sees-bind E F z (ask t j) k h l = (h.0, start-mono (λ y v m. sees-bind E F y (j v) k m l) _ t h.1)

  sees-mono : {A : Type 0} (E F : A → Z → Type 0) (z : Z) (p : Prog A) → ((a : A) (y : Z) → E a y → F a y) → Sees E z p → Sees F z p
  sees-mono E F z (ret a) l h = l a z h
  sees-mono E F z (fail e) l h = tt
  sees-mono E F z (ask t j) l h = (h.0, start-mono (λ y v m. sees-mono E F y (j v) l m) _ t h.1)

  -- what is seen at a good end tells what is to be seen
  pub shows-mono : {A : Type 0} {E F : A → Z → Type 0} {z : Z} {p : Prog A} → ((a : A) (y : Z) → E a y → F a y) → Shows E z p → Shows F z p
  shows-mono {E = E} {F} {z} {p} l h = record { shows = sees-mono E F z p l h.shows }

  pub shows-ret : {A : Type 0} {E : A → Z → Type 0} {z : Z} {a : A} → E a z → Shows E z (ret a)
  shows-ret h = record { shows = h }

  pub shows-fail : {A : Type 0} {E : A → Z → Type 0} {z : Z} {e : FlashError} → Shows E z (fail e)
  shows-fail = record { shows = tt }

  pub shows-bind : {A B : Type 0} {E : A → Z → Type 0} {F : B → Z → Type 0} {z : Z} {p : Prog A} {k : A → Prog B} → Shows E z p →
      ((a : A) (y : Z) → E a y → Shows F y (k a)) → Shows F z (p >>= k)
  shows-bind {E = E} {F} {z} {p} {k} h l = record { shows = sees-bind E F z p k h.shows l }

  pub shows_then : {A B : Type 0} {E : A → Z → Type 0} {F : B → Z → Type 0} {z : Z} {p : Prog A} {q : Prog B} → Shows E z p →
      ((a : A) (y : Z) → E a y → Shows F y q) → Shows F z (p >> q)
  unfolding ◌>>◌
  shows_then h l = shows-bind h l

  -- what is not refused goes on
  pub shows-refuse : {E : Unit {0} → Z → Type 0} {z : Z} (b : Bool) (e : FlashError) → (b ≡ false → E tt z) → Shows E z (refuse b e)
  unfolding refuse
  shows-refuse true e h = shows-fail
  shows-refuse false e h = shows-ret (h refl)

  pub shows-transfer : {E : ℕ → Z → Type 0} {z : Z} (t : Transfer) → Seen z t (λ y v. E v y) → Shows E z (transfer t)
  shows-transfer t h = record { shows = h }

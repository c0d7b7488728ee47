-- Programs that read nothing for the caller, and what follows them.
use Prim.Native.Nat.{ℕ, zero, suc, ◌+◌}
use mathlib.Core.Bool.{Bool, true, false, not}
use mathlib.Core.Path.{◌≡◌}
use mathlib.Core.List.{List}
use lib.Dec.{leb}
use Rattle.qspi.specs.Command.{command_bytes}
use Rattle.qspi.specs.declared.command.Command.{Command}
use Rattle.qspi.specs.declared.transfer.Sink.{Sink}
use Rattle.qspi.specs.declared.transfer.Body.{Body}
use Rattle.qspi.specs.declared.transfer.Transfer.{Transfer}
use Rattle.std.specs.Prelude.{if◌then◌else◌}
use Rattle.spi_flash.specs.Prog.{Prog, ret, fail, ask, ◌>>=◌, ◌>>◌, refuse, transfer}
use Rattle.spi_flash.specs.WaitLaw.{wait_loop, waiting, delayed_wait}
use Rattle.spi_flash.specs.declared.error.FlashError.{FlashError}
use Rattle.spi_flash.specs.declared.wait.Timings.{Timings}
use Rattle.flash_runs.proofs.Filling.{Fills}

module _ (reads : List ℕ → Bool) where
  -- a register or an id, by its command
  abbrev QuietRead : Command → Sink → Type 0
  QuietRead c Sink.Number = reads (command_bytes c) ≡ false
  QuietRead c (Sink.Buffer at) = ⊥
  QuietRead c (Sink.Compare from) = ⊥

  abbrev pub QuietBy : Transfer → Type 0
  QuietBy Transfer.Raise = Unit {0}
  QuietBy (Transfer.Pause us) = Unit {0}
  QuietBy (Transfer.Framed c Body.None) = Unit {0}
  QuietBy (Transfer.Framed c (Body.Read m sink)) = QuietRead c sink
  QuietBy (Transfer.Framed c (Body.Write payload)) = Unit {0}
  QuietBy (Transfer.Framed c (Body.QuadRead tclqv margin m sink)) = ⊥
  QuietBy (Transfer.Framed c (Body.QuadWrite payload)) = Unit {0}

  abbrev QuietTree : {A : Type 0} → Prog A → Type 0
  QuietTree (ret a) = Unit {0}
  QuietTree (fail e) = Unit {0}
  QuietTree (ask t k) = QuietBy t × ((v : ℕ) → QuietTree (k v))

  -- every transfer reads a register or an id, or nothing
  pub record Quiet {A : Type 0} (p : Prog A) : Type 0 where
    pub quiet : QuietTree p

  -- ---- laws

  pub quiet-ret : {A : Type 0} {a : A} → Quiet (ret a)
  quiet-ret = record { quiet = tt }

  pub quiet-fail : {A : Type 0} {e : FlashError} → Quiet {A = A} (fail e)
  quiet-fail = record { quiet = tt }

  pub quiet-transfer : {t : Transfer} → QuietBy t → Quiet (transfer t)
  quiet-transfer h = record { quiet = (h, λ v. tt) }

  bind-tree : {A B : Type 0} (p : Prog A) (f : A → Prog B) → QuietTree p → ((a : A) → QuietTree (f a)) → QuietTree (p >>= f)
  unfolding ◌>>=◌
  bind-tree (ret a) f q h = h a
  bind-tree (fail e) f q h = tt
  bind-tree (ask t k) f q h = (q.0, λ v. bind-tree (k v) f (q.1 v) h)

  pub quiet_bind : {A B : Type 0} {p : Prog A} {f : A → Prog B} → Quiet p → ((a : A) → Quiet (f a)) → Quiet (p >>= f)
  quiet_bind {p = p} {f} q h = record { quiet = bind-tree p f q.quiet (λ a. (h a).quiet) }

  pub quiet_then : {A B : Type 0} {p : Prog A} {q : Prog B} → Quiet p → Quiet q → Quiet (p >> q)
  unfolding ◌>>◌
  quiet_then h k = quiet_bind h (λ a. k)

  pub quiet-refuse : (b : Bool) (e : FlashError) → Quiet (refuse b e)
  unfolding refuse
  quiet-refuse true e = record { quiet = tt }
  quiet-refuse false e = record { quiet = tt }

  pub quiet_if : {A : Type 0} (b : Bool) {p q : Prog A} → Quiet p → Quiet q → Quiet (if b then p else q)
  quiet_if true h k = h
  quiet_if false h k = k

  -- a wait looks at a register
  module _ (status : Command) (busy : ℕ → Bool) (t : Timings) (register : reads (command_bytes status) ≡ false) where
    quiet-loop : (fuel waited : ℕ) → Quiet (wait_loop status busy fuel t waited)
    unfolding wait_loop
    quiet-loop zero waited = quiet-fail
    quiet-loop (suc fuel) waited =
        quiet_bind (quiet-transfer register)
        (λ s. quiet_if (not (busy s)) quiet-ret
        (quiet_if (leb t.timeout_us waited) quiet-fail (quiet_then (quiet-transfer tt) (quiet-loop fuel (waited + t.poll_us)))))

    pub quiet-wait : Quiet (delayed_wait status busy t)
    unfolding delayed_wait waiting
    quiet-wait = quiet_then (quiet-transfer tt) (quiet-loop _ _)

  -- ---- behind such a program the buffer is filled as before

  module _ (len n : ℕ) where
    fills-asked : {B : Type 0} (t : Transfer) (k : ℕ → Prog B) → QuietBy t → ((v : ℕ) → Fills reads len n (k v)) → Fills reads len n (ask t k)
    fills-asked Transfer.Raise k r later = later
    fills-asked (Transfer.Pause us) k r later = later
    fills-asked (Transfer.Framed c Body.None) k r later = later
    fills-asked (Transfer.Framed c (Body.Read m Sink.Number)) k r later = (r, later)
    fills-asked (Transfer.Framed c (Body.Read m (Sink.Buffer place))) k r later = absurd r
    fills-asked (Transfer.Framed c (Body.Read m (Sink.Compare from))) k r later = absurd r
    fills-asked (Transfer.Framed c (Body.Write payload)) k r later = later
    fills-asked (Transfer.Framed c (Body.QuadRead tclqv margin m sink)) k r later = absurd r
    fills-asked (Transfer.Framed c (Body.QuadWrite payload)) k r later = later

    fills-tree : {A B : Type 0} (p : Prog A) (f : A → Prog B) → QuietTree p → ((a : A) → Fills reads len n (f a)) → Fills reads len n (p >>= f)
    unfolding ◌>>=◌
    fills-tree (ret a) f q h = h a
    fills-tree (fail e) f q h = tt
    fills-tree (ask t k) f q h = fills-asked t (λ v. k v >>= f) q.0 (λ v. fills-tree (k v) f (q.1 v) h)

    pub fills-after : {A B : Type 0} (p : Prog A) (f : A → Prog B) → Quiet p → ((a : A) → Fills reads len n (f a)) → Fills reads len n (p >>= f)
    fills-after p f q h = fills-tree p f q.quiet h

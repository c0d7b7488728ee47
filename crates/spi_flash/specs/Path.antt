-- The paths through a program: what every path keeps to, and what some path of fitting replies comes to.
use Rattle.std.specs.Prelude.{ℕ, ◌+◌, ◌≤◌, ◌≡◌, List, [], ◌∷◌, ◌++◌, length, Ok, Err}
use Rattle.qspi.specs.Bytes.{AllBytes}
use Rattle.qspi.specs.declared.bus.BusError.{BusError}
use Rattle.qspi.specs.Frame.{Outcome, value_of}
use Rattle.qspi.specs.declared.transfer.Body.{Body}
use Rattle.qspi.specs.declared.transfer.Transfer.{Transfer}
use Rattle.qspi.specs.declared.transfer.Sink.{Sink}
use Rattle.spi_flash.specs.declared.error.FlashError.{FlashError}
use Rattle.spi_flash.specs.Prog.{Prog, ret, fail, ask}

-- ---- where a path stands

-- a transfer that has come to its end, with what came of it
pub data Past : Type 0 where
  back : Transfer → Outcome → Past

-- a transfer is out, or the call has ended
pub data End (A : Type 0) : Type 0 where
  going : Transfer → End A
  done : A → End A
  failed : FlashError → End A

-- ---- replies that fit

-- bytes that answer a read of n with the value v, on the caller's data
pub record Answers (given : List ℕ) (n : ℕ) (sink : Sink) (v : ℕ) : Type 0 where
  pub bytes : List ℕ
  pub size : length bytes ≡ n
  pub small : AllBytes bytes
  pub value : value_of sink bytes given ≡ v

-- a value that some fitting reply gives; a transfer that reads nothing has the value 0
abbrev pub Fits : List ℕ → Transfer → ℕ → Type 0
Fits given Transfer.Raise v = v ≡ 0
Fits given (Transfer.Pause us) v = v ≡ 0
Fits given (Transfer.Framed c Body.None) v = v ≡ 0
Fits given (Transfer.Framed c (Body.Read n sink)) v = Answers given n sink v
Fits given (Transfer.Framed c (Body.Write payload)) v = v ≡ 0
Fits given (Transfer.Framed c (Body.QuadRead tclqv margin n sink)) v = Answers given n sink v
Fits given (Transfer.Framed c (Body.QuadWrite payload)) v = v ≡ 0

-- ---- over the paths

-- Q holds wherever a path stands: at each of its transfers and at its end
abbrev pub Every : {A : Type 0} → Prog A → (List Past → End A → Type 0) → Type 0
Every (ret a) Q = Q [] (done a)
Every (fail e) Q = Q [] (failed e)
Every (ask t k) Q =
    Q [] (going t) ×
    ((error : BusError) → Q (back t (Err error) ∷ []) (failed (FlashError.Spi error.0))) ×
    ((v : ℕ) → Every (k v) (λ past end. Q (back t (Ok v) ∷ past) end))

-- some path of fitting replies goes to the call's end, and there Q holds
abbrev pub Some : {A : Type 0} → List ℕ → Prog A → (List Past → End A → Type 0) → Type 0
Some given (ret a) Q = Q [] (done a)
Some given (fail e) Q = Q [] (failed e)
Some given (ask t k) Q = (v : ℕ) × Fits given t v × Some given (k v) (λ past end. Q (back t (Ok v) ∷ past) end)

-- ---- sums along a path

abbrev pub spent : (Transfer → ℕ) → List Past → ℕ
spent weight [] = 0
spent weight (back t outcome ∷ past) = weight t + spent weight past

abbrev pub underway : {A : Type 0} → (Transfer → ℕ) → End A → ℕ
underway weight (going t) = weight t
underway weight (done a) = 0
underway weight (failed e) = 0

-- each transfer given out counts once, that which is out among them
abbrev pub asked : {A : Type 0} → (Transfer → ℕ) → List Past → End A → ℕ
asked weight past end = spent weight past + underway weight end

-- the microseconds that a transfer asks
abbrev pub delays : Transfer → ℕ
delays Transfer.Raise = 0
delays (Transfer.Pause us) = us
delays (Transfer.Framed c body) = 0

-- ---- ends and beginnings

-- a statement of a path that has ended well
abbrev pub Well : {A : Type 0} → (A → List Past → Type 0) → List Past → End A → Type 0
Well P past (going t) = ⊥
Well P past (done a) = P a past
Well P past (failed e) = ⊥

pub record Prefix {X : Type 0} (xs ys : List X) : Type 0 where
  pub rest : List X
  pub whole : xs ++ rest ≡ ys

-- ---- what is said of a program

-- no path comes to more than b, by a weight for each transfer given out
pub record Bounded {A : Type 0} (weight : Transfer → ℕ) (b : ℕ) (p : Prog A) : Type 0 where
  pub bound : Every p (λ past end. asked weight past end ≤ b)

-- on the caller's data, some path of fitting replies ends well with a, having come to b
pub record Ends {A : Type 0} (given : List ℕ) (weight : Transfer → ℕ) (b : ℕ) (a : A) (p : Prog A) : Type 0 where
  pub ends : Some given p (Well (λ x past. (x ≡ a) × (spent weight past ≡ b)))

-- What a driver must supply, and then all promises hold of it (`promises` of proofs/Promises.antt): that it
-- is the general driver (`Is`), and what its calls' programs come to (`Supplies`).
use Prim.Native.Nat.{ℕ}
use mathlib.Core.Bool.{Bool, true, false}
use mathlib.Core.Path.{◌≡◌, sym, subst}
use mathlib.Core.List.{List}
use lib.ListN.{length, take}
use Rattle.qspi.specs.Bytes.{AllBytes}
use Rattle.qspi.specs.declared.bus.Reply.{Reply}
use Rattle.qspi.specs.declared.transfer.Transfer.{Transfer}
use Rattle.qspi.specs.ShownBytes.{start_shown}
use Rattle.qspi.specs.Frame.{Outcome}
use Rattle.spi_flash.specs.Loan.{Lent}
use Rattle.spi_flash.proofs.Machine.{Onward, Simulates, tree}
use Rattle.spi_flash.specs.Path.{delays, Bounded, Ends}
use Rattle.spi_flash.proofs.Paths.{actions, Reaches, Never}
use Rattle.spi_flash.specs.Prog.{Prog, ret, ask}
use Rattle.spi_flash.specs.Run.{Moved}
use Rattle.spi_flash.specs.Seen.{select_after}
use Rattle.spi_flash.specs.declared.loan.Takes.{Takes}
use Rattle.spi_flash.proofs.Unread.{buffer_reads}
use Rattle.spi_flash.proofs.Dataless.{data_uses}
use Rattle.flash_runs.specs.Begins.{SameTaken}
use Rattle.flash_runs.specs.Driver.{Left, leaving, Sort, constructs, tells, releases, uses, takes_of, works_on, Driver, takes_at}
use Rattle.flash_runs.specs.Scratch.{payloads_of}
pub use Rattle.flash_runs.specs.Shams.{Asks}
use Rattle.flash_runs.proofs.General as General
use Rattle.flash_runs.proofs.General.{Then, Opening, constructing, telling, releasing, working, Parts, Running, is_busy, Flash, flash_of, Place, place, decide, decide_next, general}
use Rattle.flash_runs.proofs.Filling.{Fills}
use Rattle.flash_runs.proofs.Payloads.{Pays}

-- ---- the driver is the general one

-- a driver's state as the general driver has it
abbrev pub view_of : {F C S P A : Type 0} → Driver F C S A → (F → ℕ) → (F → Running P) → F → Flash S P
view_of driver count running flash = flash_of (driver.setup flash) (driver.built flash) (count flash) (running flash)

-- a step of the one and a step of the other come to the same
pub record Alike {F G A : Type 0} (view : F → G) (m : Moved F A) (k : Moved G A) : Type 0 where
  pub given : m.given ≡ k.given
  pub flash : view m.flash ≡ k.flash
  pub left : m.left ≡ k.left

pub record Is {F C S P A : Type 0} (driver : Driver F C S A) (parts : Parts S P A C) : Type 0 where
  -- the bytes delivered, and the call under way
  pub count : F → ℕ
  pub running : F → Running P
  -- there is nothing else in a state
  pub back : Flash S P → F
  pub whole : (flash : F) → back (view_of driver count running flash) ≡ flash
  pub begins : (flash : F) (call : C) (l : Lent) →
      Alike (view_of driver count running) (driver.system.begin flash call l) ((general parts driver.in_bounds).begin (view_of driver count running flash) call l)
  pub answers : (flash : F) (r : Reply) (bytes : List ℕ) (l : Lent) →
      Alike (view_of driver count running) (driver.system.answer flash r bytes l) ((general parts driver.in_bounds).answer (view_of driver count running flash) r bytes l)
  pub runs : (flash : F) → driver.system.running flash ≡ is_busy (running flash)
  -- before any construction
  pub at_rest : driver.system.running driver.fresh ≡ false
  pub not_built : driver.built driver.fresh ≡ false
  pub shows : (flash : F) (buffer : List ℕ) → driver.delivered flash buffer ≡ take (count flash) buffer

-- ---- how a call begins

-- the driver holds what it held when the call began, and the call is no construction
abbrev pub Stays : {S P A : Type 0} → (P → Type 0) → S → Then S P A → Type 0
Stays Built s (General.go setup t phase) = (setup ≡ s) × Built phase
Stays Built s (General.end setup answer) = setup ≡ s
Stays Built s (General.fail error) = Unit {0}

-- select goes low with the first action, or high
abbrev pub Selects : Transfer → Type 0
Selects t = (select : Bool) → select_after (start_shown t) select ≡ select_after (start_shown t) true

abbrev pub SelectsFirst : {S P A : Type 0} → Then S P A → Type 0
SelectsFirst (General.go s t phase) = Selects t
SelectsFirst (General.end s answer) = Unit {0}
SelectsFirst (General.fail error) = Unit {0}

module _ {F C S A : Type 0} (driver : Driver F C S A) (s : S) (c : C) (b d : ℕ) where
  -- what the call works on is within the bounds
  abbrev pub Bounds : Type 0
  Bounds = driver.in_bounds (works_on (driver.sort c b d) s) ≡ true

  -- a call that takes the buffer fills it place after place, and no other call reads into it
  abbrev pub LendsAs : Takes → Type 0
  LendsAs Takes.Nothing = Bounded buffer_reads 0 (driver.program s c b d)
  LendsAs (Takes.Buffer n) = (n ≡ b) × Fills driver.reads b 0 (driver.program s c b d)
  LendsAs (Takes.Data n) = Bounded buffer_reads 0 (driver.program s c b d)

  -- a call that takes no data does not look at them
  abbrev pub LooksAs : Takes → Type 0
  LooksAs Takes.Nothing = Bounded data_uses 0 (driver.program s c b d)
  LooksAs (Takes.Buffer n) = Bounded data_uses 0 (driver.program s c b d)
  LooksAs (Takes.Data n) = Unit {0}

-- on a driver that holds s, with a buffer of b bytes and data of d; Valid where a call can stand, Built in which phases one that is
-- no construction, meaning what is left of its program
module _ {F C S P A : Type 0} (driver : Driver F C S A) (parts : Parts S P A C) (Valid : Place S P → Type 0) (Built : P → Type 0) (meaning : Place S P → ℕ → Prog (Left S A)) where
  module _ (s : S) (c : C) (b d : ℕ) where
    abbrev sort : Sort S
    sort = driver.sort c b d

    abbrev program : Prog (Left S A)
    program = driver.program s c b d

    pub record Construction (fresh : S) : Type 0 where
      pub sorted : sort ≡ constructs fresh
      pub follows : driver.in_bounds fresh ≡ true → program ≡ ask Transfer.Raise (meaning (place fresh parts.raised))
      pub valid : driver.in_bounds fresh ≡ true → Valid (place fresh parts.raised)
      -- it does not look at what was there before
      pub alike : (before : S) → driver.program before c b d ≡ program

    pub record Accessor (answer : A) : Type 0 where
      pub sorted : sort ≡ tells
      pub follows : program ≡ ret (leaving s answer)

    pub record Release : Type 0 where
      pub sorted : sort ≡ releases
      pub follows : program ≡ ret (leaving s parts.done)

    pub record Use (takes : Takes) (then : Then S P A) : Type 0 where
      pub sorted : sort ≡ uses takes
      pub follows : driver.in_bounds s ≡ true → program ≡ tree meaning (decide then)
      pub valid : driver.in_bounds s ≡ true → Onward Valid (decide then)
      pub stays : Stays Built s then
      pub selects : SelectsFirst then

    abbrev pub OpensAs : Opening S P A → Type 0
    OpensAs (constructing fresh) = Construction fresh
    OpensAs (telling answer) = Accessor answer
    OpensAs releasing = Release
    OpensAs (working takes then) = Use takes then

  pub record Supplies : Type 0 where
    pub simulates : Simulates Valid (decide_next parts) meaning
    pub opens : (s : S) (c : C) (b d : ℕ) → OpensAs s c b d (parts.opening s c b d)
    -- by the length of what the call takes alone
    pub alike : (s : S) (c : C) (l m : Lent) → SameTaken (takes_at driver c l) l m →
        parts.opening s c (length l.buffer) (length l.given) ≡ parts.opening s c (length m.buffer) (length m.given)
    pub stays : (s : S) (phase : P) (o : Outcome) → Built phase → Stays Built s (parts.next s phase o)
    -- what the programs come to: the delay bound and that it is reached, the actions, a good end
    pub bounded : (s : S) (c : C) (b d : ℕ) → Bounds driver s c b d → Bounded delays (driver.delay_bound s c b d) (driver.program s c b d)
    pub acts : (s : S) (c : C) (b d : ℕ) → Bounds driver s c b d → Bounded actions (driver.most_actions s c b d) (driver.program s c b d)
    pub reached : (s : S) (c : C) (b : ℕ) (given : List ℕ) → Bounds driver s c b (length given) → AllBytes given → Asks (driver.program s c b (length given)) →
        Reaches given delays (driver.delay_bound s c b (length given)) (driver.program s c b (length given))
    pub ends_well : (s : S) (c : C) (b : ℕ) (given : List ℕ) → Bounds driver s c b (length given) → AllBytes given → Asks (driver.program s c b (length given)) →
        driver.can_end s c b (length given) ≡ true → (n : ℕ) × (left : Left S A) × Ends given delays n left (driver.program s c b (length given))
    pub never : (s : S) (c : C) (b d : ℕ) → Bounds driver s c b d → driver.can_end s c b d ≡ false → Never (driver.program s c b d)
    pub lent : (s : S) (c : C) (b d : ℕ) → Bounds driver s c b d → LendsAs driver s c b d (takes_of (driver.sort c b d))
    pub dataless : (s : S) (c : C) (b d : ℕ) → Bounds driver s c b d → LooksAs driver s c b d (takes_of (driver.sort c b d))
    pub pays : (s : S) (c : C) (b d : ℕ) → Bounds driver s c b d → let all = payloads_of (takes_of (driver.sort c b d)) (driver.stamps s c) in Pays all all (driver.program s c b d)

-- all that is known of a driver
pub record Known {F C S A : Type 0} (driver : Driver F C S A) : Type 1 where
  pub P : Type 0
  pub parts : Parts S P A C
  pub Valid : Place S P → Type 0
  pub Built : P → Type 0
  pub meaning : Place S P → ℕ → Prog (Left S A)
  pub supplies : Supplies driver parts Valid Built meaning
  pub is : Is driver parts

-- where validity is a matter of what the driver holds, a call that keeps it stays valid
pub onward-stays : {S P A : Type 0} (Valid : Place S P → Type 0) (Built : P → Type 0) (s : S) → ((phase : P) → Built phase → Valid (place s phase)) →
    (x : Then S P A) → Stays Built s x → Onward Valid (decide x)
onward-stays Valid Built s v (General.go setup t phase) h = subst (λ x. Valid (place x phase)) (sym h.0) (v phase h.1)
onward-stays Valid Built s v (General.end setup answer) h = tt
onward-stays Valid Built s v (General.fail error) h = tt

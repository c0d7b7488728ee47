-- Where a call has ended well, its program ends so on the same replies.
use Prim.Native.Nat.{ℕ}
use native.Mathlib.Omega.{arith}
use mathlib.Core.Bool.{false}
use mathlib.Core.Logic.{inl, inr}
use mathlib.Core.Option.{none, some}
use mathlib.Core.Path.{◌≡◌, refl, ap, sym, ◌∙◌, subst}
use mathlib.Core.List.{List, [], ◌∷◌, ◌++◌}
use Rattle.qspi.specs.Frame.{first_of}
use Rattle.qspi.specs.Bytes.{delivered_of}
use Rattle.spi_flash.specs.Loan.{Lent}
use Rattle.spi_flash.proofs.Machine.{out, machine}
use Rattle.spi_flash.specs.OnBus.{BusProg, answers, stops, does, fills, program_on_bus, performed}
use Rattle.spi_flash.specs.Run.{Event, Answer, Given, act, ended, failed, refused, Entry, System, goes_on, Fitting, answering, Lending}
use Rattle.spi_flash.specs.Seen.{told, gives_of, replies_of, accepted, Taken, SameData}
use Rattle.spi_flash.specs.declared.loan.Takes.{Takes}
use Rattle.spi_flash.proofs.Heeded.{Heeds, heeds}
use Rattle.spi_flash.proofs.Performs.{events_of, looking-given}
use Rattle.flash_runs.specs.Driver.{Left, Driver, takes_at, program_at, steps_at}
use Rattle.flash_runs.specs.SameAsRust.{LendsData, rust_call, left_by}
use Rattle.flash_runs.proofs.General.{decide_next}
use Rattle.flash_runs.proofs.SameAsRust.{left-as, opened-does}
use Rattle.flash_runs.proofs.Supplies.{Known}
use Rattle.flash_runs.proofs.Views.{shape, Opens, on_machine, opens-call}

none-left : {S A : Type 0} {left : Left S A} → none ≡ some left → ⊥
none-left h = let z : ◌≡◌ {A = ℕ} 0 1 = cc in omega arith

-- what a program leaves does not change with further replies
more-left : {S A : Type 0} (p : BusProg (Left S A)) (rs later : List Answer) (buffer : List ℕ) (left : Left S A) →
    left_by (performed p rs buffer) ≡ some left → left_by (performed p (rs ++ later) buffer) ≡ some left
unfolding performed
more-left (answers a) rs later buffer left h = h
more-left (stops e) rs later buffer left h = h
more-left (does shown k) [] later buffer left h = absurd (none-left h)
more-left (does shown k) (r ∷ rs) later buffer left h = more-left (k r) rs later buffer left h
more-left (fills at bytes p) rs later buffer left h = more-left p rs later (delivered_of buffer at bytes) left h

-- ---- the same data

taken : {A : Type 0} (g : Given A) {P : Type 0} → P → Taken g P
taken (act shown) p = p
taken (ended a) p = p
taken (failed e) p = p
taken (refused e) p = tt

pub lending-data : {F C A : Type 0} (system : System F C A) (f : F) (takes : Takes) (given : List ℕ) (rs : List Answer) (ls : List Lent) →
    Lending takes given ls → SameData given (goes_on system f (answering rs ls))
unfolding goes_on SameData
lending-data system f takes given [] ls w = tt
lending-data system f takes given (a ∷ rs) [] w = tt
lending-data system f takes given (a ∷ rs) (l ∷ ls) w =
    let m = system.answer f a.kind a.bytes l in
    (taken m.given w.1, lending-data system m.flash takes given rs ls w.2)

-- ---- a call that goes to the bus

module _ {F C S A : Type 0} {driver : Driver F C S A} (known : Known driver) (flash : F) (c : C) (l : Lent) (o : Opens known (shape known flash) c l) (es : List (Event C)) where
  abbrev takes : Takes
  takes = takes_at driver c l

  abbrev steps : List (Entry C (Left S A))
  steps = steps_at driver flash c l es

  abbrev entries : List (Entry C (Left S A))
  entries = goes_on (machine (decide_next known.parts) C) (out takes o.at (first_of o.first)) es

  abbrev p : BusProg (Left S A)
  p = program_on_bus l.given (program_at driver (driver.setup flash) c l)

  abbrev heeded : List (Entry C (Left S A)) → List Answer
  heeded xs = replies_of (events_of (accepted xs))

  lends-data : (k : Takes) → SameData l.given entries → LendsData k l.given (on_machine known o es)
  unfolding SameData
  lends-data Takes.Nothing h = tt
  lends-data (Takes.Buffer n) h = tt
  lends-data (Takes.Data n) h = (refl, h)

  module _ (left : Left S A) (fits : Fitting (on_machine known o es)) (data' : SameData l.given entries) (ends : left_by (told steps) ≡ some left) where
    same : left_by (performed p (heeded steps) l.buffer) ≡ some left
    same =
        let lent = subst (LendsData takes l.given) (sym (opens-call known flash o es)) (lends-data takes data') in
        let d = opened-does known flash c l es o false lent tt in
        sym (left-as steps (performed p (heeded steps) l.buffer) (sym (looking-given _) ∙ ap gives_of d ∙ looking-given _)) ∙ ends

    all : Heeds (decide_next known.parts) takes es (on_machine known o es)
    unfolding Fitting accepted told
    all = heeds (decide_next known.parts) takes o.at (first_of o.first) es fits

    enough : Heeds (decide_next known.parts) takes es steps → left_by (rust_call driver (driver.setup flash) c l es) ≡ some left
    enough (inl e) = ap (λ rs. left_by (performed p rs l.buffer)) (sym e) ∙ same
    enough (inr h) = ap (λ rs. left_by (performed p rs l.buffer)) (sym h.1.whole) ∙ more-left p (heeded steps) h.1.rest l.buffer left same

    pub ends-as-rust : left_by (rust_call driver (driver.setup flash) c l es) ≡ some left
    ends-as-rust = enough (subst (Heeds (decide_next known.parts) takes es) (sym (opens-call known flash o es)) all)

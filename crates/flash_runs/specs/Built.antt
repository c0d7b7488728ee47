-- From a driver before any construction on, whatever is asked of it: a driver that is built is inside the bounds, so that they are
-- asked of constructions alone (docs/SPECIFICATION.md, "Geometry" and "Same as the Rust").
use Rattle.std.specs.Prelude.{ℕ, ◌≤◌, true, false, ◌≡◌, List, [], ◌∷◌, map}
use Rattle.std.proofs.Math.Option.{none}
use Rattle.spi_flash.specs.Loan.{Lent}
use Rattle.spi_flash.specs.Run.{Event, HasEnded}
use Rattle.spi_flash.specs.Seen.{gives_of}
use Rattle.flash_runs.specs.Driver.{Sort, constructs, tells, releases, uses, Driver, sort_at, takes_at, steps_at}
use Rattle.flash_runs.specs.SameAsRust.{Turn, LendsData, Ready, Steady, turn_after, EachTurn, turn_by_turn, Alone, turn_does, turn_gives, heeding_turn, rust_session}

abbrev pub UsesBus : {S : Type 0} → Sort S → Type 0
UsesBus (uses takes) = Unit {0}
UsesBus _ = ⊥

module _ {F C S A : Type 0} (driver : Driver F C S A) where
  -- the state behind calls and their events
  unfoldable pub after_turns : F → List (Turn C) → F
  after_turns flash [] = flash
  after_turns flash (x ∷ xs) = after_turns (turn_after driver flash x) xs

  -- what a construction is given is inside the bounds
  abbrev pub GivenInside : Sort S → Type 0
  GivenInside (constructs own) = driver.in_bounds own ≡ true
  GivenInside tells = Unit {0}
  GivenInside releases = Unit {0}
  GivenInside (uses takes) = Unit {0}

  -- a call that the Rust could be asked for, with the same data lent throughout, where it takes data; the bounds only of a construction
  pub record Admissible (flash : F) (call : C) (l : Lent) (es : List (Event C)) : Type 0 where
    pub idle : driver.system.running flash ≡ false
    pub ready : Ready driver (sort_at driver call l) flash l
    pub inside : GivenInside (sort_at driver call l)
    pub same_data : LendsData (takes_at driver call l) l.given (steps_at driver flash call l es)

  abbrev pub AllAdmissible : List (Turn C) → Type 0
  AllAdmissible turns = EachTurn driver (λ flash x. Admissible flash x.call x.lent x.events) driver.fresh turns

  -- such a session, so that what is said of them is said of something: the first call is a construction, for nothing else is admissible there,
  -- and the second uses the bus and ends
  pub record UsedOnceBuilt : Type 0 where
    pub make : Turn C
    pub later : Turn C
    pub admissible : AllAdmissible (make ∷ later ∷ [])
    pub on_bus : UsesBus (sort_at driver later.call later.lent)
    pub ends : HasEnded (steps_at driver (turn_after driver driver.fresh make) later.call later.lent later.events)

  -- of a driver whose page is at most so long once it is built
  pub record BuiltInside (page_of : S → ℕ) (most : ℕ) : Type 0 where
    -- whatever calls came before, with whatever lent and whatever events, refused ones among them
    pub inside : (turns : List (Turn C)) → driver.built (after_turns driver.fresh turns) ≡ true → driver.in_bounds (driver.setup (after_turns driver.fresh turns)) ≡ true
    pub page : (turns : List (Turn C)) → driver.built (after_turns driver.fresh turns) ≡ true → page_of (driver.setup (after_turns driver.fresh turns)) ≤ most
    -- so that what is said of calls on geometries inside the bounds holds where constructions are given such
    pub steady : (turns : List (Turn C)) → AllAdmissible turns → EachTurn driver (λ flash x. Steady driver flash x.call x.lent x.events) driver.fresh turns
    -- and so the calls give what the Rust's give, from the first construction on
    pub sessions : (turns : List (Turn C)) → AllAdmissible turns →
        turn_by_turn driver (turn_gives driver) driver.fresh turns ≡ map gives_of (rust_session driver (heeding_turn driver) none turns)
    -- with every delivered byte, where in every call nobody else writes into the buffer
    pub delivered_sessions : (turns : List (Turn C)) → AllAdmissible turns → EachTurn driver (Alone driver) driver.fresh turns →
        turn_by_turn driver (turn_does driver) driver.fresh turns ≡ rust_session driver (heeding_turn driver) none turns

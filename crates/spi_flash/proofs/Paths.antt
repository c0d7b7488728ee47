-- More that the lemmas say of the paths through a program (specs/Path.antt).
use Rattle.std.specs.Prelude.{ℕ, ◌≤◌, ◌≡◌, List, [], ◌∷◌, ◌++◌}
use Rattle.qspi.specs.declared.transfer.Body.{Body}
use Rattle.qspi.specs.declared.transfer.Transfer.{Transfer}
use Rattle.spi_flash.specs.Prog.{Prog}
use Rattle.spi_flash.specs.Path.{Past, back, End, going, done, failed, Every, Some, spent, asked, Prefix}

-- the actions of a transfer
abbrev pub actions : Transfer → ℕ
actions Transfer.Raise = 1
actions (Transfer.Pause us) = 1
actions (Transfer.Framed c Body.None) = 3
actions (Transfer.Framed c (Body.Read n sink)) = 4
actions (Transfer.Framed c (Body.Write payload)) = 4
actions (Transfer.Framed c (Body.QuadRead tclqv margin n sink)) = 3
actions (Transfer.Framed c (Body.QuadWrite payload)) = 3

-- a statement of a path that has ended well, and nothing of any other
abbrev pub IfWell : {A : Type 0} → (A → List Past → Type 0) → List Past → End A → Type 0
IfWell P past (going t) = Unit {0}
IfWell P past (done a) = P a past
IfWell P past (failed e) = Unit {0}

-- what a path has shown so far
abbrev pub seen : {X : Type 0} → (Transfer → List X) → List Past → List X
seen observe [] = []
seen observe (back t outcome ∷ past) = observe t ++ seen observe past

-- so far a beginning of ys; at a good end all of it
abbrev pub Giving : {X A : Type 0} → (Transfer → List X) → List X → List Past → End A → Type 0
Giving observe ys past (going t) = Prefix (seen observe past ++ observe t) ys
Giving observe ys past (done a) = seen observe past ≡ ys
Giving observe ys past (failed e) = Prefix (seen observe past) ys

-- on the caller's data, some path of fitting replies comes to exactly b
pub record Reaches {A : Type 0} (given : List ℕ) (weight : Transfer → ℕ) (b : ℕ) (p : Prog A) : Type 0 where
  pub reach : Some given p (λ past end. asked weight past end ≡ b)

-- every path that ends well has come to b or more
pub record AtLeast {A : Type 0} (weight : Transfer → ℕ) (b : ℕ) (p : Prog A) : Type 0 where
  pub least : Every p (IfWell (λ a past. b ≤ spent weight past))

-- no path ends well
pub record Never {A : Type 0} (p : Prog A) : Type 0 where
  pub never : Every p (IfWell (λ a past. ⊥))

-- every path has given out a beginning of ys, by an observation of each transfer, and at a good end all of it
pub record Gives {X A : Type 0} (observe : Transfer → List X) (ys : List X) (p : Prog A) : Type 0 where
  pub gives : Every p (Giving observe ys)

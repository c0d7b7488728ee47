-- The number with which a step has ended the call: 0 is success (docs/SPECIFICATION.md, "Refusals and numbers").
use Rattle.std.specs.Prelude.{ℕ, ◌≡◌, List, []}
use Rattle.spi_flash.specs.Ending.{ending_in, number_in}
use Rattle.machine.specs.Shape.{given_as}
use Rattle.machine.specs.declared.state.Given.{Given}

-- the number of the call's ending, whose values are not looked at; 0 also for an action, with which the call goes on
abbrev pub number_of : {A : Type 0} → Given A → ℕ
number_of given = number_in (ending_in (λ answer. []) (given_as given))

-- whatever values the answers have
abbrev pub NumbersAgree : Type 0 → Type 0
NumbersAgree A = (values : A → List ℕ) (given : Given A) → number_of given ≡ number_in (ending_in values (given_as given))

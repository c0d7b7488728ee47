-- The machine's structs and enums stand for what its shape says.
use Prim.Native.Nat.{ℕ}
use mathlib.Core.Bool.{Bool}
use mathlib.Core.Path.{◌≡◌, refl}
use Rattle.std.specs.Prelude.{Option, Some, None}
use Rattle.spi_flash.proofs.Faithful.{viewed, back, Faithful}
use Rattle.machine.specs.Shape.{flash_of, shape}
use Rattle.machine.specs.declared.state.Job.{Job}

whole-at : {S P : Type 0} (A : Type 0) (setup : S) (built : Bool) (delivered : ℕ) (running : Option (Job P)) →
    back (shape {A = A}) (viewed (shape {A = A}) (flash_of setup built delivered running)) ≡ flash_of setup built delivered running
whole-at A setup built delivered None = refl
whole-at A setup built delivered (Some job) = refl

pub faithful : {S P A : Type 0} → Faithful (shape {S = S} {P = P} {A = A})
faithful {S} {P} {A} = record {
  resting = λ setup built delivered. refl;
  out = λ setup built delivered phase frame takes. refl;
  whole = λ flash. whole-at A flash.setup flash.built flash.delivered flash.running;
  acting = λ flash action. record { given = refl; after = refl };
  ended = λ flash answer. record { given = refl; after = refl };
  failed = λ flash error. record { given = refl; after = refl };
  refused = λ flash error. record { given = refl; after = refl };
}

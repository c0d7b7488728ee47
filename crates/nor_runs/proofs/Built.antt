-- A NOR driver that is built is inside the bounds, with a page of at most 512.
use Rattle.std.specs.Prelude.{Ok, Err, Option, Some, None}
use Prim.Native.Nat.{ℕ, ◌≤◌}
use mathlib.Core.Bool.{true}
use mathlib.Core.Path.{◌≡◌}
use lib.Dec.{leb}
use borrow.Author.Tests.{leb-true}
use Rattle.qspi.specs.Frame.{Outcome}
use Rattle.qspi.proofs.Cases.{by_cases}
use Rattle.flash_runs.specs.Built.{BuiltInside}
use Rattle.flash_runs.proofs.Built as Built
use Rattle.spi_nor.specs.Config.{in_bounds_of}
use Rattle.spi_nor.specs.declared.config.NorQuadConfig.{NorQuadConfig}
use Rattle.spi_nor.specs.declared.phase.Phase.{Phase}
use Rattle.spi_nor.specs.declared.setup.Setup.{Setup}
use Rattle.nor_driver.specs.Next.{next_of, after_phase}
use Rattle.nor_driver.specs.Settle.{then_as}
use Rattle.nor_steps.specs.Then.{Then}
use Rattle.nor_steps.specs.Register.{id_of, device_for, known_as, built_then, identified_then}
use Rattle.nor_runs.specs.Run.{nor_driver}
use Rattle.nor_runs.proofs.Keeps.{keeps-known, keeps-built}
use Rattle.nor_runs.proofs.Places.{Place, nor_parts}
use Rattle.nor_runs.proofs.Places as Places
use Rattle.nor_runs.proofs.Promises.{known}

-- a device of a driver that is built
abbrev Sound : Setup → Type 0
Sound s = (in_bounds_of s.device ≡ true) × (s.device.page_size ≤ 512)

-- while a construction runs: until the id is known the page has not been judged
abbrev MakingAt : Setup → Phase → Type 0
MakingAt s Phase.Raised = in_bounds_of s.device ≡ true
MakingAt s Phase.Identify = in_bounds_of s.device ≡ true
MakingAt s phase = Sound s

abbrev Making : Place → Type 0
Making p = MakingAt p.setup p.phase

abbrev Makes : Then → Type 0
Makes x = Built.MakingThen nor_parts nor_driver.in_bounds Places.Built Sound Making (then_as x)

sound-making : (s : Setup) → Sound s → (phase : Phase) → Places.Built phase → MakingAt s phase
sound-making s h Phase.Raised b = absurd b
sound-making s h Phase.Identify b = absurd b
sound-making s h phase b = h

module _ (s : Setup) where
  quads : (q : Option NorQuadConfig) (v : ℕ) → Sound (known_as s v) → Makes (built_then q (known_as s v))
  quads None v h = h
  quads (Some q) v h = h

  identifies : (v : ℕ) → in_bounds_of s.device ≡ true → Makes (identified_then s v)
  unfolding identified_then
  identifies v h =
      by_cases (leb (device_for s (id_of v)).page_size 512)
      (λ taken. rw taken (quads s.config.quad v (keeps-known s h v, leb-true _ 512 taken)))
      (λ large. rw large tt)

makes : (s : Setup) (phase : Phase) (o : Outcome) → MakingAt s phase → Makes (next_of s phase o)
unfolding next_of after_phase
makes s phase (Err error) h = tt
makes s Phase.Raised (Ok v) h = h
makes s Phase.Identify (Ok v) h = identifies s v h
makes s phase (Ok v) h = keeps-built Makes s (record { go = λ t phase b. sound-making s h phase b; end = λ answer. h; fail = λ e. tt }) phase tt v

pub nor-built : BuiltInside nor_driver (λ s. s.device.page_size) 512
nor-built = Built.built-inside known (λ s. s.device.page_size) 512 Making makes (λ own inside. inside)

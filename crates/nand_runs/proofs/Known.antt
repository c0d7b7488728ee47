-- All that is known of the NAND driver: it is the general driver, and what its calls' programs come to.
use Prim.Native.Nat.{ℕ}
use mathlib.Core.Bool.{true, false}
use mathlib.Core.Path.{◌≡◌, refl, sym, ◌∙◌, subst}
use mathlib.Core.List.{List}
use lib.ListN.{length}
use Rattle.qspi.specs.Bytes.{AllBytes}
use Rattle.spi_flash.specs.Path.{delays, Bounded, Ends}
use Rattle.spi_flash.proofs.Paths.{actions, Reaches, Never}
use Rattle.flash_runs.specs.Driver.{works_on}
use Rattle.flash_runs.proofs.Supplies.{Asks, Bounds, Supplies, Known}
use Rattle.spi_nand.specs.declared.call.Call.{Call}
use Rattle.spi_nand.specs.declared.phase.Phase.{Phase}
use Rattle.spi_nand.specs.declared.setup.Setup.{Setup}
use Rattle.nand_runs.specs.Bound.{delay_bound, weight_of, most_actions, can_end}
use Rattle.nand_runs.specs.Program.{Left, rust_program, program_of}
use Rattle.nand_runs.proofs.Agrees as Agrees
use Rattle.nand_runs.proofs.Begins.{Begins, begins}
use Rattle.nand_runs.proofs.ProgramBounds.{program-bounds}
use Rattle.nand_runs.specs.Run.{sort_of, nand_driver}
use Rattle.nand_runs.proofs.Places.{parts, Valid}
use Rattle.nand_runs.proofs.Keeps.{Built, stays-next}
use Rattle.nand_runs.proofs.Meaning.{meaning}
use Rattle.nand_runs.proofs.Simulation.{simulates}
use Rattle.nand_runs.proofs.Opens.{opens, alike}
use Rattle.nand_runs.proofs.Is.{nand-is}
use Rattle.nand_runs.proofs.Lent.{lent, dataless}
use Rattle.nand_runs.proofs.Stamps.{pays}

-- ---- what a call works on is what its program does: a construction does not look at what was there before

pub record SameWork (s : Setup) (c : Call) (b d : ℕ) : Type 0 where
  pub bound : delay_bound (works_on (sort_of c b d) s) c b ≡ delay_bound s c b
  pub acts : most_actions (works_on (sort_of c b d) s) c b ≡ most_actions s c b
  pub program : program_of (works_on (sort_of c b d) s) c b d ≡ program_of s c b d
  pub ends : can_end (works_on (sort_of c b d) s) c ≡ can_end s c

same-work : (s : Setup) (c : Call) (b d : ℕ) → SameWork s c b d
unfolding sort_of delay_bound weight_of rust_program
same-work s Call.New b d = record { bound = refl; acts = refl; program = refl; ends = refl }
same-work s (Call.WithConfig config) b d = record { bound = refl; acts = refl; program = refl; ends = refl }
same-work s Call.Info b d = record { bound = refl; acts = refl; program = refl; ends = refl }
same-work s Call.Config b d = record { bound = refl; acts = refl; program = refl; ends = refl }
same-work s Call.Geometry b d = record { bound = refl; acts = refl; program = refl; ends = refl }
same-work s Call.Free b d = record { bound = refl; acts = refl; program = refl; ends = refl }
same-work s Call.DisableQuad b d = record { bound = refl; acts = refl; program = refl; ends = refl }
same-work s (Call.WriteRegister register value) b d = record { bound = refl; acts = refl; program = refl; ends = refl }
same-work s Call.WriteEnable b d = record { bound = refl; acts = refl; program = refl; ends = refl }
same-work s Call.ReadStatus b d = record { bound = refl; acts = refl; program = refl; ends = refl }
same-work s Call.ReadConfiguration b d = record { bound = refl; acts = refl; program = refl; ends = refl }
same-work s Call.ReadProtection b d = record { bound = refl; acts = refl; program = refl; ends = refl }
same-work s Call.Reset b d = record { bound = refl; acts = refl; program = refl; ends = refl }
same-work s Call.JedecId b d = record { bound = refl; acts = refl; program = refl; ends = refl }
same-work s Call.ResetAndIdentify b d = record { bound = refl; acts = refl; program = refl; ends = refl }
same-work s Call.EnsureConfiguration b d = record { bound = refl; acts = refl; program = refl; ends = refl }
same-work s Call.Unprotect b d = record { bound = refl; acts = refl; program = refl; ends = refl }
same-work s (Call.PageRead page) b d = record { bound = refl; acts = refl; program = refl; ends = refl }
same-work s (Call.ReadCache column) b d = record { bound = refl; acts = refl; program = refl; ends = refl }
same-work s (Call.LoadProgramData column) b d = record { bound = refl; acts = refl; program = refl; ends = refl }
same-work s (Call.ProgramExecute page) b d = record { bound = refl; acts = refl; program = refl; ends = refl }
same-work s (Call.ReadPage page) b d = record { bound = refl; acts = refl; program = refl; ends = refl }
same-work s (Call.WritePage page) b d = record { bound = refl; acts = refl; program = refl; ends = refl }
same-work s (Call.EraseBlock block) b d = record { bound = refl; acts = refl; program = refl; ends = refl }
same-work s (Call.Read offset) b d = record { bound = refl; acts = refl; program = refl; ends = refl }
same-work s (Call.IsBadBlock block) b d = record { bound = refl; acts = refl; program = refl; ends = refl }
same-work s (Call.MarkBadBlock block) b d = record { bound = refl; acts = refl; program = refl; ends = refl }

-- ---- all that is to be supplied

module _ (s : Setup) (c : Call) (b : ℕ) where
  abbrev Within : ℕ → Type 0
  Within d = Bounds nand_driver s c b d

  bounded : (d : ℕ) → Within d → Bounded delays (delay_bound s c b) (program_of s c b d)
  bounded d h =
      let same = same-work s c b d in
      subst (λ n. Bounded delays n (program_of s c b d)) same.bound
      (subst (Bounded delays (delay_bound (works_on (sort_of c b d) s) c b)) same.program (program-bounds.bounded (works_on (sort_of c b d) s) h c b d))

  acts : (d : ℕ) → Within d → Bounded actions (most_actions s c b) (program_of s c b d)
  acts d h =
      let same = same-work s c b d in
      subst (λ n. Bounded actions n (program_of s c b d)) same.acts
      (subst (Bounded actions (most_actions (works_on (sort_of c b d) s) c b)) same.program (program-bounds.acts (works_on (sort_of c b d) s) h c b d))

  never : (d : ℕ) → Within d → can_end s c ≡ false → Never (program_of s c b d)
  never d h cannot =
      let same = same-work s c b d in
      subst Never same.program (program-bounds.never_ends (works_on (sort_of c b d) s) h c b d (same.ends ∙ cannot))

  module _ (given : List ℕ) (h : Within (length given)) (small : AllBytes given) (asks : Asks (program_of s c b (length given))) where
    abbrev held : Setup
    held = works_on (sort_of c b (length given)) s

    same : SameWork s c b (length given)
    same = same-work s c b (length given)

    begun : Begins held c b (length given)
    begun = begins held b (length given) c (subst Asks (sym same.program ∙ Agrees.same held h c b (length given)) asks)

    reached : Reaches given delays (delay_bound s c b) (program_of s c b (length given))
    reached =
        subst (λ n. Reaches given delays n (program_of s c b (length given))) same.bound
        (subst (Reaches given delays (delay_bound held c b)) same.program (program-bounds.reached held h c b given small begun))

    ends-well : can_end s c ≡ true → (n : ℕ) × (left : Left) × Ends given delays n left (program_of s c b (length given))
    ends-well can =
        let e = program-bounds.ends_well held h c b given small begun (subst (λ x. x ≡ true) (sym same.ends) can) in
        (e.0, e.1, subst (Ends given delays e.0 e.1) same.program e.2)

pub supplies : Supplies nand_driver parts Valid Built meaning
supplies = record {
  simulates = simulates;
  opens = opens;
  alike = alike;
  stays = stays-next;
  bounded = λ s c b d h. bounded s c b d h;
  acts = λ s c b d h. acts s c b d h;
  reached = λ s c b given h small asks. reached s c b given h small asks;
  ends_well = λ s c b given h small asks can. ends-well s c b given h small asks can;
  never = λ s c b d h cannot. never s c b d h cannot;
  lent = lent;
  dataless = dataless;
  pays = pays;
}

abbrev pub known : Known nand_driver
known = record { P = Phase; parts = parts; Valid = Valid; Built = Built; meaning = meaning; supplies = supplies; is = nand-is }

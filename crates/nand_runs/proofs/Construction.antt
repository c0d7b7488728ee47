-- A construction does what the Rust's does, where its page is taken; else it ends behind the identification.
use Prim.Native.Nat.{ℕ, ◌%◌}
use mathlib.Core.Bool.{true, false, not, true≢false}
use mathlib.Core.Path.{◌≡◌, refl, ap, sym, ◌∙◌, fun_ext}
use lib.Dec.{ltb, leb}
use borrow.Author.Tests.{leb-true, le-leb, le-ltb}
use Rattle.qspi.specs.declared.transfer.Transfer.{Transfer}
use Rattle.qspi.proofs.Cases.{by_cases}
use Rattle.std.specs.Prelude.{if◌then◌else◌, Option, Some, None}
use Rattle.spi_flash.specs.Prog.{Prog, ret, fail, ask, ◌>>=◌, ◌>>◌, refuse}
use Rattle.spi_flash.specs.declared.error.FlashError.{FlashError}
use Rattle.spi_flash.proofs.Laws.{bind_assoc}
use Rattle.flash_runs.proofs.General.{place}
use Rattle.spi_nand.specs.Opcode.{REG-CONFIGURATION, REG-BLOCK-PROTECTION}
use Rattle.spi_nand.specs.Status.{configuration_of, configuration_byte, protection_of, is_unlocked}
use Rattle.spi_nand.specs.declared.config.NandGeometry.{NandGeometry}
use Rattle.spi_nand.specs.declared.config.NandInit.{NandInit}
use Rattle.spi_nand.specs.declared.config.NandJedecId.{NandJedecId}
use Rattle.spi_nand.specs.declared.config.SpiNandConfig.{SpiNandConfig}
use Rattle.spi_nand.specs.declared.status.Configuration.{Configuration}
use Rattle.spi_nand.specs.declared.status.Protection.{Protection}
use Rattle.spi_nand.proofs.Geometries.{geometries-hold}
use Rattle.spi_nand.specs.Setup.{init_of, setup_of, identified_as, with_before}
use Rattle.spi_nand.specs.Transfer.{register_transfer}
use Rattle.spi_nand.specs.declared.call.Call.{Call}
use Rattle.spi_nand.specs.declared.phase.Phase.{Phase}
use Rattle.spi_nand.specs.declared.setup.Setup.{Setup}
use Rattle.nand_steps.specs.Register.{geometry_at, geometry_for}
use Rattle.nand_driver.specs.Call.{given_at, fresh_setup}
use Rattle.nand_runs.specs.Rust.{equals, Nothing, MAX-VERIFY-PAGE-SIZE, wanted-of, read-configuration, read-protection, write-register, reset, jedec-id, reset-and-identify, ensure-configuration, unprotect, bring-up}
use Rattle.nand_runs.proofs.AsCoded.{resolved, constructed, with-config}
use Rattle.nand_runs.specs.Program.{Left, page_taken, refused-page, rust_program}
use Rattle.nand_runs.proofs.AsCoded.{coded, coded_rust}
use Rattle.nand_runs.proofs.Meaning.{DONE, brought-up, unprotected, unprotect-on, configured, check-configured, configure-on, identified, meaning_at, meaning}

-- ---- bring_up behind the identification

module _ (config : SpiNandConfig) (id : NandJedecId) (g : NandGeometry) where
  abbrev identity : Setup
  identity = identified_as (fresh_setup config) g id

  -- what is made of what was read
  abbrev ends : Configuration → Protection → Configuration → Prog Left
  ends before protection after = DONE (setup_of config g (init_of id before after protection))

  abbrev configuring : Configuration → Prog Nothing
  configuring before =
      if not (equals (wanted-of config before) before)
      then (write-register REG-CONFIGURATION (configuration_byte (wanted-of config before))
      >> (read-configuration >>= (λ after. refuse (not (equals after (wanted-of config before))) FlashError.NotSupported)))
      else ret tt

  abbrev unlocking : Protection → Prog Nothing
  unlocking before = if not (is_unlocked before) then write-register REG-BLOCK-PROTECTION 0x00 else ret tt

  unlocked : (before : Configuration) → unprotect >>= (λ protection. read-configuration >>= ends before protection)
      ≡ read-protection >>= unprotect-on (with_before identity before) true
  unfolding unprotect read-protection unprotect-on unprotected read-configuration brought-up ◌>>=◌ ◌>>◌
  unlocked before =
      ap (ask (register_transfer REG-BLOCK-PROTECTION))
      (fun_ext (λ v. bind_assoc (unlocking (protection_of (v % 256))) (λ u. ret (protection_of (v % 256))) (λ protection. read-configuration >>= ends before protection)))

  brought : ensure-configuration config >>= (λ before. unprotect >>= (λ protection. read-configuration >>= ends before protection))
      ≡ read-configuration >>= configure-on identity true
  unfolding ensure-configuration read-configuration configure-on configured check-configured ◌>>=◌ ◌>>◌
  brought =
      ap (ask (register_transfer REG-CONFIGURATION))
      (fun_ext (λ v. let before = configuration_of (v % 256) in
      bind_assoc (configuring before) (λ u. ret before) (λ c. unprotect >>= (λ protection. read-configuration >>= ends c protection))
      ∙ ap (λ p. configuring before >> p) (unlocked before)))

-- ---- the whole construction

-- the geometry that the driver holds is the Rust's
resolves : (config : SpiNandConfig) (id : NandJedecId) → geometry_for (fresh_setup config) id ≡ resolved config.geometry id
unfolding geometry_for
resolves config id = at config.geometry
  where
    at : (setting : Option NandGeometry) → geometry_at setting (given_at setting) id ≡ resolved setting id
    at None = refl
    at (Some own) = refl

-- a page that is taken, whatever the id
small : (setting : Option NandGeometry) (id : NandJedecId) → page_taken setting ≡ true → leb (resolved setting id).page_size MAX-VERIFY-PAGE-SIZE ≡ true
small None id h = le-leb _ MAX-VERIFY-PAGE-SIZE (geometries-hold.known id).page
small (Some own) id h = h

large : (setting : Option NandGeometry) (id : NandJedecId) → page_taken setting ≡ false → leb (resolved setting id).page_size MAX-VERIFY-PAGE-SIZE ≡ false
large None id h = absurd (true≢false h)
large (Some own) id h = h

-- what follows the id, by the page
module _ (s : Setup) (id : NandJedecId) (g : NandGeometry) (is : geometry_for s id ≡ g) where
  identified-taken : leb g.page_size MAX-VERIFY-PAGE-SIZE ≡ true → identified s id ≡ read-configuration >>= configure-on (identified_as s g id) true
  unfolding identified
  identified-taken h = rw (is, h) refl

  identified-large : leb g.page_size MAX-VERIFY-PAGE-SIZE ≡ false → identified s id ≡ fail FlashError.NotSupported
  unfolding identified
  identified-large h = rw (is, h) refl

returns : {A B : Type 0} (a : A) (f : A → Prog B) → ret a >>= f ≡ f a
unfolding ◌>>=◌
returns a f = refl

module _ (config : SpiNandConfig) where
  abbrev fresh : Setup
  fresh = fresh_setup config

  abbrev finished : NandInit → Prog Left
  finished init =
      (refuse (ltb MAX-VERIFY-PAGE-SIZE (constructed config init).geometry.page_size) FlashError.NotSupported >> ret (constructed config init)) >>= DONE

  module _ (taken : page_taken config.geometry ≡ true) where
    accepts : (id : NandJedecId) (before after : Configuration) (protection : Protection) →
        finished (init_of id before after protection) ≡ DONE (constructed config (init_of id before after protection))
    unfolding refuse ◌>>=◌ ◌>>◌
    accepts id before after protection =
        rw (le-ltb MAX-VERIFY-PAGE-SIZE (resolved config.geometry id).page_size (leb-true _ MAX-VERIFY-PAGE-SIZE (small config.geometry id taken)))

    tells : (id : NandJedecId) (before : Configuration) (protection : Protection) →
        (read-configuration >>= (λ after. ret (init_of id before after protection))) >>= finished
        ≡ read-configuration >>= ends config id (resolved config.geometry id) before protection
    tells id before protection =
        bind_assoc read-configuration (λ after. ret (init_of id before after protection)) finished
        ∙ ap (λ f. read-configuration >>= f) (fun_ext (λ after. accepted-at after))
      where
        accepted-at : (after : Configuration) → ret (init_of id before after protection) >>= finished ≡ ends config id (resolved config.geometry id) before protection after
        accepted-at after = returns (init_of id before after protection) finished ∙ accepts id before after protection

    unprotects : (id : NandJedecId) (before : Configuration) →
        (unprotect >>= (λ protection. read-configuration >>= (λ after. ret (init_of id before after protection)))) >>= finished
        ≡ unprotect >>= (λ protection. read-configuration >>= ends config id (resolved config.geometry id) before protection)
    unprotects id before =
        bind_assoc unprotect (λ protection. read-configuration >>= (λ after. ret (init_of id before after protection))) finished
        ∙ ap (λ f. unprotect >>= f) (fun_ext (λ protection. tells id before protection))

    known : (id : NandJedecId) →
        (ensure-configuration config >>= (λ before. unprotect >>= (λ protection. read-configuration >>= (λ after. ret (init_of id before after protection))))) >>= finished
        ≡ identified fresh id
    known id =
        bind_assoc (ensure-configuration config) (λ before. unprotect >>= (λ protection. read-configuration >>= (λ after. ret (init_of id before after protection)))) finished
        ∙ ap (λ f. ensure-configuration config >>= f) (fun_ext (λ before. unprotects id before))
        ∙ brought config id (resolved config.geometry id)
        ∙ sym (goes_on id)
      where
        goes_on : (id : NandJedecId) → identified fresh id ≡ read-configuration >>= configure-on (identity config id (resolved config.geometry id)) true
        goes_on id = identified-taken fresh id _ (resolves config id) (small config.geometry id taken)

    builds : with-config config >>= DONE ≡ ask Transfer.Raise (meaning (place fresh Phase.Raised))
    unfolding with-config bring-up reset-and-identify meaning_at ◌>>=◌ ◌>>◌
    builds =
        let rest : NandJedecId → Prog NandInit = λ id. ensure-configuration config >>= (λ before. unprotect >>= (λ protection. read-configuration >>= (λ after. ret (init_of id before after protection)))) in
        let last : NandInit → Prog Setup = λ init. refuse (ltb MAX-VERIFY-PAGE-SIZE (constructed config init).geometry.page_size) FlashError.NotSupported >> ret (constructed config init) in
        ap (ask Transfer.Raise)
        (fun_ext (λ v. bind_assoc ((reset >> jedec-id) >>= rest) last DONE
        ∙ bind_assoc (reset >> jedec-id) rest finished
        ∙ bind_assoc reset (λ u. jedec-id) (λ id. rest id >>= finished)
        ∙ ap (λ f. reset >> (jedec-id >>= f)) (fun_ext known)))

  module _ (refused : page_taken config.geometry ≡ false) where
    turned : (id : NandJedecId) → fail FlashError.NotSupported ≡ identified fresh id
    turned id = sym (identified-large fresh id _ (resolves config id) (large config.geometry id refused))

    stops : refused-page ≡ ask Transfer.Raise (meaning (place fresh Phase.Raised))
    unfolding refused-page reset-and-identify meaning_at ◌>>=◌ ◌>>◌
    stops =
        ap (ask Transfer.Raise)
        (fun_ext (λ v. bind_assoc reset (λ u. jedec-id) (λ id. fail FlashError.NotSupported) ∙ ap (λ f. reset >> (jedec-id >>= f)) (fun_ext turned)))

  pub constructs : (s : Setup) (b d : ℕ) → coded s (Call.WithConfig config) b d ≡ ask Transfer.Raise (meaning (place fresh Phase.Raised))
  unfolding coded_rust rust_program
  constructs s b d = by_cases (page_taken config.geometry) (λ h. rw h (builds h)) (λ h. rw h (stops h))

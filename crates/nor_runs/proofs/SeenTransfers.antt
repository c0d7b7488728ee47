-- What the observer sees of the Rust's transfers that a read and a write are made of.
use Rattle.std.specs.Prelude.{Option, Some, None}
use Rattle.spi_nor.specs.declared.config.NorQuadConfig.{NorQuadConfig}
use Prim.Native.Nat.{ℕ, zero, suc, ◌+◌, ◌/◌, ◌%◌, ◌≤◌, ◌<◌}
use native.Mathlib.Omega.{arith}
use mathlib.Core.Bool.{true, not}
use mathlib.Core.Path.{◌≡◌, refl, ap, sym, ◌∙◌, subst}
use mathlib.Core.List.{List, [], ◌∷◌, ◌++◌}
use lib.ListN.{length}
use lib.Dec.{leb}
use borrow.Author.Tests.{eq-eqb}
use Rattle.qspi.specs.Address.{read_from}
use Rattle.qspi.specs.Frame.{value_of}
use Rattle.qspi.specs.Transfer.{command_only}
use Rattle.qspi.specs.declared.transfer.Sink.{Sink}
use Rattle.qspi.specs.declared.transfer.Transfer.{Transfer}
use Rattle.qspi.proofs.Cases.{by_cases}
use Rattle.spi_flash.specs.Number.{number_transfer}
use Rattle.spi_flash.specs.Prog.{Prog, ◌>>=◌, ◌>>◌, transfer}
use Rattle.spi_flash.specs.WaitLaw.{wait_loop, waiting, prompt_wait}
use Rattle.spi_flash.specs.declared.wait.Timings.{Timings}
use Rattle.flash_runs.specs.Watch.{Watcher}
use Rattle.flash_runs.proofs.Watchers.{both, Got, got, behind, reader}
use Rattle.flash_runs.proofs.Watching.{Shows, shows-ret, shows-fail, shows-bind, shows-refuse, shows-transfer}
use Rattle.qspi.specs.Command.{command_bytes}
use Rattle.spi_nor.specs.Command.{quad_read_command, page_program_command, quad_page_program_command, write_enable_command, read_status1_command}
use Rattle.spi_nor.specs.Opcode.{timings_of}
use Rattle.spi_nor.specs.Status.{write_enabled_of}
use Rattle.spi_nor.specs.Transfer.{read_at, program_at, program_transfer}
use Rattle.spi_nor.specs.declared.opcode.Operation.{Operation}
use Rattle.spi_nor.specs.declared.setup.Setup.{Setup}
use Rattle.nor_runs.specs.Observer.{closed, written, quad_place, Change, page, write_changes, quad_read_changes, quad_program_place, page_or_other, with_change, Piece, piece, with_piece, Sight, sight, observer}
use Rattle.nor_runs.specs.Rust.{busy_value, wait-ready, write-enable}

abbrev pub Sights : Type 0
Sights = Sight × Got

-- an address is sent whole
address-exact : (place : ℕ) → place < 16777216 → read_from 0 (place / 65536 % 256 ∷ place / 256 % 256 ∷ place % 256 ∷ []) ≡ place
address-exact place h = omega arith

place-asked : (quad : NorQuadConfig) (place : ℕ) → place < 16777216 → quad_place (Some quad) (written []) (command_bytes (quad_read_command quad place)) ≡ Some place
place-asked quad place h = rw (eq-eqb quad.read_opcode quad.read_opcode refl) (ap Some (address-exact place h))

-- between two transfers, with these changes and these pieces; whose data the last command asked for, and the bytes read so far
abbrev pub seen : List Change → List Piece → Sight
seen programmed pieces = sight closed None programmed pieces

abbrev pub at : List Change → List Piece → Got → Sights
at programmed pieces g = (seen programmed pieces, g)

module _ (quad : Option NorQuadConfig) where
  abbrev pub watcher : Watcher Sights
  watcher = both (observer quad) (reader (λ command. true))

  -- Q goes by what is asked, the changes, the pieces and the bytes read
  module _ (R : Option ℕ → List Change → List Piece → List ℕ → Type 0) where
    abbrev pub Q : Sights → Type 0
    Q z = R z.0.asked z.0.changed z.0.pieces z.1.bytes

    abbrev pub Sees : {A : Type 0} → (A → Sights → Type 0) → Sights → Prog A → Type 0
    Sees E z p = Shows watcher Q E z p

    pub from : {A : Type 0} {E : A → Sights → Type 0} {y z : Sights} {p : Prog A} → y ≡ z → Sees E z p → Sees E y p
    from {E = E} {p = p} e h = subst (λ s. Sees E s p) (sym e) h

    -- ---- a read of the contents

    module _ (place n : ℕ) (small : place < 16777216) (sink : Sink) (programmed : List Change) (pieces : List Piece) (g : Got) (q : R None programmed pieces g.bytes)
        (asking : R (Some place) programmed pieces g.bytes) where
      -- the bytes that came, beside these data, with the value that they gave
      abbrev pub Came : ℕ → Sights → Type 0
      Came v y = (new given : List ℕ) × (length new ≡ n) × (v ≡ value_of sink new given) × (y ≡ at programmed (pieces ++ piece place new given ∷ []) (got true (g.bytes ++ new)))

      -- note is what the read itself changes: nothing
      module _ (note : Option ℕ → Option Change) (no-change : note (Some place) ≡ None) where
        abbrev behind_read : Option ℕ → List Change
        behind_read asked = with_change (note asked) programmed

        is-behind : behind_read (Some place) ≡ programmed
        is-behind = ap (λ c. with_change c programmed) no-change

        -- without data nothing has come
        none : (asked : Option ℕ) → asked ≡ Some place → R None (behind_read asked) (with_piece asked [] [] pieces) g.bytes
        none asked e =
            subst (λ x. R None (behind_read x) (with_piece x [] [] pieces) g.bytes) (sym e)
            (subst (λ xs. R None xs pieces g.bytes) (sym is-behind) q)

        asked-for : (asked : Option ℕ) → asked ≡ Some place → R asked (behind_read asked) pieces g.bytes
        asked-for asked e =
            subst (λ x. R x (behind_read x) pieces g.bytes) (sym e) (subst (λ xs. R (Some place) xs pieces g.bytes) (sym is-behind) asking)

        module _ (some : 1 ≤ n) (more : (new given : List ℕ) → length new ≡ n → R None programmed (pieces ++ piece place new given ∷ []) (g.bytes ++ new)) where
          abbrev heard : Option ℕ → (new given : List ℕ) → Sights
          heard asked new given = at (behind_read asked) (with_piece asked given new pieces) (got true (behind true g.bytes new))

          heard-is : (asked : Option ℕ) → asked ≡ Some place → (new given : List ℕ) → length new ≡ n → heard asked new given ≡ at programmed (pieces ++ piece place new given ∷ []) (got true (g.bytes ++ new))
          heard-is asked a [] given e = absurd (omega arith)
          heard-is asked a (b ∷ new) given e =
              ap (λ x. at (behind_read x) (with_piece x given (b ∷ new) pieces) (got true (g.bytes ++ b ∷ new))) a
              ∙ ap (λ xs. at xs (pieces ++ piece place (b ∷ new) given ∷ []) (got true (g.bytes ++ b ∷ new))) is-behind

          came : (asked : Option ℕ) → asked ≡ Some place → (new given : List ℕ) → length new ≡ n →
              Q (heard asked new given) × (Q (heard asked new given) × Came (value_of sink new given) (heard asked new given))
          came asked a new given e =
              let is = heard-is asked a new given e in
              let right : Q (heard asked new given) = subst Q (sym is) (more new given e) in
              (right, (right, (new, given, e, refl, is)))

      module _ (some : 1 ≤ n) (more : (new given : List ℕ) → length new ≡ n → R None programmed (pieces ++ piece place new given ∷ []) (g.bytes ++ new)) where
        pub reading : Sees Came (at programmed pieces g) (transfer (read_at quad place n sink))
        reading = at_width quad
          where
            at_width : (q : Option NorQuadConfig) → Shows (both (observer q) (reader (λ command. true))) Q Came (at programmed pieces g) (transfer (read_at q place n sink))
            at_width None =
                let note : Option ℕ → Option Change = λ asked. None in
                let exact = ap Some (address-exact place small) in
                shows-transfer _ Q (read_at None place n sink)
                (q, (q, ((q, q), (asked-for note refl _ exact, ((q, q), (λ new given e. came note refl some more _ exact new given e))))))
            at_width (Some x) =
                let note = quad_read_changes in
                let exact = place-asked x place small in
                shows-transfer _ Q (read_at (Some x) place n sink)
                (q, (asked-for note refl _ exact, ((none note refl _ exact, none note refl _ exact), (λ new given e. came note refl some more _ exact new given e))))

    -- ---- what a write does beside: no byte of the contents is asked for

    module _ (programmed : List Change) (pieces : List Piece) (q : (bytes : List ℕ) → R None programmed pieces bytes) where
      -- a program behind which the places and pieces are still these
      abbrev pub Quiet : {A : Type 0} → Got → Prog A → Type 0
      Quiet g p = Sees (λ a y. y.0 ≡ seen programmed pieces) (at programmed pieces g) p

      pub quiet-bind : {A B : Type 0} {E : B → Sights → Type 0} {g : Got} {p : Prog A} {k : A → Prog B} → Quiet g p → ((a : A) (h : Got) → Sees E (at programmed pieces h) (k a)) → Sees E (at programmed pieces g) (p >>= k)
      quiet-bind {E = E} {k = k} first next =
          shows-bind watcher Q first (λ a y e. from (ap (λ (s : Sight). (s, y.1)) e) (next a y.1))

      pub quiet-then : {A B : Type 0} {E : B → Sights → Type 0} {g : Got} {p : Prog A} {k : Prog B} → Quiet g p → ((h : Got) → Sees E (at programmed pieces h) k) → Sees E (at programmed pieces g) (p >> k)
      unfolding ◌>>◌
      quiet-then first next = quiet-bind first (λ a h. next h)

      pause : (g : Got) (us : ℕ) → Quiet g (transfer (Transfer.Pause us))
      pause g us = shows-transfer watcher Q (Transfer.Pause us) (q _, (q _, refl))

      enabling : (g : Got) → Quiet g (transfer (command_only write_enable_command))
      enabling g = shows-transfer watcher Q (command_only write_enable_command) (q _, (q _, (q _, (q _, refl))))

      look : (g : Got) → Quiet g (transfer (number_transfer read_status1_command 1))
      look g =
          shows-transfer watcher Q (number_transfer read_status1_command 1)
          (q _, (q _, ((q _, q _), (q _, ((q _, q _), (λ new given e. (q _, (q _, refl))))))))

      wait-loop : (timings : Timings) (fuel sum : ℕ) (g : Got) → Quiet g (wait_loop read_status1_command busy_value fuel timings sum)
      unfolding wait_loop
      wait-loop timings zero sum g = shows-fail watcher Q
      wait-loop timings (suc fuel) sum g =
          quiet-bind (look g) (λ v h.
          by_cases (busy_value v)
          (λ busy. rw busy
          (by_cases (leb timings.timeout_us sum)
          (λ late. rw late (shows-fail watcher Q))
          (λ early. rw early (quiet-then (pause h timings.poll_us) (λ k. wait-loop timings fuel (sum + timings.poll_us) k)))))
          (λ ready. rw ready (shows-ret watcher Q refl)))

      pub wait : (operation : Operation) (g : Got) → Quiet g (wait-ready operation)
      unfolding wait-ready prompt_wait waiting
      wait operation g = wait-loop (timings_of operation) _ 0 g

      pub enable : (g : Got) → Quiet g write-enable
      unfolding write-enable
      enable g =
          quiet-then (enabling g) (λ h.
          quiet-bind (quiet-bind (look h) (λ v k. shows-ret watcher Q refl)) (λ status1 k.
          shows-refuse watcher Q (not (write_enabled_of status1)) _ (λ e. refl)))

      -- ---- a page is programmed

      module _ (place : ℕ) (small : place < 16777216) (more : (bytes : List ℕ) → R None (programmed ++ page place ∷ []) pieces bytes) where
        noted : (p : Option Change) → p ≡ Some (page place) → (bytes : List ℕ) → R None (with_change p programmed) pieces bytes
        noted p e bytes = subst (λ x. R None (with_change x programmed) pieces bytes) (sym e) (more bytes)

        noted-is : (p : Option Change) → p ≡ Some (page place) → seen (with_change p programmed) pieces ≡ seen (programmed ++ page place ∷ []) pieces
        noted-is p e = ap (λ x. seen (with_change x programmed) pieces) e

        program : (from n : ℕ) (g : Got) → Sees (λ a y. y.0 ≡ seen (programmed ++ page place ∷ []) pieces) (at programmed pieces g) (transfer (program_at quad place from n))
        program from n g = at_width quad
          where
            at_width : (w : Option NorQuadConfig) → Shows (both (observer w) (reader (λ command. true))) Q (λ a y. y.0 ≡ seen (programmed ++ page place ∷ []) pieces) (at programmed pieces g) (transfer (program_at w place from n))
            at_width None =
                let sent : Option Change = write_changes (written (command_bytes (page_program_command place))) [] in
                let exact : sent ≡ Some (page place) = ap (λ p. Some (page p)) (address-exact place small) in
                shows-transfer _ Q (program_at None place from n)
                (q _, (q _, ((q _, q _), (λ given. (noted sent exact _, (noted sent exact _, (noted sent exact _, noted-is sent exact)))))))
            at_width (Some x) =
                let sent : Option Change = Some (page_or_other (quad_program_place (Some x) (written []) (command_bytes (quad_page_program_command x place)))) in
                let exact : sent ≡ Some (page place) = rw (eq-eqb x.page_program_opcode x.page_program_opcode refl) (ap (λ p. Some (page p)) (address-exact place small)) in
                shows-transfer _ Q (program_at (Some x) place from n) (q _, (λ given. (noted sent exact _, (noted sent exact _, (noted sent exact _, noted-is sent exact)))))

        pub program_sent : (setup : Setup) → setup.config.quad ≡ quad → (from n : ℕ) (g : Got) →
            Sees (λ a y. y.0 ≡ seen (programmed ++ page place ∷ []) pieces) (at programmed pieces g) (transfer (program_transfer setup place from n))
        unfolding program_transfer
        program_sent setup e from n g = rw e (program from n g)

-- What the observer sees of the Rust's write: page after page read back, each the data that were lent.
use Prim.Native.Nat.{ℕ, zero, suc, ◌+◌, ◌-◌, ◌≤◌, ◌<◌}
use native.Mathlib.Omega.{arith}
use native.Mathlib.Nat.{zero-add}
use mathlib.Core.Bool.{true, not, not-not}
use mathlib.Core.Path.{◌≡◌, refl, ap, sym, ◌∙◌}
use mathlib.Core.List.{List, [], ◌∷◌, ◌++◌, append-nil}
use lib.ListN.{length, length-append, take, drop}
use Rattle.std.specs.Prelude.{Option, Some, None}
use lib.Dec.{ltb, eqb}
use borrow.Author.Tests.{ltb-true, ltb-false}
use Rattle.qspi.specs.declared.transfer.Sink.{Sink}
use Rattle.qspi.proofs.Cases.{by_cases}
use Rattle.spi_flash.specs.Path.{Prefix}
use Rattle.spi_flash.specs.Prog.{Prog, ret, ◌>>◌}
use Rattle.spi_flash.specs.Range.{range_in_bounds}
use Rattle.spi_flash.proofs.Pieces.{range-told}
use Rattle.flash_runs.proofs.Compared.{compared}
use Rattle.flash_runs.proofs.Watchers.{Got}
use Rattle.flash_runs.proofs.Watching.{shows-ret, shows-bind, shows_then, shows-refuse}
use Rattle.spi_nor.specs.Config.{in_bounds_of}
use Rattle.spi_nor.specs.Transfer.{place_of, page_of, read_transfer, multiple_of}
use Rattle.spi_nor.proofs.DeviceBounds.{device_bounds}
use Rattle.spi_nor.specs.declared.opcode.Operation.{Operation}
use Rattle.spi_nor.specs.declared.setup.Setup.{Setup}
use Rattle.nor_runs.specs.Chip.{InTurn, joined, NextPage, AskedAt, pages, SameAsLent}
use Rattle.nor_runs.specs.Observer.{Change, page, Piece, piece, Sight}
use Rattle.nor_runs.proofs.AsCoded.{read_back, page-program, write-loop, writing, write}
use Rattle.nor_runs.proofs.Loops.{page-some}
use Rattle.nor_runs.proofs.Pieces.{joined-more, pages-more, in-turn-more, same-more}
use Rattle.nor_runs.proofs.SeenRead.{place-exact}
use Rattle.nor_runs.proofs.SeenTransfers as Transfers
use Rattle.nor_runs.proofs.SeenTransfers.{Sights, seen, at, watcher, Sees, from, quiet-then}

-- at every point of a run
abbrev pub InOrder : (offset len : ℕ) → Option ℕ → List Change → List Piece → List ℕ → Type 0
InOrder offset len asked programmed ps bytes =
    InTurn offset ps × AskedAt (offset + length (joined ps)) asked × (length (joined ps) ≤ len) × ((p : Prefix (pages ps) programmed) × NextPage (offset + length (joined ps)) p.rest)

-- where it ended well
abbrev pub Whole : ℕ → Sights → Type 0
Whole len z = SameAsLent 0 z.0.pieces × (length (joined z.0.pieces) ≡ len) × (pages z.0.pieces ≡ z.0.changed)

module _ (flash : Setup) (bounds : in_bounds_of flash.device ≡ true) (offset len : ℕ) where
  abbrev Sound : Option ℕ → List Change → List Piece → List ℕ → Type 0
  Sound = InOrder offset len

  abbrev Seeing : {A : Type 0} → (A → Sights → Type 0) → Sights → Prog A → Type 0
  Seeing E z p = Sees flash.config.quad Sound E z p

  module _ (within : offset + len ≤ flash.device.capacity) where
    -- the loop stands behind these pieces
    record Stands (done : ℕ) (ps : List Piece) : Type 0 where
      most : done ≤ len
      size : length (joined ps) ≡ done
      in_turn : InTurn offset ps
      same : SameAsLent 0 ps

    abbrev Goes : ℕ → Type 0
    Goes fuel = (done : ℕ) (ps : List Piece) (g : Got) → len - done ≤ fuel → Stands done ps → Seeing (λ u y. Whole len y) (at (pages ps) ps g) (write-loop flash fuel offset len done)

    -- a page
    module _ (done : ℕ) (ps : List Piece) (below : done < len) (stands : Stands done ps) where
      abbrev size : ℕ
      size = page_of flash.device len done

      some : 1 ≤ size
      some = page-some flash.device len done (device_bounds.accepted flash.device bounds).least_page below

      most : size ≤ 65536
      unfolding page_of
      most = omega (arith, (device_bounds.accepted flash.device bounds).most_page)

      room : done + size ≤ len
      unfolding page_of
      room = omega arith

      small : offset + done < 16777216
      small = omega (arith, (device_bounds.accepted flash.device bounds).capacity)

      -- programmed, and not read back yet
      abbrev programmed : List Change
      programmed = pages ps ++ page (offset + done) ∷ []

      so_far : length (joined ps) ≤ len
      so_far = omega (arith, stands.size, stands.most)

      before : (bytes : List ℕ) → Sound None (pages ps) ps bytes
      before bytes = (stands.in_turn, tt, so_far, (record { rest = []; whole = append-nil (pages ps) }, tt))

      next : page (offset + done) ≡ page (offset + length (joined ps))
      next = ap (λ n. page (offset + n)) (sym stands.size)

      sent : (bytes : List ℕ) → Sound None programmed ps bytes
      sent bytes = (stands.in_turn, tt, so_far, (record { rest = page (offset + done) ∷ []; whole = refl }, next))

      asking : (bytes : List ℕ) → Sound (Some (offset + done)) programmed ps bytes
      asking bytes = (stands.in_turn, ap (λ n. offset + n) (sym stands.size), so_far, (record { rest = page (offset + done) ∷ []; whole = refl }, next))

      more : (new given : List ℕ) → length new ≡ size → InTurn offset (ps ++ piece (offset + done) new given ∷ [])
      more new given e = in-turn-more ps (piece (offset + done) new given) offset stands.in_turn (ap (λ n. offset + n) (sym stands.size)) (omega (arith, most))

      came : (g : Got) (new given : List ℕ) → length new ≡ size → Sound None programmed (ps ++ piece (offset + done) new given ∷ []) (g.bytes ++ new)
      came g new given e =
          let p = piece (offset + done) new given in
          (more new given e, tt, omega (arith, ap length (joined-more ps p), length-append (joined ps) new, stands.size, room), (record { rest = []; whole = append-nil _ ∙ pages-more ps (piece (offset + done) new given) }, tt))

      -- what has come of a page that was read back as it was lent
      Programmed : Sights → Type 0
      Programmed y = (new given : List ℕ) × (length new ≡ size) × (new ≡ take (length new) (drop done given)) × (y.0 ≡ seen programmed (ps ++ piece (offset + done) new given ∷ []))

      back : (g : Got) → Seeing (Transfers.Came flash.config.quad Sound (offset + done) size small (Sink.Compare done) programmed ps g (sent g.bytes) (asking g.bytes)) (at programmed ps g) (read_back flash (offset + done) size done)
      unfolding read_back read_transfer
      back g =
          shows_then (watcher flash.config.quad) _ {E = λ u y. y ≡ at programmed ps g}
          (shows-refuse (watcher flash.config.quad) _ (not (range_in_bounds flash.device.capacity (offset + done) size)) _ (λ e. refl))
          (λ u y e. from flash.config.quad Sound e (Transfers.reading flash.config.quad Sound (offset + done) size small (Sink.Compare done) programmed ps g (sent g.bytes) (asking g.bytes) some (came g)))

      programs : (g : Got) → Seeing (λ u y. Programmed y) (at (pages ps) ps g) (page-program flash (offset + done) done size)
      unfolding page-program Programmed
      programs g =
          let quad = flash.config.quad in
          quiet-then quad Sound (pages ps) ps before (Transfers.enable quad Sound (pages ps) ps before g)
          (λ h. shows_then (watcher quad) _ (Transfers.program_sent quad Sound (pages ps) ps before (offset + done) small sent flash refl done size h)
          (λ u y e. from quad Sound (ap (λ (s : Sight). (s, y.1)) e)
          (quiet-then quad Sound programmed ps sent (Transfers.wait quad Sound programmed ps sent Operation.PageProgram y.1)
          (λ j. shows-bind (watcher quad) _ (back j)
          (λ v y came. shows-refuse (watcher quad) _ (eqb v 0) _
          (λ e. (came.0, came.1, came.2, compared done came.0 came.1 (ap (λ x. eqb x 0) (sym came.3) ∙ e), ap (λ (z : Sights). z.0) came.4)))))))

    module _ (fuel : ℕ) (goes : Goes fuel) (done : ℕ) (ps : List Piece) (g : Got) (enough : len - done ≤ suc fuel) (below : done < len) (stands : Stands done ps) where
      stands_on : (new given : List ℕ) → length new ≡ size done ps below stands → new ≡ take (length new) (drop done given) →
          Stands (done + size done ps below stands) (ps ++ piece (offset + done) new given ∷ [])
      stands_on new given e same =
          let p = piece (offset + done) new given in
          record {
            most = room done ps below stands;
            size = ap length (joined-more ps p) ∙ length-append (joined ps) new ∙ omega (arith, stands.size);
            in_turn = more done ps below stands new given e;
            same = same-more ps p 0 stands.same (same ∙ ap (λ n. take (length new) (drop n given)) (sym stands.size ∙ sym (zero-add (length (joined ps)))));
          }

      turn : Seeing (λ u y. Whole len y) (at (pages ps) ps g) (page-program flash (place_of offset done) done (size done ps below stands) >> write-loop flash fuel offset len (done + size done ps below stands))
      unfolding Programmed
      turn =
          rw (place-exact offset done (small done ps below stands))
          (shows_then (watcher flash.config.quad) _ (programs done ps below stands g)
          (λ u y came. from flash.config.quad Sound (ap (λ (s : Sight). (s, y.1)) (came.4 ∙ ap (λ (b : List Change). seen b (ps ++ piece (offset + done) came.0 came.1 ∷ [])) (sym (pages-more ps (piece (offset + done) came.0 came.1)))))
          (goes (done + size done ps below stands) (ps ++ piece (offset + done) came.0 came.1 ∷ []) y.1 (omega (arith, some done ps below stands))
          (stands_on came.0 came.1 came.2 came.3))))

    ended : (done : ℕ) (ps : List Piece) (g : Got) → len ≤ done → Stands done ps → Seeing (λ u y. Whole len y) (at (pages ps) ps g) (ret (tt {0}))
    ended done ps g past stands = shows-ret (watcher flash.config.quad) _ (stands.same, omega (arith, stands.size, stands.most), refl)

    loops : (fuel : ℕ) → Goes fuel
    unfolding write-loop
    loops zero done ps g enough stands = ended done ps g (omega arith) stands
    loops (suc fuel) done ps g enough stands =
        by_cases (ltb done len)
        (λ e. rw e (turn fuel (loops fuel) done ps g enough (ltb-true done len e) stands))
        (λ e. rw e (ended done ps g (ltb-false done len e) stands))

  pub write-shows : (g : Got) → Seeing (λ u y. Whole len y) (at [] [] g) (write flash offset len)
  unfolding write writing
  write-shows g =
      let quad = flash.config.quad in
      shows_then (watcher quad) _ {E = λ u y. (range_in_bounds flash.device.capacity offset len ≡ true) × (y ≡ at [] [] g)}
      (shows-refuse (watcher quad) _ (not (range_in_bounds flash.device.capacity offset len)) _ (λ e. (sym (not-not _) ∙ ap not e, refl)))
      (λ u y h. from quad Sound h.1
      (shows_then (watcher quad) _ {E = λ u y. y ≡ at [] [] g} (shows-refuse (watcher quad) _ (not (multiple_of offset flash.device.page_size)) _ (λ e. refl))
      (λ u y e. from quad Sound e
      (shows_then (watcher quad) _ {E = λ u y. y ≡ at [] [] g} (shows-refuse (watcher quad) _ (not (multiple_of len flash.device.page_size)) _ (λ e. refl))
      (λ u y e. from quad Sound e
      (loops (range-told flash.device.capacity offset len h.0) (len - 0) 0 [] g (omega arith) (record { most = omega arith; size = refl; in_turn = tt; same = tt })))))))

-- What the observer sees of the Rust's read: piece after piece of the contents.
use Prim.Native.Nat.{ℕ, zero, suc, ◌+◌, ◌-◌, ◌%◌, ◌≤◌, ◌<◌}
use native.Mathlib.Omega.{arith}
use native.Mathlib.Nat.{mod-eq_of_lt}
use mathlib.Core.Bool.{Bool, true, not, not-not}
use mathlib.Core.Path.{◌≡◌, refl, ap, sym, ◌∙◌, subst}
use mathlib.Core.List.{List, [], ◌∷◌, ◌++◌}
use lib.ListN.{length, length-append}
use Rattle.std.specs.Prelude.{Option, Some, None}
use lib.Dec.{ltb}
use borrow.Author.Tests.{ltb-true, ltb-false}
use Rattle.qspi.specs.declared.transfer.Sink.{Sink}
use Rattle.qspi.proofs.Cases.{by_cases}
use Rattle.spi_flash.specs.Prog.{Prog, ret, ◌>>◌, transfer}
use Rattle.spi_flash.specs.Range.{range_in_bounds}
use Rattle.spi_flash.proofs.Pieces.{range-told}
use Rattle.flash_runs.proofs.Watchers.{got}
use Rattle.flash_runs.proofs.Watching.{shows-ret, shows_then, shows-refuse}
use Rattle.spi_nor.specs.Config.{in_bounds_of}
use Rattle.spi_nor.specs.Transfer.{place_of, chunk_of, read_transfer}
use Rattle.spi_nor.proofs.DeviceBounds.{device_bounds}
use Rattle.spi_nor.proofs.Pieces.{chunk-within}
use Rattle.spi_nor.specs.declared.setup.Setup.{Setup}
use Rattle.nor_runs.specs.Chip.{InTurn, joined, AskedAt}
use Rattle.nor_runs.specs.Observer.{Change, Piece, piece}
use Rattle.nor_runs.proofs.AsCoded.{read-loop, reading, read}
use Rattle.nor_runs.proofs.Loops.{chunk-some}
use Rattle.nor_runs.proofs.Pieces.{joined-more, in-turn-more}
use Rattle.nor_runs.proofs.SeenTransfers as Transfers
use Rattle.nor_runs.proofs.SeenTransfers.{Sights, at, watcher, Sees, from}

-- inside the bounds the u32 sum does not wrap
pub place-exact : (offset done : ℕ) → offset + done < 16777216 → place_of offset done ≡ offset + done
unfolding place_of
place-exact offset done h =
    let small : done % 4294967296 ≡ done = mod-eq_of_lt (omega arith) in
    rw small (mod-eq_of_lt (omega arith))

-- at every point of a run
abbrev pub InOrder : (offset len : ℕ) → Option ℕ → List Change → List Piece → List ℕ → Type 0
InOrder offset len asked programmed ps bytes =
    InTurn offset ps × AskedAt (offset + length (joined ps)) asked × (length (joined ps) ≤ len) × (joined ps ≡ bytes) × (programmed ≡ [])

-- where it ended well
abbrev pub Whole : ℕ → Sights → Type 0
Whole len z = length z.1.bytes ≡ len

module _ (flash : Setup) (bounds : in_bounds_of flash.device ≡ true) (offset len : ℕ) where
  abbrev Sound : List Piece → List ℕ → Type 0
  Sound = InOrder offset len None []

  abbrev Seeing : {A : Type 0} → (A → Sights → Type 0) → Sights → Prog A → Type 0
  Seeing E z p = Sees flash.config.quad (InOrder offset len) E z p

  sound-more : (ps : List Piece) (bytes new given : List ℕ) → Sound ps bytes → length new ≤ 65536 → length bytes + length new ≤ len → Sound (ps ++ piece (offset + length bytes) new given ∷ []) (bytes ++ new)
  sound-more ps bytes new given s small room =
      let p = piece (offset + length bytes) new given in
      let all : joined (ps ++ p ∷ []) ≡ bytes ++ new = joined-more ps p ∙ ap (λ bs. bs ++ new) s.3 in
      (in-turn-more ps p offset s.0 (ap (λ bs. offset + length bs) (sym s.3)) small, tt, omega (arith, ap length all, length-append bytes new), all, refl)

  module _ (within : offset + len ≤ flash.device.capacity) where
    -- the loop stands behind these pieces
    record Stands (done : ℕ) (ps : List Piece) (bytes : List ℕ) : Type 0 where
      most : done ≤ len
      size : length bytes ≡ done
      sound : Sound ps bytes

    abbrev Goes : ℕ → Type 0
    Goes fuel = (done : ℕ) (mine : Bool) (ps : List Piece) (bytes : List ℕ) → len - done ≤ fuel → Stands done ps bytes →
        Seeing (λ u y. Whole len y) (at [] ps (got mine bytes)) (read-loop flash fuel offset len done)

    module _ (fuel : ℕ) (goes : Goes fuel) (done : ℕ) (mine : Bool) (ps : List Piece) (bytes : List ℕ) (enough : len - done ≤ suc fuel) (below : done < len) (stands : Stands done ps bytes) where
      abbrev size : ℕ
      size = chunk_of len done

      some : 1 ≤ size
      some = chunk-some len done below

      room : done + size ≤ len
      room = omega (arith, chunk-within len done (suc len) (omega arith) (omega arith))

      most : size ≤ 65536
      unfolding chunk_of
      most = omega arith

      small : offset + done < 16777216
      small = omega (arith, (device_bounds.accepted flash.device bounds).capacity)

      more : (new given : List ℕ) → length new ≡ size → Sound (ps ++ piece (offset + done) new given ∷ []) (bytes ++ new)
      more new given e =
          subst (λ n. Sound (ps ++ piece (offset + n) new given ∷ []) (bytes ++ new)) stands.size (sound-more ps bytes new given stands.sound (omega (arith, most)) (omega (arith, room, stands.size)))

      asking : InOrder offset len (Some (offset + done)) [] ps bytes
      asking = (stands.sound.0, ap (λ n. offset + n) (sym stands.size ∙ sym (ap length stands.sound.3)), stands.sound.2, stands.sound.3, refl)

      turn : Seeing (λ u y. Whole len y) (at [] ps (got mine bytes)) (transfer (read_transfer flash (place_of offset done) size (Sink.Buffer done)) >> read-loop flash fuel offset len (done + size))
      unfolding read_transfer
      turn =
          rw (place-exact offset done small)
          (shows_then (watcher flash.config.quad) _
          (Transfers.reading flash.config.quad (InOrder offset len) (offset + done) size small (Sink.Buffer done) [] ps (got mine bytes) stands.sound asking some more)
          (λ v y came. from flash.config.quad (InOrder offset len) came.4
          (goes (done + size) true (ps ++ piece (offset + done) came.0 came.1 ∷ []) (bytes ++ came.0) (omega (arith, some))
          (record { most = room; size = omega (arith, length-append bytes came.0, stands.size, came.2); sound = more came.0 came.1 came.2 }))))

    ended : (done : ℕ) (mine : Bool) (ps : List Piece) (bytes : List ℕ) → len ≤ done → Stands done ps bytes → Seeing (λ u y. Whole len y) (at [] ps (got mine bytes)) (ret (tt {0}))
    ended done mine ps bytes past stands = shows-ret (watcher flash.config.quad) _ (omega (arith, stands.size, stands.most))

    loops : (fuel : ℕ) → Goes fuel
    unfolding read-loop
    loops zero done mine ps bytes enough stands = ended done mine ps bytes (omega arith) stands
    loops (suc fuel) done mine ps bytes enough stands =
        by_cases (ltb done len)
        (λ e. rw e (turn fuel (loops fuel) done mine ps bytes enough (ltb-true done len e) stands))
        (λ e. rw e (ended done mine ps bytes (ltb-false done len e) stands))

  pub read-shows : (mine : Bool) → Seeing (λ u y. Whole len y) (at [] [] (got mine [])) (read flash offset len)
  unfolding read reading
  read-shows mine =
      shows_then (watcher flash.config.quad) _
      {E = λ u y. (range_in_bounds flash.device.capacity offset len ≡ true) × (y ≡ at [] [] (got mine []))}
      (shows-refuse (watcher flash.config.quad) _ (not (range_in_bounds flash.device.capacity offset len)) _ (λ e. (sym (not-not _) ∙ ap not e, refl)))
      (λ u y h. from flash.config.quad (InOrder offset len) h.1
      (loops (range-told flash.device.capacity offset len h.0) (len - 0) 0 mine [] [] (omega arith) (record { most = omega arith; size = refl; sound = (tt, tt, omega arith, refl, refl) })))

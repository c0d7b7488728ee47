-- Two watchers at once, and the bytes read as a watcher has them.
use Prim.Native.Nat.{ℕ}
use mathlib.Core.Bool.{Bool, true, false}
use mathlib.Core.Path.{◌≡◌, refl, ap, sym, ◌∙◌}
use mathlib.Core.List.{List, [], ◌∷◌, ◌++◌, append-nil, append_assoc}
use Rattle.qspi.specs.Choice.{pick}
use Rattle.qspi.specs.declared.bus.Reply.{Reply}
use Rattle.spi_flash.specs.Loan.{Lent}
use Rattle.spi_flash.specs.Run.{Event, reply, call, Given, act, ended, failed, refused, Entry}
use Rattle.flash_runs.specs.Reading.{data_at, read_by, mine_after, mine_then, bytes_read}
use Rattle.flash_runs.specs.Watch.{Watcher, sees, watched}

-- ---- two watchers at once

abbrev pub both : {Y Z : Type 0} → Watcher Y → Watcher Z → Watcher (Y × Z)
both v w = record { gives = λ shown x. (v.gives shown x.0, w.gives shown x.1); hears = λ given bytes x. (v.hears given bytes x.0, w.hears given bytes x.1) }

module _ {Y Z C A : Type 0} (v : Watcher Y) (w : Watcher Z) where
  both-sees : (event : Event C) (given : Given A) (left : Lent) (y : Y) (z : Z) →
      let x : Entry C A = record { event = event; given = given; left = left } in
      sees (both v w) (y, z) x ≡ (sees v y x, sees w z x)
  both-sees (reply r bytes l) (act shown) left y z = refl
  both-sees (reply r bytes l) (ended a) left y z = refl
  both-sees (reply r bytes l) (failed e) left y z = refl
  both-sees (reply r bytes l) (refused e) left y z = refl
  both-sees (call c l) (act shown) left y z = refl
  both-sees (call c l) (ended a) left y z = refl
  both-sees (call c l) (failed e) left y z = refl
  both-sees (call c l) (refused e) left y z = refl

  pub both-watch : (xs : List (Entry C A)) (y : Y) (z : Z) → watched (both v w) (y, z) xs ≡ (watched v y xs, watched w z xs)
  unfolding watched
  both-watch [] y z = refl
  both-watch (x ∷ xs) y z =
      ap (λ (p : Y × Z). watched (both v w) p xs) (both-sees x.event x.given x.left y z) ∙ both-watch xs (sees v y x) (sees w z x)

-- ---- the bytes read, as a watcher has them

pub record Got : Type 0 where
  pub mine : Bool
  pub bytes : List ℕ

abbrev pub got : Bool → List ℕ → Got
got mine bytes = record { mine = mine; bytes = bytes }

-- a reply without data leaves them, whoever asked for it
abbrev pub behind : Bool → List ℕ → List ℕ → List ℕ
behind mine bytes [] = bytes
behind mine bytes (b ∷ new) = pick mine (bytes ++ b ∷ new) bytes

pub behind-mine : (bytes new : List ℕ) → behind true bytes new ≡ bytes ++ new
behind-mine bytes [] = sym (append-nil bytes)
behind-mine bytes (b ∷ new) = refl

module _ (reads : List ℕ → Bool) where
  abbrev pub reader : Watcher Got
  reader = record { gives = λ shown z. got (mine_after reads shown z.mine) z.bytes; hears = λ given new z. got z.mine (behind z.mine z.bytes new) }

  behind-data : (mine : Bool) (r : Reply) (bytes new : List ℕ) → behind mine bytes (data_at true r new) ≡ bytes ++ data_at mine r new
  behind-data mine Reply.Done bytes new = sym (append-nil bytes)
  behind-data true Reply.Data bytes new = behind-mine bytes new
  behind-data false Reply.Data bytes [] = sym (append-nil bytes)
  behind-data false Reply.Data bytes (b ∷ new) = sym (append-nil bytes)
  behind-data mine (Reply.Error code) bytes new = sym (append-nil bytes)

  module _ {C A : Type 0} where
    reader-sees : (event : Event C) (given : Given A) (left : Lent) (mine : Bool) (bytes : List ℕ) →
        let x : Entry C A = record { event = event; given = given; left = left } in
        sees reader (got mine bytes) x ≡ got (mine_then reads given mine) (bytes ++ read_by mine x)
    reader-sees (reply r new l) (act shown) left mine bytes = ap (got (mine_after reads shown mine)) (behind-data mine r bytes new)
    reader-sees (reply r new l) (ended a) left mine bytes = ap (got mine) (behind-data mine r bytes new)
    reader-sees (reply r new l) (failed e) left mine bytes = ap (got mine) (behind-data mine r bytes new)
    reader-sees (reply r new l) (refused e) left mine bytes = ap (got mine) (sym (append-nil bytes))
    reader-sees (call c l) (act shown) left mine bytes = ap (got (mine_after reads shown mine)) (sym (append-nil bytes))
    reader-sees (call c l) (ended a) left mine bytes = ap (got mine) (sym (append-nil bytes))
    reader-sees (call c l) (failed e) left mine bytes = ap (got mine) (sym (append-nil bytes))
    reader-sees (call c l) (refused e) left mine bytes = ap (got mine) (sym (append-nil bytes))

    pub reader-reads : (xs : List (Entry C A)) (mine : Bool) (bytes : List ℕ) → (watched reader (got mine bytes) xs).bytes ≡ bytes ++ bytes_read reads mine xs
    unfolding watched bytes_read
    reader-reads [] mine bytes = sym (append-nil bytes)
    reader-reads (x ∷ xs) mine bytes =
        ap (λ z. (watched reader z xs).bytes) (reader-sees x.event x.given x.left mine bytes)
        ∙ reader-reads xs (mine_then reads x.given mine) (bytes ++ read_by mine x)
        ∙ append_assoc bytes (read_by mine x) (bytes_read reads (mine_then reads x.given mine) xs)

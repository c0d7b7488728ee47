-- The data that write_page compares are what was lent beside them: what its program shows of the bytes read and of the data lent.
use Prim.Native.Nat.{ℕ, ◌≤◌}
use native.Mathlib.Omega.{arith}
use mathlib.Core.Bool.{Bool, true, false}
use mathlib.Core.Path.{◌≡◌, refl, ap, sym, ◌∙◌}
use mathlib.Core.List.{List, [], ◌∷◌, ◌++◌}
use lib.ListN.{length, take}
use lib.Dec.{eqb}
use Rattle.std.specs.Prelude.{Option, Some, None}
use Rattle.qspi.specs.Choice.{pick}
use Rattle.qspi.specs.Command.{command_bytes}
use Rattle.qspi.specs.Frame.{value_of}
use Rattle.qspi.specs.declared.transfer.Body.{Body}
use Rattle.qspi.specs.declared.transfer.Payload.{Payload}
use Rattle.qspi.specs.declared.transfer.Sink.{Sink}
use Rattle.qspi.specs.declared.transfer.Transfer.{Transfer}
use Rattle.spi_flash.specs.Prog.{Prog, ret, fail, ask, ◌>>=◌, transfer}
use Rattle.flash_runs.specs.Watch.{Watcher}
use Rattle.flash_runs.proofs.Quiet.{QuietBy, Quiet, quiet_bind, quiet_then, quiet-refuse, quiet-ret, quiet-transfer, quiet-wait}
use Rattle.flash_runs.proofs.Compared.{compared}
use Rattle.flash_runs.proofs.Watchers.{both, Got, got, behind, reader}
use Rattle.flash_runs.proofs.Watching.{Shows, Seen, shows-ret, shows-fail, shows-bind, shows_then, shows-refuse, shows-transfer}
use Rattle.spi_nand.specs.Command.{get_feature_command}
use Rattle.spi_nand.specs.Opcode.{REG-STATUS, timings_of}
use Rattle.spi_nand.specs.Status.{busy_value}
use Rattle.spi_nand.specs.Transfer.{cache_read_at, cache_read_transfer, cache_load_at, cache_load_transfer}
use Rattle.spi_nand.specs.declared.config.NandQuadConfig.{NandQuadConfig}
use Rattle.spi_nand.specs.declared.opcode.Operation.{Operation}
use Rattle.spi_nand.specs.declared.setup.Setup.{Setup}
use Rattle.nand_runs.specs.Chip.{lent_beside}
use Rattle.nand_runs.specs.Observer.{reads_cache}
use Rattle.nand_runs.specs.Rust.{wait-ready, write-enable}
use Rattle.nand_runs.proofs.AsCoded.{load-program-data, program-execute, read-cache, read-page, write-page}
use Rattle.nand_runs.proofs.Lent.{quiet-status, quiet-page-read}

abbrev pub Beside : Type 0
Beside = Got × List ℕ

abbrev pub reading : Watcher Beside
reading = both (reader reads_cache) lent_beside

abbrev pub Any : Beside → Type 0
Any z = Unit {0}

-- ---- what reads nothing of the cache

-- so far these bytes have come
abbrev pub Still : {A : Type 0} → List ℕ → A → Beside → Type 0
Still bs a z = z.0.bytes ≡ bs

behind-other : (mine : Bool) → mine ≡ false → (bs new : List ℕ) → behind mine bs new ≡ bs
behind-other mine e bs [] = refl
behind-other mine e bs (b ∷ new) = ap (λ m. pick m (bs ++ b ∷ new) bs) e

module _ (bs : List ℕ) where
  still : (t : Transfer) → QuietBy reads_cache t → (z : Beside) → z.0.bytes ≡ bs → Seen reading Any z t (λ y v. y.0.bytes ≡ bs)
  still Transfer.Raise q z h = (tt, (tt, h))
  still (Transfer.Pause us) q z h = (tt, (tt, h))
  still (Transfer.Framed c Body.None) q z h = (tt, (tt, (tt, (tt, h))))
  still (Transfer.Framed c (Body.Read m Sink.Number)) q z h =
      (tt, (tt, ((tt, tt), (tt, ((tt, tt), (λ new given e. (tt, (tt, behind-other (reads_cache (command_bytes c)) q z.0.bytes new ∙ h))))))))
  still (Transfer.Framed c (Body.Read m (Sink.Buffer place))) q z h = absurd q
  still (Transfer.Framed c (Body.Read m (Sink.Compare from))) q z h = absurd q
  still (Transfer.Framed c (Body.Write payload)) q z h = (tt, (tt, ((tt, tt), (λ given. (tt, (tt, (tt, h)))))))
  still (Transfer.Framed c (Body.QuadRead tclqv margin m sink)) q z h = absurd q
  still (Transfer.Framed c (Body.QuadWrite payload)) q z h = (tt, (λ given. (tt, (tt, (tt, h)))))

  quiet-shows : {A : Type 0} (p : Prog A) → Quiet reads_cache p → (z : Beside) → z.0.bytes ≡ bs → Shows reading Any (Still bs) z p
  unfolding ◌>>=◌
  quiet-shows (ret a) q z h = shows-ret reading Any h
  quiet-shows (fail e) q z h = shows-fail reading Any
  quiet-shows (ask t k) q z h =
      shows-bind reading Any {p = transfer t} {k = k} (shows-transfer reading Any {E = λ v y. y.0.bytes ≡ bs} t (still t q.quiet.0 z h))
      (λ v y e. quiet-shows (k v) (record { quiet = q.quiet.1 v }) y e)

-- ---- what write_page does in front of its read-back

quiet-enable : Quiet reads_cache write-enable
unfolding write-enable
quiet-enable = quiet_then reads_cache (quiet-transfer reads_cache tt) (quiet_bind reads_cache quiet-status (λ status. quiet-refuse reads_cache _ _))

module _ (flash : Setup) where
  quiet-load : (column n : ℕ) (payload : Payload) → Quiet reads_cache (load-program-data flash column n payload)
  unfolding load-program-data cache_load_transfer
  quiet-load column n payload =
      quiet_then reads_cache (quiet-refuse reads_cache _ _) (quiet_then reads_cache (by flash.config.quad) (quiet-ret reads_cache))
    where
      by : (quad : Option NandQuadConfig) → Quiet reads_cache (transfer (cache_load_at quad column payload))
      by None = quiet-transfer reads_cache tt
      by (Some q) = quiet-transfer reads_cache tt

  quiet-execute : (page : ℕ) → Quiet reads_cache (program-execute flash page)
  unfolding program-execute wait-ready
  quiet-execute page =
      quiet_then reads_cache (quiet-refuse reads_cache _ _)
      (quiet_then reads_cache (quiet-transfer reads_cache tt)
      (quiet_then reads_cache (quiet-wait reads_cache (get_feature_command REG-STATUS) busy_value (timings_of Operation.Program) refl)
      (quiet_bind reads_cache quiet-status (λ status. quiet-refuse reads_cache _ _))))

-- ---- the read-back

-- n bytes have come, beside these data, with the value that they gave
abbrev Compared : ℕ → ℕ → Beside → Type 0
Compared n v y = (new given : List ℕ) × (length new ≡ n) × (v ≡ value_of (Sink.Compare 0) new given) × (y.0.bytes ≡ new) × (y.1 ≡ given)

module _ (n : ℕ) (some : 1 ≤ n) where
  came : (z : Beside) → z.0.bytes ≡ [] → (new given : List ℕ) → length new ≡ n → (mine : Bool) → mine ≡ true → (behind mine z.0.bytes new ≡ new) × (lent_beside.hears given new z.1 ≡ given)
  came z h [] given e mine is = absurd (omega arith)
  came z h (b ∷ new) given e mine is = (ap (λ m. pick m (z.0.bytes ++ b ∷ new) z.0.bytes) is ∙ ap (λ bs. bs ++ b ∷ new) h, refl)

  compares : (quad : Option NandQuadConfig) (z : Beside) → z.0.bytes ≡ [] → Shows reading Any (Compared n) z (transfer (cache_read_at quad 0 n (Sink.Compare 0)))
  compares None z h =
      shows-transfer reading Any (cache_read_at None 0 n (Sink.Compare 0))
      (tt, (tt, ((tt, tt), (tt, ((tt, tt), (λ new given e. let c = came z h new given e true refl in (tt, (tt, (new, given, e, refl, c.0, c.1)))))))))
  compares (Some quad) z h =
      shows-transfer reading Any (cache_read_at (Some quad) 0 n (Sink.Compare 0))
      (tt, (tt, ((tt, tt), (λ new given e. let c = came z h new given e true refl in (tt, (tt, (new, given, e, refl, c.0, c.1)))))))

module _ (flash : Setup) (some : 1 ≤ flash.geometry.page_size) (page : ℕ) where
  abbrev size : ℕ
  size = flash.geometry.page_size

  -- the bytes read are the data, as far as a page goes
  abbrev pub SameRead : {A : Type 0} → A → Beside → Type 0
  SameRead u y = y.0.bytes ≡ take size y.1

  back : (z : Beside) → z.0.bytes ≡ [] → Shows reading Any (Compared size) z (read-page flash page size (Sink.Compare 0))
  unfolding read-page read-cache cache_read_transfer
  back z h =
      shows_then reading Any (quiet-shows [] _ (quiet-refuse reads_cache _ _) z h)
      (λ u y e. shows_then reading Any (quiet-shows [] _ (quiet-page-read flash page) y e)
      (λ u x f. shows_then reading Any (quiet-shows [] _ (quiet-refuse reads_cache _ _) x f)
      (λ u w g. compares size some flash.config.quad w g)))

  pub writes-same : (n : ℕ) → Shows reading Any SameRead (got false [], []) (write-page flash page n)
  unfolding write-page
  writes-same n =
      shows_then reading Any (quiet-shows [] _ (quiet-refuse reads_cache _ _) _ refl)
      (λ u a e. shows_then reading Any (quiet-shows [] _ (quiet-refuse reads_cache _ _) a e)
      (λ u b f. shows_then reading Any (quiet-shows [] _ quiet-enable b f)
      (λ u c g. shows_then reading Any (quiet-shows [] _ (quiet-load flash 0 n (Payload.Data 0 n)) c g)
      (λ u d h. shows_then reading Any (quiet-shows [] _ (quiet-execute flash page) d h)
      (λ u x i. shows-bind reading Any (back x i)
      (λ v y k. shows-refuse reading Any (eqb v 0) _
      (λ e. k.4 ∙ compared 0 k.0 k.1 (ap (λ x. eqb x 0) (sym k.3) ∙ e) ∙ ap (λ m. take m k.1) k.2 ∙ ap (take size) (sym k.5))))))))

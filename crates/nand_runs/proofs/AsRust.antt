-- The NAND driver does what the Rust does, but for a construction with a page above 4,096.
use Prim.Native.Nat.{ℕ}
use mathlib.Core.Bool.{Bool, true, false, true≢false}
use mathlib.Core.Option.{Option, none}
use mathlib.Core.Path.{◌≡◌, refl, ap, ap₂, sym, ◌∙◌, fun_ext}
use mathlib.Core.List.{List, [], ◌∷◌, map}
use lib.ListN.{length}
use lib.Dec.{ltb}
use borrow.Author.Tests.{not-true, leb-false, lt-ltb}
use Rattle.qspi.specs.Bytes.{delivered_of}
use Rattle.qspi.specs.Choice.{pick}
use Rattle.qspi.specs.declared.transfer.Transfer.{Transfer}
use Rattle.spi_flash.specs.Loan.{Lent}
use Rattle.spi_flash.specs.OnBus as OnBus
use Rattle.spi_flash.specs.OnBus.{BusProg, answers, stops, does, fills, on_bus, program_on_bus, performed}
use Rattle.spi_flash.specs.Prog.{Prog, ret, fail, ask, ◌>>=◌, ◌>>◌, refuse}
use Rattle.spi_flash.specs.Run as Run
use Rattle.spi_flash.specs.Run.{Event, Answer}
use Rattle.spi_flash.specs.Seen.{Did, told, gives_of, replies_of, accepted}
use Rattle.spi_flash.specs.declared.error.FlashError.{FlashError}
use Rattle.spi_flash.specs.declared.loan.Takes.{Takes}
use Rattle.spi_flash.proofs.Laws.{bind_assoc}
use Rattle.flash_runs.specs.Driver.{takes_of, steps_at, sort_at, takes_at}
use Rattle.flash_runs.specs.Heeding.{fits_out, heeding}
use Rattle.flash_runs.specs.Promises.{Promises}
use Rattle.flash_runs.specs.SameAsRust.{left_by, driver_after, Turn, Steady, rust_call, rust_heeding, driver_of, turn_steps, turn_after, EachTurn, turn_by_turn, SteadyAlone, turn_does, turn_gives, holding, heeding_turn, rust_session}
use Rattle.flash_runs.proofs.Built.{steady-alone}
use Rattle.flash_runs.proofs.Promises.{promises}
use Rattle.flash_runs.proofs.SameAsRust.{turn-gives, turn-delivers, left-as}
use Rattle.spi_nand.specs.declared.config.NandInit.{NandInit}
use Rattle.spi_nand.specs.declared.config.NandJedecId.{NandJedecId}
use Rattle.spi_nand.specs.declared.config.SpiNandConfig.{SpiNandConfig}
use Rattle.spi_nand.specs.declared.status.Configuration.{Configuration}
use Rattle.spi_nand.specs.declared.status.Protection.{Protection}
use Rattle.spi_nand.specs.declared.call.Call.{Call}
use Rattle.spi_nand.specs.declared.setup.Setup.{Setup}
use Rattle.spi_nand.specs.Setup.{init_of}
use Rattle.nand_driver.specs.Settle.{SpiNandFlash}
use Rattle.nand_runs.specs.AsRust.{rust_driver, identification, BeginsIdentifying, configured_then_refused, refused_by, refused_heeding, but_large, AsRust}
use Rattle.nand_runs.specs.Program.{Left, rust_program, large_page, refused-page}
use Rattle.nand_runs.specs.Rust.{MAX-VERIFY-PAGE-SIZE, read-configuration, reset-and-identify, ensure-configuration, unprotect, bring-up, constructed, with-config}
use Rattle.nand_runs.specs.Run.{sort_of, nand_driver}
use Rattle.nand_runs.proofs.Places.{parts, Valid}
use Rattle.nand_runs.proofs.Keeps.{Built}
use Rattle.nand_runs.proofs.Meaning.{DONE, meaning}
use Rattle.nand_runs.proofs.Agrees.{large}
use Rattle.nand_runs.proofs.Built.{nand-built}
use Rattle.nand_runs.proofs.Known.{supplies, known}
use Rattle.nand_runs.proofs.Is.{nand-is}

pub general : Promises nand_driver
general = promises nand_driver parts Valid Built meaning supplies nand-is

-- ---- one call

stops-identified : refused-page ≡ identification >>= (λ id. fail FlashError.NotSupported)
unfolding refused-page ◌>>=◌ ◌>>◌
stops-identified = refl

large-takes : (call : Call) (b d : ℕ) → large_page call ≡ true → takes_of (sort_of call b d) ≡ Takes.Nothing
unfolding sort_of
large-takes (Call.WithConfig config) b d big = refl
large-takes call b d big = absurd (true≢false (sym big))

module _ (s : Setup) (call : Call) (l : Lent) (es : List (Event Call)) where
  abbrev own : Prog Left
  own = rust_program s call (length l.buffer) (length l.given)

  small-heeding : large_page call ≡ false → rust_heeding nand_driver s call l es ≡ rust_heeding rust_driver s call l es
  small-heeding small = ap (λ x. heeding (takes_at nand_driver call l) (program_on_bus l.given (pick x refused-page own)) es l.buffer) small

  -- a construction takes nothing but the scratch
  large-heeding : large_page call ≡ true → rust_heeding nand_driver s call l es ≡ refused_heeding l es
  large-heeding big =
      ap (λ x. heeding (takes_at nand_driver call l) (program_on_bus l.given (pick x refused-page own)) es l.buffer) big
      ∙ ap (λ k. heeding k (program_on_bus l.given refused-page) es l.buffer) (large-takes call (length l.buffer) (length l.given) big)

  small-call : large_page call ≡ false → rust_call nand_driver s call l es ≡ rust_call rust_driver s call l es
  small-call small = ap (λ x. performed (program_on_bus l.given (pick x refused-page own)) (replies_of es) l.buffer) small

  large-call : large_page call ≡ true → rust_call nand_driver s call l es ≡ refused_by l es
  large-call big =
      ap (λ x. performed (program_on_bus l.given (pick x refused-page own)) (replies_of es) l.buffer) big

-- ---- the Rust's construction with a page that is too large

identifies : (s : Setup) (config : SpiNandConfig) (b d : ℕ) → BeginsIdentifying (rust_program s (Call.WithConfig config) b d)
unfolding rust_program with-config bring-up ◌>>=◌ ◌>>◌
identifies s config b d =
    let rest : NandJedecId → Prog NandInit = λ id. ensure-configuration config >>= (λ before. unprotect >>= (λ protection. read-configuration >>= (λ after. ret (init_of id before after protection)))) in
    let last : NandInit → Prog Setup = λ init. refuse (ltb MAX-VERIFY-PAGE-SIZE (constructed config init).geometry.page_size) FlashError.NotSupported >> ret (constructed config init) in
    record {
      rest = λ id. (rest id >>= last) >>= DONE;
      is = ap (ask Transfer.Raise) (fun_ext (λ v. ap (λ p. p >>= DONE) (bind_assoc reset-and-identify rest last) ∙ bind_assoc reset-and-identify (λ id. rest id >>= last) DONE));
    }

module _ (config : SpiNandConfig) (big : large_page (Call.WithConfig config) ≡ true) where
  abbrev refusal : Prog Left
  refusal = fail FlashError.NotSupported

  abbrev last : NandInit → Prog Setup
  last init = refuse (ltb MAX-VERIFY-PAGE-SIZE (constructed config init).geometry.page_size) FlashError.NotSupported >> ret (constructed config init)

  too-large : (init : NandInit) → last init >>= DONE ≡ refusal
  unfolding refuse ◌>>=◌ ◌>>◌
  too-large init = rw (lt-ltb MAX-VERIFY-PAGE-SIZE _ (leb-false _ MAX-VERIFY-PAGE-SIZE (large config.geometry init.id (not-true _ big)))) refl

  abbrev rest : NandJedecId → Prog NandInit
  rest id = ensure-configuration config >>= (λ before. unprotect >>= (λ protection. read-configuration >>= (λ after. ret (init_of id before after protection))))

  abbrev refused-after : Prog Left
  refused-after = ensure-configuration config >>= (λ before. unprotect >>= (λ protection. read-configuration >>= (λ after. refusal)))

  told-last : (id : NandJedecId) (before : Configuration) (protection : Protection) →
      (read-configuration >>= (λ after. ret (init_of id before after protection))) >>= (λ init. refusal) ≡ read-configuration >>= (λ after. refusal)
  unfolding ◌>>=◌
  told-last id before protection = bind_assoc read-configuration (λ after. ret (init_of id before after protection)) (λ init. refusal)

  refuses-rest : (id : NandJedecId) → rest id >>= (λ init. refusal) ≡ refused-after
  refuses-rest id =
      bind_assoc (ensure-configuration config) (λ before. unprotect >>= (λ protection. read-configuration >>= (λ after. ret (init_of id before after protection)))) (λ init. refusal)
      ∙ ap (λ f. ensure-configuration config >>= f)
      (fun_ext (λ before. bind_assoc unprotect (λ protection. read-configuration >>= (λ after. ret (init_of id before after protection))) (λ init. refusal)
      ∙ ap (λ f. unprotect >>= f) (fun_ext (λ protection. told-last id before protection))))

  goes-on : (s : Setup) (b d : ℕ) → rust_program s (Call.WithConfig config) b d ≡ configured_then_refused config
  unfolding rust_program with-config bring-up ◌>>=◌ ◌>>◌
  goes-on s b d =
      ap (ask Transfer.Raise)
      (fun_ext (λ v. ap (λ p. p >>= DONE) (bind_assoc reset-and-identify rest last)
      ∙ bind_assoc reset-and-identify (λ id. rest id >>= last) DONE
      ∙ ap (λ f. reset-and-identify >>= f) (fun_ext (λ id. bind_assoc (rest id) last DONE ∙ ap (λ f. rest id >>= f) (fun_ext too-large) ∙ refuses-rest id))))

-- ---- a program that fails in the end leaves no driver

-- on any replies, or on any events
pub record LeavesNone (q : BusProg Left) : Type 0 where
  pub replied : (replies : List Answer) (buffer : List ℕ) → left_by (performed q replies buffer) ≡ none
  pub heeded : (k : Takes) (es : List (Event Call)) (buffer : List ℕ) → left_by (heeding k q es buffer) ≡ none

none-either : (b : Bool) (xs ys : List (Did Left)) → left_by xs ≡ none → left_by ys ≡ none → left_by (pick b xs ys) ≡ none
none-either true xs ys h k = h
none-either false xs ys h k = k

module _ {X : Type 0} (f : X → BusProg Left) (h : (x : X) → LeavesNone (f x)) where
  replied-none : (q : BusProg X) (rs : List Answer) (buffer : List ℕ) → left_by (performed (OnBus.◌>>=◌ q f) rs buffer) ≡ none
  unfolding OnBus.◌>>=◌ performed
  replied-none (answers x) rs buffer = (h x).replied rs buffer
  replied-none (stops e) rs buffer = refl
  replied-none (does shown k) [] buffer = refl
  replied-none (does shown k) (r ∷ rs) buffer = replied-none (k r) rs buffer
  replied-none (fills at bytes q) rs buffer = replied-none q rs (delivered_of buffer at bytes)

  heeded-none : (q : BusProg X) (k : Takes) (es : List (Event Call)) (buffer : List ℕ) → left_by (heeding k (OnBus.◌>>=◌ q f) es buffer) ≡ none
  unfolding OnBus.◌>>=◌ heeding
  heeded-none (answers x) k es buffer = (h x).heeded k es buffer
  heeded-none (stops e) k es buffer = refl
  heeded-none (fills at bytes q) k es buffer = heeded-none q k es (delivered_of buffer at bytes)
  heeded-none (does shown g) k [] buffer = refl
  heeded-none (does shown g) k (Run.call c l ∷ es) buffer = heeded-none (does shown g) k es buffer
  heeded-none (does shown g) k (Run.reply r bytes l ∷ es) buffer =
      none-either (fits_out k shown l r (length bytes)) _ _ (heeded-none (g (record { kind = r; bytes = bytes })) k es buffer) (heeded-none (does shown g) k es buffer)

  none-on-bus : (q : BusProg X) → LeavesNone (OnBus.◌>>=◌ q f)
  none-on-bus q = record { replied = replied-none q; heeded = heeded-none q }

module _ (given : List ℕ) where
  none-fail : (e : FlashError) → LeavesNone (program_on_bus given (fail e))
  unfolding program_on_bus performed heeding
  none-fail e = record { replied = λ rs buffer. refl; heeded = λ k es buffer. refl }

  none-bind : {X : Type 0} (p : Prog X) (f : X → Prog Left) → ((x : X) → LeavesNone (program_on_bus given (f x))) → LeavesNone (program_on_bus given (p >>= f))
  unfolding program_on_bus ◌>>=◌
  none-bind (ret x) f h = h x
  none-bind (fail e) f h = none-fail e
  none-bind (ask t k) f h = none-on-bus (λ v. program_on_bus given (k v >>= f)) (λ v. none-bind (k v) f h) (on_bus given t)

  large-none : (config : SpiNandConfig) → LeavesNone (program_on_bus given (configured_then_refused config))
  large-none config =
      none-bind identification _ (λ id. none-bind (ensure-configuration config) _
      (λ before. none-bind unprotect _ (λ protection. none-bind read-configuration _ (λ after. none-fail FlashError.NotSupported))))

  rust-none : (s : Setup) (c : Call) (b d : ℕ) → large_page c ≡ true → LeavesNone (program_on_bus given (rust_program s c b d))
  rust-none s (Call.WithConfig config) b d big = rw (goes-on config big s b d) (large-none config)
  rust-none s c b d big = absurd (true≢false (sym big))

refused-none : (l : Lent) → LeavesNone (program_on_bus l.given refused-page)
refused-none l = rw stops-identified (none-bind l.given identification _ (λ id. none-fail l.given FlashError.NotSupported))

large-gives : (flash : SpiNandFlash) (call : Call) (l : Lent) (es : List (Event Call)) → Steady nand_driver flash call l es → large_page call ≡ true →
    gives_of (told (accepted (steps_at nand_driver flash call l es))) ≡ gives_of (refused_heeding l es)
large-gives flash call l es h big = general.same_as_rust.gives flash call l es h ∙ ap gives_of (large-heeding flash.setup call l es big)

-- ---- any sequence of calls

but-alike : {B : Type 0} (large : Bool) (xs ys : List B) → (large ≡ false → xs ≡ ys) → pick large [] xs ≡ pick large [] ys
but-alike true xs ys h = refl
but-alike false xs ys h = h refl

module _ (flash : SpiNandFlash) (x : Turn Call) (h : Steady nand_driver flash x.call x.lent x.events) where
  abbrev before : Option Setup
  before = driver_of nand_driver flash

  abbrev rust : List (Did Left)
  rust = heeding_turn rust_driver before x

  small-turn : large_page x.call ≡ false → turn_gives nand_driver flash x ≡ gives_of rust
  small-turn small = turn-gives known flash x h ∙ ap gives_of (small-heeding (holding (nand_driver.setup nand_driver.fresh) before) x.call x.lent x.events small)

  turn-left : (b : Bool) → large_page x.call ≡ b → left_by (told (turn_steps nand_driver flash x)) ≡ left_by rust
  turn-left true big =
      left-as (turn_steps nand_driver flash x) (refused_heeding x.lent x.events) (large-gives flash x.call x.lent x.events h big)
      ∙ (refused-none x.lent).heeded Takes.Nothing x.events x.lent.buffer
      ∙ sym ((rust-none x.lent.given (holding (nand_driver.setup nand_driver.fresh) before) x.call (length x.lent.buffer) (length x.lent.given) big).heeded (takes_at nand_driver x.call x.lent) x.events x.lent.buffer)
  turn-left false small = left-as (turn_steps nand_driver flash x) rust (small-turn small)

  turn-driver : driver_of nand_driver (turn_after nand_driver flash x) ≡ driver_after (sort_at nand_driver x.call x.lent) before (left_by rust)
  turn-driver = general.same_as_rust.left flash x.call x.lent x.events h.usable ∙ ap (driver_after (sort_at nand_driver x.call x.lent) before) (turn-left (large_page x.call) refl)

sessions : (flash : SpiNandFlash) (turns : List (Turn Call)) → EachTurn nand_driver (λ flash x. Steady nand_driver flash x.call x.lent x.events) flash turns →
    but_large turns (turn_by_turn nand_driver (turn_gives nand_driver) flash turns) ≡
    but_large turns (map gives_of (rust_session rust_driver (heeding_turn rust_driver) (driver_of nand_driver flash) turns))
unfolding EachTurn turn_by_turn rust_session
sessions flash [] h = refl
sessions flash (x ∷ xs) h =
    ap₂ (λ a b. a ∷ b) (but-alike (large_page x.call) _ _ (small-turn flash x h.0))
    (sessions (turn_after nand_driver flash x) xs h.1
    ∙ ap (λ before. but_large xs (map gives_of (rust_session rust_driver (heeding_turn rust_driver) before xs)))
    (turn-driver flash x h.0))

small-delivers : (flash : SpiNandFlash) (x : Turn Call) → SteadyAlone nand_driver flash x → large_page x.call ≡ false →
    turn_does nand_driver flash x ≡ heeding_turn rust_driver (driver_of nand_driver flash) x
small-delivers flash x h small = turn-delivers known flash x h ∙ small-heeding _ x.call x.lent x.events small

delivered-sessions : (flash : SpiNandFlash) (turns : List (Turn Call)) → EachTurn nand_driver (SteadyAlone nand_driver) flash turns →
    but_large turns (turn_by_turn nand_driver (turn_does nand_driver) flash turns) ≡
    but_large turns (rust_session rust_driver (heeding_turn rust_driver) (driver_of nand_driver flash) turns)
unfolding EachTurn turn_by_turn rust_session
delivered-sessions flash [] h = refl
delivered-sessions flash (x ∷ xs) h =
    ap₂ (λ a b. a ∷ b) (but-alike (large_page x.call) _ _ (small-delivers flash x h.0))
    (delivered-sessions (turn_after nand_driver flash x) xs h.1
    ∙ ap (λ before. but_large xs (rust_session rust_driver (heeding_turn rust_driver) before xs))
    (turn-driver flash x h.0.0))

pub as-rust : AsRust
as-rust = record {
  gives = λ flash call l es h small. general.same_as_rust.gives flash call l es h ∙ ap gives_of (small-heeding flash.setup call l es small);
  delivers = λ flash call l es h still small. general.same_as_rust.delivers flash call l es h still ∙ small-heeding flash.setup call l es small;
  same = λ flash call l es h small. general.same_as_rust.same flash call l es h ∙ small-call flash.setup call l es small;
  large = λ flash call l es h big. general.same_as_rust.same flash call l es h ∙ large-call flash.setup call l es big;
  large_gives = large-gives;
  identifies = λ flash config b d. identifies flash.setup config b d;
  goes_on = λ flash config b d big. goes-on config big flash.setup b d;
  rust_leaves_none = λ flash config l es big.
      let none-left = rust-none l.given flash.setup (Call.WithConfig config) (length l.buffer) (length l.given) big in
      (none-left.replied (replies_of es) l.buffer, none-left.heeded (takes_at nand_driver (Call.WithConfig config) l) es l.buffer);
  leaves_none = λ l es. let none-left = refused-none l in (none-left.replied (replies_of es) l.buffer, none-left.heeded Takes.Nothing es l.buffer);
  sessions = sessions;
  delivered_sessions = delivered-sessions;
  fresh_sessions = λ turns asked. sessions nand_driver.fresh turns (nand-built.steady turns asked);
  fresh_delivered_sessions = λ turns asked alone. delivered-sessions nand_driver.fresh turns (steady-alone nand_driver turns nand_driver.fresh (nand-built.steady turns asked) alone);
}

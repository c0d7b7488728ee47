-- A call that reads the contents of the chip in order delivers them: what is known of the bytes read carries to the caller's buffer.
use Prim.Native.Nat.{ℕ, zero, suc, ◌+◌}
use native.Mathlib.Omega.{arith}
use native.Mathlib.Nat.{zero-add, add-zero}
use mathlib.Core.Bool.{Bool, true, false}
use mathlib.Core.Logic.{⊎_elim}
use mathlib.Core.Path.{◌≡◌, refl, ap, sym, ◌∙◌, subst}
use mathlib.Core.List.{List, [], ◌∷◌, ◌++◌, append-nil, append_assoc}
use lib.ListN.{length, take, drop}
use Rattle.std.proofs.Math.Seq.{take-append_seam}
use Rattle.std.proofs.lemmas.List.{drop_all}
use Rattle.qspi.specs.Frame.{Outcome}
use Rattle.qspi.specs.Choice.{pick}
use Rattle.spi_flash.specs.Loan.{Lent}
use Rattle.spi_flash.specs.Prog.{ret}
use Rattle.spi_flash.specs.Run.{Event, reply, call, Given, act, ended, failed, refused, Entry, goes_on}
use Rattle.spi_flash.proofs.Machine.{Decision, machine, rest}
use Rattle.spi_flash.specs.Seen.{unless_refused, Taken, Undisturbed}
use Rattle.spi_flash.specs.declared.loan.Takes.{Takes}
use Rattle.flash_runs.specs.Contents.{contents_from, buffer_after, run, steps, read_in, Delivers}
use Rattle.flash_runs.specs.Driver.{leaving, Sort, constructs, tells, releases, uses, takes_of, takes_buffer, Driver, sort_at, takes_at, program_at, bounded_at, flash_after}
use Rattle.flash_runs.specs.LentBytes.{LentBytes}
use Rattle.flash_runs.specs.Reading.{read_by, mine_then, bytes_read, in_front, HoldsRead}
use Rattle.flash_runs.specs.Watch.{Succeeded}
use Rattle.flash_runs.specs.WithinBound.{Begun}
use Rattle.flash_runs.proofs.AtOnce.{EndsAtOnce, ended-well}
use Rattle.flash_runs.proofs.General.{decide_next}
use Rattle.flash_runs.proofs.Lent.{lent_bytes}
use Rattle.flash_runs.proofs.Supplies.{Known}
use Rattle.flash_runs.proofs.Views.{true≢false, shape, Opens, opens-run, opens-call}

-- ---- lists

pub contents-length : (contents : ℕ → ℕ) (place n : ℕ) → length (contents_from contents place n) ≡ n
contents-length contents place zero = refl
contents-length contents place (suc n) = rw (contents-length contents (suc place) n) refl

pub contents-append : (contents : ℕ → ℕ) (place m n : ℕ) → contents_from contents place (m + n) ≡ contents_from contents place m ++ contents_from contents (place + m) n
contents-append contents place zero n = rw (zero-add n) (ap (λ p. contents_from contents p n) (sym (add-zero place)))
contents-append contents place (suc m) n =
    let all : suc m + n ≡ suc (m + n) = omega arith in
    let next : suc place + m ≡ place + suc m = omega arith in
    rw all (ap (λ bs. contents place ∷ bs) (contents-append contents (suc place) m n ∙ ap (λ p. contents_from contents (suc place) m ++ contents_from contents p n) next))

-- ---- the buffer

module _ (reads : List ℕ → Bool) (old : List ℕ) where
  taken-buffer : {C A : Type 0} (mine : Bool) (bytes buffer : List ℕ) (event : Event C) (given : Given A) (left : Lent) →
      let x : Entry C A = record { event = event; given = given; left = left } in
      buffer ≡ in_front bytes old → Taken given (left.buffer ≡ in_front (bytes ++ read_by mine x) old) →
      unless_refused given left.buffer buffer ≡ in_front (bytes ++ read_by mine x) old
  taken-buffer mine bytes buffer event (act shown) left e h = h
  taken-buffer mine bytes buffer event (ended a) left e h = h
  taken-buffer mine bytes buffer event (failed error) left e h = h
  taken-buffer mine bytes buffer event (refused error) left e h = e ∙ ap (λ bs. in_front bs old) (sym (append-nil bytes))

  holds-after : {C A : Type 0} (xs : List (Entry C A)) (mine : Bool) (bytes buffer : List ℕ) → buffer ≡ in_front bytes old → HoldsRead reads mine old bytes xs →
      buffer_after buffer xs ≡ in_front (bytes ++ bytes_read reads mine xs) old
  unfolding HoldsRead buffer_after bytes_read
  holds-after [] mine bytes buffer e h = e ∙ ap (λ bs. in_front bs old) (sym (append-nil bytes))
  holds-after (x ∷ xs) mine bytes buffer e h =
      holds-after xs (mine_then reads x.given mine) (bytes ++ read_by mine x) _ (taken-buffer mine bytes buffer x.event x.given x.left e h.0) h.1
      ∙ ap (λ bs. in_front bs old) (append_assoc bytes (read_by mine x) (bytes_read reads (mine_then reads x.given mine) xs))

-- ---- behind the end nothing is read, and no buffer changes

module _ {S A : Type 0} (next : S → Outcome → Decision S A) {C : Type 0} where
  rest-read : (reads : List ℕ → Bool) (mine : Bool) (es : List (Event C)) → bytes_read reads mine (goes_on (machine next C) rest es) ≡ []
  unfolding goes_on bytes_read
  rest-read reads mine [] = refl
  rest-read reads mine (call c l ∷ es) = refl
  rest-read reads mine (reply r bytes l ∷ es) = rest-read reads mine es

  rest-buffer : (buffer : List ℕ) (es : List (Event C)) → buffer_after buffer (goes_on (machine next C) rest es) ≡ buffer
  unfolding goes_on buffer_after
  rest-buffer buffer [] = refl
  rest-buffer buffer (call c l ∷ es) = refl
  rest-buffer buffer (reply r bytes l ∷ es) = rest-buffer buffer es

-- ---- a call that takes the buffer

sorted-buffer : {S : Type 0} (x : Sort S) → takes_buffer (takes_of x) ≡ true → (n : ℕ) × (x ≡ uses (Takes.Buffer n))
sorted-buffer (constructs fresh) h = absurd (true≢false (sym h))
sorted-buffer tells h = absurd (true≢false (sym h))
sorted-buffer releases h = absurd (true≢false (sym h))
sorted-buffer (uses Takes.Nothing) h = absurd (true≢false (sym h))
sorted-buffer (uses (Takes.Buffer n)) h = (n, refl)
sorted-buffer (uses (Takes.Data n)) h = absurd (true≢false (sym h))

module _ {F C S A : Type 0} {driver : Driver F C S A} (known : Known driver) (flash : F) (c : C) (l : Lent) (own : takes_buffer (takes_at driver c l) ≡ true)
    (contents : ℕ → ℕ) (place : ℕ) (es : List (Event C)) where
  abbrev len : ℕ
  len = length l.buffer

  abbrev reading : List ℕ
  reading = read_in driver flash c l es (run driver flash c l es)

  lent : LentBytes driver
  lent = lent_bytes known

  -- its bytes are the contents', in order; where it ended well they are as many as the buffer has places; and it ends at once only for none
  module _ (in_order : reading ≡ contents_from contents place (length reading)) (all : Succeeded (run driver flash c l es) → length reading ≡ len)
      (none : (a : A) → bounded_at driver flash c l ≡ true → program_at driver (driver.setup flash) c l ≡ ret (leaving (driver.setup flash) a) → len ≡ 0) where
    abbrev holding : Type 0
    holding = Undisturbed l.buffer (run driver flash c l es)

    held : holding → buffer_after l.buffer (run driver flash c l es) ≡ in_front reading l.buffer
    held h = holds-after driver.reads l.buffer (run driver flash c l es) false [] l.buffer refl (lent.holds flash c l es own h)

    holds : holding → buffer_after l.buffer (run driver flash c l es) ≡ in_front (contents_from contents place (length reading)) l.buffer
    holds h = held h ∙ ap (λ bs. in_front bs l.buffer) in_order

    shows : Begun driver flash c l → holding →
        driver.delivered (flash_after driver flash c l es) (buffer_after l.buffer (run driver flash c l es)) ≡ contents_from contents place (length reading)
    shows b h =
        lent.delivered flash c l es b (buffer_after l.buffer (run driver flash c l es))
        ∙ ap (λ x. take (length (pick x reading [])) (buffer_after l.buffer (run driver flash c l es))) own
        ∙ ap (take (length reading)) (held h)
        ∙ take-append_seam reading (drop (length reading) l.buffer)
        ∙ in_order

    -- at the end
    record Ended : Type 0 where
      whole : read_in driver flash c l es (steps driver flash c l es) ≡ contents_from contents place len
      fills : Undisturbed l.buffer (steps driver flash c l es) → buffer_after l.buffer (steps driver flash c l es) ≡ contents_from contents place len

    at-once : EndsAtOnce known flash c l → Ended
    unfolding bytes_read buffer_after
    at-once x =
        let empty : len ≡ 0 = none x.answer x.bounds x.program in
        let nothing : contents_from contents place len ≡ [] = ap (contents_from contents place) empty in
        record {
          whole = rw (x.steps es) (rest-read (decide_next known.parts) driver.reads false es ∙ sym nothing);
          fills = λ h. rw (x.steps es) (rest-buffer (decide_next known.parts) l.buffer es ∙ drop_all 0 l.buffer (omega arith) ∙ sym nothing);
        }

    by_run : Opens known (shape known flash) c l → Succeeded (steps driver flash c l es) → Ended
    by_run o e =
        let same : steps driver flash c l es ≡ run driver flash c l es = opens-call known flash o es ∙ sym (opens-run known flash o es) in
        let full : length reading ≡ len = all (subst Succeeded same e) in
        let read : reading ≡ contents_from contents place len = in_order ∙ ap (contents_from contents place) full in
        record {
          whole = rw same read;
          fills = λ h. rw same
              (held (subst (Undisturbed l.buffer) same h)
              ∙ ap (λ bs. reading ++ bs) (drop_all (length reading) l.buffer (omega (arith, full)))
              ∙ append-nil reading
              ∙ read);
        }

    ending : Succeeded (steps driver flash c l es) → Ended
    ending e =
        let kind = sorted-buffer (sort_at driver c l) own in
        ⊎_elim at-once (λ o. by_run o e) (ended-well known flash c l (Takes.Buffer kind.0) kind.1 es e)

    pub delivers : Delivers driver flash c l es contents place
    delivers = record { bytes = in_order; holds = holds; shows = shows; whole = λ e. (ending e).whole; fills = λ e. (ending e).fills }

-- What is lent, over every run: the caller's buffer, the scratch and the data, and how select is left (docs/SPECIFICATION.md, "Lent
-- memory").
use Rattle.std.specs.Prelude.{ℕ, true, false, ◌≡◌, List, [], length, take}
use Rattle.std.proofs.Math.Option.{none}
use Rattle.qspi.specs.declared.bus.Reply.{Reply}
use Rattle.spi_flash.specs.Loan.{Lent}
use Rattle.spi_flash.specs.Run.{Event, refused}
use Rattle.spi_flash.specs.Seen.{unless_refused, Undisturbed, KeepsBuffer, EndsHigh}
use Rattle.spi_flash.specs.declared.error.FlashError.{FlashError}
use Rattle.flash_runs.specs.Begins.{SameLooked, SameStep, first_delivered, callers_bytes}
use Rattle.flash_runs.specs.Driver.{Driver, takes_buffer, sort_at, takes_at, run_at, flash_after}
use Rattle.flash_runs.specs.Reading.{bytes_read, ChangesRead, HoldsRead}
use Rattle.flash_runs.specs.Scratch.{payloads_of, PutsOver}
use Rattle.flash_runs.specs.Watch.{closed, StopsOnError}
use Rattle.flash_runs.specs.WithinBound.{Begun}

module _ {F C S A : Type 0} (driver : Driver F C S A) where
  -- over every run, whatever the replies and whatever is lent
  pub record LentBytes : Type 0 where
    -- ---- a beginning

    -- it looks at nothing but what the call takes, and changes nothing that is lent
    pub begins_alike : (flash : F) (call : C) (l m : Lent) → SameLooked (sort_at driver call l) l m → SameStep (driver.system.begin flash call l) (driver.system.begin flash call m)
    pub begins_leave : (flash : F) (call : C) (l : Lent) → (driver.system.begin flash call l).left ≡ l
    -- ---- the buffer

    -- a call that reads into the caller's buffer changes no place but those of bytes read by then
    pub changes : (flash : F) (call : C) (l : Lent) (es : List (Event C)) → takes_buffer (takes_at driver call l) ≡ true →
        ChangesRead driver.reads false 0 (run_at driver flash call l es)
    -- where the buffer is undisturbed it has those bytes at its start, and behind them what it had before
    pub holds : (flash : F) (call : C) (l : Lent) (es : List (Event C)) → takes_buffer (takes_at driver call l) ≡ true →
        Undisturbed l.buffer (run_at driver flash call l es) → HoldsRead driver.reads false l.buffer [] (run_at driver flash call l es)
    -- no other call changes the buffer
    pub keeps : (flash : F) (call : C) (l : Lent) (es : List (Event C)) → takes_buffer (takes_at driver call l) ≡ false → KeepsBuffer (run_at driver flash call l es)
    -- ---- what `delivered` shows

    -- as many places of the buffer as bytes were read for the caller, while a begun call runs and when it has ended
    pub delivered : (flash : F) (call : C) (l : Lent) (es : List (Event C)) → Begun driver flash call l → (buffer : List ℕ) →
        driver.delivered (flash_after driver flash call l es) buffer ≡
        take (length (callers_bytes (takes_at driver call l) (bytes_read driver.reads false (run_at driver flash call l es)))) buffer
    -- nothing where a call begins or ends at once, but that a refusal, a look at the driver and its release leave what it showed
    pub delivered_first : (flash : F) (call : C) (l : Lent) (buffer : List ℕ) → let before = driver.delivered flash buffer in
        driver.delivered (driver.system.begin flash call l).flash buffer ≡
        unless_refused (driver.system.begin flash call l).given (first_delivered (sort_at driver call l) before) before
    -- and so does a refused reply
    pub delivered_kept : (flash : F) (r : Reply) (bytes : List ℕ) (l : Lent) (e : FlashError) → (driver.system.answer flash r bytes l).given ≡ refused e → (buffer : List ℕ) →
        driver.delivered (driver.system.answer flash r bytes l).flash buffer ≡ driver.delivered flash buffer
    -- ---- the scratch, the data and select

    -- what a step gives out is put at its places of the scratch, the rest stays, and so do the caller's data; behind commands go parts of
    -- the caller's data where the call takes them, and else the bad-block mark that the call puts, at a good end whole or not at all
    pub scratch : (flash : F) (call : C) (l : Lent) (es : List (Event C)) → let all = payloads_of (takes_at driver call l) (driver.stamps (driver.setup flash) call) in
        PutsOver all closed all (run_at driver flash call l es)
    -- every call ends with select high, whatever it was before
    pub ends_high : (flash : F) (call : C) (l : Lent) (es : List (Event C)) → EndsHigh false (run_at driver flash call l es)
    -- behind a bus error select is raised, and the call fails with the error's code
    pub stops_on_error : (flash : F) (call : C) (l : Lent) (es : List (Event C)) → StopsOnError none (run_at driver flash call l es)

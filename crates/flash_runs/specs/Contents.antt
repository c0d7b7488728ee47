-- What a read delivers of what the chip holds, at every step and at its end (docs/SPECIFICATION.md, "Reads on the bus"). A chip's contents
-- are any function from a place to a byte.
use Rattle.std.specs.Prelude.{ℕ, zero, suc, false, ◌≡◌, List, [], ◌∷◌, length}
use Rattle.spi_flash.specs.Loan.{Lent}
use Rattle.spi_flash.specs.Run.{Event, Entry}
use Rattle.spi_flash.specs.Seen.{unless_refused, Undisturbed}
use Rattle.flash_runs.specs.Driver.{Left, Driver, run_at, steps_at, flash_after}
use Rattle.flash_runs.specs.Reading.{bytes_read, in_front}
use Rattle.flash_runs.specs.Watch.{Succeeded}
use Rattle.flash_runs.specs.WithinBound.{Begun}

-- n bytes of the contents, from a place on
abbrev pub contents_from : (contents : ℕ → ℕ) (place n : ℕ) → List ℕ
contents_from contents place zero = []
contents_from contents place (suc n) = contents place ∷ contents_from contents (suc place) n

-- the caller's buffer as the last step left it; a refused one counts nowhere
unfoldable pub buffer_after : {C A : Type 0} → List ℕ → List (Entry C A) → List ℕ
buffer_after buffer [] = buffer
buffer_after buffer (x ∷ xs) = buffer_after (unless_refused x.given x.left.buffer buffer) xs

-- a call that reads into the caller's buffer, behind any events
module _ {F C S A : Type 0} (driver : Driver F C S A) (flash : F) (call : C) (l : Lent) (es : List (Event C)) where
  abbrev pub run : List (Entry C (Left S A))
  run = run_at driver flash call l es

  -- its steps, the end at once among them
  abbrev pub steps : List (Entry C (Left S A))
  steps = steps_at driver flash call l es

  abbrev pub read_in : List (Entry C (Left S A)) → List ℕ
  read_in xs = bytes_read driver.reads false xs

  -- it delivers the contents from a place on
  pub record Delivers (contents : ℕ → ℕ) (place : ℕ) : Type 0 where
    -- the bytes read so far
    pub bytes : read_in run ≡ contents_from contents place (length (read_in run))
    -- where nobody else writes in the buffer it holds them at its start, and its old bytes behind them
    pub holds : Undisturbed l.buffer run → buffer_after l.buffer run ≡ in_front (contents_from contents place (length (read_in run))) l.buffer
    -- and `delivered` shows them
    pub shows : Begun driver flash call l → Undisturbed l.buffer run →
        driver.delivered (flash_after driver flash call l es) (buffer_after l.buffer run) ≡ contents_from contents place (length (read_in run))
    -- a call that has ended well has read as many as the buffer has places
    pub whole : Succeeded steps → read_in steps ≡ contents_from contents place (length l.buffer)
    -- and the buffer is they
    pub fills : Succeeded steps → Undisturbed l.buffer steps → buffer_after l.buffer steps ≡ contents_from contents place (length l.buffer)

-- A sham replay (docs/SPECIFICATION.md, "Shams"): at each step it calls the tape spent, ahead of looking at it.
use Rattle.spi_flash.specs.Shape.{Given, refuses}
use Rattle.spi_flash.specs.declared.error.FlashError.{FlashError}
use Rattle.tape_runs.specs.Player.{Player}

-- a replay, and what its driver gave last
pub record Unlooked (R A : Type 0) : Type 0 where
  pub replay : R
  pub given : Given A

abbrev pub unlooked : {R A : Type 0} → R → Given A → Unlooked R A
unlooked replay given = record { replay = replay; given = given }

abbrev pub spent_unlooked : {R F C A : Type 0} → Player R F C A → Player (Unlooked R A) F C A
spent_unlooked player =
    record {
      system = player.system;
      awaited = player.awaited;
      begin = λ flash call tape l. unlooked (player.begin flash call tape l) (player.last (player.begin flash call tape l));
      advance = λ r tape l. record { replay = unlooked r.replay (refuses FlashError.TapeSpent); left = l };
      flash = λ r. player.flash r.replay;
      last = λ r. r.given;
      at = λ r. player.at r.replay;
    }

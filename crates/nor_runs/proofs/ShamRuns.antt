-- Each sham run breaks a part of `ReadSeen` or `WriteSeen`, by computation.
use Prim.Native.Nat.{ℕ, ◌<◌}
use native.Mathlib.Omega.{arith}
use mathlib.Core.Path.{refl, ap, sym, subst}
use mathlib.Core.List.{List, [], ◌∷◌}
use lib.ListN.{length}
use Rattle.std.specs.Prelude.{None}
use Rattle.flash_runs.specs.Reading.{bytes_read}
use Rattle.flash_runs.specs.Watch.{watched, Succeeded}
use Rattle.nor_runs.specs.Chip.{NextPage, ReadSeen}
use Rattle.nor_runs.specs.Observer.{Change, page, other}
use Rattle.nor_runs.specs.ShamRuns.{one_piece, ShamRunsFail}

-- ---- what tells two lists apart

abbrev first : List ℕ → ℕ
first [] = 0
first (x ∷ xs) = x

abbrev second : List ℕ → ℕ
second [] = 0
second (x ∷ xs) = first xs

-- a page's place, and 0 for what is none
abbrev place : Change → ℕ
place (page p) = p
place other = 0

abbrev changed_at : List Change → ℕ
changed_at [] = 0
changed_at (x ∷ xs) = place x

too-long : (bytes : List ℕ) → 65536 < length bytes → ReadSeen None (one_piece bytes) 5 (length bytes) → ⊥
unfolding watched
too-long [] long h = omega (arith, long)
too-long (b ∷ bytes) long h = omega (arith, long, h.in_turn.1)

pub sham-runs-fail : ShamRunsFail
unfolding watched Succeeded bytes_read
sham-runs-fail = record {
  whole = record { in_turn = (refl, omega arith, tt); next = tt; within = omega arith; all = refl; unchanged = refl; whole = λ e. refl };
  in_pieces = record { in_turn = (refl, omega arith, (refl, omega arith, tt)); next = tt; within = omega arith; all = refl; unchanged = refl; whole = λ e. refl };
  by_quad = record { in_turn = (refl, omega arith, tt); next = tt; within = omega arith; all = refl; unchanged = refl; whole = λ e. refl };
  no-traffic = λ h. omega (arith, h.whole tt);
  rest-claimed = λ h. omega (arith, h.whole tt);
  after_pause = record { in_turn = (refl, omega arith, tt); next = tt; within = omega arith; all = refl; unchanged = refl; whole = λ e. refl };
  erases_nothing = record { in_turn = (refl, omega arith, tt); next = tt; within = omega arith; all = refl; unchanged = refl; whole = λ e. refl };
  second-command = λ h. omega (arith, ap length h.all);
  command-behind-quad = λ h. omega (arith, ap length h.all);
  reads-on = λ h. omega (arith, ap length h.all);
  erased-and-read = λ h. omega (arith, ap length h.unchanged);
  offset-again = λ h. omega (arith, h.in_turn.2.0);
  asked-again = λ h. omega (arith, h.next);
  past-the-end = λ h. omega (arith, h.within);
  long-piece = too-long;
  other-address = λ h. omega (arith, h.in_turn.0);
  lowest-first = λ h. omega (arith, h.in_turn.0);
  one-place-on = λ h. omega (arith, ap length h.all);
  byte-ahead = λ h. omega (arith, ap length h.all);
  longer-command = λ h. omega (arith, ap length h.all);
  byte-ahead-of-quad = λ h. omega (arith, ap length h.all);
  read-unselected = λ h. omega (arith, ap length h.all);
  never-selected = λ h. omega (arith, ap length h.all);
  status-for-contents = λ h. omega (arith, ap length h.all);
  other-opcode = λ h. omega (arith, ap length h.all);
  back = record { in_turn = (refl, omega arith, tt); next = tt; within = omega arith; programmed = record { rest = []; whole = refl }; ahead = tt; all_back = λ e. refl; as_lent = λ e. (refl, tt); whole = λ e. refl };
  back_by_quad = record { in_turn = (refl, omega arith, tt); next = tt; within = omega arith; programmed = record { rest = []; whole = refl }; ahead = tt; all_back = λ e. refl; as_lent = λ e. (refl, tt); whole = λ e. refl };
  back_at_once = record { in_turn = (refl, omega arith, tt); next = tt; within = omega arith; programmed = record { rest = []; whole = refl }; ahead = tt; all_back = λ e. refl; as_lent = λ e. (refl, tt); whole = λ e. refl };
  back_in_three = record { in_turn = (refl, omega arith, tt); next = tt; within = omega arith; programmed = record { rest = []; whole = refl }; ahead = tt; all_back = λ e. refl; as_lent = λ e. (refl, tt); whole = λ e. refl };
  not-read-back = λ h. omega (arith, h.whole tt);
  not-compared = λ h. omega (arith, ap second (h.as_lent tt).0);
  other-place = λ h. omega (arith, h.in_turn.0);
  written-elsewhere = λ h. omega (arith, ap changed_at (h.all_back tt));
  other-command = λ h. omega (arith, ap changed_at (h.all_back tt));
  never-written = λ h. omega (arith, ap length (h.all_back tt));
  read-back-first = λ h. omega (arith, ap length h.programmed.whole);
  erasing = λ h. omega (arith, ap place (subst (NextPage 5) h.programmed.whole h.ahead));
  two-ahead = λ h. subst (NextPage 5) h.programmed.whole h.ahead;
  hidden-program = λ h. omega (arith, ap length (h.all_back tt));
  hidden-in-parts = λ h. omega (arith, ap length (h.all_back tt));
  erased-behind = λ h. omega (arith, ap length (h.all_back tt));
  behind-a-byte = λ h. omega (arith, ap changed_at (h.all_back tt));
  other-quad-write = λ h. omega (arith, ap length (h.all_back tt));
  erased-by-quad = λ h. omega (arith, ap length (h.all_back tt));
  opened-by-read = λ h. omega (arith, ap length (h.all_back tt));
  programmed-by-read = λ h. omega (arith, ap length (h.all_back tt));
  back-in-one-frame = λ h. omega (arith, h.whole tt);
  answers = (refl, tt);
  holds = λ contents h. (sym (ap first h.0), sym (ap second h.0));
}

use Rattle.std.proofs.Common.{◌≡◌, ◌≤◌, take, true}
use Rattle.std.specs.Str.Parse.{digits_value}
use Rattle.case_text.specs.Number.{digits_in}
use Rattle.case_text.proofs.word.in_radix.Given as goal

abbrev pub invariant-loop-c : goal.invariant-loop-c
invariant-loop-c l = record {
  good : digits_in l.radix (take l.c-index l.digits) ≡ true;
  value : l.value ≡ digits_value l.radix (take l.c-index l.digits);
  fits : l.value ≤ 18446744073709551615;
}

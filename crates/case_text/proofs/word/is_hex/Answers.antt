use Rattle.std.proofs.Common.{rules}
use Rattle.std.specs.Char.{is_ascii_hexdigit}
use Rattle.std.proofs.lemmas.Iterator.{YieldsList-from_slice}
use Rattle.std.proofs.lemmas.Iterator.Search.{all_from_yields_List}
use borrow.Author.Tests.{tests}
use Rattle.qspi.proofs.Tests as own
use Rattle.case_text.specs.Number.{is_hex_of}
use Rattle.case_text.proofs.word.is_hex.Goals as goal

pub returns-then-s-eq0 : goal.returns-then-s-eq0
unfolding is_hex_of
returns-then-s-eq0 c =
    let even = c.if-s-eq0.true in
    simp own.tests
    (all_from_yields_List is_ascii_hexdigit _ _ _ c.all.ensures.ran (YieldsList-from_slice c.args.s.now cc) (λ x b q k. search (rules, tests)))

pub returns-else-s-eq0 : goal.returns-else-s-eq0
unfolding is_hex_of
returns-else-s-eq0 c = let odd = c.if-s-eq0.false in simp own.tests

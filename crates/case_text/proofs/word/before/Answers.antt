use Rattle.std.proofs.Common.{ap, ◌∙◌, ℕ, eqb, length, rules, Option}
use Rattle.std.specs.Option.{unwrap_or}
use Rattle.std.proofs.lemmas.Iterator.{YieldsList-from_slice}
use Rattle.std.proofs.lemmas.Iterator.Search.{position_from_yields_List}
use borrow.Author.Tests.{tests}
use Rattle.case_text.specs.Word.{before_of}
use Rattle.case_text.proofs.word.before.Goals as goal

pub returns-clause-value : goal.returns-clause-value
unfolding before_of
returns-clause-value c =
    let s = c.args.s.now in
    let place = position_from_yields_List (λ x. eqb x c.args.mark) _ _ c.position.result c.position.ensures.ran (YieldsList-from_slice s (cc)) (λ x b q k. search (rules, tests)) in
    c.unwrap_or.ensures ∙ ap (λ (o : Option ℕ). unwrap_or o (length s)) place

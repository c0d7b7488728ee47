use Rattle.std.proofs.Common.{◌≡◌, refl, ap, ◌∙◌, ℕ, List, [], eqb, rules, Bor, Option, Some, None}
use Rattle.std.specs.Option.{unwrap_or, option_map}
use Rattle.std.proofs.lemmas.Iterator.Consumers.{nth_from_yields_List}
use Rattle.std.proofs.lemmas.Iterator.Splits.{YieldsList-from_slice_split}
use Rattle.std.proofs.lemmas.Option.{unwrap_or-slice_get}
use borrow.Author.Tests.{tests}
use Rattle.case_text.specs.Word.{word_of, words_in}
use Rattle.case_text.proofs.word.word.Goals as goal

behind_or : (o : Option (Bor (List ℕ))) (d : Bor (List ℕ)) → (unwrap_or o d).now ≡ unwrap_or (option_map (λ x. x.now) o) d.now
behind_or None d = refl
behind_or (Some x) d = refl

pub returns : goal.returns
unfolding word_of words_in
returns c =
    let given = nth_from_yields_List c.nth.result _ c.args.k c.nth.ensures.ran
    (YieldsList-from_slice_split _ (λ x. eqb x 32) c.args.line.now c.split.ensures.rest c.split.ensures.done c.split.ensures.closure (λ x b q k. search (rules, tests)))
    in
    ap (λ (r : Bor (List ℕ)). r.now) c.unwrap_or.ensures
    ∙ behind_or c.nth.result _
    ∙ ap (λ (o : Option (List ℕ)). unwrap_or o []) given
    ∙ unwrap_or-slice_get _ c.args.k []

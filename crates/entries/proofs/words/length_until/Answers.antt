use Rattle.std.proofs.Common.{length, unwrap_or, ap, ◌∙◌, rules}
use Rattle.std.proofs.lemmas.Iterator.{YieldsList-from_slice}
use Rattle.std.proofs.lemmas.Iterator.Search.{position_from_yields_List}
use Rattle.entries.proofs.Runs.{position_or_all}
use Rattle.entries.proofs.words.length_until.Goals as goal

pub returns-clause-place : goal.returns-clause-place
returns-clause-place g c = λ p is.
    let xs = c.args.text.now in
    c.unwrap_or.ensures
    ∙ ap (λ o. unwrap_or o (length xs))
    (position_from_yields_List p _ _ c.position.result c.position.ensures.ran (YieldsList-from_slice xs cc) (λ x b q k. (search rules, is _ _ (search rules))))
    ∙ position_or_all p xs

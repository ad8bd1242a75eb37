use Rattle.std.proofs.Common.{ap, ◌∙◌, lit<}
use Rattle.chess.specs.Page.{chess_model}
use Rattle.roll.specs.Roll.{roll_model, first_page}
use Rattle.worked.proofs.verdict_under_two_rolls.Goals as goal

pub returns : goal.returns
returns c =
    let page =
    c.new-outer.ensures 0 (lit< tt) ∙ ap (first_page c.args.upper) (c.new-inner.ensures 0 (lit< tt) ∙ ap (first_page c.args.lower) (c.new-chess.ensures 0)) in
    c.verdict.ensures ∙ ap (λ p. (roll_model (roll_model chess_model)).answer p c.args.op) page

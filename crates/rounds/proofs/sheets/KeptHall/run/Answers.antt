use Rattle.std.proofs.Common.{sym, ap, ap₂, ◌∙◌}
use Rattle.rounds.proofs.sheets.KeptHall.run.Goals as goal
use Rattle.rounds.specs.Again.{read_write}
use Rattle.rounds.specs.Faults.{answered}
use Rattle.rounds.specs.Pages.{write}
use Rattle.rounds.specs.Sheets.{answer, after}

pub returns-clause-answer : goal.returns-clause-answer
returns-clause-answer g c =
    let game = g.C.Cell.game in
    let fits = g.met.C.Cell.fits in
    let k = c.args.self.now in
    c.answer_with.ensures ∙ ap₂ (λ layer r. answered layer r c.args.op.a) (c.LAYER.ensures ∙ fits.named) c.attempt.ensures.said
    ∙ sym (ap (λ s. answer game s c.args.op) (read_write game fits k.sheet k.kept.sized))

pub returns-clause-page : goal.returns-clause-page
returns-clause-page g c =
    let game = g.C.Cell.game in
    let k = c.args.self.now in
    ap (write game) (c.attempt.ensures.made ∙ sym (ap (λ s. after game s c.args.op) (read_write game g.met.C.Cell.fits k.sheet k.kept.sized)))

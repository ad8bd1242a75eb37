use Rattle.std.proofs.Common.{sym, ap, ap₂, ◌∙◌}
use Rattle.rounds.proofs.sheets.KeptHall.verdict.Goals as goal
use Rattle.rounds.specs.Again.{read_write}
use Rattle.rounds.specs.Faults.{answered}
use Rattle.rounds.specs.Sheets.{answer}

pub returns : goal.returns
returns g c =
    let game = g.C.Cell.game in
    let fits = g.met.C.Cell.fits in
    let k = c.args.self.now in
    c.answer_with.ensures ∙ ap₂ (λ layer r. answered layer r c.args.op.a) (c.LAYER.ensures ∙ fits.named) c.said.ensures
    ∙ sym (ap (λ s. answer game s c.args.op) (read_write game fits k.sheet k.kept.sized))

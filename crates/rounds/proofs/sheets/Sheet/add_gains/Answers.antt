use Rattle.std.proofs.Common.{◌+◌, length, get_or, rules}
use Rattle.book.proofs.Below.{table_all}
use Rattle.rounds.proofs.sheets.Sheet.add_gains.Goals as goal

pub returns : goal.returns
returns g c =
    let t = c.args.totals.now in
    table_all (length t) (λ k. get_or t k 0 + g.C.Cell.game.gain k c.args.cell.now) c.loop-i.totals 0
    c.loop-i.invariant.0 (λ k h. c.loop-i.invariant.1 k (search rules))

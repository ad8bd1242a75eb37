use Rattle.std.proofs.Common.{rules, ◌≡◌, ◌≤◌, ◌*◌, ◌/◌, ◌%◌, ◌<◌, length, ap, ◌∙◌, arith}
use Rattle.rounds.proofs.Numbers.{number_of_cell, number_of_total}
use Rattle.std.specs.List.{slice_get}
use Rattle.std.proofs.lemmas.List.{get_or_default}
use Rattle.rounds.proofs.sheets.Kept.number_after_round.Goals as goal

pub returns-then-cell : goal.returns-then-cell
returns-then-cell g c =
    let game = g.C.Cell.game in
    let wide : g.C.Cell.WIDTH ≡ game.width = g.met.C.Cell.wide in
    let some : 1 ≤ g.C.Cell.WIDTH = g.met.C.Cell.has_numbers in
    let s = c.args.self.now.sheet in
    let i = c.args.i in
    let inside : i / c.WIDTH.result < length s.cells = search rules in
    let item = get_or_default s.cells (i / c.WIDTH.result) c.index-self-cell.result game.empty inside in
    c.number.ensures ∙ ap (λ x. slice_get (game.numbers x) (i % c.WIDTH-then-cell.result)) item
    ∙ number_of_cell game g.met.C.Cell.fits s c.WIDTH.result c.WIDTH-then-cell.result i
    (c.WIDTH.ensures ∙ wide) (c.WIDTH-then-cell.ensures ∙ wide) (omega (arith, wide, some)) c.if-cell.true

pub returns-else-cell : goal.returns-else-cell
returns-else-cell g c =
    let wide : g.C.Cell.WIDTH ≡ g.C.Cell.game.width = g.met.C.Cell.wide in
    let s = c.args.self.now.sheet in
    let past : c.WIDTH-else-cell.result * g.row.CELLS ≤ c.args.i = search rules in
    c.total_number.ensures ∙ number_of_total g.C.Cell.game g.met.C.Cell.fits s c.WIDTH-else-cell.result c.args.i (c.WIDTH-else-cell.ensures ∙ wide) (search rules) past

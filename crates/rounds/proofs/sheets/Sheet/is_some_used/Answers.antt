use Rattle.std.proofs.Common.{◌<◌, ◌||◌, length, sym, ap, ap₂, ◌∙◌, rules}
use Rattle.book.proofs.Below.{some_none, some_more, some_at}
use Rattle.rounds.proofs.sheets.Sheet.is_some_used.Goals as goal
use Rattle.rounds.specs.Sheets.{used_at}
use Rattle.std.proofs.lemmas.List.{get_or_default}

pub loop-cell-init : goal.loop-cell-init
loop-cell-init g c = some_none (used_at g.C.Cell.game c.args.self.now)

pub returns-then-is_used : goal.returns-then-is_used
returns-then-is_used g c =
    let s = c.args.self.now in
    let i = c.loop-cell.cell-index in
    let inside : i < length s.cells = search rules in
    let item = get_or_default s.cells i c.cell-item.result g.C.Cell.game.empty inside in
    sym (some_at (used_at g.C.Cell.game s) g.row.CELLS i c.loop-cell-test.true (sym (c.is_used.ensures ∙ ap g.C.Cell.game.used item) ∙ c.if-is_used.true))

pub loop-cell-preserved : goal.loop-cell-preserved
loop-cell-preserved g c =
    let s = c.args.self.now in
    let i = c.loop-cell.cell-index in
    let inside : i < length s.cells = search rules in
    let item = get_or_default s.cells i c.cell-item.result g.C.Cell.game.empty inside in
    some_more (used_at g.C.Cell.game s) i ∙ ap₂ (λ x y. x || y) c.loop-cell.invariant (sym (c.is_used.ensures ∙ ap g.C.Cell.game.used item) ∙ c.if-is_used.false)

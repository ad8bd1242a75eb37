use Rattle.std.proofs.Common.{◌≡◌, ◌<◌, true, false, ◌&&◌, length, sym, ap, ap₂, ◌∙◌, rules}
use Rattle.book.proofs.Below.{all_none, all_more, not_all_at}
use Rattle.rounds.proofs.sheets.Sheet.are_all_settled.Goals as goal
use Rattle.rounds.specs.Sheets.{settled_at}
use Rattle.std.proofs.lemmas.List.{get_or_default}

pub loop-cell-init : goal.loop-cell-init
loop-cell-init g c = all_none (settled_at g.C.Cell.game c.args.self.now)

pub returns-then-not-is_settled : goal.returns-then-not-is_settled
returns-then-not-is_settled g c =
    let s = c.args.self.now in
    let i = c.loop-cell.cell-index in
    let inside : i < length s.cells = search rules in
    let item = get_or_default s.cells i c.cell-item.result g.C.Cell.game.empty inside in
    let here : c.is_settled.result ≡ false = search rules in
    sym (not_all_at (settled_at g.C.Cell.game s) g.row.CELLS i c.loop-cell-test.true (sym (c.is_settled.ensures ∙ ap g.C.Cell.game.settled item) ∙ here))

pub loop-cell-preserved : goal.loop-cell-preserved
loop-cell-preserved g c =
    let s = c.args.self.now in
    let i = c.loop-cell.cell-index in
    let inside : i < length s.cells = search rules in
    let item = get_or_default s.cells i c.cell-item.result g.C.Cell.game.empty inside in
    let here : c.is_settled.result ≡ true = search rules in
    all_more (settled_at g.C.Cell.game s) i ∙ ap₂ (λ x y. x && y) c.loop-cell.invariant (sym (c.is_settled.ensures ∙ ap g.C.Cell.game.settled item) ∙ here)

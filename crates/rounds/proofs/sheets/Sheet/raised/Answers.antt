use Rattle.std.proofs.Common.{◌<◌, length, sym, ◌∙◌, rules}
use Rattle.rounds.proofs.Gains.{before_cells, with_gains, without_gains, has_room}
use Rattle.rounds.proofs.sheets.Sheet.raised.Goals as goal
use Rattle.rounds.proofs.sheets.Sheet.raised.Goals.{then-is_used, else-is_used}
use Rattle.std.proofs.lemmas.List.{get_or_default}

pub loop-cell-init : goal.loop-cell-init
loop-cell-init g c = before_cells g.C.Cell.game g.met.C.Cell.fits c.args.self.now

pub add_gains-requires : goal.add_gains-requires
add_gains-requires g c =
    let s = c.args.self.now in
    let i = c.loop-cell.cell-index in
    let game = g.C.Cell.game in
    let inside : i < length s.cells = search rules in
    let item = get_or_default s.cells i c.cell-item.result game.empty inside in
    record { small = has_room game g.met.C.Cell.fits s i _ c.loop-cell.totals item c.loop-cell.invariant c.loop-cell-test.true c.requires.last c.requires.small }

pub loop-cell-preserved : goal.loop-cell-preserved
loop-cell-preserved g c =
    let s = c.args.self.now in
    let i = c.loop-cell.cell-index in
    let game = g.C.Cell.game in
    let inside : i < length s.cells = search rules in
    let item = get_or_default s.cells i c.cell-item.result game.empty inside in
    let before = c.loop-cell.invariant in
    elim c.if-is_used.branch [
      | then-is_used w ↦ w.totals-is ∙ with_gains game g.met.C.Cell.fits s i _ c.loop-cell.totals item before w.add_gains.new.totals w.add_gains.ensures
      | else-is_used w ↦ w.totals-is ∙ without_gains game g.met.C.Cell.fits s i _ c.loop-cell.totals item before (sym c.is_used.ensures ∙ w.if-is_used.false)
    ]

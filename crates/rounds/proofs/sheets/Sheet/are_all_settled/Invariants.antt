use Rattle.std.proofs.Common.{◌≡◌, true}
use Rattle.book.specs.Below.{all_below}
use Rattle.rounds.proofs.sheets.Sheet.are_all_settled.Given as goal
use Rattle.rounds.specs.Sheets.{settled_at}

abbrev pub invariant-loop-cell : goal.invariant-loop-cell
invariant-loop-cell g l = all_below l.cell-index (settled_at g.C.Cell.game l.self) ≡ true

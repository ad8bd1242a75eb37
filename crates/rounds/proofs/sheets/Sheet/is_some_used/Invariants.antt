use Rattle.std.proofs.Common.{◌≡◌, false}
use Rattle.book.specs.Below.{some_below}
use Rattle.rounds.proofs.sheets.Sheet.is_some_used.Given as goal
use Rattle.rounds.specs.Sheets.{used_at}

abbrev pub invariant-loop-cell : goal.invariant-loop-cell
invariant-loop-cell g l = some_below l.cell-index (used_at g.C.Cell.game l.self) ≡ false

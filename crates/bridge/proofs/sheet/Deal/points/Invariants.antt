use Rattle.std.proofs.Common.{◌≡◌, ◌*◌, ◌≤◌}
use Rattle.book.specs.Below.{sum_below}
use Rattle.bridge.proofs.sheet.Deal.points.Given as goal
use Rattle.bridge.specs.Points.{points_from}

abbrev pub invariant-loop-i : goal.invariant-loop-i
invariant-loop-i l = (l.sum ≡ sum_below l.i (points_from l.side l.self l.b)) × (l.sum ≤ 2 * l.i)

use Rattle.std.proofs.Common.{◌≡◌, ◌*◌, ◌≤◌}
use Rattle.book.specs.Below.{sum_below}
use Rattle.bridge.proofs.sheet.Deal.east_west.Given as goal
use Rattle.bridge.specs.Points.{east_west_at}

abbrev pub invariant-loop-b : goal.invariant-loop-b
invariant-loop-b l = (l.sum ≡ sum_below l.b (east_west_at l.self l.pair)) × (l.sum ≤ 16 * l.b)

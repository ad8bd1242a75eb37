use Rattle.std.proofs.Common.{◌≡◌}
use Rattle.rounds.proofs.Gains.{so_far}
use Rattle.rounds.proofs.sheets.Sheet.raised.Given as goal
use Rattle.rounds.specs.Rounds.{raised}

-- the totals have what the cells so far give
abbrev pub invariant-loop-cell : goal.invariant-loop-cell
invariant-loop-cell g l = l.totals ≡ raised l.self.totals (so_far g.C.Cell.game g.met.C.Cell.fits l.self l.cell-index)

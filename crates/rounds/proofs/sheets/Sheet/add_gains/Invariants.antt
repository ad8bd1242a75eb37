use Rattle.std.proofs.Common.{◌≡◌, ℕ, ◌+◌, ◌<◌, ◌≤◌, length, get_or}
use Rattle.rounds.proofs.sheets.Sheet.add_gains.Given as goal

-- the totals below i are raised, the others as they were
abbrev pub invariant-loop-i : goal.invariant-loop-i
invariant-loop-i g l =
    (length l.totals ≡ length l.fn.totals)
    × ((k : ℕ) → k < l.i → get_or l.totals k 0 ≡ get_or l.fn.totals k 0 + g.C.Cell.game.gain k l.cell)
    × ((k : ℕ) → l.i ≤ k → get_or l.totals k 0 ≡ get_or l.fn.totals k 0)

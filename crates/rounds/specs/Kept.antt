-- What every sheet of a book of rounds keeps.
use Rattle.std.specs.Prelude.{◌≡◌, ℕ, ◌≤◌, true, length}
use Rattle.rounds.specs.Games.{Game}
use Rattle.rounds.specs.Rounds.{Small}
use Rattle.rounds.specs.Sheets.{cell}
use Rattle.rounds.specs.declared.sheets.Sheet.{Sheet}

module _ {C A : Type 0} {cells totals : ℕ} (g : Game C A cells totals) where
  -- as many cells and totals as it should have, and each cell of its size
  pub record Sized (s : Sheet C cells totals) : Type 0 where
    pub all_cells : length s.cells ≡ cells
    pub all_totals : length s.totals ≡ totals
    pub each : (a : ℕ) → g.sized (cell g s a) ≡ true

  -- of its size, with totals that the rounds so far can have given, in a round that only 99 closings come before
  pub record KeptSheet (s : Sheet C cells totals) : Type 0 where
    pub sized : Sized s
    pub small : Small s.round s.totals
    pub early : s.round ≤ 100

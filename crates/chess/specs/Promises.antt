-- What chess promises of points: a game gives out one point, however it ends.
use Rattle.std.specs.Prelude.{◌≡◌, ℕ, ◌+◌, ◌*◌, true, cond, List, fold, ◌≢◌, slice_index}
use Rattle.book.specs.Below.{sum_below}
use Rattle.chess.specs.Page.{chess, ChessSheet, blank}
use Rattle.records.specs.Answers.{well_done}
use Rattle.records.specs.declared.Operation.{Operation}
use Rattle.rounds.specs.Sheets.{used_at, answer, after}

-- a hall's sheet after these operations on a new book
abbrev pub played : List Operation → ChessSheet
played os = fold (after chess) blank os

-- all half points of the hall, and the games at its boards
abbrev pub points_in_all : ChessSheet → ℕ
points_in_all s = sum_below 64 (λ i. slice_index s.totals i)

abbrev pub games : ChessSheet → ℕ
games s = sum_below 32 (λ a. cond (used_at chess s a) 1 0)

-- whatever was played before, a round that is closed adds 2 half points for each game to the points of all players together
abbrev pub GamesGiveAPoint : Type 0
GamesGiveAPoint =
    (os : List Operation) (o : Operation) → o.kind ≡ 19 → well_done (answer chess (played os) o) ≡ true
    → points_in_all (after chess (played os) o) ≡ points_in_all (played os) + 2 * games (played os)

-- and no other operation changes the points of anybody
abbrev pub PointsStayElse : Type 0
PointsStayElse = (s : ChessSheet) (o : Operation) → (o.kind ≢ 19) → (after chess s o).totals ≡ s.totals

-- The book of chess as a book of rounds. The page of a hall has the round; for each of 32 boards 1, white, black and
-- result, or four zeros where it is empty; the totals of players 1 to 64.
use Rattle.std.specs.Prelude.{ℕ, ◌+◌, cond, true, List, [], ◌∷◌, ℤ, pos, Some, None, Option, ◌==◌}
use Rattle.book.specs.Model.{Page, Model}
use Rattle.book.specs.Numbers.{natural, at}
use Rattle.chess.specs.Asking.{outcome, asked, keys}
use Rattle.chess.specs.Rules.{empty, result_number, says, changed, seated, finished, gain}
use Rattle.chess.specs.declared.asking.BoardAsk.{BoardAsk}
use Rattle.chess.specs.declared.sheet.Board.{Board}
use Rattle.chess.specs.declared.sheet.Game.{Game as SeatedGame}
use Rattle.rounds.specs.Games.{Game}
use Rattle.rounds.specs.Pages.{model, write as sheet_page, blank as new_sheet}
use Rattle.rounds.specs.declared.sheets.Sheet.{Sheet}

abbrev pub game_numbers : Option SeatedGame → List ℤ
game_numbers None = pos 0 ∷ pos 0 ∷ pos 0 ∷ pos 0 ∷ []
game_numbers (Some g) = pos 1 ∷ pos g.white ∷ pos g.black ∷ pos (result_number g.result) ∷ []

abbrev pub board_numbers : Board → List ℤ
board_numbers x = game_numbers x.game

abbrev pub board_from : ℤ → ℤ → ℤ → ℤ → Board
board_from there white black result =
    cond (natural there == 1) (record { game = Some (record { white = natural white; black = natural black; result = outcome result }) }) empty

-- the board whose numbers begin at place i
abbrev pub read_board : Page → ℕ → Board
read_board p i = board_from (at p i) (at p (i + 1)) (at p (i + 2)) (at p (i + 3))

-- total i is that of player i + 1
abbrev pub chess : Game Board BoardAsk 32 64
chess = record {
  layer = 1;
  asked = asked;
  keys = keys;
  empty = empty;
  sized = λ _. true;
  says = says;
  changed = changed;
  used = seated;
  settled = finished;
  gain = λ i. gain (i + 1);
  most = 4;
  numbers = board_numbers;
  width = 4;
  read = read_board;
}

abbrev pub chess_model : Model
chess_model = model chess

abbrev pub ChessSheet : Type 0
ChessSheet = Sheet Board 32 64

abbrev pub write : ChessSheet → Page
write = sheet_page chess

-- round 1, empty boards and no points
abbrev pub blank : ChessSheet
blank = new_sheet chess

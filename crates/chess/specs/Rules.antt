-- What each operation answers and makes of a board.
use Rattle.std.specs.Prelude.{ℕ, ◌+◌, Bool, true, cond, ℤ, pos, Some, None, Ok, Err, Option, Result, ◌==◌, is_some}
use Rattle.chess.specs.Asking.{outcome_number}
use Rattle.chess.specs.declared.asking.BoardAsk.{BoardAsk}
use Rattle.chess.specs.declared.asking.BoardAsk.TheVariants.{Seat, Enter, Read}
use Rattle.chess.specs.declared.sheet.Board.{Board}
use Rattle.chess.specs.declared.sheet.Game.{Game}
use Rattle.chess.specs.declared.sheet.Outcome.{Outcome}
use Rattle.chess.specs.declared.sheet.Outcome.TheVariants.{White, Draw, Black}
use Rattle.rounds.specs.declared.Fault.{Fault}
use Rattle.rounds.specs.declared.Fault.TheVariants.{HasResult, Nothing, OtherRound, BadResult}

abbrev pub empty : Board
empty = record { game = None }

abbrev pub result_number : Option Outcome → ℕ
result_number None = 0
result_number (Some outcome) = outcome_number outcome

-- Seating: a board that has a result keeps its players.
abbrev pub seat_says : Option Game → Result ℤ Fault
seat_says None = Ok (pos 0)
seat_says (Some g) = elim g.result [ None ↦ Ok (pos 0) | Some r ↦ Err HasResult ]

abbrev pub new_game : ℕ → ℕ → Board
new_game white black = record { game = Some (record { white = white; black = black; result = None }) }

-- Entering a result for a round: the answer is the result before.
abbrev pub enter_says : Option Game → ℕ → ℕ → Option Outcome → Result ℤ Fault
enter_says None current round result = Err Nothing
enter_says (Some g) current round result =
    cond (round == current)
    (elim result [ None ↦ Err BadResult | Some r ↦ Ok (pos (result_number g.result)) ])
    (Err OtherRound)

abbrev pub with_result : Option Game → Option Outcome → Option Game
with_result None result = None
with_result (Some g) result = Some (record { white = g.white; black = g.black; result = result })

-- Reading a result.
abbrev pub read_says : Option Game → Result ℤ Fault
read_says None = Err Nothing
read_says (Some g) = Ok (pos (result_number g.result))

-- The value of what is well done, or why it is not done, in the current round.
abbrev pub says : Board → ℕ → BoardAsk → Result ℤ Fault
says x current (Seat white black) = seat_says x.game
says x current (Enter round result) = enter_says x.game current round result
says x current Read = read_says x.game

-- What an operation that is well done makes of the board.
abbrev pub changed : Board → BoardAsk → Board
changed x (Seat white black) = new_game white black
changed x (Enter round result) = record { game = with_result x.game result }
changed x Read = x

-- Closing a round: some board is seated, and every seated board has a result.
abbrev pub seated : Board → Bool
seated x = is_some x.game

abbrev pub finished_game : Option Game → Bool
finished_game None = true
finished_game (Some g) = is_some g.result

abbrev pub finished : Board → Bool
finished x = finished_game x.game

-- a win is 2 half points, a draw 1, a loss 0
abbrev pub white_points : Option Outcome → ℕ
white_points None = 0
white_points (Some White) = 2
white_points (Some Draw) = 1
white_points (Some Black) = 0

abbrev pub black_points : Option Outcome → ℕ
black_points None = 0
black_points (Some White) = 0
black_points (Some Draw) = 1
black_points (Some Black) = 2

-- what player n gains at a board
abbrev pub game_gain : ℕ → Option Game → ℕ
game_gain n None = 0
game_gain n (Some g) = cond (g.white == n) (white_points g.result) 0 + cond (g.black == n) (black_points g.result) 0

abbrev pub gain : ℕ → Board → ℕ
gain n x = game_gain n x.game

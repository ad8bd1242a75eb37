-- What an operation asks of the book of chess, as far as its own numbers tell, and its keys.
use Rattle.std.specs.Prelude.{◌≡◌, ℕ, ◌-◌, ◌^◌, Bool, cond, not, ◌&&◌, ℤ, Some, None, Ok, Err, Option, Result, ◌==◌, nat_le, ok_or}
use Rattle.book.specs.Numbers.{natural}
use Rattle.chess.specs.declared.asking.BoardAsk.{BoardAsk}
use Rattle.chess.specs.declared.asking.BoardAsk.TheVariants.{Seat, Enter, Read}
use Rattle.chess.specs.declared.sheet.Outcome.{Outcome}
use Rattle.chess.specs.declared.sheet.Outcome.TheVariants.{White, Draw, Black}
use Rattle.records.specs.declared.Operation.{Operation}
use Rattle.rounds.specs.declared.Fault.{Fault}
use Rattle.rounds.specs.declared.Fault.TheVariants.{NoPlace, NoParty, BadResult, UnknownKind}
use Rattle.rounds.specs.declared.asks.Ask.{Ask}
use Rattle.rounds.specs.declared.asks.Ask.TheVariants.{Cell, Close, Total}

-- what is asked of the sheet of a hall, or why nothing can be
abbrev pub Asked : Type 0
Asked = Result (Ask BoardAsk 32 64) Fault

-- 0 is no player, and a negative number neither
abbrev pub player : ℕ → Bool
player n = nat_le 1 n && nat_le n 64

abbrev pub outcome_number : Outcome → ℕ
outcome_number White = 1
outcome_number Draw = 2
outcome_number Black = 3

-- 1 white won, 2 a draw, 3 black won
abbrev pub outcome : ℤ → Option Outcome
outcome c = cond (natural c == 1) (Some White) (cond (natural c == 2) (Some Draw) (cond (natural c == 3) (Some Black) None))

abbrev pub ReadsOutcome : ℤ → Result Outcome Fault → Type 0
ReadsOutcome c r = r ≡ ok_or (outcome c) BadResult

-- the total of player n is total n - 1
abbrev pub party : ℕ → Result ℕ Fault
party n = cond (player n) (Ok (n - 1)) (Err NoParty)

-- two players
abbrev pub seating : Operation → Result BoardAsk Fault
seating o =
    cond (player o.b && (player (natural o.c) && not (o.b == natural o.c)))
    (Ok (Seat o.b (natural o.c)))
    (Err NoParty)

abbrev pub of_cell : ℕ → Result BoardAsk Fault → Asked
of_cell a (Ok ask) = Ok (Cell a ask)
of_cell a (Err fault) = Err fault

-- kinds 16 to 18 are asked of board a; boards are numbered from 0
abbrev pub at_board : Operation → Asked
at_board o =
    cond (nat_le o.a 31)
    (cond (o.kind == 16) (of_cell o.a (seating o))
    (cond (o.kind == 17) (Ok (Cell o.a (Enter o.b (outcome o.c))))
    (Ok (Cell o.a Read))))
    (Err NoPlace)

abbrev pub of_board : Operation → Bool
of_board o = nat_le 16 o.kind && nat_le o.kind 18

abbrev pub asked : Operation → Asked
asked o =
    cond (of_board o) (at_board o)
    (cond (o.kind == 19) (Ok (Close o.a))
    (cond (o.kind == 20) (cond (player o.a) (Ok (Total (o.a - 1))) (Err NoParty))
    (Err UnknownKind)))

-- each board has its own key, key 32 is the totals', and closing takes them all
abbrev pub keys_of : ℕ → ℕ → ℕ
keys_of kind board =
    cond (nat_le 16 kind && nat_le kind 18) (cond (nat_le board 31) (2 ^ board) 0)
    (cond (kind == 19) (2 ^ 33 - 1)
    (cond (kind == 20) (2 ^ 32) 0))

abbrev pub keys : Operation → ℕ
keys o = keys_of o.kind o.a

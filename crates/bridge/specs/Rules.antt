-- What each operation answers and makes of a deal.
use Rattle.std.specs.Prelude.{ℕ, Bool, cond, not, replicate, ℤ, pos, Ok, Err, Result, Some, None, ◌==◌, slice_set}
use Rattle.bridge.specs.Points.{Line, line, filled, count, elsewhere}
use Rattle.bridge.specs.declared.asking.DealAsk.{DealAsk}
use Rattle.bridge.specs.declared.asking.DealAsk.TheVariants.{Score, Read}
use Rattle.bridge.specs.declared.sheet.Deal.{Deal}
use Rattle.rounds.specs.declared.Fault.{Fault}
use Rattle.rounds.specs.declared.Fault.TheVariants.{Nothing, Elsewhere}

abbrev pub no_lines : Deal
no_lines = record { lines = replicate 8 None }

abbrev pub with_line : Deal → ℕ → Line → Deal
with_line d b x = record { lines = slice_set d.lines b x }

-- Scoring: an East-West pair plays on one line of a deal; the value is 1 where a line is replaced.
abbrev pub score_says : Deal → ℕ → ℕ → Result ℤ Fault
score_says d b e = cond (elsewhere d b e) (Err Elsewhere) (Ok (pos (cond (filled (line d b)) 1 0)))

-- Reading a score.
abbrev pub read_says : Line → Result ℤ Fault
read_says None = Err Nothing
read_says (Some x) = Ok x.score

-- The value of what is well done on a deal, or why it is not done; the round is all one to it.
abbrev pub says : Deal → ℕ → DealAsk → Result ℤ Fault
says d round (Score b e c) = score_says d b e
says d round (Read b) = read_says (line d b)

-- What an operation that is well done makes of the deal.
abbrev pub changed : Deal → DealAsk → Deal
changed d (Score b e c) = with_line d b (Some (record { pair = e; score = c }))
changed d (Read b) = d

-- Closing a round: some deal is scored, and no deal has one line alone.
abbrev pub used : Deal → Bool
used d = not (count d == 0)

abbrev pub settled : Deal → Bool
settled d = not (count d == 1)

-- What each operation answers and makes of the sheet of a hall.
use Rattle.std.specs.Prelude.{ℕ, ◌+◌, Bool, cond, ◌&&◌, replicate, ℤ, pos, Ok, Err, Result, slice_index, slice_index_or, slice_set}
use Rattle.book.specs.Below.{sum_below, some_below, all_below}
use Rattle.records.specs.declared.Answer.{Answer}
use Rattle.records.specs.declared.Operation.{Operation}
use Rattle.rounds.specs.Faults.{answered}
use Rattle.rounds.specs.Games.{Game}
use Rattle.rounds.specs.Rounds.{in_turn, raised}
use Rattle.rounds.specs.declared.Fault.{Fault}
use Rattle.rounds.specs.declared.Fault.TheVariants.{NotClosable}
use Rattle.rounds.specs.declared.asks.Ask.{Ask}
use Rattle.rounds.specs.declared.asks.Ask.TheVariants.{Cell, Close, Total}
use Rattle.rounds.specs.declared.sheets.Sheet.{Sheet}

module _ {C A : Type 0} {cells totals : ℕ} (g : Game C A cells totals) where
  abbrev pub cell : Sheet C cells totals → ℕ → C
  cell s a = slice_index_or s.cells a g.empty

  abbrev pub with_cell : Sheet C cells totals → ℕ → C → Sheet C cells totals
  with_cell s a x = record { round = s.round; cells = slice_set s.cells a x; totals = s.totals }

  -- Closing a round: some cell is used, and all are settled.
  abbrev pub used_at : Sheet C cells totals → ℕ → Bool
  used_at s a = g.used (cell s a)

  abbrev pub settled_at : Sheet C cells totals → ℕ → Bool
  settled_at s a = g.settled (cell s a)

  abbrev pub closable : Sheet C cells totals → ℕ → Bool
  closable s round = in_turn s.round round && (some_below cells (used_at s) && all_below cells (settled_at s))

  -- what a total gains from a cell, and from all cells
  abbrev pub gain_at : Sheet C cells totals → ℕ → ℕ → ℕ
  gain_at s i a = g.gain i (cell s a)

  abbrev pub gained : Sheet C cells totals → ℕ → ℕ
  gained s i = sum_below cells (gain_at s i)

  abbrev pub closed : Sheet C cells totals → Sheet C cells totals
  closed s = record { round = s.round + 1; cells = replicate cells g.empty; totals = raised s.totals (gained s) }

  -- The value of what is well done, or why it is not done.
  abbrev pub says : Sheet C cells totals → Ask A cells totals → Result ℤ Fault
  says s (Cell a ask) = g.says (cell s a) s.round ask
  says s (Close round) = cond (closable s round) (Ok (pos (round + 1))) (Err NotClosable)
  says s (Total i) = Ok (pos (slice_index s.totals i))

  -- What an operation that is well done makes of the sheet.
  abbrev pub changed : Sheet C cells totals → Ask A cells totals → Sheet C cells totals
  changed s (Cell a ask) = with_cell s a (g.changed (cell s a) ask)
  changed s (Close round) = closed s
  changed s (Total i) = s

  -- what no page would let the book do is a fault
  abbrev pub said : Sheet C cells totals → Result (Ask A cells totals) Fault → Result ℤ Fault
  said s (Ok ask) = says s ask
  said s (Err fault) = Err fault

  -- a fault leaves the sheet
  abbrev pub left : Sheet C cells totals → Ask A cells totals → Result ℤ Fault → Sheet C cells totals
  left s ask (Ok value) = changed s ask
  left s ask (Err fault) = s

  abbrev pub made : Sheet C cells totals → Result (Ask A cells totals) Fault → Sheet C cells totals
  made s (Ok ask) = left s ask (says s ask)
  made s (Err fault) = s

  -- What an operation answers, and the sheet after it.
  abbrev pub answer : Sheet C cells totals → Operation → Answer
  answer s o = answered g.layer (said s (g.asked o)) o.a

  abbrev pub after : Sheet C cells totals → Operation → Sheet C cells totals
  after s o = made s (g.asked o)

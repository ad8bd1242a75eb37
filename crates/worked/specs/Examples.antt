-- The list of the worked examples.
use Rattle.records.specs.Transactions.{WorkedStamps}
use Rattle.worked.specs.Bridge.{ThreeLines}
use Rattle.worked.specs.Calls.{LastStamp, OneStamp, TimestampTurns, LockingTurns}
use Rattle.worked.specs.Chess.{OneDrawnBoard}
use Rattle.worked.specs.Lines.{SheetLines}

pub record WorkedExamples : Type 0 where
  pub stamps : WorkedStamps
  pub last_stamp : LastStamp
  pub one_stamp : OneStamp
  pub timestamp_turns : TimestampTurns
  pub locking_turns : LockingTurns
  pub one_drawn_board : OneDrawnBoard
  pub three_lines : ThreeLines
  pub sheet_lines : SheetLines

-- The worked examples, by computation.
use Rattle.std.specs.Int.RustNames.{count_ones}
use Rattle.std.proofs.Common.{refl}
use Rattle.book.specs.Below.{sum_below, some_below, all_below, table, rows}
use Rattle.congress.specs.Sending.{votes_of}
use Rattle.congress.specs.State.{new_hall, new_consoles}
use Rattle.records.specs.Transactions.{WorkedStamps}
use Rattle.worked.specs.Bridge.{ThreeLines}
use Rattle.worked.specs.Calls.{LastStamp, OneStamp, TimestampTurns, LockingTurns}
use Rattle.worked.specs.Chess.{OneDrawnBoard}
use Rattle.worked.specs.Examples.{WorkedExamples}
use Rattle.worked.specs.Lines.{SheetLines}

pub stamps : WorkedStamps
stamps = record { greatest = refl; last = refl; none = refl }

pub last_stamp : LastStamp
unfolding new_hall new_consoles votes_of count_ones
last_stamp = record { is_lawful = refl; given = refl; refused = refl; number = refl }

pub one_stamp : OneStamp
unfolding new_hall new_consoles
one_stamp = record {
  sooner = refl;
  not_sooner = refl;
  by_timestamp = refl;
  by_lock = refl;
  earlier = refl;
  not_earlier = refl;
  plain_order = refl;
}

pub timestamp_turns : TimestampTurns
unfolding new_hall new_consoles sum_below some_below all_below table rows
timestamp_turns = record {
  is_kept = refl;
  nothing_may_run = refl;
  waits_for_9 = refl;
  number = refl;
  second_may_run = refl;
  done_before_11 = refl;
  last = refl;
}

pub locking_turns : LockingTurns
unfolding new_hall new_consoles sum_below some_below all_below table rows
locking_turns = record {
  is_kept = refl;
  second_may_run = refl;
  done_past_9 = refl;
  last = refl;
  done_after_12 = refl;
  last_stays = refl;
}

pub one_drawn_board : OneDrawnBoard
unfolding sum_below some_below all_below table rows
one_drawn_board = record {
  not_before_the_result = refl;
  white = refl;
  black = refl;
  nobody_else = refl;
  round = refl;
  emptied = refl;
  next_round = refl;
}

pub three_lines : ThreeLines
unfolding sum_below some_below all_below table rows
three_lines = record {
  not_one_alone = refl;
  not_twice = refl;
  replaced = refl;
  score = refl;
  round = refl;
  north_south_0 = refl;
  north_south_1 = refl;
  north_south_2 = refl;
  east_west_5 = refl;
  east_west_6 = refl;
  east_west_7 = refl;
  nobody_else = refl;
}

pub sheet_lines : SheetLines
sheet_lines = record {
  blank = refl;
  remark = refl;
  hall = refl;
  hall_too_late = refl;
  chief = refl;
  no_game = refl;
  bearer = refl;
  close = refl;
  score = refl;
  result = refl;
  lowest = refl;
  too_low = refl;
  no_such_word = refl;
  too_large = refl;
  missing = refl;
  too_many = refl;
}

pub all_examples : WorkedExamples
all_examples = record {
  stamps = stamps;
  last_stamp = last_stamp;
  one_stamp = one_stamp;
  timestamp_turns = timestamp_turns;
  locking_turns = locking_turns;
  one_drawn_board = one_drawn_board;
  three_lines = three_lines;
  sheet_lines = sheet_lines;
}

-- The numbers of outcomes.
use Rattle.std.specs.Prelude.{ℕ}
use Rattle.congress.specs.declared.outcomes.Outcome.{Outcome}
use Rattle.congress.specs.declared.outcomes.Outcome.TheVariants.{PassedOver, Entered, DoneAtOnce, MetConflict, Aborted, Counted, Readied, Removed, Replied, Confirmed, Freed, Done}

abbrev pub outcome_number : Outcome → ℕ
outcome_number PassedOver = 0
outcome_number Entered = 1
outcome_number DoneAtOnce = 2
outcome_number MetConflict = 3
outcome_number Aborted = 4
outcome_number Counted = 5
outcome_number Readied = 6
outcome_number Removed = 7
outcome_number Replied = 8
outcome_number Confirmed = 9
outcome_number Freed = 10
outcome_number Done = 11

-- The numbers of refusals.
use Rattle.std.specs.Prelude.{ℕ}
use Rattle.congress.specs.declared.refusals.Refusal.{Refusal}
use Rattle.congress.specs.declared.refusals.Refusal.TheVariants.{NotThere, Busy, BadHalls, UsedUp, TooLate, NoRoom, QueueFull, NothingRuns, ShortPost}

abbrev pub refusal_number : Refusal → ℕ
refusal_number NotThere = 1
refusal_number Busy = 2
refusal_number BadHalls = 3
refusal_number UsedUp = 4
refusal_number TooLate = 5
refusal_number NoRoom = 6
refusal_number QueueFull = 7
refusal_number NothingRuns = 8
refusal_number ShortPost = 9

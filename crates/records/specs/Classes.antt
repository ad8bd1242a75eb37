-- The numbers of classes and statuses.
use Rattle.std.specs.Prelude.{ℕ, cond, Some, None, Option, ◌==◌}
use Rattle.records.specs.declared.classes.Class.{Class}
use Rattle.records.specs.declared.classes.Class.TheVariants.{Single, Independent, Coordinated}
use Rattle.records.specs.declared.classes.Status.{Status}
use Rattle.records.specs.declared.classes.Status.TheVariants.{Commit, Conflict, Abort}

abbrev pub class_number : Class → ℕ
class_number Single = 1
class_number Independent = 2
class_number Coordinated = 3

abbrev pub class_of : ℕ → Option Class
class_of n = cond (n == 1) (Some Single) (cond (n == 2) (Some Independent) (cond (n == 3) (Some Coordinated) None))

abbrev pub status_number : Status → ℕ
status_number Commit = 1
status_number Conflict = 2
status_number Abort = 3

abbrev pub status_of : ℕ → Option Status
status_of n = cond (n == 1) (Some Commit) (cond (n == 2) (Some Conflict) (cond (n == 3) (Some Abort) None))

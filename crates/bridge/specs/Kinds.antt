-- The numbers of the kinds of operations.
use Rattle.std.specs.Prelude.{◌≡◌, ℕ, cond, Some, None, Option, Result, ◌==◌, ok_or}
use Rattle.bridge.specs.declared.kinds.Kind.{Kind}
use Rattle.bridge.specs.declared.kinds.Kind.TheVariants.{Score, Read, Close, Total}
use Rattle.rounds.specs.declared.Fault.{Fault}
use Rattle.rounds.specs.declared.Fault.TheVariants.{UnknownKind}

abbrev pub kind_number : Kind → ℕ
kind_number Score = 32
kind_number Read = 33
kind_number Close = 34
kind_number Total = 35

abbrev pub kind_of : ℕ → Option Kind
kind_of n =
    cond (n == 32) (Some Score)
    (cond (n == 33) (Some Read)
    (cond (n == 34) (Some Close)
    (cond (n == 35) (Some Total) None)))

abbrev pub ReadsKind : ℕ → Result Kind Fault → Type 0
ReadsKind n r = r ≡ ok_or (kind_of n) UnknownKind

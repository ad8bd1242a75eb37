-- The numbers of the kinds of operations.
use Rattle.std.specs.Prelude.{◌≡◌, ℕ, cond, Some, None, Option, Result, ◌==◌, ok_or}
use Rattle.chess.specs.declared.kinds.Kind.{Kind}
use Rattle.chess.specs.declared.kinds.Kind.TheVariants.{Seat, Enter, Read, Close, Total}
use Rattle.rounds.specs.declared.Fault.{Fault}
use Rattle.rounds.specs.declared.Fault.TheVariants.{UnknownKind}

abbrev pub kind_number : Kind → ℕ
kind_number Seat = 16
kind_number Enter = 17
kind_number Read = 18
kind_number Close = 19
kind_number Total = 20

abbrev pub kind_of : ℕ → Option Kind
kind_of n =
    cond (n == 16) (Some Seat)
    (cond (n == 17) (Some Enter)
    (cond (n == 18) (Some Read)
    (cond (n == 19) (Some Close)
    (cond (n == 20) (Some Total) None))))

abbrev pub ReadsKind : ℕ → Result Kind Fault → Type 0
ReadsKind n r = r ≡ ok_or (kind_of n) UnknownKind

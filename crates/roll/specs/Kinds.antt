-- The numbers of the roll's own kinds.
use Rattle.std.specs.Prelude.{ℕ, cond, Some, None, Option, ◌==◌}
use Rattle.roll.specs.declared.kinds.Kind.{Kind}
use Rattle.roll.specs.declared.kinds.Kind.TheVariants.{Appoint, Remove, Read}

abbrev pub kind_number : Kind → ℕ
kind_number Appoint = 1
kind_number Remove = 2
kind_number Read = 3

abbrev pub kind_of : ℕ → Option Kind
kind_of n = cond (n == 1) (Some Appoint) (cond (n == 2) (Some Remove) (cond (n == 3) (Some Read) None))

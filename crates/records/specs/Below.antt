-- Numbers that are known to be in range.
use Rattle.std.specs.Prelude.{ℕ, min, cond, Some, None, Option, nat_lt}

-- a number where it is below the limit, of which none is above 65,536
abbrev pub below : ℕ → ℕ → Option ℕ
below limit number = cond (nat_lt number (min limit 65536)) (Some number) None

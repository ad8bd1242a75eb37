-- Numbers that are read as the case that they are the number of.
use Rattle.std.specs.Prelude.{◌≡◌, ℕ, Option, Result}
use Rattle.std.specs.Option.{ok_or}
use Rattle.records.specs.declared.numbers.UnknownNumber.{UnknownNumber}

-- by a definition that says which case a number has; where it has none, the error names the number
abbrev pub Reads : {X : Type 0} → (ℕ → Option X) → ℕ → Result X UnknownNumber → Type 0
Reads case_of n r = r ≡ ok_or (case_of n) (record { 0 = n })

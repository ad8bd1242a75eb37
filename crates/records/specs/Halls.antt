-- Sets of halls: bit h for hall h.
use Rattle.std.specs.Prelude.{ℕ, ◌/◌, ◌%◌, ◌^◌, Bool, false, ◌&&◌, ◌||◌, Some, None, Option, ◌==◌, count_ones, nat_le, nat_lt}
use Rattle.records.specs.Classes.{class_of}
use Rattle.records.specs.declared.classes.Class.{Class}
use Rattle.records.specs.declared.classes.Class.TheVariants.{Single, Independent, Coordinated}

abbrev pub bit : ℕ → ℕ → Bool
bit halls hall = halls / 2 ^ hall % 2 == 1

-- a set has no hall above 7
abbrev pub names : ℕ → ℕ → Bool
names halls hall = nat_lt hall 8 && bit halls hall

-- every hall named is one of the first `number`
abbrev pub exist : ℕ → ℕ → Bool
exist number halls = nat_le 8 number || nat_lt halls (2 ^ number)

-- class 1 names one hall, classes 2 and 3 two or more
abbrev pub fit_class : Option Class → ℕ → Bool
fit_class None halls = false
fit_class (Some Single) halls = count_ones halls == 1
fit_class (Some Independent) halls = nat_le 2 (count_ones halls)
fit_class (Some Coordinated) halls = nat_le 2 (count_ones halls)

abbrev pub fit : ℕ → ℕ → ℕ → Bool
fit number class halls = exist number halls && fit_class (class_of class) halls

-- Sums, tests and lists over the numbers below n.
use Rattle.std.specs.Prelude.{ℕ, zero, suc, ◌+◌, Bool, true, false, ◌&&◌, ◌||◌, List, [], ◌++◌, map}
use Rattle.std.specs.List.{range_with_len}

-- f 0 + f 1 + .. below n
unfoldable pub sum_below : ℕ → (ℕ → ℕ) → ℕ
sum_below zero f = 0
sum_below (suc n) f = sum_below n f + f n

-- whether t holds of some number below n
unfoldable pub some_below : ℕ → (ℕ → Bool) → Bool
some_below zero t = false
some_below (suc n) t = some_below n t || t n

-- whether t holds of every number below n
unfoldable pub all_below : ℕ → (ℕ → Bool) → Bool
all_below zero t = true
all_below (suc n) t = all_below n t && t n

-- the list of f 0, f 1, .. below n
unfoldable pub table : {X : Type 0} → ℕ → (ℕ → X) → List X
table n f = map f (range_with_len 0 n)

-- the lists f 0, f 1, .. below n, one after another
unfoldable pub rows : {X : Type 0} → ℕ → (ℕ → List X) → List X
rows zero f = []
rows (suc n) f = rows n f ++ f n

-- The first record that bears a transaction number.
use Rattle.std.specs.Prelude.{ℕ, ◌+◌, ◌<◌, ◌≤◌, List, Some, None, Option, ◌==◌, position}
use Rattle.std.specs.Option.{option_map}

-- in a list whose first record stands at place i
abbrev pub first_in : {X : Type 0} → (X → ℕ) → ℕ → ℕ → List X → Option ℕ
first_in bears n i xs = option_map (λ place. i + place) (position (λ x. bears x == n) xs)

-- a place from `from` on and below n, if any
abbrev pub Placed : ℕ → ℕ → Option ℕ → Type 0
Placed from n None = Unit {0}
Placed from n (Some i) = (from ≤ i) × (i < n)

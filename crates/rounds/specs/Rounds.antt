-- The closing of a round.
use Rattle.std.specs.Prelude.{ℕ, ◌+◌, ◌*◌, ◌≤◌, Bool, ◌&&◌, List, length, ◌==◌, nat_le, slice_index}
use Rattle.book.specs.Below.{table}

-- the round being played can be closed, if it is at most the 99th
abbrev pub in_turn : ℕ → ℕ → Bool
in_turn current round = round == current && nat_le round 99

-- the totals with what the round gives to each
abbrev pub raised : List ℕ → (ℕ → ℕ) → List ℕ
raised totals gain = table (length totals) (λ i. slice_index totals i + gain i)

-- no round gives a total more than 2048
abbrev pub Small : ℕ → List ℕ → Type 0
Small round totals = (i : ℕ) → slice_index totals i ≤ 2048 * round

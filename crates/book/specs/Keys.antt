-- Sets of keys as numbers, bit k for key k.
use Rattle.std.specs.Prelude.{◌≡◌, ℕ}
use Rattle.std.specs.Int.{bit_at}

-- key k is in the set
pub record Held (keys k : ℕ) : Type 0 where
  pub bit : bit_at keys k ≡ 1

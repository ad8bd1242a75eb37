-- What an answer says.
use Rattle.std.specs.Prelude.{◌≡◌, ℕ, Bool, ℤ, pos, ◌==◌, ◌≢◌}
use Rattle.records.specs.declared.Answer.{Answer}

-- layer, value
abbrev pub done_with : ℕ → ℤ → Answer
done_with layer value = record { layer = layer; cause = 0; place = 0; value = value }

-- layer, cause, place
abbrev pub fault_at : ℕ → ℕ → ℕ → Answer
fault_at layer cause place = record { layer = layer; cause = cause; place = place; value = pos 0 }

-- cause 0 means well done, any other a fault
abbrev pub well_done : Answer → Bool
well_done r = r.cause == 0

-- well done with place 0, or a fault with value 0
pub record Shaped (r : Answer) : Type 0 where
  pub done : r.cause ≡ 0 → r.place ≡ 0
  pub fault : (r.cause ≢ 0) → r.value ≡ pos 0

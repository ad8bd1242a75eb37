-- What is promised of removals, where the book is a roll of deputies over another book.
use Rattle.std.specs.Prelude.{◌≡◌, ℕ, List, ◌∷◌, ◌++◌, pos}
use Rattle.order.specs.Promises.{◌∈◌}
use Rattle.order.specs.Runs.{Act, Past}

-- r removes this grant at this hall
pub record Removes (r : Act) (hall grant : ℕ) : Type 0 where
  pub at : r.hall ≡ hall
  pub kind : r.operation.kind ≡ 2
  pub entry : r.operation.a ≡ grant

-- x appoints this token to this grant at this hall
pub record Appoints (x : Act) (hall grant token : ℕ) : Type 0 where
  pub at : x.hall ≡ hall
  pub kind : x.operation.kind ≡ 1
  pub entry : x.operation.a ≡ grant
  pub bears : x.operation.c ≡ pos token

-- Removal holds: where a part w is well done after a removal r of its grant took effect at its hall, an appointment of its
-- token to its grant took effect there between the two. It does not wait until the removal is confirmed.
abbrev pub RemovalHolds : Past → Type 0
RemovalHolds g =
    (later between earlier : List Act) (w r : Act) → g.acts ≡ later ++ (w ∷ (between ++ (r ∷ earlier)))
    → Removes r w.hall w.operation.grant → (x : Act) × (x ∈ between) × Appoints x w.hall w.operation.grant w.operation.token

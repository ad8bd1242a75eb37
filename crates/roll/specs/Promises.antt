-- What a roll over the book m promises of its entries, on every page of its own.
use Rattle.std.specs.Prelude.{◌≡◌, ℕ, ◌<◌, true, ◌⊎◌, ◌≢◌}
use Rattle.book.specs.Model.{Page, Model}
use Rattle.book.specs.Numbers.{at}
use Rattle.records.specs.Answers.{fault_at, well_done}
use Rattle.records.specs.declared.Operation.{Operation}
use Rattle.roll.specs.Roll.{roll_model}

-- after a removal that is well done the removed grant does not stand, whatever token comes with it and whatever is asked
abbrev pub RemovalEmpties : Model → Type 0
RemovalEmpties m =
    (p : Page) (o q : Operation) → (roll_model m).own p
    → o.kind ≡ 2 → well_done ((roll_model m).answer p o) ≡ true → q.grant ≡ o.a
    → (roll_model m).answer ((roll_model m).next p o) q ≡ fault_at 3 1 q.grant

-- the chief appoints or removes at entry g
pub record Writes (m : Model) (p : Page) (o : Operation) (g : ℕ) : Type 0 where
  pub kind : (o.kind ≡ 1) ⊎ (o.kind ≡ 2)
  pub chief : o.grant ≡ 0
  pub entry : o.a ≡ g
  pub done : well_done ((roll_model m).answer p o) ≡ true

-- nothing else changes the entry
abbrev pub EntriesStay : Model → Type 0
EntriesStay m =
    (p : Page) (o : Operation) (g : ℕ) → (roll_model m).own p → g < 16
    → (at ((roll_model m).next p o) g ≢ at p g) → Writes m p o g

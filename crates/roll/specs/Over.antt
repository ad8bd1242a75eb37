-- What it is for a book to be the roll of deputies over some other book.
use Rattle.std.specs.Prelude.{◌≡◌, ℕ, refl}
use Rattle.book.specs.Model.{Page, Model}
use Rattle.records.specs.declared.Answer.{Answer}
use Rattle.records.specs.declared.Operation.{Operation}
use Rattle.roll.specs.Roll.{write, read, roll_model}

-- a book with these keys, answers and pages
abbrev pub below_with : (Operation → ℕ) → (Page → Operation → Answer) → (Page → Operation → Page) → Model
below_with keys answer next = record { layer = 0; own = λ page. Unit {0}; keys = keys; answer = answer; next = next }

-- it answers and turns its pages as the roll over the book below does, and its own pages begin with 16 tokens
pub record IsRoll (b : Model) : Type 0 where
  pub keys : Operation → ℕ
  pub answer : Page → Operation → Answer
  pub next : Page → Operation → Page
  pub answers : b.answer ≡ (roll_model (below_with keys answer next)).answer
  pub turns : b.next ≡ (roll_model (below_with keys answer next)).next
  pub tokens : (page : Page) → b.own page → write (read page) ≡ page

-- so is the roll over the book m
pub roll_is_roll : (m : Model) → IsRoll (roll_model m)
roll_is_roll m = record {
  keys = m.keys;
  answer = m.answer;
  next = m.next;
  answers = refl;
  turns = refl;
  tokens = λ page own. own.0;
}

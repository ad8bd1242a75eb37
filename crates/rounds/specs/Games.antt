-- What a game gives to a book of rounds: its cells (boards or deals), and what is asked of them.
use Rattle.std.specs.Prelude.{ℕ, Bool, List, ℤ, Result}
use Rattle.book.specs.Model.{Page}
use Rattle.records.specs.declared.Operation.{Operation}
use Rattle.rounds.specs.declared.Fault.{Fault}
use Rattle.rounds.specs.declared.asks.Ask.{Ask}

pub record Game (C A : Type 0) (cells totals : ℕ) : Type 1 where
  -- the book's number in its answers
  pub layer : ℕ
  -- what an operation asks, and the keys that it needs
  pub asked : Operation → Result (Ask A cells totals) Fault
  pub keys : Operation → ℕ
  pub empty : C
  -- whether a cell is of the right size
  pub sized : C → Bool
  -- the value of what is well done, or why it is not done, in the current round; and what it makes of the cell
  pub says : C → ℕ → A → Result ℤ Fault
  pub changed : C → A → C
  pub used : C → Bool
  pub settled : C → Bool
  -- what a total gains from a cell, and the most that it can be
  pub gain : ℕ → C → ℕ
  pub most : ℕ
  -- a cell's numbers on a page, how many they are, and the cell whose numbers begin at a place
  pub numbers : C → List ℤ
  pub width : ℕ
  pub read : Page → ℕ → C

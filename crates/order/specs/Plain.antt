-- A hall's plain order: the parts done there, by stamp and then by transaction number, run one by one.
use Rattle.std.specs.Prelude.{◌≡◌, ℕ, Bool, cond, ◌&&◌, ◌||◌, List, [], ◌∷◌, ◌==◌, nat_lt}
use Rattle.book.specs.Model.{Page, Model}
use Rattle.records.specs.declared.Answer.{Answer}
use Rattle.records.specs.declared.Operation.{Operation}

-- a part that was done: where, of which transaction, with which stamp, what, and what was answered
pub record Part : Type 0 where
  pub hall : ℕ
  pub transaction : ℕ
  pub stamp : ℕ
  pub coordinated : Bool
  pub operation : Operation
  pub answer : Answer

-- by stamp, and then by transaction number
abbrev pub comes_before : Part → Part → Bool
comes_before x y = nat_lt x.stamp y.stamp || (x.stamp == y.stamp && nat_lt x.transaction y.transaction)

-- a part put into a list that is in order
abbrev pub placed : Part → List Part → List Part
placed x [] = x ∷ []
placed x (y ∷ ys) = cond (comes_before x y) (x ∷ y ∷ ys) (y ∷ placed x ys)

abbrev pub in_order : List Part → List Part
in_order [] = []
in_order (x ∷ xs) = placed x (in_order xs)

-- the page after these parts are run in turn
abbrev pub page_after : Model → Page → List Part → Page
page_after m page [] = page
page_after m page (x ∷ xs) = page_after m (m.next page x.operation) xs

-- each part, run in turn, is answered as it was
abbrev pub Answers : Model → Page → List Part → Type 0
Answers m page [] = Unit {0}
Answers m page (x ∷ xs) = (m.answer page x.operation ≡ x.answer) × Answers m (m.next page x.operation) xs

-- from its first page, the plain order of a hall's parts comes to the page now, and to the answers that were given
pub record PlainOrder (m : Model) (first : Page) (parts : List Part) (now : Page) : Type 0 where
  pub page : page_after m first (in_order parts) ≡ now
  pub answers : Answers m first (in_order parts)

-- of the parts done at all halls, those at hall h
abbrev pub at_hall : ℕ → List Part → List Part
at_hall h [] = []
at_hall h (x ∷ xs) = cond (x.hall == h) (x ∷ at_hall h xs) (at_hall h xs)

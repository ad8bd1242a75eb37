-- What a book means: what its operations answer and make of one page, and the law that this obeys.
use Rattle.std.specs.Prelude.{◌≡◌, ℕ, false, cond, ◌&&◌, List, ℤ, None, Option, ◌==◌, bit_and, nat_lt}
use Rattle.std.specs.List.{slice_get}
use Rattle.records.specs.Answers.{Shaped, fault_at, well_done}
use Rattle.records.specs.declared.Answer.{Answer}
use Rattle.records.specs.declared.Operation.{Operation}

abbrev pub Page : Type 0
Page = List ℤ

-- what the operations of a book mean on one page
pub record Model : Type 1 where
  -- the book's number in its answers
  pub layer : ℕ
  -- the pages that the book could have written
  pub own : Page → Type 0
  -- a set of the key numbers 0 to 63: bit k of the number for key k
  pub keys : Operation → ℕ
  pub answer : Page → Operation → Answer
  pub next : Page → Operation → Page

-- two operations with no key in common
abbrev pub Disjoint : Model → Operation → Operation → Type 0
Disjoint m o q = bit_and (m.keys o) (m.keys q) ≡ 0

-- the law of books, owed of the book's own pages
pub record Lawful (m : Model) : Type 0 where
  -- the book goes on writing pages of its own
  pub keeps : (p : Page) (o : Operation) → m.own p → m.own (m.next p o)
  -- an answer is well done with place 0, or a fault with value 0
  pub shaped : (p : Page) (o : Operation) → m.own p → Shaped (m.answer p o)
  -- a fault leaves the page
  pub fault_leaves : (p : Page) (o : Operation) → m.own p → well_done (m.answer p o) ≡ false → m.next p o ≡ p
  -- two operations with no key in common reach the same page in either order
  pub same_page : (p : Page) (o q : Operation) → m.own p → Disjoint m o q → m.next (m.next p o) q ≡ m.next (m.next p q) o
  -- and each answers the same before the other as after it
  pub same_answer : (p : Page) (o q : Operation) → m.own p → Disjoint m o q → m.answer (m.next p q) o ≡ m.answer p o

-- no hall is above 7: the fault of the book that is asked
abbrev pub no_hall : Model → ℕ → Answer
no_hall m hall = fault_at m.layer 255 hall

-- what a book with these pages answers at a hall
abbrev pub told : Model → (ℕ → Page) → ℕ → Operation → Answer
told m pages hall o = cond (nat_lt hall 8) (m.answer (pages hall) o) (no_hall m hall)

-- its pages after that: no other hall's is altered
abbrev pub turned : Model → (ℕ → Page) → ℕ → Operation → (ℕ → Page)
turned m pages hall o h = cond (nat_lt hall 8 && h == hall) (m.next (pages h) o) (pages h)

-- the number at a place of a hall's page, if the hall is one of the eight and its page goes so far
abbrev pub number_at : (ℕ → Page) → ℕ → ℕ → Option ℤ
number_at pages hall place = cond (nat_lt hall 8) (slice_get (pages hall) place) None

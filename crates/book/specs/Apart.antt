-- When two operations may pass each other: all that an order of acts goes by.
use Rattle.std.specs.Prelude.{◌≡◌, Bool, true, ◌==◌, bit_and}
use Rattle.book.specs.Model.{Page, Model, Lawful}
use Rattle.records.specs.declared.Operation.{Operation}

-- whether two operations may pass each other: now if they have no key in common
abbrev pub apart : Model → Operation → Operation → Bool
apart m o q = bit_and (m.keys o) (m.keys q) == 0

abbrev pub Apart : Model → Operation → Operation → Type 0
Apart m o q = apart m o q ≡ true

-- on this page they reach the same page in either order, and each answers the same first as second
pub record Pass (m : Model) (p : Page) (o q : Operation) : Type 0 where
  pub page : m.next (m.next p o) q ≡ m.next (m.next p q) o
  pub first : m.answer (m.next p q) o ≡ m.answer p o
  pub second : m.answer (m.next p o) q ≡ m.answer p q

-- of every lawful book: operations that are apart pass each other on each of its pages
abbrev pub ApartPass : Type 1
ApartPass = (m : Model) → Lawful m → (p : Page) → m.own p → (o q : Operation) → Apart m o q → Pass m p o q

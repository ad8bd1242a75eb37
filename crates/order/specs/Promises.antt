-- What is promised of every list of calls.
use Rattle.std.specs.Prelude.{◌≡◌, ℕ, ◌<◌, ◌≤◌, true, ◌⊎◌, List, [], ◌∷◌, length, ◌≢◌, Some}
use Rattle.book.specs.Model.{Page, Model}
use Rattle.congress.specs.Kept.{locks, kept}
use Rattle.congress.specs.Queue.{any_at}
use Rattle.congress.specs.State.{State, hall_at, world, scene}
use Rattle.order.specs.History.{Issued, issue_of, Fallen, History}
use Rattle.order.specs.Plain.{Part, at_hall, PlainOrder}
use Rattle.order.specs.Runs.{Past, beginning, run}
use Rattle.order.specs.declared.calls.Call.{Call}
use Rattle.records.specs.Answers.{well_done}
use Rattle.records.specs.Halls.{names}
use Rattle.records.specs.declared.messages.Message.{Message}

infix 40 ◌∈◌
-- x stands in the list
abbrev pub ◌∈◌ : {A : Type 0} → A → List A → Type 0
x ∈ [] = ⊥
x ∈ (y ∷ ys) = (x ≡ y) ⊎ (x ∈ ys)

-- no two parts done at one hall are of one transaction
abbrev pub Once : List Part → Type 0
Once [] = Unit {0}
Once (x ∷ xs) = ((y : Part) → y ∈ xs → y.hall ≡ x.hall → y.transaction ≢ x.transaction) × Once xs

-- One order: all halls act as if transactions were done one after another, by stamp and then by number.
pub record OneOrder (m : Model) (g : Past) : Type 0 where
  -- a transaction bears one stamp at every hall that does it
  pub one_stamp : (x y : Part) → x ∈ g.history.done → y ∈ g.history.done → x.transaction ≡ y.transaction → x.stamp ≡ y.stamp
  -- each hall's page, and the answer of each part done there, are those of its plain order
  pub plain : (h : ℕ) → PlainOrder m (g.history.first h) (at_hall h g.history.done) (g.now.pages h)
  -- a part is done only of a transaction that was issued, and at a hall that it names
  pub issued : (x : Part) → x ∈ g.history.done → (i : Issued) × (issue_of x.transaction g.history.issues ≡ Some i) × (names i.halls x.hall ≡ true)
  -- a hall does its part of a transaction at most once
  pub once : Once g.history.done
  -- no coordinated part is done with a fault
  pub no_fault : (x : Part) → x ∈ g.history.done → x.coordinated ≡ true → well_done x.answer ≡ true

-- All or none: no hall has done its part of a transaction while another has let its part fall.
abbrev pub AllOrNone : Past → Type 0
AllOrNone g = (x : Part) (y : Fallen) → x ∈ g.history.done → y ∈ g.history.fallen → x.transaction ≢ y.transaction

-- a hall has done its part of a transaction
abbrev pub DoneAt : List Part → ℕ → ℕ → Type 0
DoneAt done transaction hall = (x : Part) × (x ∈ done) × (x.transaction ≡ transaction) × (x.hall ≡ hall)

-- every hall that a transaction names has done its part
abbrev pub DoneWholly : History → ℕ → Type 0
DoneWholly H transaction =
    (i : Issued) × (issue_of transaction H.issues ≡ Some i) × ((hall : ℕ) → names i.halls hall ≡ true → DoneAt H.done transaction hall)

-- What is confirmed is done: a transaction that its console was told to be confirmed is done wholly.
abbrev pub ConfirmedIsDone : Past → Type 0
ConfirmedIsDone g = (transaction : ℕ) → transaction ∈ g.history.confirmed → DoneWholly g.history transaction

-- What every congress keeps. With it a hall is back in timestamp mode after each call that leaves it without entries.
pub record WellKept (s : State) : Type 0 where
  pub few_halls : s.opened ≤ 8
  pub few_entries : length s.entries ≤ 64
  pub few_messages : s.count ≤ 1024
  pub kept : kept s.halls s.entries ≡ true
  pub settled : (h : ℕ) → h < 8 → locks (hall_at s h).mode ≡ true → any_at h s.entries ≡ true

abbrev pub KeepsWell : Past → Type 0
KeepsWell g = WellKept g.now.world.state

-- P holds after each call of every list of calls that begins with an Open that is not refused, on any congress and post, and
-- with these pages. It is said of the last call of a list; each call is the last of the list that ends with it.
abbrev pub Always : Model → (ℕ → Page) → (Past → Type 0) → Type 0
Always m pages P =
    (state : State) (post : List Message) (halls : ℕ) → 1 ≤ halls → halls ≤ 8
    → (calls : List Call) → P (run m (Call.Open halls ∷ calls) (beginning (scene (world state post) pages)))

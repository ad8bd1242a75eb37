-- What a game has to show of its cells.
use Rattle.std.specs.Prelude.{◌≡◌, ℕ, ◌+◌, ◌*◌, ◌<◌, ◌≤◌, true, false, length, Ok, Err, Result}
use Rattle.book.specs.Keys.{Held}
use Rattle.book.specs.Model.{Page}
use Rattle.book.specs.Numbers.{at}
use Rattle.records.specs.declared.Operation.{Operation}
use Rattle.rounds.specs.Games.{Game}
use Rattle.rounds.specs.declared.Fault.{Fault}
use Rattle.rounds.specs.declared.asks.Ask.{Ask}
use Rattle.rounds.specs.declared.asks.Ask.TheVariants.{Cell, Close, Total}

-- each cell has its own key, key 32 is the totals', and closing takes them all
abbrev pub Covers : {A : Type 0} {cells totals : ℕ} → ℕ → Result (Ask A cells totals) Fault → Type 0
Covers {cells = cells} keys (Ok (Cell a ask)) = (a < cells) × Held keys a
Covers {cells = cells} keys (Ok (Close round)) = ((k : ℕ) → k < cells → Held keys k) × Held keys 32
Covers keys (Ok (Total n)) = Held keys 32
Covers keys (Err fault) = Unit {0}

pub record Fits {C A : Type 0} {cells totals : ℕ} (layer : ℕ) (g : Game C A cells totals) : Type 0 where
  pub named : layer ≡ g.layer
  pub covers : (o : Operation) → Covers (g.keys o) (g.asked o)
  -- no round gives a total more than 2048
  pub gains : (i : ℕ) (x : C) → g.gain i x ≤ g.most
  pub most : g.most * cells ≤ 2048
  -- an unused cell gives nothing
  pub idle : (i : ℕ) (x : C) → g.used x ≡ false → g.gain i x ≡ 0
  -- every cell that is read or made has its size
  pub sized_empty : g.sized g.empty ≡ true
  pub sized_changed : (x : C) (ask : A) → g.sized x ≡ true → g.sized (g.changed x ask) ≡ true
  pub sized_read : (p : Page) (i : ℕ) → g.sized (g.read p i) ≡ true
  -- a cell that is written on a page is read again from it
  pub wide : (x : C) → length (g.numbers x) ≡ g.width
  pub read_again : (p : Page) (i : ℕ) (x : C) → g.sized x ≡ true → ((j : ℕ) → j < g.width → at p (i + j) ≡ at (g.numbers x) j) → g.read p i ≡ x

-- Only the closing of a round changes the totals.
use Rattle.std.proofs.Common.{◌≡◌, ℕ, ℤ, Ok, Err, Result, refl}
use Rattle.records.specs.declared.Operation.{Operation}
use Rattle.rounds.specs.Games.{Game}
use Rattle.rounds.specs.Sheets.{says, left, made, after}
use Rattle.rounds.specs.declared.Fault.{Fault}
use Rattle.rounds.specs.declared.asks.Ask.{Ask}
use Rattle.rounds.specs.declared.asks.Ask.TheVariants.{Cell, Close, Total}
use Rattle.rounds.specs.declared.sheets.Sheet.{Sheet}

module _ {A : Type 0} {cells totals : ℕ} (kind : ℕ) (o : Operation) where
  -- only an operation of this kind asks to close
  abbrev pub Closes : Result (Ask A cells totals) Fault → Type 0
  Closes (Ok (Cell a ask)) = Unit {0}
  Closes (Ok (Close round)) = o.kind ≡ kind
  Closes (Ok (Total i)) = Unit {0}
  Closes (Err fault) = Unit {0}

module _ {C A : Type 0} {cells totals : ℕ} (g : Game C A cells totals) (kind : ℕ) (s : Sheet C cells totals) (o : Operation) (other : o.kind ≡ kind → ⊥) where
  left_totals : (x : Ask A cells totals) (r : Result ℤ Fault) → Closes kind o (Ok x) → (left g s x r).totals ≡ s.totals
  left_totals (Cell a ask) (Ok value) c = refl
  left_totals (Close round) (Ok value) c = absurd (other c)
  left_totals (Total i) (Ok value) c = refl
  left_totals x (Err fault) c = refl

  made_totals : (x : Result (Ask A cells totals) Fault) → Closes kind o x → (made g s x).totals ≡ s.totals
  made_totals (Ok x) c = left_totals x (says g s x) c
  made_totals (Err fault) c = refl

  pub totals_stay : Closes kind o (g.asked o) → (after g s o).totals ≡ s.totals
  totals_stay c = made_totals (g.asked o) c

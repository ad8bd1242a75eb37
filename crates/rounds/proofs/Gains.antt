-- The totals while a round is closed: with what the cells so far give to each.
use Rattle.std.proofs.Common.{◌≡◌, ℕ, ◌+◌, ◌<◌, ◌≤◌, false, List, length, get_or, refl, inl, inr, ap, ◌∙◌, arith}
use Rattle.book.proofs.Below.{sum_none, sum_more, sum_bound, row_inside, table_all, get_or-table}
use Rattle.book.specs.Below.{sum_below}
use Rattle.rounds.specs.Fits.{Fits}
use Rattle.rounds.specs.Games.{Game}
use Rattle.rounds.specs.Rounds.{raised, Small}
use Rattle.rounds.specs.Sheets.{cell, gain_at}
use Rattle.rounds.specs.Totals.{length-raised}
use Rattle.rounds.specs.declared.sheets.Sheet.{Sheet}
use Rattle.std.proofs.lemmas.Bool.{cases_lt}
use Rattle.std.proofs.lemmas.List.{get_or_past}

get_or-raised : (totals : List ℕ) (gain : ℕ → ℕ) (i : ℕ) → i < length totals → get_or (raised totals gain) i 0 ≡ get_or totals i 0 + gain i
get_or-raised totals gain i h = get_or-table (length totals) (λ k. get_or totals k 0 + gain k) i 0 h

is_raised : (totals : List ℕ) (gain : ℕ → ℕ) (xs : List ℕ) → length xs ≡ length totals
    → ((i : ℕ) → i < length totals → get_or xs i 0 ≡ get_or totals i 0 + gain i) → xs ≡ raised totals gain
is_raised totals gain xs long each = table_all (length totals) (λ i. get_or totals i 0 + gain i) xs 0 long each

module _ {C A : Type 0} {cells totals layer : ℕ} (g : Game C A cells totals) (f : Fits layer g) (s : Sheet C cells totals) where
  -- what the first k cells give to total i
  abbrev pub so_far : ℕ → ℕ → ℕ
  so_far k i = sum_below k (gain_at g s i)

  pub before_cells : s.totals ≡ raised s.totals (so_far 0)
  before_cells = is_raised s.totals (so_far 0) s.totals refl (λ i h. omega (arith, sum_none (gain_at g s i)))

  module _ (k : ℕ) (x : C) (xs : List ℕ) (here : x ≡ cell g s k) (is : xs ≡ raised s.totals (so_far k)) where
    long : length xs ≡ length s.totals
    long = ap length is ∙ length-raised s.totals (so_far k)

    at : (i : ℕ) → i < length s.totals → get_or xs i 0 ≡ get_or s.totals i 0 + so_far k i
    at i h = ap (λ l. get_or l i 0) is ∙ get_or-raised s.totals (so_far k) i h

    pub with_gains : (ys : List ℕ) → ys ≡ raised xs (λ i. g.gain i x) → ys ≡ raised s.totals (so_far (k + 1))
    with_gains ys more =
        is_raised s.totals (so_far (k + 1)) ys (ap length more ∙ length-raised xs (λ i. g.gain i x) ∙ long)
        (λ i h.
        let new = ap (λ l. get_or l i 0) more ∙ get_or-raised xs (λ i. g.gain i x) i (omega (arith, long)) in
        omega (arith, new, at i h, ap (g.gain i) here, sum_more (gain_at g s i) k))

    pub without_gains : g.used x ≡ false → xs ≡ raised s.totals (so_far (k + 1))
    without_gains unused =
        is_raised s.totals (so_far (k + 1)) xs long
        (λ i h. omega (arith, at i h, f.idle i x unused, ap (g.gain i) here, sum_more (gain_at g s i) k))

    few : (i : ℕ) → k < cells → so_far k i + g.gain i x ≤ 2048
    few i h =
        omega (arith, sum_bound (gain_at g s i) g.most k (λ a. f.gains i (cell g s a)), f.gains i x, row_inside g.most k cells h, f.most)

    pub has_room : k < cells → s.round ≤ 99 → Small s.round s.totals → (i : ℕ) → get_or xs i 0 + g.gain i x ≤ 204800
    has_room inside last small i =
        elim (cases_lt i (length s.totals)) [
          | inl h ↦ omega (arith, at i h, few i inside, small i)
          | inr h ↦ omega (arith, get_or_past xs i 0 (omega (arith, long)), few i inside)
        ]

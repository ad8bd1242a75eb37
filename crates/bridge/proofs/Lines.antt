-- Counts and tests over the lines of a deal, as over the places 0 to 7.
use Rattle.std.proofs.Common.{◌≡◌, ℕ, zero, suc, ◌+◌, ◌<◌, ◌≤◌, Bool, cond, ◌||◌, List, length, get_or, take, take_all, sym, refl, ap, ◌∙◌, ap₂, add-one, arith}
use Rattle.book.proofs.Below.{sum_none, sum_more, some_none, some_more}
use Rattle.book.specs.Below.{sum_below, some_below}
use Rattle.bridge.specs.Points.{filled, has_pair, count, elsewhere, elsewhere_at, line, Line}
use Rattle.bridge.specs.declared.sheet.Deal.{Deal}
use Rattle.std.specs.Prelude.{not, None, ◌&&◌, ◌==◌}
use Rattle.std.specs.List.{count_by, sum_by, list_any, enumerate_from}
use Rattle.std.proofs.lemmas.List.Sums.{sum_by_more}
use Rattle.std.proofs.lemmas.List.Folds.{list_any_more}
use Rattle.std.proofs.lemmas.List.FromFn.{length-enumerate_from, get_or-enumerate_from}

module _ {X : Type 0} (d : X) (xs : List X) where
  sum_taken : (f : X → ℕ) (n : ℕ) → n ≤ length xs → sum_by f (take n xs) ≡ sum_below n (λ i. f (get_or xs i d))
  sum_taken f zero h = sym (sum_none (λ i. f (get_or xs i d)))
  sum_taken f (suc n) h =
      ap (λ k. sum_by f (take k xs)) (sym (add-one n)) ∙ sum_by_more f xs n d (omega arith) ∙ ap (λ k. k + f (get_or xs n d)) (sum_taken f n (omega arith))
      ∙ sym (sum_more (λ i. f (get_or xs i d)) n) ∙ ap (λ k. sum_below k (λ i. f (get_or xs i d))) (add-one n)

  -- a sum over a list, by places
  pub sum_by_places : (f : X → ℕ) (n : ℕ) → length xs ≡ n → sum_by f xs ≡ sum_below n (λ i. f (get_or xs i d))
  sum_by_places f n h = ap (sum_by f) (sym (ap (λ k. take k xs) (sym h) ∙ take_all (length xs) xs (omega arith))) ∙ sum_taken f n (omega (arith, h))

  any_taken : (t : X → Bool) (n : ℕ) → n ≤ length xs → list_any t (take n xs) ≡ some_below n (λ i. t (get_or xs i d))
  any_taken t zero h = sym (some_none (λ i. t (get_or xs i d)))
  any_taken t (suc n) h =
      ap (λ k. list_any t (take k xs)) (sym (add-one n)) ∙ list_any_more t xs n d (omega arith) ∙ ap (λ k. k || t (get_or xs n d)) (any_taken t n (omega arith))
      ∙ sym (some_more (λ i. t (get_or xs i d)) n) ∙ ap (λ k. some_below k (λ i. t (get_or xs i d))) (add-one n)

  pub any_by_places : (t : X → Bool) (n : ℕ) → length xs ≡ n → list_any t xs ≡ some_below n (λ i. t (get_or xs i d))
  any_by_places t n h = ap (list_any t) (sym (ap (λ k. take k xs) (sym h) ∙ take_all (length xs) xs (omega arith))) ∙ any_taken t n (omega (arith, h))

pub count_lines : (d : Deal) → length d.lines ≡ 8 → count_by filled d.lines ≡ count d
count_lines d h = sum_by_places None d.lines (λ x. cond (filled x) 1 0) 8 h

some_same : (t u : ℕ → Bool) (n : ℕ) → ((k : ℕ) → k < n → t k ≡ u k) → some_below n t ≡ some_below n u
unfolding some_below
some_same t u zero h = refl
some_same t u (suc n) h = ap₂ (λ x y. x || y) (some_same t u n (λ k l. h k (omega arith))) (h n (omega arith))

-- the East-West pair e, on a line that is not that of place b
abbrev pub Elsewhere : ℕ → ℕ → ℕ × Line → Bool
Elsewhere b e p = not (p.0 == b) && has_pair e p.1

pub elsewhere_lines : (d : Deal) (b e : ℕ) → length d.lines ≡ 8 → list_any (Elsewhere b e) (enumerate_from 0 d.lines) ≡ elsewhere d b e
elsewhere_lines d b e h =
    any_by_places (0, None) (enumerate_from 0 d.lines) (Elsewhere b e) 8 (length-enumerate_from 0 d.lines ∙ h)
    ∙ some_same _ (elsewhere_at d b e) 8 (λ i l.
    ap (Elsewhere b e) (get_or-enumerate_from 0 d.lines i (0, None) (omega (arith, h))) ∙ ap (λ k. Elsewhere b e (k, line d i)) (omega arith))

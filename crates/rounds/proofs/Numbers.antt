-- Each number of a page after the round: whose it is, the cells' or the totals'.
use Rattle.std.proofs.Common.{◌≡◌, ℕ, ◌-◌, ◌*◌, ◌/◌, ◌%◌, ◌<◌, ◌≤◌, List, length, map, ℤ, pos, option_map, slice_index, subst, sym, ap, ap₂, ◌∙◌, arith}
use Rattle.book.proofs.Below.{row_inside, length-rows, table_all, slice_get-rows, slice_get-append_left, slice_get-append_right}
use Rattle.book.specs.Below.{table, rows}
use Rattle.rounds.specs.Fits.{Fits}
use Rattle.rounds.specs.Games.{Game}
use Rattle.rounds.specs.Pages.{after_round}
use Rattle.rounds.specs.Sheets.{cell}
use Rattle.rounds.specs.declared.sheets.Sheet.{Sheet}
use Rattle.std.specs.List.{slice_get}
use Rattle.std.proofs.lemmas.List.{length-map, get_or-map}
use Rattle.std.proofs.lemmas.Option.{slice_get-map}

module _ {C A : Type 0} {cells totals layer : ℕ} (g : Game C A cells totals) (f : Fits layer g) (s : Sheet C cells totals) where
  abbrev numbers : ℕ → List ℤ
  numbers a = g.numbers (cell g s a)

  abbrev points : List ℤ
  points = table totals (λ i. pos (slice_index s.totals i))

  numbers_wide : (a : ℕ) → length (numbers a) ≡ g.width
  numbers_wide a = f.wide (cell g s a)

  all_wide : length (rows cells numbers) ≡ g.width * cells
  all_wide = length-rows g.width numbers numbers_wide cells

  in_cell : (i : ℕ) → 1 ≤ g.width → i / g.width < cells → slice_get (numbers (i / g.width)) (i % g.width) ≡ slice_get (after_round g s) i
  in_cell i some h =
      let inside : i < length (rows cells numbers) = omega (arith, all_wide, row_inside g.width (i / g.width) cells h) in
      sym (slice_get-append_left (rows cells numbers) points i inside
      ∙ slice_get-rows g.width numbers numbers_wide cells i (i / g.width) (i % g.width) (omega arith) h (omega arith))

  pub number_of_cell : (w v i : ℕ) → w ≡ g.width → v ≡ g.width → 1 ≤ g.width → i / w < cells
      → slice_get (numbers (i / w)) (i % v) ≡ slice_get (after_round g s) i
  number_of_cell w v i e d some h =
      ap₂ (λ x y. slice_get (numbers (i / x)) (i % y)) e d ∙ in_cell i some (subst (λ x. i / x < cells) e h)

  points_are : length s.totals ≡ totals → map pos s.totals ≡ points
  points_are all =
      table_all totals (λ i. pos (slice_index s.totals i)) (map pos s.totals) (pos 0) (length-map s.totals pos ∙ all)
      (λ i h. get_or-map pos s.totals i 0 (pos 0) (omega (arith, all)))

  pub number_of_total : (w i : ℕ) → w ≡ g.width → length s.totals ≡ totals → w * cells ≤ i
      → option_map pos (slice_get s.totals (i - w * cells)) ≡ slice_get (after_round g s) i
  number_of_total w i e all h =
      let k = i - w * cells in
      sym (slice_get-append_right (rows cells numbers) points (w * cells) i (ap (λ x. x * cells) e ∙ sym all_wide) h
      ∙ ap (λ xs. slice_get xs k) (sym (points_are all)) ∙ slice_get-map pos s.totals k)

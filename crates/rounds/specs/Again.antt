-- A sheet that is written on a page is read again from it.
use Rattle.std.specs.Prelude.{◌≡◌, ℕ, ◌+◌, ◌-◌, ◌*◌, ◌<◌, List, ◌++◌, length, ℤ, pos, slice_index, refl}
use Rattle.std.proofs.Common.{sym, ap, ◌∙◌, one-add, arith}
use Rattle.book.proofs.Below.{row_inside, get_or-table, table_all, length-rows, get_or-rows}
use Rattle.book.specs.Below.{table, rows}
use Rattle.book.specs.Numbers.{natural, at}
use Rattle.rounds.specs.Fits.{Fits}
use Rattle.rounds.specs.Games.{Game}
use Rattle.rounds.specs.Kept.{Sized}
use Rattle.rounds.specs.Pages.{write, read}
use Rattle.rounds.specs.Sheets.{cell}
use Rattle.rounds.specs.declared.sheets.Sheet.{Sheet}
use Rattle.std.proofs.lemmas.List.{get_or_append_left, get_or-append_right}

pub same_sheet : {C : Type 0} {cells totals : ℕ} (s t : Sheet C cells totals) → s.round ≡ t.round → s.cells ≡ t.cells → s.totals ≡ t.totals → s ≡ t
same_sheet s t r b u =
    ap (λ x. record { round = x; cells = s.cells; totals = s.totals }) r
    ∙ ap (λ x. record { round = t.round; cells = x; totals = s.totals }) b
    ∙ ap (λ x. record { round = t.round; cells = t.cells; totals = x }) u

module _ {C A : Type 0} {cells totals layer : ℕ} (g : Game C A cells totals) (f : Fits layer g) (s : Sheet C cells totals) where
  abbrev numbers : ℕ → List ℤ
  numbers a = g.numbers (cell g s a)

  abbrev points : List ℤ
  points = table totals (λ i. pos (slice_index s.totals i))

  numbers_wide : (a : ℕ) → length (numbers a) ≡ g.width
  numbers_wide a = f.wide (cell g s a)

  after_round : (i k : ℕ) → i ≡ 1 + k → at (write g s) i ≡ at (rows cells numbers ++ points) k
  after_round i k e = ap (at (write g s)) (e ∙ one-add k)

  at_cell : (a j : ℕ) → a < cells → j < g.width → at (write g s) (1 + g.width * a + j) ≡ at (numbers a) j
  at_cell a j ha hj =
      after_round (1 + g.width * a + j) (g.width * a + j) (omega arith)
      ∙ get_or_append_left (rows cells numbers) points (pos 0) (g.width * a + j) (omega (arith, length-rows g.width numbers numbers_wide cells, row_inside g.width a cells ha))
      ∙ get_or-rows g.width numbers numbers_wide cells a j (pos 0) ha hj

  at_total : (i : ℕ) → i < totals → at (write g s) (1 + g.width * cells + i) ≡ pos (slice_index s.totals i)
  at_total i h =
      let back : g.width * cells + i - g.width * cells ≡ i = omega arith in
      after_round (1 + g.width * cells + i) (g.width * cells + i) (omega arith)
      ∙ get_or-append_right (rows cells numbers) points (g.width * cells) (g.width * cells + i) (pos 0) (length-rows g.width numbers numbers_wide cells) (omega arith)
      ∙ ap (at points) back ∙ get_or-table totals (λ k. pos (slice_index s.totals k)) i (pos 0) h

  pub read_write : Sized g s → read g (write g s) ≡ s
  read_write sized =
      same_sheet (read g (write g s)) s
      refl
      (sym (table_all cells (λ a. g.read (write g s) (1 + g.width * a)) s.cells g.empty sized.all_cells (λ a h.
      sym (f.read_again (write g s) (1 + g.width * a) (cell g s a) (sized.each a) (λ j l. at_cell a j h l)))))
      (sym (table_all totals (λ i. natural (at (write g s) (1 + g.width * cells + i))) s.totals 0 sized.all_totals (λ i h. sym (ap natural (at_total i h)))))

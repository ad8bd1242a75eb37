-- A sheet of the roll on its page, and the pages of all halls.
use Rattle.std.specs.Prelude.{◌≡◌, ℕ, ◌<◌, ◌≤◌, map, length, pos, ◌≢◌}
use Rattle.std.proofs.Common.{drop_at, sym, ap, ap₂, ◌∙◌, arith}
use Rattle.book.proofs.Below.{table_all}
use Rattle.book.proofs.Parts.{told_sheet, turned_sheet}
use Rattle.book.specs.Model.{Page, Model, told, turned}
use Rattle.book.specs.Numbers.{natural, at}
use Rattle.records.specs.declared.Operation.{Operation}
use Rattle.roll.specs.Table.{length_hall}
use Rattle.roll.specs.Roll.{Sheet, write, read, entry, answer, after, roll_sheets, roll_model, sheet_of, page_of}
use Rattle.roll.specs.declared.halls.Roll.{Roll}
use Rattle.std.proofs.lemmas.List.{length-map, get_or-map, get_or_append_left}

pub same_sheet : (s t : Sheet) → s.tokens ≡ t.tokens → s.below ≡ t.below → s ≡ t
same_sheet s t e f = ap₂ (λ x y. record { tokens = x; below = y }) e f

module _ (s : Sheet) (sixteen : length s.tokens ≡ 16) where
  pub at_entry : (g : ℕ) → g < 16 → at (write s) g ≡ pos (entry s.tokens g)
  at_entry g l =
      get_or_append_left (map pos s.tokens) s.below (pos 0) g (omega (arith, length-map s.tokens pos))
      ∙ get_or-map pos s.tokens g 0 (pos 0) (omega arith)

  pub read_write : read (write s) ≡ s
  read_write =
      same_sheet (read (write s)) s
      (sym (table_all 16 (λ g. natural (at (write s) g)) s.tokens 0 sixteen (λ g l. ap natural (sym (at_entry g l)))))
      (drop_at (map pos s.tokens) s.below 16 (length-map s.tokens pos ∙ sixteen))

-- A hall's answer and all pages, by its sheet.
module _ {B : Type 0} (m : Model) (pages : B → ℕ → Page) (r : Roll B) (hall : ℕ) (o : Operation) (inside : hall ≤ 7) where
  again : read (write (sheet_of pages r hall)) ≡ sheet_of pages r hall
  again = read_write (sheet_of pages r hall) (length_hall r.tokens.tokens hall)

  pub told_roll : answer m (sheet_of pages r hall) o ≡ told (roll_model m) (page_of pages r) hall o
  told_roll = told_sheet (roll_sheets m) (sheet_of pages r) hall o inside again

  pub turned_roll : (new : Roll B) → sheet_of pages new hall ≡ after m (sheet_of pages r hall) o
      → ((h : ℕ) → (h ≢ hall) → sheet_of pages new h ≡ sheet_of pages r h) → page_of pages new ≡ turned (roll_model m) (page_of pages r) hall o
  turned_roll new here others = turned_sheet (roll_sheets m) (sheet_of pages r) hall o inside again (sheet_of pages new) here others

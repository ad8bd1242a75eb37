-- The pages of a book that has a part for each hall.
use Rattle.std.specs.Prelude.{ℕ, zero, suc, List, [], ◌∷◌, map, slice_index_or}
use Rattle.book.specs.Model.{Page}

-- the page of a hall, of the parts of all halls; where there is no part it is a new book's
abbrev pub page_at : {H : Type 0} → (H → Page) → Page → List H → ℕ → Page
page_at page first halls h = slice_index_or (map page halls) h first

-- a book's own pages: those of its parts, and a new one's
pub all_own : {H : Type 0} (own : Page → Type 0) (page : H → Page) (first : Page) (halls : List H) (h : ℕ)
    → ((s : H) → own (page s)) → own first → own (page_at page first halls h)
all_own own page first [] h parts new = new
all_own own page first (s ∷ halls) zero parts new = parts s
all_own own page first (s ∷ halls) (suc h) parts new = all_own own page first halls h parts new

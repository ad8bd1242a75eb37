-- The numbers of a page.
use Rattle.std.specs.Prelude.{ℕ, ℤ, pos, negsuc, slice_index_or}
use Rattle.book.specs.Model.{Page}

-- a whole number where it is not negative, else 0
abbrev pub natural : ℤ → ℕ
natural (pos n) = n
natural (negsuc n) = 0

-- number i of a page
abbrev pub at : Page → ℕ → ℤ
at p i = slice_index_or p i (pos 0)

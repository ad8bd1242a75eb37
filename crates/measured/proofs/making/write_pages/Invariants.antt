use Rattle.std.proofs.Common.{◌≡◌, length}
use Rattle.book.specs.Below.{table}
use Rattle.measured.proofs.making.write_pages.Given as goal
use Rattle.measured.specs.Measured.{number_in}
use Rattle.std.proofs.lemmas.List.Edits.{sets}

-- the numbers so far are written
abbrev pub invariant-loop-place : goal.invariant-loop-place
invariant-loop-place g l =
    (length l.pages ≡ length l.fn.pages)
    × (l.pages ≡ sets l.fn.pages 0 (table l.place (number_in (g.B.Book.pages l.fn.book))))

-- Each number of a deal on a page is a number of one of its lines.
use Rattle.std.proofs.Common.{◌≡◌, ℕ, ◌/◌, ◌%◌, ◌<◌, ◌≤◌, None, sym, arith}
use Rattle.book.proofs.Below.{slice_get-rows}
use Rattle.bridge.specs.Laws.{line_wide, deal_wide}
use Rattle.bridge.specs.Page.{line_numbers, deal_numbers}
use Rattle.bridge.specs.Points.{line}
use Rattle.bridge.specs.declared.sheet.Deal.{Deal}
use Rattle.std.specs.List.{slice_get}
use Rattle.std.proofs.lemmas.Option.{slice_get_past}

pub number_of_line : (d : Deal) (j : ℕ) → j < 24 → slice_get (line_numbers (line d (j / 3))) (j % 3) ≡ slice_get (deal_numbers d) j
number_of_line d j h =
    sym (slice_get-rows 3 (λ b. line_numbers (line d b)) (λ b. line_wide (line d b)) 8 j (j / 3) (j % 3) (omega arith) (omega arith) (omega arith))

pub no_number : (d : Deal) (j : ℕ) → 24 ≤ j → slice_get (deal_numbers d) j ≡ None
no_number d j h = slice_get_past (deal_numbers d) j (omega (arith, deal_wide d))

-- The page of a hall: the round, the numbers of each cell, the totals.
use Rattle.std.specs.Prelude.{ℕ, ◌+◌, ◌*◌, ◌∷◌, ◌++◌, replicate, pos, slice_index}
use Rattle.book.specs.Below.{table, rows}
use Rattle.book.specs.Model.{Page, Model}
use Rattle.book.specs.Numbers.{natural, at}
use Rattle.book.specs.Sheets.{Sheets, sheet_model}
use Rattle.rounds.specs.Games.{Game}
use Rattle.rounds.specs.Sheets.{cell, answer, after}
use Rattle.rounds.specs.declared.sheets.Sheet.{Sheet}

module _ {C A : Type 0} {cells totals : ℕ} (g : Game C A cells totals) where
  abbrev pub after_round : Sheet C cells totals → Page
  after_round s = rows cells (λ a. g.numbers (cell g s a)) ++ table totals (λ i. pos (slice_index s.totals i))

  abbrev pub write : Sheet C cells totals → Page
  write s = pos s.round ∷ after_round s

  abbrev pub read : Page → Sheet C cells totals
  read p = record {
    round = natural (at p 0);
    cells = table cells (λ a. g.read p (1 + g.width * a));
    totals = table totals (λ i. natural (at p (1 + g.width * cells + i)));
  }

  abbrev pub sheets : Sheets (Sheet C cells totals)
  sheets = record { layer = g.layer; write = write; read = read; keys = g.keys; answer = answer g; after = after g }

  abbrev pub model : Model
  model = sheet_model sheets

  -- round 1, nothing played and no points
  abbrev pub blank : Sheet C cells totals
  blank = record { round = 1; cells = replicate cells g.empty; totals = replicate totals 0 }

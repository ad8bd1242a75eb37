-- The book of bridge as a game of rounds. The page of a hall: the round; for each of 16 deals and each of its 8 lines 1,
-- the East-West pair and the score, or three zeros where there is no line; the 16 totals.
use Rattle.std.specs.Prelude.{ℕ, ◌+◌, ◌*◌, Bool, cond, List, [], ◌∷◌, length, ℤ, pos, Some, None, ◌==◌}
use Rattle.book.specs.Below.{table, rows}
use Rattle.book.specs.Model.{Page, Model}
use Rattle.book.specs.Numbers.{natural, at}
use Rattle.bridge.specs.Asking.{asked, keys}
use Rattle.bridge.specs.Points.{Line, line, deal_points}
use Rattle.bridge.specs.Rules.{no_lines, says, changed, used, settled}
use Rattle.bridge.specs.declared.asking.DealAsk.{DealAsk}
use Rattle.bridge.specs.declared.sheet.Deal.{Deal}
use Rattle.records.specs.declared.Answer.{Answer}
use Rattle.records.specs.declared.Operation.{Operation}
use Rattle.rounds.specs.Games.{Game}
use Rattle.rounds.specs.Pages as pages
use Rattle.rounds.specs.Sheets as sheets
use Rattle.rounds.specs.declared.sheets.Sheet.{Sheet as SheetOf}

abbrev pub line_numbers : Line → List ℤ
line_numbers None = pos 0 ∷ pos 0 ∷ pos 0 ∷ []
line_numbers (Some x) = pos 1 ∷ pos x.pair ∷ x.score ∷ []

abbrev pub deal_numbers : Deal → List ℤ
deal_numbers d = rows 8 (λ b. line_numbers (line d b))

abbrev pub line_from : ℤ → ℤ → ℤ → Line
line_from there pair score = cond (natural there == 1) (Some (record { pair = natural pair; score = score })) None

-- the line and the deal whose numbers begin at place i
abbrev pub read_line : Page → ℕ → Line
read_line p i = line_from (at p i) (at p (i + 1)) (at p (i + 2))

abbrev pub read_deal : Page → ℕ → Deal
read_deal p i = record { lines = table 8 (λ b. read_line p (i + 3 * b)) }

-- a deal has 8 lines
abbrev pub sized : Deal → Bool
sized d = length d.lines == 8

-- 16 deals of 24 numbers, 16 totals, and no deal gives a total more than 128
abbrev pub bridge : Game Deal DealAsk 16 16
bridge = record {
  layer = 2;
  asked = asked;
  keys = keys;
  empty = no_lines;
  sized = sized;
  says = says;
  changed = changed;
  used = used;
  settled = settled;
  gain = λ i d. deal_points d i;
  most = 128;
  numbers = deal_numbers;
  width = 24;
  read = read_deal;
}

abbrev pub Sheet : Type 0
Sheet = SheetOf Deal 16 16

-- what an operation answers, and the sheet of a hall after it
abbrev pub answer : Sheet → Operation → Answer
answer = sheets.answer bridge

abbrev pub after : Sheet → Operation → Sheet
after = sheets.after bridge

abbrev pub write : Sheet → Page
write = pages.write bridge

-- round 1, no lines and no points
abbrev pub blank : Sheet
blank = pages.blank bridge

abbrev pub bridge_model : Model
bridge_model = pages.model bridge

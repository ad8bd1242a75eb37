-- The lines of a sheet, run through a book one after another.
use Rattle.std.specs.Prelude.{ℕ, ◌+◌, true, false, List, [], ◌∷◌, ◌++◌, Some, None, Ok, Err, fold, Option, Result}
use Rattle.scoring.specs.declared.running.Answered.{Answered}
use Rattle.scoring.specs.declared.running.LogEntry.{LogEntry}
use Rattle.book.specs.Model.{Page, Model, told, turned}
use Rattle.entries.specs.Reading.{reading}
use Rattle.entries.specs.Words.{lines}
use Rattle.entries.specs.declared.Game.TheVariants.{Chess}
use Rattle.entries.specs.declared.Misread.{Misread}
use Rattle.entries.specs.declared.Progress.{Progress}
use Rattle.entries.specs.declared.Reading.{Reading}

-- a sheet of chess in hall 0, without a roll, until a line says another
abbrev pub start : Progress
start = record { hall = 0; game = Chess; chief = None; begun = false; bearer = record { grant = 0; token = 0 } }

-- a line that cannot be read, or says nothing, changes nothing
abbrev pub progress_by : Progress → Result (Option Reading) Misread → Progress
progress_by at (Ok None) = at
progress_by at (Ok (Some (Reading.Hall hall))) = record at { hall = hall }
progress_by at (Ok (Some (Reading.Game game))) = record at { game = game }
progress_by at (Ok (Some (Reading.Chief token))) = record at { chief = Some token }
progress_by at (Ok (Some (Reading.As bearer))) = record at { bearer = bearer }
progress_by at (Ok (Some (Reading.Entry o))) = record at { begun = true }
progress_by at (Err misread) = at

abbrev pub pages_by : Model → (ℕ → Page) → Progress → Result (Option Reading) Misread → (ℕ → Page)
pages_by m pages at (Ok None) = pages
pages_by m pages at (Ok (Some (Reading.Hall hall))) = pages
pages_by m pages at (Ok (Some (Reading.Game game))) = pages
pages_by m pages at (Ok (Some (Reading.Chief token))) = pages
pages_by m pages at (Ok (Some (Reading.As bearer))) = pages
pages_by m pages at (Ok (Some (Reading.Entry o))) = turned m pages at.hall o
pages_by m pages at (Err misread) = pages

abbrev pub event_by : Model → (ℕ → Page) → Progress → Result (Option Reading) Misread → Result (Option Answered) Misread
event_by m pages at (Ok None) = Ok None
event_by m pages at (Ok (Some (Reading.Hall hall))) = Ok None
event_by m pages at (Ok (Some (Reading.Game game))) = Ok None
event_by m pages at (Ok (Some (Reading.Chief token))) = Ok None
event_by m pages at (Ok (Some (Reading.As bearer))) = Ok None
event_by m pages at (Ok (Some (Reading.Entry o))) = Ok (Some (record { operation = o; answer = told m pages at.hall o }))
event_by m pages at (Err misread) = Err misread

-- what a line says, with what came before
abbrev pub progress_after : Progress → List ℕ → Progress
progress_after at line = progress_by at (reading line at)

abbrev pub pages_after : Model → (ℕ → Page) → Progress → List ℕ → (ℕ → Page)
pages_after m pages at line = pages_by m pages at (reading line at)

abbrev pub event_of : Model → (ℕ → Page) → Progress → List ℕ → Result (Option Answered) Misread
event_of m pages at line = event_by m pages at (reading line at)

-- a sheet being scored: the pages and the progress now, how many lines were taken, and what came of them
pub record State : Type 0 where
  pub pages : ℕ → Page
  pub at : Progress
  pub count : ℕ
  pub log : List LogEntry

abbrev pub begin : (ℕ → Page) → State
begin pages = record { pages = pages; at = start; count = 0; log = [] }

-- the events of line n, as a list of none or one
abbrev pub noted : ℕ → Result (Option Answered) Misread → List LogEntry
noted n (Ok None) = []
noted n (Ok (Some answered)) = record { line = n; event = Ok answered } ∷ []
noted n (Err misread) = record { line = n; event = Err misread } ∷ []

abbrev pub taken : Model → State → List ℕ → State
taken m s line = record {
  pages = pages_after m s.pages s.at line;
  at = progress_after s.at line;
  count = s.count + 1;
  log = s.log ++ noted (s.count + 1) (event_of m s.pages s.at line);
}

abbrev pub scored : Model → State → List (List ℕ) → State
scored m s [] = s
scored m s (line ∷ later) = scored m (taken m s line) later

-- a whole sheet, from its text and the pages before it
abbrev pub sheet : Model → (ℕ → Page) → List ℕ → State
sheet m pages text = scored m (begin pages) (lines text)

-- what all the lines of a text have said of its sheet
abbrev pub headings : List ℕ → Progress
headings text = fold progress_after start (lines text)

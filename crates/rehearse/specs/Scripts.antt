-- What a script says: its settings, its calls, and which of its lines make a call or cannot be read.
use Rattle.std.specs.Prelude.{ℕ, ◌+◌, List, [], ◌∷◌, ◌++◌, Some, None, Ok, Err, Option, Result}
use Rattle.entries.specs.Words.{lines}
use Rattle.order.specs.declared.calls.Call.{Call}
use Rattle.rehearse.specs.declared.lines.Mark.{Mark}
use Rattle.script.specs.Reading.{first_settings, settings_with, reading}
use Rattle.script.specs.declared.Line.{Line}
use Rattle.script.specs.declared.Settings.{Settings}
use Rattle.script.specs.declared.expected.Misread.{Misread}

-- a line that cannot be read, or says nothing, changes nothing
abbrev pub settings_by : Settings → Result (Option Line) Misread → Settings
settings_by at (Ok None) = at
settings_by at (Ok (Some line)) = settings_with at line
settings_by at (Err misread) = at

-- the call that a line makes, as a list of none or one
abbrev pub calls_of : Line → List Call
calls_of (Line.Book game) = []
calls_of (Line.Chief token) = []
calls_of (Line.Post places) = []
calls_of Line.Pages = []
calls_of (Line.As bearer) = []
calls_of (Line.Call call) = call ∷ []

abbrev pub calls_by : Result (Option Line) Misread → List Call
calls_by (Ok None) = []
calls_by (Ok (Some line)) = calls_of line
calls_by (Err misread) = []

-- line n is marked where it makes a call, and where it cannot be read
abbrev pub marks_of : ℕ → Line → List Mark
marks_of n (Line.Book game) = []
marks_of n (Line.Chief token) = []
marks_of n (Line.Post places) = []
marks_of n Line.Pages = []
marks_of n (Line.As bearer) = []
marks_of n (Line.Call call) = record { line = n; misread = None } ∷ []

abbrev pub marks_by : ℕ → Result (Option Line) Misread → List Mark
marks_by n (Ok None) = []
marks_by n (Ok (Some line)) = marks_of n line
marks_by n (Err misread) = record { line = n; misread = Some misread } ∷ []

-- a script being read: its settings now, how many lines were taken, its calls and its marks
pub record State : Type 0 where
  pub at : Settings
  pub count : ℕ
  pub calls : List Call
  pub marks : List Mark

abbrev pub begin : State
begin = record { at = first_settings; count = 0; calls = []; marks = [] }

abbrev pub taken : State → List ℕ → State
taken s line = record {
  at = settings_by s.at (reading line s.at);
  count = s.count + 1;
  calls = s.calls ++ calls_by (reading line s.at);
  marks = s.marks ++ marks_by (s.count + 1) (reading line s.at);
}

abbrev pub read : State → List (List ℕ) → State
read s [] = s
read s (line ∷ later) = read (taken s line) later

-- a whole script, from its text
abbrev pub script_of : List ℕ → State
script_of text = read begin (lines text)

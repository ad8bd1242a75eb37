-- What a line of a script says.
use Rattle.std.specs.Prelude.{ℕ, Bool, true, false, cond, ◌&&◌, List, [], ◌∷◌, Some, None, Ok, Err, codes, Option, Result}
use Rattle.std.specs.Str.{bytes_eq}
use Rattle.entries.specs.Reading.{passed_over}
use Rattle.entries.specs.Words.{first_word, past_word}
use Rattle.entries.specs.declared.Field.{Field}
use Rattle.entries.specs.declared.Game.TheVariants.{Chess}
use Rattle.order.specs.declared.calls.Call.{Call}
use Rattle.script.specs.Operations.{number_at}
use Rattle.script.specs.Parts.{all_parts}
use Rattle.script.specs.Words.{and_then, misread, fields, game_word, class_word, long_word, at_end}
use Rattle.script.specs.declared.Line.{Line}
use Rattle.script.specs.declared.Settings.{Settings}
use Rattle.script.specs.declared.expected.Expected.{Expected}
use Rattle.script.specs.declared.expected.Misread.{Misread}
use Rattle.script.specs.declared.lines.Opening.{Opening}

-- where no line says otherwise
abbrev pub first_settings : Settings
first_settings = record { game = Chess; chief = 1; places = 1024; pages = false; bearer = record { grant = 0; token = 1 }; begun = false }

abbrev pub settings_with : Settings → Line → Settings
settings_with at (Line.Book game) = record at { game = game }
settings_with at (Line.Chief token) = record at { chief = token }
settings_with at (Line.Post places) = record at { places = places }
settings_with at Line.Pages = record at { pages = true }
settings_with at (Line.As bearer) = record at { bearer = bearer }
settings_with at (Line.Call call) = record at { begun = true }

-- the first word of a line
abbrev pub opening : List ℕ → Option Opening
opening word =
    cond (bytes_eq word (codes "book")) (Some Opening.Book)
    (cond (bytes_eq word (codes "chief")) (Some Opening.Chief)
    (cond (bytes_eq word (codes "post")) (Some Opening.Post)
    (cond (bytes_eq word (codes "pages")) (Some Opening.Pages)
    (cond (bytes_eq word (codes "as")) (Some Opening.As)
    (cond (bytes_eq word (codes "open")) (Some Opening.Open)
    (cond (bytes_eq word (codes "issue")) (Some Opening.Issue)
    (cond (bytes_eq word (codes "deliver")) (Some Opening.Deliver)
    (cond (bytes_eq word (codes "work")) (Some Opening.Work)
    (cond (bytes_eq word (codes "clock")) (Some Opening.Clock)
    (cond (bytes_eq word (codes "drop")) (Some Opening.Drop) None))))))))))

abbrev pub heading : Opening → Bool
heading Opening.Book = true
heading Opening.Chief = true
heading Opening.Post = true
heading Opening.Pages = true
heading Opening.As = false
heading Opening.Open = false
heading Opening.Issue = false
heading Opening.Deliver = false
heading Opening.Work = false
heading Opening.Clock = false
heading Opening.Drop = false

-- one field, and then the end of the line
abbrev pub only : Field → ℕ → List ℕ → Result ℕ Misread
only f place line = and_then (fields (f ∷ []) place line) (λ r. and_then (at_end r.1 r.2) (λ _. Ok (number_at r.0 0)))

abbrev pub only_long : ℕ → List ℕ → Result ℕ Misread
only_long place line = and_then (long_word place line) (λ r. and_then (at_end r.1 r.2) (λ _. Ok r.0))

abbrev pub book_line : ℕ → List ℕ → Result Line Misread
book_line place line = and_then (game_word place line) (λ r. and_then (at_end r.1 r.2) (λ _. Ok (Line.Book r.0)))

abbrev pub pages_line : ℕ → List ℕ → Result Line Misread
pages_line place line = and_then (at_end place line) (λ _. Ok Line.Pages)

abbrev pub as_line : ℕ → List ℕ → Result Line Misread
as_line place line =
    and_then (fields (Field.Byte ∷ Field.Token ∷ []) place line) (λ r.
    and_then (at_end r.1 r.2) (λ _. Ok (Line.As (record { grant = number_at r.0 0; token = number_at r.0 1 }))))

abbrev pub clock_line : ℕ → List ℕ → Result Line Misread
clock_line place line =
    and_then (fields (Field.Byte ∷ []) place line) (λ r.
    and_then (long_word r.1 r.2) (λ t.
    and_then (at_end t.1 t.2) (λ _. Ok (Line.Call (Call.Clock (number_at r.0 0) t.0)))))

abbrev pub issue_line : Settings → ℕ → List ℕ → Result Line Misread
issue_line at place line =
    and_then (fields (Field.Byte ∷ []) place line) (λ k.
    and_then (class_word k.1 k.2) (λ c.
    and_then (fields (Field.Byte ∷ []) c.1 c.2) (λ h.
    and_then (all_parts at h.1 h.2) (λ operations. Ok (Line.Call (Call.Issue (number_at k.0 0) c.0 (number_at h.0 0) operations))))))

-- what a line says after this first word
abbrev pub line_of : Settings → Opening → ℕ → List ℕ → Result Line Misread
line_of at Opening.Book place line = book_line place line
line_of at Opening.Chief place line = and_then (only Field.Token place line) (λ token. Ok (Line.Chief token))
line_of at Opening.Post place line = and_then (only Field.Number place line) (λ places. Ok (Line.Post places))
line_of at Opening.Pages place line = pages_line place line
line_of at Opening.As place line = as_line place line
line_of at Opening.Open place line = and_then (only Field.Byte place line) (λ halls. Ok (Line.Call (Call.Open halls)))
line_of at Opening.Issue place line = issue_line at place line
line_of at Opening.Deliver place line = and_then (only_long place line) (λ p. Ok (Line.Call (Call.Deliver p)))
line_of at Opening.Work place line = and_then (only Field.Byte place line) (λ hall. Ok (Line.Call (Call.Work hall)))
line_of at Opening.Clock place line = clock_line place line
line_of at Opening.Drop place line = and_then (only_long place line) (λ p. Ok (Line.Call (Call.Drop p)))

-- headings come before the first call
abbrev pub line_says : Settings → Option Opening → List ℕ → Result Line Misread
line_says at None rest = Err (misread 1 Expected.Opening)
line_says at (Some o) rest = cond (at.begun && heading o) (Err (misread 1 Expected.Call)) (line_of at o 2 rest)

-- a line after those that came to these settings; `None` where it says nothing
abbrev pub reading : List ℕ → Settings → Result (Option Line) Misread
reading line at =
    cond (passed_over (first_word line)) (Ok None)
    (and_then (line_says at (opening (first_word line)) (past_word line)) (λ l. Ok (Some l)))

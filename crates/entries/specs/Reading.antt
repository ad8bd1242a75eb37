-- What a line of a scoresheet says.
use Rattle.std.specs.Prelude.{ℕ, suc, Bool, true, cond, List, [], ◌∷◌, ℤ, pos, Some, None, Ok, Err, codes, Option, Result, ◌==◌, slice_index_or, unsigned_abs}
use Rattle.std.specs.Str.{bytes_eq}
use Rattle.records.specs.declared.Operation.{Operation}
use Rattle.entries.specs.declared.Expected.{Expected}
use Rattle.entries.specs.declared.Field.{Field}
use Rattle.entries.specs.declared.Game.{Game}
use Rattle.entries.specs.declared.Misread.{Misread}
use Rattle.entries.specs.declared.Progress.{Progress}
use Rattle.entries.specs.declared.Reading.{Reading}
use Rattle.entries.specs.declared.commands.Command.{Command}
use Rattle.entries.specs.declared.commands.Opening.{Opening}
use Rattle.entries.specs.Fields.{value, game}
use Rattle.entries.specs.Words.{first_word, past_word}

-- the place of the word at fault, and what was expected there
abbrev pub misread : ℕ → Expected → Misread
misread place expected = record { word = place; expected = expected }

-- the leftmost fault counts
abbrev pub and_then : {A B : Type 0} → Result A Misread → (A → Result B Misread) → Result B Misread
and_then (Err m) go = Err m
and_then (Ok a) go = go a

-- the word at this place as a field; the empty word, where one is missing, is at fault too
abbrev pub field : Field → ℕ → List ℕ → Result ℤ Misread
field f place word = elim (value f word) [ None ↦ Err (misread place (Expected.Value f)) | Some z ↦ Ok z ]

-- no word is left at this place
abbrev pub ended : ℕ → List ℕ → Result (List ℤ) Misread
ended place [] = Ok []
ended place (b ∷ bs) = Err (misread place Expected.End)

-- one field after another from the word at this place on, and then the end of the line
abbrev pub fields : List Field → ℕ → List ℕ → Result (List ℤ) Misread
fields [] place line = ended place (first_word line)
fields (f ∷ fs) place line =
    and_then (field f place (first_word line)) (λ z.
    and_then (fields fs (suc place) (past_word line)) (λ zs. Ok (z ∷ zs)))

-- what a line gives at an index; 0 where it gives nothing
abbrev pub given : List ℤ → ℕ → ℤ
given zs i = slice_index_or zs i (pos 0)

-- the operation of an entry bears the grant and the token that the last `as` said
abbrev pub operation : Progress → ℕ → ℤ → ℤ → ℤ → ℤ → Operation
operation at kind a b c d = record { kind = kind; grant = at.bearer.grant; token = at.bearer.token; a = unsigned_abs a; b = unsigned_abs b; c = c; d = unsigned_abs d }

-- the first word of an entry
abbrev pub entry : List ℕ → Option Command
entry word =
    cond (bytes_eq word (codes "appoint")) (Some Command.Appoint)
    (cond (bytes_eq word (codes "remove")) (Some Command.Remove)
    (cond (bytes_eq word (codes "deputy")) (Some Command.Deputy)
    (cond (bytes_eq word (codes "seat")) (Some Command.Seat)
    (cond (bytes_eq word (codes "result")) (Some Command.Result)
    (cond (bytes_eq word (codes "show")) (Some Command.Show)
    (cond (bytes_eq word (codes "score")) (Some Command.Score)
    (cond (bytes_eq word (codes "line")) (Some Command.Line)
    (cond (bytes_eq word (codes "close")) (Some Command.Close)
    (cond (bytes_eq word (codes "total")) (Some Command.Total)
    (cond (bytes_eq word (codes "op")) (Some Command.Op) None))))))))))

-- the first word of a line
abbrev pub opening : List ℕ → Option Opening
opening word =
    cond (bytes_eq word (codes "hall")) (Some Opening.Hall)
    (cond (bytes_eq word (codes "game")) (Some Opening.Game)
    (cond (bytes_eq word (codes "chief")) (Some Opening.Chief)
    (cond (bytes_eq word (codes "as")) (Some Opening.As)
    (elim (entry word) [ None ↦ None | Some c ↦ Some (Opening.Entry c) ]))))

-- the words after the first word of an entry
abbrev pub shape : Command → List Field
shape Command.Appoint = Field.Number ∷ Field.Count ∷ []
shape Command.Remove = Field.Number ∷ []
shape Command.Deputy = Field.Number ∷ []
shape Command.Seat = Field.Number ∷ Field.Number ∷ Field.Count ∷ []
shape Command.Result = Field.Number ∷ Field.Number ∷ Field.Score ∷ []
shape Command.Show = Field.Number ∷ []
shape Command.Score = Field.Number ∷ Field.Number ∷ Field.Number ∷ Field.Whole ∷ []
shape Command.Line = Field.Number ∷ Field.Number ∷ []
shape Command.Close = Field.Number ∷ []
shape Command.Total = Field.Number ∷ []
shape Command.Op = Field.Byte ∷ Field.Number ∷ Field.Number ∷ Field.Whole ∷ Field.Number ∷ []

abbrev pub close_kind : Game → ℕ
close_kind Game.Chess = 19
close_kind Game.Bridge = 34

abbrev pub total_kind : Game → ℕ
total_kind Game.Chess = 20
total_kind Game.Bridge = 35

-- the operation that they ask for
abbrev pub asked : Progress → Command → List ℤ → Operation
asked at Command.Appoint zs = operation at 1 (given zs 0) (pos 0) (given zs 1) (pos 0)
asked at Command.Remove zs = operation at 2 (given zs 0) (pos 0) (pos 0) (pos 0)
asked at Command.Deputy zs = operation at 3 (given zs 0) (pos 0) (pos 0) (pos 0)
asked at Command.Seat zs = operation at 16 (given zs 0) (given zs 1) (given zs 2) (pos 0)
asked at Command.Result zs = operation at 17 (given zs 0) (given zs 1) (given zs 2) (pos 0)
asked at Command.Show zs = operation at 18 (given zs 0) (pos 0) (pos 0) (pos 0)
asked at Command.Score zs = operation at 32 (given zs 0) (given zs 1) (given zs 3) (given zs 2)
asked at Command.Line zs = operation at 33 (given zs 0) (given zs 1) (pos 0) (pos 0)
asked at Command.Close zs = operation at (close_kind at.game) (given zs 0) (pos 0) (pos 0) (pos 0)
asked at Command.Total zs = operation at (total_kind at.game) (given zs 0) (pos 0) (pos 0) (pos 0)
asked at Command.Op zs = operation at (unsigned_abs (given zs 0)) (given zs 1) (given zs 2) (given zs 3) (given zs 4)

-- an entry with what follows its first word
abbrev pub entry_line : Progress → Command → List ℕ → Result Reading Misread
entry_line at c rest = and_then (fields (shape c) 2 rest) (λ zs. Ok (Reading.Entry (asked at c zs)))

abbrev pub hall_line : List ℕ → Result Reading Misread
hall_line rest = and_then (fields (Field.Byte ∷ []) 2 rest) (λ zs. Ok (Reading.Hall (unsigned_abs (given zs 0))))

abbrev pub chief_line : List ℕ → Result Reading Misread
chief_line rest = and_then (fields (Field.Token ∷ []) 2 rest) (λ zs. Ok (Reading.Chief (unsigned_abs (given zs 0))))

abbrev pub game_line : List ℕ → Result Reading Misread
game_line rest =
    elim (game (first_word rest)) [
      | None ↦ Err (misread 2 Expected.Game)
      | Some g ↦ and_then (ended 3 (first_word (past_word rest))) (λ _. Ok (Reading.Game g))
    ]

abbrev pub as_line : List ℕ → Result Reading Misread
as_line rest = and_then (fields (Field.Byte ∷ Field.Token ∷ []) 2 rest) (λ zs. Ok (Reading.As (record { grant = unsigned_abs (given zs 0); token = unsigned_abs (given zs 1) })))

-- headings come before the first entry
abbrev pub heading : Progress → Result Reading Misread → Result Reading Misread
heading at r = cond at.begun (Err (misread 1 Expected.Entry)) r

abbrev pub line_says : Progress → Option Opening → List ℕ → Result Reading Misread
line_says at None rest = Err (misread 1 Expected.Opening)
line_says at (Some Opening.Hall) rest = heading at (hall_line rest)
line_says at (Some Opening.Game) rest = heading at (game_line rest)
line_says at (Some Opening.Chief) rest = heading at (chief_line rest)
line_says at (Some Opening.As) rest = as_line rest
line_says at (Some (Opening.Entry c)) rest = entry_line at c rest

-- no word, or one that begins with #
abbrev pub passed_over : List ℕ → Bool
passed_over [] = true
passed_over (b ∷ bs) = b == 35

-- a line after those that came to this progress; `None` where it says nothing
abbrev pub reading : List ℕ → Progress → Result (Option Reading) Misread
reading line at =
    cond (passed_over (first_word line)) (Ok None)
    (and_then (line_says at (opening (first_word line)) (past_word line)) (λ r. Ok (Some r)))

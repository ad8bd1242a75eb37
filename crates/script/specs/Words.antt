-- What the next word of a line stands for, with what is left of the line.
use Rattle.std.specs.Prelude.{ℕ, suc, cond, List, [], ◌∷◌, ℤ, Some, None, Ok, Err, codes, Option, Result}
use Rattle.std.specs.Str.{bytes_eq}
use Rattle.entries.specs.Fields.{value, number, game}
use Rattle.entries.specs.Words.{first_word, past_word}
use Rattle.entries.specs.declared.Field.{Field}
use Rattle.entries.specs.declared.Game.{Game}
use Rattle.records.specs.Classes.{class_number}
use Rattle.records.specs.declared.classes.Class.{Class}
use Rattle.script.specs.declared.expected.Expected.{Expected}
use Rattle.script.specs.declared.expected.Misread.{Misread}

-- the place of the word at fault, and what was expected there
abbrev pub misread : ℕ → Expected → Misread
misread place expected = record { word = place; expected = expected }

-- the leftmost fault counts
abbrev pub and_then : {A B : Type 0} → Result A Misread → (A → Result B Misread) → Result B Misread
and_then (Err m) go = Err m
and_then (Ok a) go = go a

-- from the place of the next word and what is left of the line: what was read, and then the place and the rest
abbrev pub Reader : Type 0 → Type 0
Reader A = ℕ → List ℕ → Result (A × ℕ × List ℕ) Misread

-- what was read, with the place and the rest
abbrev pub left : {A : Type 0} → Result A Misread → ℕ → List ℕ → Result (A × ℕ × List ℕ) Misread
left r place line = and_then r (λ a. Ok (a, place, line))

-- the place after a word; where there is none, it stays
abbrev pub place_after : ℕ → List ℕ → ℕ
place_after place [] = place
place_after place (b ∷ bs) = suc place

-- the next word by what it stands for; the empty word, where one is missing, is at fault too
abbrev pub word_as : {A : Type 0} → Expected → (List ℕ → Option A) → Reader A
word_as expected read place line =
    elim (read (first_word line)) [ None ↦ Err (misread place expected) | Some a ↦ Ok (a, suc place, past_word line) ]

abbrev pub field : Field → Reader ℤ
field f = word_as (Expected.Value f) (value f)

abbrev pub game_word : Reader Game
game_word = word_as Expected.Game game

abbrev pub class_named : List ℕ → Option Class
class_named word =
    cond (bytes_eq word (codes "single")) (Some Class.Single)
    (cond (bytes_eq word (codes "independent")) (Some Class.Independent)
    (cond (bytes_eq word (codes "coordinated")) (Some Class.Coordinated) None))

-- a class by its name, or any number
abbrev pub class : List ℕ → Option ℕ
class word = elim (class_named word) [ None ↦ number 255 word | Some c ↦ Some (class_number c) ]

abbrev pub class_word : Reader ℕ
class_word = word_as Expected.Class class

-- one of the eight halls
abbrev pub hall_word : Reader ℕ
hall_word = word_as Expected.Hall (number 7)

-- a place in the post, or a time
abbrev pub long_word : Reader ℕ
long_word = word_as Expected.Long (number 18446744073709551615)

-- no word is left
abbrev pub ended : ℕ → List ℕ → Result (Unit {0}) Misread
ended place [] = Ok tt
ended place (b ∷ bs) = Err (misread place Expected.End)

abbrev pub at_end : ℕ → List ℕ → Result (Unit {0}) Misread
at_end place line = ended place (first_word line)

-- one field after another
abbrev pub fields : List Field → Reader (List ℤ)
fields [] place line = Ok ([], place, line)
fields (f ∷ fs) place line = and_then (field f place line) (λ r. and_then (fields fs r.1 r.2) (λ rs. Ok (r.0 ∷ rs.0, rs.1, rs.2)))

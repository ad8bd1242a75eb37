-- A text cut into lines, and a line into words.
use Rattle.std.specs.Prelude.{ℕ, Bool, cond, not, ◌||◌, List, [], ◌∷◌, drop, ◌==◌}
use Rattle.std.specs.List.{before_first, position_or_len}

-- space, tab and carriage return stand between words; any other byte belongs to a word
abbrev pub blank : ℕ → Bool
blank b = b == 32 || (b == 9 || b == 13)

abbrev pub wordy : ℕ → Bool
wordy b = not (blank b)

-- byte 10 ends a line
abbrev pub newline : ℕ → Bool
newline b = b == 10

-- the bytes from the first that passes on
abbrev pub from_first : (ℕ → Bool) → List ℕ → List ℕ
from_first p bs = drop (position_or_len p bs) bs

-- the first line of a text, and what follows the byte 10 that ends it
abbrev pub line_of : List ℕ → List ℕ
line_of text = before_first newline text

abbrev pub rest_of : List ℕ → List ℕ
rest_of text = drop 1 (from_first newline text)

-- a text is cut at each byte 10; what follows the last is a line too, unless it is empty
abbrev pub onto : ℕ → List (List ℕ) → List (List ℕ)
onto b [] = (b ∷ []) ∷ []
onto b (line ∷ lines) = (b ∷ line) ∷ lines

abbrev pub lines : List ℕ → List (List ℕ)
lines [] = []
lines (b ∷ bs) = cond (newline b) ([] ∷ lines bs) (onto b (lines bs))

-- the first word of a line, empty where there is none, and what follows it
abbrev pub first_word : List ℕ → List ℕ
first_word line = before_first blank (from_first wordy line)

abbrev pub past_word : List ℕ → List ℕ
past_word line = from_first blank (from_first wordy line)

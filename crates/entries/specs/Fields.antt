-- What a word of a line stands for.
use Rattle.std.specs.Prelude.{ℕ, ◌+◌, ◌-◌, ◌*◌, Bool, cond, ◌&&◌, List, [], ◌∷◌, ℤ, pos, neg_ℤ, Some, None, codes, Option, ◌==◌, nat_le}
use Rattle.std.specs.Str.{bytes_eq}
use Rattle.entries.specs.declared.Field.{Field}
use Rattle.entries.specs.declared.Game.{Game}
use Rattle.entries.specs.declared.Game.TheVariants.{Chess, Bridge}
use Rattle.entries.specs.declared.Field.TheVariants.{Byte, Number, Count, Token, Whole, Score}

-- 0 to 9
abbrev pub digit : ℕ → Bool
digit b = nat_le 48 b && nat_le b 57

-- the number that digits stand for after those that gave n
abbrev pub digits_from : ℕ → List ℕ → Option ℕ
digits_from n [] = Some n
digits_from n (b ∷ bs) = cond (digit b) (digits_from (n * 10 + (b - 48)) bs) None

abbrev pub at_most : ℕ → Option ℕ → Option ℕ
at_most limit None = None
at_most limit (Some n) = cond (nat_le n limit) (Some n) None

-- one or more digits that stand for a number from 0 to the limit; needless zeros in front are allowed
abbrev pub number : ℕ → List ℕ → Option ℕ
number limit [] = None
number limit (b ∷ bs) = at_most limit (digits_from 0 (b ∷ bs))

abbrev pub above_zero : Option ℕ → Option ℤ
above_zero None = None
above_zero (Some n) = Some (pos n)

abbrev pub below_zero : Option ℕ → Option ℤ
below_zero None = None
below_zero (Some n) = Some (neg_ℤ (pos n))

-- a number from -2147483648 to 2147483647, with a minus sign (45) in front of the digits where it is written
abbrev pub whole : List ℕ → Option ℤ
whole [] = None
whole (b ∷ bs) = cond (b == 45) (below_zero (number 2147483648 bs)) (above_zero (number 2147483647 (b ∷ bs)))

-- the results 1 (white won), 2 (a draw) and 3 (black won)
abbrev pub result_of : List ℕ → Option ℤ
result_of word =
    cond (bytes_eq word (codes "1-0")) (Some (pos 1))
    (cond (bytes_eq word (codes "1/2")) (Some (pos 2))
    (cond (bytes_eq word (codes "0-1")) (Some (pos 3)) None))

-- what a word stands for as a field of a line
abbrev pub value : Field → List ℕ → Option ℤ
value Byte word = above_zero (number 255 word)
value Number word = above_zero (number 65535 word)
value Count word = above_zero (number 2147483647 word)
value Token word = above_zero (number 4294967295 word)
value Whole word = whole word
value Score word = result_of word

-- the game of a sheet
abbrev pub game : List ℕ → Option Game
game word = cond (bytes_eq word (codes "chess")) (Some Chess) (cond (bytes_eq word (codes "bridge")) (Some Bridge) None)

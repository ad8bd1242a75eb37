-- The lines of a deal, and its match points.
use Rattle.std.specs.Prelude.{ℕ, ◌-◌, Bool, true, false, cond, not, ◌&&◌, ℤ, Some, None, Option, ◌==◌, int_lt, nat_lt, slice_index_or}
use Rattle.book.specs.Below.{sum_below, some_below}
use Rattle.bridge.specs.declared.sheet.Deal.{Deal}
use Rattle.bridge.specs.declared.sheet.Entry.{Entry}
use Rattle.bridge.specs.declared.sheet.Side.{Side}
use Rattle.bridge.specs.declared.sheet.Side.TheVariants.{NorthSouth, EastWest}

-- a line may be empty
abbrev pub Line : Type 0
Line = Option Entry

-- the line of North-South pair b
abbrev pub line : Deal → ℕ → Line
line d b = slice_index_or d.lines b None

abbrev pub filled : Line → Bool
filled None = false
filled (Some x) = true

abbrev pub filled_at : Deal → ℕ → ℕ
filled_at d b = cond (filled (line d b)) 1 0

-- how many lines the deal has
abbrev pub count : Deal → ℕ
count d = sum_below 8 (filled_at d)

-- East-West pair e plays on this line
abbrev pub has_pair : ℕ → Line → Bool
has_pair e None = false
has_pair e (Some x) = x.pair == e

-- East-West pair e plays on another line than that of pair b
abbrev pub elsewhere_at : Deal → ℕ → ℕ → ℕ → Bool
elsewhere_at d b e i = not (i == b) && has_pair e (line d i)

abbrev pub elsewhere : Deal → ℕ → ℕ → Bool
elsewhere d b e = some_below 8 (elsewhere_at d b e)

-- North-South gets 2 for a lower score and 1 for an equal one; East-West the mirror of it
abbrev pub won : Side → ℤ → ℤ → ℕ
won NorthSouth mine theirs = cond (int_lt theirs mine) 2 (cond (int_lt mine theirs) 0 1)
won EastWest mine theirs = cond (int_lt mine theirs) 2 (cond (int_lt theirs mine) 0 1)

-- what a side gets on a line from another line
abbrev pub against : Side → Line → Line → ℕ
against side None other = 0
against side (Some mine) None = 0
against side (Some mine) (Some theirs) = won side mine.score theirs.score

-- from line i, which is another line
abbrev pub points_from : Side → Deal → ℕ → ℕ → ℕ
points_from side d b i = cond (i == b) 0 (against side (line d b) (line d i))

-- from all other lines of the deal
abbrev pub points : Side → Deal → ℕ → ℕ
points side d b = sum_below 8 (points_from side d b)

-- what East-West pair e gets on the deal: a pair plays on one line of a deal at most
abbrev pub east_west_at : Deal → ℕ → ℕ → ℕ
east_west_at d e b = cond (has_pair e (line d b)) (points EastWest d b) 0

abbrev pub east_west : Deal → ℕ → ℕ
east_west d e = sum_below 8 (east_west_at d e)

-- what total i gets from the deal: 0 to 7 are North-South, 8 to 15 East-West
abbrev pub deal_points : Deal → ℕ → ℕ
deal_points d i = cond (nat_lt i 8) (points NorthSouth d i) (east_west d (i - 8))

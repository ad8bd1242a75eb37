-- What bridge promises of match points: on every line the two sides share 2 for each other line of the deal.
use Rattle.std.specs.Prelude.{◌≡◌, ℕ, ◌+◌, ◌*◌, ◌<◌, true, ◌≢◌}
use Rattle.bridge.specs.Page.{Sheet, after}
use Rattle.bridge.specs.Points.{line, filled, count, points}
use Rattle.bridge.specs.declared.sheet.Deal.{Deal}
use Rattle.bridge.specs.declared.sheet.Side.TheVariants.{NorthSouth, EastWest}
use Rattle.records.specs.declared.Operation.{Operation}

-- the line itself is not among the others: what they share, and 2 for it, is 2 for each line of the deal
abbrev pub SidesSharePoints : Type 0
SidesSharePoints = (d : Deal) (b : ℕ) → b < 8 → filled (line d b) ≡ true → points NorthSouth d b + points EastWest d b + 2 ≡ 2 * count d

-- nothing but closing a round changes anybody's points
abbrev pub PointsStayElse : Type 0
PointsStayElse = (s : Sheet) (o : Operation) → (o.kind ≢ 34) → (after s o).totals ≡ s.totals

-- On every line the two sides share 2 points for each other line; only closing gives points.
use Rattle.std.proofs.Common.{◌≡◌, ℕ, ◌+◌, ◌*◌, true, cond, eqb, ℤ, Some, None, sym, refl, ◌∙◌, inl, inr, arith}
use Rattle.book.proofs.Below.{sum_same, sum_add, sum_times, sum_without}
use Rattle.book.specs.Below.{sum_below}
use Rattle.bridge.specs.Asking.{asked}
use Rattle.bridge.specs.Laws.{asked_by}
use Rattle.bridge.specs.Page.{bridge}
use Rattle.bridge.specs.Points.{Line, line, filled, filled_at, won, against, points_from, points}
use Rattle.bridge.specs.Promises.{SidesSharePoints, PointsStayElse}
use Rattle.bridge.specs.declared.sheet.Side.TheVariants.{NorthSouth, EastWest}
use Rattle.records.specs.declared.Operation.{Operation}
use Rattle.rounds.proofs.Stay.{Closes, totals_stay}
use Rattle.std.proofs.lemmas.Int.{ints}
use Rattle.std.proofs.lemmas.Bool.{cases_Bool, cond-true, cond-false, false≢true}

-- the higher score takes both points, and equal scores one each
shared : (x y : ℤ) → won NorthSouth x y + won EastWest x y ≡ 2
shared x y = grind (arith, ints)

lines_share : (x y : Line) → filled x ≡ true → against NorthSouth x y + against EastWest x y ≡ 2 * cond (filled y) 1 0
lines_share None y h = absurd (false≢true h)
lines_share (Some x) None h = refl
lines_share (Some x) (Some y) h = shared x.score y.score

pub sides_share_points_lem : SidesSharePoints
sides_share_points_lem d b l h =
    let others : ℕ → ℕ = λ i. cond (eqb i b) 0 (filled_at d i) in
    let all : points NorthSouth d b + points EastWest d b ≡ 2 * sum_below 8 others =
    sym (sum_add (points_from NorthSouth d b) (points_from EastWest d b) 8)
    ∙ sum_same (λ i. points_from NorthSouth d b i + points_from EastWest d b i) (λ i. 2 * others i) 8 (λ i _.
    elim (cases_Bool (eqb i b)) [
      | inl e ↦
          let one = cond-true (eqb i b) 0 (against NorthSouth (line d b) (line d i)) e in
          let two = cond-true (eqb i b) 0 (against EastWest (line d b) (line d i)) e in
          let three = cond-true (eqb i b) 0 (filled_at d i) e in
          omega arith
      | inr e ↦
          let one = cond-false (eqb i b) 0 (against NorthSouth (line d b) (line d i)) e in
          let two = cond-false (eqb i b) 0 (against EastWest (line d b) (line d i)) e in
          let three = cond-false (eqb i b) 0 (filled_at d i) e in
          omega (arith, lines_share (line d b) (line d i) h)
    ])
    ∙ sum_times others 2 8 in
    let one : filled_at d b ≡ 1 = cond-true (filled (line d b)) 1 0 h in
    omega (arith, sum_without (filled_at d) b 8 l)

-- only kind 34 asks to close
closes : (o : Operation) → Closes 34 o (asked o)
closes o = asked_by o (Closes 34 o) (λ _. tt) (λ _ _ _. tt) (λ kind. kind) (λ _. tt)

pub points_stay_else : PointsStayElse
points_stay_else s o other = totals_stay bridge 34 s o other (closes o)

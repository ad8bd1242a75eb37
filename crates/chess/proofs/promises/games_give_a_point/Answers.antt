use Rattle.chess.proofs.Points.{games_give_a_point_lem, points_stay_else}
use Rattle.chess.proofs.promises.games_give_a_point.Goals as goal

pub returns : goal.returns
returns c = record { closing = games_give_a_point_lem; other = points_stay_else }

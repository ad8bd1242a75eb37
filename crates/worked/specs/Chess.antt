-- Chess: one board is seated and drawn, and the round is closed.
use Rattle.std.specs.Prelude.{◌≡◌, ℕ, pos}
use Rattle.book.specs.Model.{Page}
use Rattle.chess.specs.Page.{write, blank, chess_model}
use Rattle.records.specs.Answers.{done_with, fault_at}
use Rattle.records.specs.declared.Answer.{Answer}
use Rattle.records.specs.declared.Operation.{Operation}

-- kind, a, b and c, without a grant
abbrev pub asking : ℕ → ℕ → ℕ → ℕ → Operation
asking kind a b c = record { kind = kind; grant = 0; token = 0; a = a; b = b; c = pos c; d = 0 }

abbrev seated : Page
seated = chess_model.next (write blank) (asking 16 0 1 2)

abbrev drawn : Page
drawn = chess_model.next seated (asking 17 0 1 2)

abbrev closed : Page
closed = chess_model.next drawn (asking 19 1 0 0)

abbrev total : ℕ → Answer
total player = chess_model.answer closed (asking 20 player 0 0)

-- totals 1 and 1, nobody else gains; it is round 2, which cannot be closed while no board is seated
pub record OneDrawnBoard : Type 0 where
  pub not_before_the_result : chess_model.answer seated (asking 19 1 0 0) ≡ fault_at 1 7 1
  pub white : total 1 ≡ done_with 1 (pos 1)
  pub black : total 2 ≡ done_with 1 (pos 1)
  pub nobody_else : total 3 ≡ done_with 1 (pos 0)
  pub round : chess_model.answer drawn (asking 19 1 0 0) ≡ done_with 1 (pos 2)
  pub emptied : chess_model.answer closed (asking 18 0 0 0) ≡ fault_at 1 4 0
  pub next_round : chess_model.answer closed (asking 19 2 0 0) ≡ fault_at 1 7 2

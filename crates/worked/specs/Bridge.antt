-- Bridge: three lines on a deal, and the round is closed.
use Rattle.std.specs.Prelude.{◌≡◌, ℕ, ℤ, pos, negsuc}
use Rattle.book.specs.Model.{Page}
use Rattle.bridge.specs.Page.{write, blank, bridge_model}
use Rattle.records.specs.Answers.{done_with, fault_at}
use Rattle.records.specs.declared.Answer.{Answer}
use Rattle.records.specs.declared.Operation.{Operation}

-- kind, a, b, c and d, without a grant
abbrev asking : ℕ → ℕ → ℕ → ℤ → ℕ → Operation
asking kind a b c d = record { kind = kind; grant = 0; token = 0; a = a; b = b; c = c; d = d }

-- on deal 0 North-South pairs 0, 1 and 2 score 420, 420 and -50 against East-West pairs 5, 6 and 7
abbrev first_line : Page
first_line = bridge_model.next (write blank) (asking 32 0 0 (pos 420) 5)

abbrev second_line : Page
second_line = bridge_model.next first_line (asking 32 0 1 (pos 420) 6)

abbrev third_line : Page
third_line = bridge_model.next second_line (asking 32 0 2 (negsuc 49) 7)

abbrev closed : Page
closed = bridge_model.next third_line (asking 34 1 0 (pos 0) 0)

abbrev total : ℕ → Answer
total i = bridge_model.answer closed (asking 35 i 0 (pos 0) 0)

-- North-South 3, 3, 0 and East-West 1, 1, 4; one line alone cannot be closed, and a pair plays once on a deal
pub record ThreeLines : Type 0 where
  pub not_one_alone : bridge_model.answer first_line (asking 34 1 0 (pos 0) 0) ≡ fault_at 2 7 1
  pub not_twice : bridge_model.answer first_line (asking 32 0 1 (pos 420) 5) ≡ fault_at 2 8 0
  pub replaced : bridge_model.answer first_line (asking 32 0 0 (pos 450) 5) ≡ done_with 2 (pos 1)
  pub score : bridge_model.answer third_line (asking 33 0 2 (pos 0) 0) ≡ done_with 2 (negsuc 49)
  pub round : bridge_model.answer third_line (asking 34 1 0 (pos 0) 0) ≡ done_with 2 (pos 2)
  pub north_south_0 : total 0 ≡ done_with 2 (pos 3)
  pub north_south_1 : total 1 ≡ done_with 2 (pos 3)
  pub north_south_2 : total 2 ≡ done_with 2 (pos 0)
  pub east_west_5 : total 13 ≡ done_with 2 (pos 1)
  pub east_west_6 : total 14 ≡ done_with 2 (pos 1)
  pub east_west_7 : total 15 ≡ done_with 2 (pos 4)
  pub nobody_else : total 8 ≡ done_with 2 (pos 0)

use Rattle.std.proofs.Common.{ℕ, take}
use Rattle.book.specs.Model.{Page}
use Rattle.order.specs.History.{new_history}
use Rattle.rehearse.proofs.history.history_of.Given as goal
use Rattle.rehearse.specs.Heard.{heard, Follows}

-- the calls so far are written down
abbrev pub invariant-loop-place : goal.invariant-loop-place
invariant-loop-place l = (first : ℕ → Page) → Follows l.history (heard (new_history first) (take l.place l.fn.calls) l.fn.told)

use Rattle.std.proofs.Common.{◌≡◌, ◌++◌, drop}
use Rattle.picture.specs.Arrows.{left_over}
use Rattle.picture.proofs.ledger.leave.Given as goal

-- with those of the messages that are not looked at yet, all arrows
abbrev pub invariant-loop-one : goal.invariant-loop-one
invariant-loop-one l = l.arrows.items ++ left_over (drop l.one-index l.in_post) ≡ l.fn.arrows.items ++ left_over l.in_post

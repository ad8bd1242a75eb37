use Rattle.std.proofs.Common.{◌≡◌, ◌++◌, drop, map}
use Rattle.picture.specs.Arrows.{new_in_post}
use Rattle.picture.proofs.ledger.put.Given as goal

-- with those that are not put yet, all messages
abbrev pub invariant-loop-message : goal.invariant-loop-message
invariant-loop-message l = l.in_post.items ++ map (new_in_post l.call) (drop l.message-index l.new) ≡ l.fn.in_post.items ++ map (new_in_post l.call) l.new

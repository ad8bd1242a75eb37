use Rattle.std.proofs.Common.{◌≡◌, ◌<◌, length, IfSome}
use Rattle.congress.proofs.state.Congress.least.Given as goal
use Rattle.congress.specs.Queue.{least_below}
use Rattle.congress.specs.Work.{in_turn}

-- the least so far
abbrev pub invariant-loop-place : goal.invariant-loop-place
invariant-loop-place l = record {
  value : l.found ≡ least_below (in_turn l.hall l.only_ready) l.entries l.place;
  inside : IfSome l.found (λ i. i < length l.entries);
}

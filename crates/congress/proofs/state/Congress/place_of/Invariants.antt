use Rattle.std.proofs.Common.{◌-◌, length}
use Rattle.congress.proofs.Finding.{NoneBefore}
use Rattle.congress.proofs.state.Congress.place_of.Given as goal

-- no place so far has the entry
abbrev pub invariant-loop-place : goal.invariant-loop-place
invariant-loop-place l = NoneBefore l.hall l.transaction l.entries l.from

abbrev pub decreases-loop-place : goal.decreases-loop-place
decreases-loop-place l = length l.entries - l.from

use Rattle.std.proofs.Common.{◌≡◌}
use Rattle.congress.proofs.state.Congress.send_votes.Given as goal
use Rattle.congress.specs.Meaning.{with_post}
use Rattle.congress.specs.Sending.{to_each, is_other, vote_to}
use Rattle.congress.specs.State.{posting}

-- the votes to the halls so far are sent
abbrev pub invariant-loop-to : goal.invariant-loop-to
invariant-loop-to l =
    with_post l.self l.post
    ≡ posting (with_post l.initial.self l.initial.post) (to_each (is_other l.halls l.own) (vote_to l.transaction l.own l.stamp l.status) l.to)

use Rattle.std.proofs.Common.{◌≡◌}
use Rattle.congress.proofs.state.Congress.send_requests.Given as goal
use Rattle.congress.specs.Meaning.{with_post}
use Rattle.congress.specs.Sending.{requests_below}
use Rattle.congress.specs.State.{posting}

-- the requests to the halls so far are sent
abbrev pub invariant-loop-hall : goal.invariant-loop-hall
invariant-loop-hall l =
    with_post l.self l.post ≡ posting (with_post l.initial.self l.initial.post) (requests_below l.draft l.operations l.hall)

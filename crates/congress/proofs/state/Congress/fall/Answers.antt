use Rattle.std.proofs.Common.{ℕ, Ok, [], ◌∷◌, ◌++◌, ap, ◌∙◌}
use Rattle.congress.proofs.Sent.{posting_push}
use Rattle.congress.proofs.state.Congress.fall.Goals as goal
use Rattle.congress.specs.Meaning.{with_post}
use Rattle.congress.specs.Requests.{falling}
use Rattle.congress.specs.Sending.{votes_of, reply_of}
use Rattle.congress.specs.State.{State, World, scene, world, posting}

pub returns : goal.returns
returns c pages =
    let a = c.args in
    let r = a.request in
    let set = with_post c.record.new.self a.post.now in
    let n = c.from-number.result in
    let sent =
    c.send_reply.ensures
    ∙ ap (λ (w : World). posting w (reply_of r.transaction r.to a.stamp n a.answer ∷ [])) c.send_votes.ensures
    ∙ posting_push set (votes_of r.transaction r.to r.halls a.stamp n) (reply_of r.transaction r.to a.stamp n a.answer)
    ∙ ap (λ (k : ℕ). posting set (votes_of r.transaction r.to r.halls a.stamp k ++ (reply_of r.transaction r.to a.stamp k a.answer ∷ []))) c.from-number.ensures
    ∙ ap (λ (s : State). posting (world s a.post.now) (falling r a.stamp a.status a.answer)) c.record.ensures in
    ap (λ (w : World). (Ok (record { outcome = a.outcome; transaction = r.transaction; hall = r.to; stamp = a.stamp; answer = a.answer }), scene w pages)) sent

use Rattle.std.proofs.Common.{◌≡◌, ℕ, ◌+◌, ◌≤◌, min, List, [], ◌∷◌, length, get_or, sym, ap, ◌∙◌, subst}
use Rattle.congress.proofs.Sent.{sends, passes, room_for, requests_is}
use Rattle.congress.proofs.state.Congress.send_requests.Goals as goal
use Rattle.congress.proofs.state.Congress.send_requests.Goals.{then-is_asked, else-is_asked}
use Rattle.congress.specs.Meaning.{with_post}
use Rattle.congress.specs.Sending.{to_hall, no_operation}
use Rattle.congress.specs.State.{posting}
use Rattle.records.specs.Halls.{bit}
use Rattle.records.specs.declared.messages.Message.TheVariants.{Request as request}
use Rattle.records.specs.declared.messages.Message.{Message}

pub send-requires : goal.send-requires
send-requires c =
    let d = c.args.draft in
    let message : ℕ → Message = λ k. request (to_hall d k (get_or c.args.operations.now k no_operation)) in
    room_for (bit d.halls) message (with_post c.args.self.now c.args.post.now) (with_post c.loop-hall.self c.loop-hall.post) c.loop-hall.hall 8
    c.loop-hall.invariant c.loop-hall-test.true (sym c.is_asked.ensures ∙ c.if-is_asked.true)
    (subst (λ (l : List Message). c.args.self.now.count + length l ≤ min (length c.args.post.now) 1024) (sym (requests_is d c.args.operations.now)) c.requires)

pub loop-hall-preserved : goal.loop-hall-preserved
loop-hall-preserved c =
    let d = c.args.draft in
    let os = c.args.operations.now in
    let h = c.loop-hall.hall in
    let w = with_post c.args.self.now c.args.post.now in
    let message : ℕ → Message = λ k. request (to_hall d k (get_or os k no_operation)) in
    let is = sym c.is_asked.ensures in
    elim c.if-is_asked.branch [
      | then-is_asked t ↦
          let now : with_post c.if-is_asked.self c.if-is_asked.post ≡ with_post t.send.new.self t.send.new.post = cc in
          now ∙ t.send.ensures ∙ ap (λ v. posting v (message h ∷ [])) c.loop-hall.invariant ∙ sends (bit d.halls) message w h (is ∙ t.if-is_asked.true)
      | else-is_asked e ↦
          let now : with_post c.if-is_asked.self c.if-is_asked.post ≡ with_post c.loop-hall.self c.loop-hall.post = cc in
          now ∙ c.loop-hall.invariant ∙ ap (posting w) (passes (bit d.halls) message h (is ∙ e.if-is_asked.false))
    ]

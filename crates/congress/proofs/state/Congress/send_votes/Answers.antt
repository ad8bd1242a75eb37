use Rattle.std.proofs.Common.{◌≡◌, ℕ, ◌+◌, ◌≤◌, min, List, [], ◌∷◌, length, sym, ap, ◌∙◌, subst}
use Rattle.congress.proofs.Sent.{sends, passes, room_for, votes_are}
use Rattle.congress.proofs.state.Congress.send_votes.Goals as goal
use Rattle.congress.proofs.state.Congress.send_votes.Goals.{then-is_told, else-is_told}
use Rattle.congress.specs.Meaning.{with_post}
use Rattle.congress.specs.Sending.{is_other, vote_to}
use Rattle.congress.specs.State.{posting}
use Rattle.records.specs.declared.messages.Message.{Message}

pub send-requires : goal.send-requires
send-requires c =
    let a = c.args in
    room_for (is_other a.halls a.own) (vote_to a.transaction a.own a.stamp a.status) (with_post a.self.now a.post.now) (with_post c.loop-to.self c.loop-to.post) c.loop-to.to 8
    c.loop-to.invariant c.loop-to-test.true (sym c.is_told.ensures ∙ c.if-is_told.true)
    (subst (λ (l : List Message). a.self.now.count + length l ≤ min (length a.post.now) 1024) (sym (votes_are a.transaction a.own a.halls a.stamp a.status)) c.requires)

pub loop-to-preserved : goal.loop-to-preserved
loop-to-preserved c =
    let w = with_post c.args.self.now c.args.post.now in
    let h = c.loop-to.to in
    let meant = is_other c.args.halls c.args.own in
    let message : ℕ → Message = vote_to c.args.transaction c.args.own c.args.stamp c.args.status in
    let is = sym c.is_told.ensures in
    elim c.if-is_told.branch [
      | then-is_told t ↦
          let now : with_post c.if-is_told.self c.if-is_told.post ≡ with_post t.send.new.self t.send.new.post = cc in
          now ∙ t.send.ensures ∙ ap (λ v. posting v (message h ∷ [])) c.loop-to.invariant ∙ sends meant message w h (is ∙ t.if-is_told.true)
      | else-is_told e ↦
          let now : with_post c.if-is_told.self c.if-is_told.post ≡ with_post c.loop-to.self c.loop-to.post = cc in
          now ∙ c.loop-to.invariant ∙ ap (posting w) (passes meant message h (is ∙ e.if-is_told.false))
    ]

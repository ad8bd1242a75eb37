use Rattle.std.proofs.Common.{rules, ◌≡◌, true, set, sym, ap, ◌∙◌, subst}
use Rattle.congress.proofs.Memory.{kept_counts, commit_counts}
use Rattle.congress.proofs.state.Congress.vote_on.Goals as goal
use Rattle.congress.specs.Kept.{kept}
use Rattle.congress.specs.Meaning.{state, with_post}
use Rattle.congress.specs.State.{scene}
use Rattle.congress.specs.Votes.{count_vote}
use Rattle.congress.specs.declared.tables.Entry.{Entry}

pub count_vote-requires-clause-keeps : goal.count_vote-requires-clause-keeps
count_vote-requires-clause-keeps c =
    let a = c.args in
    let s = state a.self.now in
    subst (λ (e : Entry). kept s.halls (set s.entries a.place e) ≡ true) (sym c.counted.ensures)
    (kept_counts s.halls s.entries a.place a.entry a.vote a.self.now.kept (search rules) c.requires.entry (search rules))

pub returns-then-is_commit : goal.returns-then-is_commit
returns-then-is_commit c pages =
    let a = c.args in
    let s = scene (with_post a.self.now a.post.now) pages in
    c.count_vote.ensures a.post.now pages
    ∙ ap (count_vote s a.vote a.place) c.counted.ensures
    ∙ sym (commit_counts s a.vote a.place a.entry (search rules) (sym c.is_commit.ensures ∙ c.if-is_commit.true))

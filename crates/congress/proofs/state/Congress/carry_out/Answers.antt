use Rattle.std.proofs.Common.{sym, ap, ◌∙◌}
use Rattle.congress.proofs.state.Congress.carry_out.Goals as goal
use Rattle.congress.specs.Meaning.{with_post}
use Rattle.congress.specs.Requests.{falling, recording, taken_as}
use Rattle.congress.specs.State.{scene, sending}
use Rattle.congress.specs.Telling.{tell}
use Rattle.congress.specs.declared.fates.Fate.{Fate}
use Rattle.congress.specs.declared.outcomes.Outcome.TheVariants.{MetConflict}
use Rattle.records.specs.declared.Answer.{Answer}
use Rattle.records.specs.declared.classes.Status.TheVariants.{Conflict}

pub returns-in-Conflicts : goal.returns-in-Conflicts
returns-in-Conflicts g c =
    let a = c.args in
    let r = a.request in
    let s = scene (with_post a.self.now a.post.now) (g.B.Book.pages a.book.now) in
    c.fall.ensures (g.B.Book.pages a.book.now)
    ∙ ap (λ (x : Answer). tell (sending (recording s r) (falling r a.stamp Conflict x)) MetConflict r.transaction r.to a.stamp x) c.no_answer.ensures
    ∙ ap (λ (f : Fate). taken_as g.B.Book.model s r a.stamp f) (sym c.in-Conflicts.is)

pub returns-in-Aborts : goal.returns-in-Aborts
returns-in-Aborts g c =
    let a = c.args in
    let s = scene (with_post a.self.now a.post.now) (g.B.Book.pages a.book.now) in
    c.fall-in-Aborts.ensures (g.B.Book.pages a.book.now)
    ∙ ap (λ (f : Fate). taken_as g.B.Book.model s a.request a.stamp f) (sym c.in-Aborts.is)

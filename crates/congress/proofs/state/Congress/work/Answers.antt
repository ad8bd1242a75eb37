use Rattle.std.proofs.Common.{Result, sym, subst}
use Rattle.congress.proofs.Refusing.{Leaves, turn_leaves}
use Rattle.congress.proofs.state.Congress.work.Goals as goal
use Rattle.congress.specs.Meaning.{with_post}
use Rattle.congress.specs.State.{Scene, scene}
use Rattle.congress.specs.declared.outcomes.Report.{Report}
use Rattle.congress.specs.declared.refusals.Refusal.{Refusal}

pub returns-clause-refused : goal.returns-clause-refused
returns-clause-refused g c =
    let s = scene (with_post c.args.self.now c.args.post.now) (g.B.Book.pages c.args.book.now) in
    subst (λ (x : Result Report Refusal × Scene). Leaves s x) (sym c.work_on.ensures)
    (turn_leaves g.B.Book.model s c.args.hall c.turn-turn.result)

use Rattle.std.proofs.Common.{get_or, Result, sym, subst}
use Rattle.congress.proofs.Refusing.{Leaves, message_leaves}
use Rattle.congress.proofs.state.Congress.deliver.Goals as goal
use Rattle.congress.specs.Meaning.{with_post}
use Rattle.congress.specs.Sending.{no_message}
use Rattle.congress.specs.State.{Scene, scene}
use Rattle.congress.specs.declared.outcomes.Report.{Report}
use Rattle.congress.specs.declared.refusals.Refusal.{Refusal}

pub returns-clause-refused : goal.returns-clause-refused
returns-clause-refused g c =
    let s = scene (with_post c.args.self.now c.args.post.now) (g.B.Book.pages c.args.book.now) in
    subst (λ (x : Result Report Refusal × Scene). Leaves s x) (sym c.take_message.ensures)
    (message_leaves g.B.Book.model s (get_or c.args.post.now c.args.place no_message))

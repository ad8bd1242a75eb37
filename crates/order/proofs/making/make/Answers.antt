use Rattle.std.proofs.Common.{[], ◌∷◌, Result, sym, subst}
use Rattle.congress.specs.State.{Scene}
use Rattle.congress.specs.declared.refusals.Refusal.{Refusal}
use Rattle.order.proofs.Conducted.{leads_on}
use Rattle.order.proofs.making.make.Goals as goal
use Rattle.congress.specs.Meaning.{scene_of}
use Rattle.order.specs.Conduct.{LeadsOn}
use Rattle.order.specs.declared.calls.Said.{Said}

pub returns-clause-promises : goal.returns-clause-promises
returns-clause-promises g c =
    let m = g.B.Book.model in
    let before = scene_of c.args.congress.now c.args.post.now (g.B.Book.pages c.args.book.now) in
    subst (λ (x : Result Said Refusal × Scene). LeadsOn m (c.args.call ∷ []) before x.1) (sym c.make_by_kind.ensures) (leads_on m g.met.B.Book.lawful (c.args.call ∷ []) before)

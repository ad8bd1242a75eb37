use Rattle.std.proofs.Common.{rules, length, sym, ap, ◌∙◌}
use Rattle.congress.proofs.Takes.{falling_count}
use Rattle.congress.proofs.taking.needed.Goals as goal
use Rattle.congress.specs.Requests.{sent}
use Rattle.congress.specs.Sending.{no_answer}
use Rattle.congress.specs.declared.fates.Fate.{Fate}
use Rattle.records.specs.declared.classes.Status.TheVariants.{Conflict, Abort}

pub returns-in-Conflicts-clause-number : goal.returns-in-Conflicts-clause-number
returns-in-Conflicts-clause-number g c s stamp =
    c.count_of-in-Conflicts.ensures.value
    ∙ sym (falling_count c.args.request stamp Conflict no_answer (search rules) c.requires)
    ∙ ap (λ (f : Fate). length (sent g.B.Book.model s c.args.request stamp f)) (sym c.in-Conflicts.is)

pub returns-in-Aborts-clause-number : goal.returns-in-Aborts-clause-number
returns-in-Aborts-clause-number g c s stamp =
    c.count_of-in-Aborts.ensures.value
    ∙ sym (falling_count c.args.request stamp Abort c.in-Aborts.field-0 (search rules) c.requires)
    ∙ ap (λ (f : Fate). length (sent g.B.Book.model s c.args.request stamp f)) (sym c.in-Aborts.is)

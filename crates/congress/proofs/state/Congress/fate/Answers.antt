use Rattle.std.proofs.Common.{sym, ◌∙◌}
use Rattle.congress.proofs.state.Congress.fate.Goals as goal
use Rattle.std.proofs.lemmas.Bool.{cond-true}

pub returns-then-is_locking : goal.returns-then-is_locking
returns-then-is_locking g c post = c.fate_locking.ensures post ∙ sym (cond-true _ _ _ (sym c.is_locking.ensures ∙ c.if-is_locking.true))

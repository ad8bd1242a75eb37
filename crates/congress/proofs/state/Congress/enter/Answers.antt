use Rattle.std.proofs.Common.{rules, arith, ◌≡◌, ◌∷◌, [], ◌++◌, true, set, sym, subst}
use Rattle.congress.proofs.Takes.{kept_enters}
use Rattle.congress.proofs.state.Congress.enter.Goals as goal
use Rattle.congress.specs.Kept.{kept}
use Rattle.congress.specs.Meaning.{with_post}
use Rattle.congress.specs.Requests.{recorded, locked_for}
use Rattle.congress.specs.State.{scene, hall_at}
use Rattle.congress.specs.declared.tables.Entry.{Entry}

pub push-requires-clause-keeps : goal.push-requires-clause-keeps
push-requires-clause-keeps g c =
    let s = scene (with_post c.args.self.now c.args.post.now) (g.B.Book.pages c.args.book.now) in
    subst (λ (e : Entry). kept (set c.args.self.now.halls e.hall (locked_for (recorded (hall_at s.world.state e.hall) e.transaction) e.class)) (s.world.state.entries ++ e ∷ []) ≡ true)
    (sym c.entry_for-entry.ensures.entry)
    (kept_enters g.B.Book.model s c.args.request c.requires.enters c.args.stamp c.args.self.now.kept c.requires.new c.requires.named (search rules)
    (omega (arith, c.entry_for-entry.ensures.wide)))

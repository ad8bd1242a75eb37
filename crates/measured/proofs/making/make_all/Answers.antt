use Rattle.std.proofs.Common.{set, ap, ◌∙◌}
use Rattle.congress.specs.Meaning.{scene_of}
use Rattle.congress.specs.State.{Scene}
use Rattle.measured.proofs.Turns.{makes_on, writes_on}
use Rattle.measured.proofs.making.make_all.Goals as goal
use Rattle.measured.specs.declared.rows.ToldRow.{ToldRow}
use Rattle.order.specs.Runs.{beginning}

pub loop-place-preserved : goal.loop-place-preserved
loop-place-preserved g c =
    let a = c.args in
    let m = g.B.Book.model in
    let l = c.loop-place in
    let first = beginning (scene_of a.congress.now a.post.now (g.B.Book.pages a.book.now)) in
    let before = scene_of l.congress l.post (g.B.Book.pages l.book) in
    let made = c.make_row.ensures in (
      ap (λ (x : ToldRow × Scene). x.1) made ∙ makes_on m a.parts.now a.calls.now first l.place c.loop-place-test.true _ before l.invariant.0,
      ap (λ (x : ToldRow × Scene). set l.told l.place x.0) made
          ∙ writes_on m a.parts.now a.calls.now first l.place c.loop-place-test.true _ before a.told.now l.told l.invariant.0 l.invariant.1,
    )

use Rattle.std.proofs.Common.{rules, ◌≡◌, List, Result, set, take, sym, ap, ◌∙◌, subst}
use Rattle.congress.specs.State.{Scene}
use Rattle.congress.specs.declared.refusals.Refusal.{Refusal}
use Rattle.order.proofs.Conducted.{each_promised, leads_on, goes_on, tells_on}
use Rattle.order.proofs.making.conduct.Goals as goal
use Rattle.congress.specs.Meaning.{scene_of}
use Rattle.order.specs.Conduct.{LeadsOn}
use Rattle.order.specs.Runs.{beginning, run}
use Rattle.order.specs.declared.calls.Call.{Call}
use Rattle.order.specs.declared.calls.Said.{Said}
use Rattle.std.proofs.lemmas.List.{take_all}

pub returns-then-answers-calls-clause-promises : goal.returns-then-answers-calls-clause-promises
returns-then-answers-calls-clause-promises g c =
    let a = c.args in
    each_promised g.B.Book.model g.met.B.Book.lawful (scene_of a.congress.now a.post.now (g.B.Book.pages a.book.now)) (g.met.B.Book.owned a.book.now) a.calls.now

pub returns-clause-promises : goal.returns-clause-promises
returns-clause-promises g c =
    let a = c.args in
    each_promised g.B.Book.model g.met.B.Book.lawful (scene_of a.congress.now a.post.now (g.B.Book.pages a.book.now)) (g.met.B.Book.owned a.book.now) a.calls.now

pub loop-place-preserved : goal.loop-place-preserved
loop-place-preserved g c =
    let a = c.args in
    let m = g.B.Book.model in
    let l = c.loop-place in
    let first = beginning (scene_of a.congress.now a.post.now (g.B.Book.pages a.book.now)) in
    let before = scene_of l.congress l.post (g.B.Book.pages l.book) in
    let made = c.make.ensures.step in (
      ap (λ (x : Result Said Refusal × Scene). x.1) made ∙ goes_on m a.calls.now first l.place c.loop-place-test.true _ before l.invariant.0,
      ap (λ (x : Result Said Refusal × Scene). set l.answers l.place x.0) made ∙ tells_on m a.calls.now first l.place c.loop-place-test.true _ before a.answers.now l.answers l.invariant.0 l.invariant.1,
    )

pub returns-clause-goes_on : goal.returns-clause-goes_on
returns-clause-goes_on g c =
    let a = c.args in
    let m = g.B.Book.model in
    let l = c.loop-place in
    let before = scene_of a.congress.now a.post.now (g.B.Book.pages a.book.now) in
    let all : take l.place a.calls.now ≡ a.calls.now = take_all l.place a.calls.now (search rules) in
    let left = l.invariant.0 ∙ ap (λ (xs : List Call). (run m xs (beginning before)).now) all in
    subst (LeadsOn m a.calls.now before) (sym left) (leads_on m g.met.B.Book.lawful a.calls.now before)

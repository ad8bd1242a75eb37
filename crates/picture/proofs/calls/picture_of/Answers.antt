use Rattle.std.proofs.Common.{rules, ◌≡◌, ℕ, ◌+◌, ◌++◌, List, [], take, drop, get_or, Result, sym, ap, ◌∙◌}
use Rattle.congress.specs.Meaning.{scene_of}
use Rattle.congress.specs.declared.refusals.Refusal.{Refusal}
use Rattle.order.specs.Conduct.{told}
use Rattle.order.specs.Runs.{beginning}
use Rattle.order.specs.declared.calls.Call.TheVariants.{Open}
use Rattle.order.specs.declared.calls.Call.{Call}
use Rattle.order.specs.declared.calls.Said.{Said}
use Rattle.std.proofs.lemmas.List.{append-nil, drop_all, drop_more}
use Rattle.picture.specs.Arrows.{drawn, ended}
use Rattle.picture.specs.Pictures.{drawn_from}
use Rattle.picture.proofs.Turns.{told_turn, drawn_turn}
use Rattle.picture.proofs.calls.picture_of.Goals as goal

pub loop-place-init : goal.loop-place-init
loop-place-init g c =
    let a = c.args in
    let m = g.B.Book.model in
    let first = scene_of a.congress.now a.post.now (g.B.Book.pages a.book.now) in (
      ap (λ (ts : List (Result Said Refusal)). ts ++ told m a.calls.now (beginning first)) c.new-told.ensures.items,
      ap (drawn_from m 0 a.calls.now first) c.new-ledger.ensures,
    )

pub loop-place-preserved : goal.loop-place-preserved
loop-place-preserved g c =
    let m = g.B.Book.model in
    let l = c.loop-place in
    let made = c.make-said.new in
    let said = c.make-said.result in
    let before = scene_of l.congress l.post (g.B.Book.pages l.book) in
    let after = scene_of made.congress made.post (g.B.Book.pages made.book) in
    let call = get_or c.args.calls.now l.place (Open 0) in
    let later = drop (l.place + 1) c.args.calls.now in
    let left = drop l.place c.args.calls.now in
    let first = drop_more c.args.calls.now l.place (Open 0) c.loop-place-test.true in
    let step = c.make-said.ensures.step in
    let found = c.first_places-messages.ensures ∙ ap (λ (n : ℕ). take n made.post) c.messages.ensures in (
      ap (λ (ts : List (Result Said Refusal)). ts ++ told m later (beginning after)) c.in_ok-push.ensures.items
          ∙ told_turn m call later left before after said l.told.items step first
          ∙ l.invariant.0,
      drawn_turn m l.place call later left before after said (drawn l.ledger) (drawn c.take.new.self) c.first_places-messages.result.now step first found
          c.in_ok-take.ensures
          ∙ l.invariant.1,
    )

pub returns-clause-told : goal.returns-clause-told
returns-clause-told g c =
    let m = g.B.Book.model in
    let l = c.loop-place in
    let now = scene_of l.congress l.post (g.B.Book.pages l.book) in
    let none : drop l.place c.args.calls.now ≡ [] = drop_all l.place c.args.calls.now (search rules) in
    sym (append-nil l.told.items)
    ∙ sym (ap (λ (cs : List Call). l.told.items ++ told m cs (beginning now)) none)
    ∙ l.invariant.0

pub returns-clause-arrows : goal.returns-clause-arrows
returns-clause-arrows g c =
    let m = g.B.Book.model in
    let l = c.loop-place in
    let now = scene_of l.congress l.post (g.B.Book.pages l.book) in
    let none : drop l.place c.args.calls.now ≡ [] = drop_all l.place c.args.calls.now (search rules) in
    c.in_ok-end.ensures
    ∙ ap ended (sym (ap (λ (cs : List Call). drawn_from m l.place cs now (drawn l.ledger)) none) ∙ l.invariant.1)

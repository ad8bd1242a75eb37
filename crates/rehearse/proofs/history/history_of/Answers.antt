use Rattle.std.proofs.Common.{◌≡◌, suc, ◌+◌, take, get_or, map, refl, reverse, sym, ap, ◌∙◌, subst, arith, rules, IsPermutation}
use Rattle.order.specs.declared.calls.Call.TheVariants.{Open}
use Rattle.std.proofs.lemmas.Fn.{always_returns_same}
use Rattle.std.proofs.lemmas.List.{take_all}
use Rattle.std.proofs.lemmas.List.Sorted.{IsPermutation-reverse, IsPermutation-trans}
use Rattle.order.specs.History.{History, new_history, noted}
use Rattle.rehearse.proofs.Hearing.{heard_more, heard_none, sooner_is}
use Rattle.rehearse.proofs.history.history_of.Goals as goal
use Rattle.rehearse.proofs.history.history_of.Goals.{in-Some+in_ok-hear, in_default}
use Rattle.rehearse.specs.Heard.{heard, shown, Follows}

pub loop-place-init : goal.loop-place-init
loop-place-init c = λ first. c.new-history.ensures first

pub loop-place-preserved : goal.loop-place-preserved
loop-place-preserved c = λ first.
    let l = c.loop-place in
    let calls = c.args.calls.now in
    let told = c.args.told.now in
    let start : History = new_history first in
    let before : History = heard start (take l.place calls) told in
    let after : History = heard start (take (suc l.place) calls) told in
    let next : suc l.place ≡ l.place + 1 = omega arith in
    subst (λ n. Follows c.match-get.history (heard start (take n calls) told)) next (elim c.match-get.branch [
      | in-Some+in_ok-hear w ↦
          let said = w.in-Some.told.now in
          let found = w.in-Some.ensures.lookup in
          let made = w.in_ok-hear.ensures before (l.invariant first) in
          let is = ap (noted before before.first (get_or calls l.place (Open 0))) found.1
          ∙ heard_more start calls told l.place (Open 0) said c.loop-place-test.true found.3.0 in
          subst (λ h. Follows h after) (sym w.history-is) (subst (Follows w.hear.new.self) is made)
      | in_default w ↦
          let past = w.in_default.ensures.lookup.3 in
          subst (λ h. Follows h after) (sym w.history-is)
          (subst (Follows l.history) (heard_none start calls told l.place past) (l.invariant first))
    ])

pub returns-clause-order : goal.returns-clause-order
returns-clause-order c = λ k d low high.
    let s = c.sort_unstable_by_key.ensures.sorted (λ p. (p.stamp, p.transaction)) (always_returns_same _ _ _ (λ a r q k. (search rules, refl))) k d low high in
    search (rules, sooner_is)

pub returns-clause-parts : goal.returns-clause-parts
returns-clause-parts c = λ first.
    let l = c.loop-place in
    let H : History = heard (new_history first) c.args.calls.now c.args.told.now in
    let all : heard (new_history first) (take l.place c.args.calls.now) c.args.told.now ≡ H =
    ap (λ cs. heard (new_history first) cs c.args.told.now) (take_all l.place c.args.calls.now c.loop-place-test.false) in
    let written = subst (Follows l.history) all (l.invariant first) in
    let sorted = c.sort_unstable_by_key.new.self.items in
    IsPermutation-trans (map shown H.done) (reverse (map shown H.done)) sorted (IsPermutation-reverse (map shown H.done))
    (subst (λ xs. IsPermutation xs sorted) written.done c.sort_unstable_by_key.ensures.permutation)

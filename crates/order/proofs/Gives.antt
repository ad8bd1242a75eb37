-- What every call keeps gives one order, and all or none.
use Rattle.std.proofs.Common.{◌≡◌, ℕ, ◌≤◌, true, List, sym, ap, ◌∙◌, subst, arith}
use Rattle.book.specs.Model.{Model}
use Rattle.order.proofs.Invariant.{agreed, denied, Sayings, Agreed, Kept}
use Rattle.order.proofs.Lists.{some_is}
use Rattle.order.specs.History.{Issued, issue_of}
use Rattle.order.specs.Plain.{Part}
use Rattle.order.specs.Promises.{OneOrder, AllOrNone}
use Rattle.order.specs.Runs.{Past}
use Rattle.records.specs.Halls.{names}

agreed_is : {i j : ℕ} → agreed i ≡ agreed j → i ≡ j
agreed_is e = cc

agreed_not_denied : {n : ℕ} → agreed n ≡ denied → ⊥
agreed_not_denied e = let z : ◌≡◌ {A = ℕ} 0 1 = cc in omega arith

-- of two parts of one transaction, neither stamp is below the other: each is the greatest of all named halls' stamps
no_higher : (said : Sayings) (issues : List Issued) (x y : Part) → Agreed said issues x → Agreed said issues y → x.transaction ≡ y.transaction → x.stamp ≤ y.stamp
no_higher said issues x y a b e =
    let same : a.issue ≡ b.issue = some_is (sym a.found ∙ ap (λ (t : ℕ). issue_of t issues) e ∙ b.found) in
    let k = a.topped.0 in
    let there : names b.issue.halls k ≡ true = subst (λ (i : Issued). names i.halls k ≡ true) same a.topped.1 in
    let n = b.all k there in
    let q : x.stamp ≡ n.0 = agreed_is (sym a.topped.2 ∙ ap (λ (t : ℕ). said t k) e ∙ n.1) in
    let le = n.2 in
    omega arith

pub gives_one_order : (m : Model) (g : Past) (said : Sayings) → Kept m said g.now g.history → OneOrder m g
gives_one_order m g said kept = record {
  one_stamp = λ x y i j e.
      let a = kept.told.did x i in
      let b = kept.told.did y j in
      let p = no_higher said g.history.issues x y a b e in
      let q = no_higher said g.history.issues y x b a (sym e) in
      omega arith;
  plain = kept.right.plain;
  issued = λ x i. let a = kept.told.did x i in (a.issue, a.found, a.here);
  once = kept.single.once;
  no_fault = kept.right.no_fault;
}

-- a part that is done had the agreement of every named hall, and one that fell was denied by one of them
pub gives_all_or_none : (m : Model) (g : Past) (said : Sayings) → Kept m said g.now g.history → AllOrNone g
gives_all_or_none m g said kept x y i j e =
    let a = kept.told.did x i in
    let d = kept.told.fell y j in
    let same : d.issue ≡ a.issue = some_is (sym d.found ∙ ap (λ (t : ℕ). issue_of t g.history.issues) (sym e) ∙ a.found) in
    let k = d.by.0 in
    let there : names a.issue.halls k ≡ true = subst (λ (i : Issued). names i.halls k ≡ true) same d.by.1 in
    let r = a.all k there in
    agreed_not_denied (sym r.1 ∙ ap (λ (t : ℕ). said t k) e ∙ d.by.2)

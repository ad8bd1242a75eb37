-- What a lawful message says.
use Rattle.std.proofs.Common.{◌≡◌, ℕ, ◌<◌, true, ltb, eqb, Some, None, Option, sym}
use Rattle.std.specs.Prelude.{unwrap_or}
use Rattle.congress.specs.Requests.{class_in}
use Rattle.records.specs.Classes.{class_number, class_of}
use Rattle.records.specs.Halls.{names, fit_class, exist, fit}
use Rattle.records.specs.Messages.{request_lawful, vote_lawful}
use Rattle.records.specs.Transactions.{transaction}
use Rattle.records.specs.declared.classes.Class.{Class}
use Rattle.records.specs.declared.classes.Class.TheVariants.{Single, Independent, Coordinated}
use Rattle.records.specs.declared.messages.Request.{Request}
use Rattle.records.specs.declared.messages.Vote.{Vote}
use Rattle.std.proofs.lemmas.Bool.{cond_both, and_parts, eqb-true, ltb-true, true≢false}

class_known : (n halls : ℕ) → fit_class (class_of n) halls ≡ true → class_number (unwrap_or (class_of n) Single) ≡ n
class_known n halls =
    cond_both (eqb n 1) (Some Single) _ P (λ e _. sym (eqb-true n 1 e)) (λ _.
    cond_both (eqb n 2) (Some Independent) _ P (λ e _. sym (eqb-true n 2 e)) (λ _.
    cond_both (eqb n 3) (Some Coordinated) None P (λ e _. sym (eqb-true n 3 e)) (λ _ f. absurd (true≢false (sym f)))))
  where
    P : Option Class → Type 0
    P o = fit_class o halls ≡ true → class_number (unwrap_or o Single) ≡ n

pub record LawfulRequest (number : ℕ) (r : Request) : Type 0 where
  pub exists : r.to < number
  pub named : names r.halls r.to ≡ true
  pub class_is : class_number (class_in r) ≡ r.class

pub lawful_is : (number : ℕ) (r : Request) → request_lawful number r ≡ true → LawfulRequest number r
lawful_is number r h =
    let one = and_parts (transaction r.transaction) _ h in
    let two = and_parts (ltb r.to number) _ one.1 in
    let three = and_parts (fit number r.class r.halls) _ two.1 in
    let four = and_parts (names r.halls r.to) _ three.1 in
    let class = and_parts (exist number r.halls) (fit_class (class_of r.class) r.halls) three.0 in
    record { exists = ltb-true r.to number two.0; named = four.0; class_is = class_known r.class r.halls class.1 }

-- a vote goes to a hall that is open
pub vote_to_open : (number : ℕ) (v : Vote) → vote_lawful number v ≡ true → v.to < number
vote_to_open number v h =
    let one = and_parts (transaction v.transaction) _ h in
    let two = and_parts (ltb v.from number) _ one.1 in
    ltb-true v.to number (and_parts (ltb v.to number) _ two.1).0

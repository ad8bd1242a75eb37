-- What is written down of the calls since the last Open: only what was asked and what was told, and the pages at that Open.
use Rattle.std.specs.Prelude.{ℕ, Bool, false, cond, ◌||◌, List, [], ◌∷◌, Ok, Err, Some, None, Option, Result, ◌==◌, slice_index_or}
use Rattle.book.specs.Model.{Page}
use Rattle.congress.specs.Outcomes.{outcome_number}
use Rattle.congress.specs.Sending.{no_operation}
use Rattle.congress.specs.declared.outcomes.Report.{Report}
use Rattle.congress.specs.declared.refusals.Refusal.{Refusal}
use Rattle.order.specs.Plain.{Part}
use Rattle.order.specs.declared.calls.Call.{Call}
use Rattle.order.specs.declared.calls.Said.TheVariants.{Nothing, Number}
use Rattle.order.specs.declared.calls.Said.{Said}
use Rattle.records.specs.Classes.{class_number}
use Rattle.records.specs.declared.Operation.{Operation}
use Rattle.records.specs.declared.classes.Class.TheVariants.{Coordinated}

-- a transaction, as it was issued
pub record Issued : Type 0 where
  pub transaction : ℕ
  pub class : ℕ
  pub halls : ℕ
  pub operations : List Operation

-- a hall let its part of a transaction fall
pub record Fallen : Type 0 where
  pub hall : ℕ
  pub transaction : ℕ

-- the pages at the Open; since then the transactions issued, the parts done, the parts fallen and the transactions confirmed, the latest first
pub record History : Type 0 where
  pub first : ℕ → Page
  pub issues : List Issued
  pub done : List Part
  pub fallen : List Fallen
  pub confirmed : List ℕ

abbrev pub new_history : (ℕ → Page) → History
new_history pages = record { first = pages; issues = []; done = []; fallen = []; confirmed = [] }

abbrev pub with_issued : History → Issued → History
with_issued H i = record { first = H.first; issues = i ∷ H.issues; done = H.done; fallen = H.fallen; confirmed = H.confirmed }

abbrev pub with_done : History → Part → History
with_done H x = record { first = H.first; issues = H.issues; done = x ∷ H.done; fallen = H.fallen; confirmed = H.confirmed }

abbrev pub with_fallen : History → Fallen → History
with_fallen H f = record { first = H.first; issues = H.issues; done = H.done; fallen = f ∷ H.fallen; confirmed = H.confirmed }

abbrev pub with_confirmed : History → ℕ → History
with_confirmed H t = record { first = H.first; issues = H.issues; done = H.done; fallen = H.fallen; confirmed = t ∷ H.confirmed }

-- the transaction of a number, as it was issued
abbrev pub issue_of : ℕ → List Issued → Option Issued
issue_of t [] = None
issue_of t (i ∷ is) = cond (i.transaction == t) (Some i) (issue_of t is)

-- its part at a hall is the operation given to Issue for that hall
abbrev pub part_given : Option Issued → ℕ → Operation
part_given None h = no_operation
part_given (Some i) h = slice_index_or i.operations h no_operation

abbrev pub is_coordinated : Option Issued → Bool
is_coordinated None = false
is_coordinated (Some i) = i.class == class_number Coordinated

-- the part that was done, as it was told
abbrev pub part_done : List Issued → Report → Part
part_done issues r = record {
  hall = r.hall;
  transaction = r.transaction;
  stamp = r.stamp;
  coordinated = is_coordinated (issue_of r.transaction issues);
  operation = part_given (issue_of r.transaction issues) r.hall;
  answer = r.answer;
}

abbrev pub part_fallen : Report → Fallen
part_fallen r = record { hall = r.hall; transaction = r.transaction }

-- a part is done by outcome 2 or 11 and falls by outcome 3, 4 or 7; a transaction is confirmed by outcome 9
abbrev pub does : ℕ → Bool
does outcome = outcome == 2 || outcome == 11

abbrev pub falls : ℕ → Bool
falls outcome = outcome == 3 || (outcome == 4 || outcome == 7)

abbrev pub confirms : ℕ → Bool
confirms outcome = outcome == 9

abbrev pub with_outcome : History → ℕ → Report → History
with_outcome H outcome r =
    cond (does outcome) (with_done H (part_done H.issues r))
    (cond (falls outcome) (with_fallen H (part_fallen r))
    (cond (confirms outcome) (with_confirmed H r.transaction)
    H))

abbrev pub with_report : History → Said → History
with_report H Nothing = H
with_report H (Number t) = H
with_report H (Said.Report r) = with_outcome H (outcome_number r.outcome) r

abbrev pub with_number : History → ℕ → ℕ → List Operation → Said → History
with_number H class halls operations Nothing = H
with_number H class halls operations (Number t) =
    with_issued H (record { transaction = t; class = class; halls = halls; operations = operations })
with_number H class halls operations (Said.Report r) = H

-- what a call that was not refused adds: an Open begins anew with the pages before it
abbrev pub with_call : History → (ℕ → Page) → Call → Said → History
with_call H pages (Call.Open halls) said = new_history pages
with_call H pages (Call.Issue console class halls operations) said = with_number H class halls operations said
with_call H pages (Call.Deliver place) said = with_report H said
with_call H pages (Call.Work hall) said = with_report H said
with_call H pages (Call.Clock hall time) said = H
with_call H pages (Call.Drop place) said = H

-- a call that was refused adds nothing
abbrev pub noted : History → (ℕ → Page) → Call → Result Said Refusal → History
noted H pages call (Ok said) = with_call H pages call said
noted H pages call (Err why) = H

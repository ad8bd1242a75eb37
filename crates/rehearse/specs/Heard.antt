-- The history since the last Open, written down from the calls and what they told.
use Rattle.std.specs.Prelude.{◌≡◌, ◌||◌, ◌&&◌, ◌==◌, nat_lt, ℕ, Bool, List, [], ◌∷◌, map, reverse, option_map, Result}
use Rattle.std.specs.Ordering.{nat_cmp}
use Rattle.congress.specs.declared.refusals.Refusal.{Refusal}
use Rattle.order.specs.History.{Issued, History, issue_of, noted}
use Rattle.order.specs.Plain as plain
use Rattle.order.specs.declared.calls.Call.{Call}
use Rattle.order.specs.declared.calls.Said.{Said}
use Rattle.records.specs.declared.Operation.{Operation}
use Rattle.rehearse.specs.declared.history.History as code
use Rattle.rehearse.specs.declared.history.Part.{Part}
use Rattle.std.specs.BTreeMap.{BTreeMap, get}

-- what the calls add to a history, each with what it told; nothing is said of pages
abbrev pub heard : History → List Call → List (Result Said Refusal) → History
heard H [] told = H
heard H (call ∷ calls) [] = H
heard H (call ∷ calls) (t ∷ told) = heard (noted H H.first call t) calls told

-- a part as an account has it
abbrev pub shown : plain.Part → Part
shown x = record { hall = x.hall; stamp = x.stamp; transaction = x.transaction; answered = record { operation = x.operation; answer = x.answer } }

-- by stamp, and then by transaction number
abbrev pub sooner : Part → Part → Bool
sooner x y = nat_lt x.stamp y.stamp || (x.stamp == y.stamp && nat_lt x.transaction y.transaction)

-- the operations of each transaction
abbrev pub KnowsIssues : BTreeMap ℕ (List Operation) → List Issued → Type 0
KnowsIssues issued issues = (t : ℕ) → get nat_cmp issued t ≡ option_map (λ i. i.operations) (issue_of t issues)

-- what the program has written down is the history
pub record Follows (h : code.History) (H : History) : Type 0 where
  pub issues : KnowsIssues h.issued H.issues
  pub done : h.done.items ≡ reverse (map shown H.done)

-- One call more at the end of a list that is written down.
use Rattle.std.proofs.Common.{◌≡◌, ℕ, zero, suc, ◌<◌, ◌≤◌, List, [], ◌∷◌, length, take, get_or, ◌||◌, ◌&&◌, ◌==◌, nat_lt, is_lt, nat_cmp, Result, refl, arith, rules}
use Rattle.std.specs.Ordering.{ordering_then}
use Rattle.congress.specs.declared.refusals.Refusal.{Refusal}
use Rattle.order.specs.History.{History, noted}
use Rattle.order.specs.declared.calls.Call.{Call}
use Rattle.order.specs.declared.calls.Said.{Said}
use Rattle.rehearse.specs.Heard.{heard}

pub heard_more : (H : History) (calls : List Call) (told : List (Result Said Refusal)) (n : ℕ) (d : Call) (e : Result Said Refusal)
    → n < length calls → n < length told
    → noted (heard H (take n calls) told) (heard H (take n calls) told).first (get_or calls n d) (get_or told n e) ≡ heard H (take (suc n) calls) told
heard_more H [] told n d e low fits = absurd (omega arith)
heard_more H (c ∷ cs) [] n d e low fits = absurd (omega arith)
heard_more H (c ∷ cs) (x ∷ xs) zero d e low fits = refl
heard_more H (c ∷ cs) (x ∷ xs) (suc n) d e low fits = heard_more (noted H H.first c x) cs xs n d e (omega arith) (omega arith)

-- where nothing more was told, nothing more is written down
pub heard_none : (H : History) (calls : List Call) (told : List (Result Said Refusal)) (n : ℕ)
    → length told ≤ n → heard H (take n calls) told ≡ heard H (take (suc n) calls) told
heard_none H [] told zero past = refl
heard_none H [] told (suc n) past = refl
heard_none H (c ∷ cs) [] zero past = refl
heard_none H (c ∷ cs) [] (suc n) past = refl
heard_none H (c ∷ cs) (x ∷ xs) zero past = absurd (omega arith)
heard_none H (c ∷ cs) (x ∷ xs) (suc n) past = heard_none (noted H H.first c x) cs xs n (omega arith)

-- sooner, as a comparison of stamps and then of transactions
pub sooner_is : (a b c d : ℕ) → (nat_lt a c || (a == c && nat_lt b d)) ≡ is_lt (ordering_then (nat_cmp a c) (nat_cmp b d))
sooner_is a b c d = search rules

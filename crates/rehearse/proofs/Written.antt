-- What is written over a whole list.
use Rattle.std.proofs.Common.{◌≡◌, ℕ, ◌+◌, ◌≤◌, List, ◌++◌, length, take, ap, ◌∙◌, arith}
use Rattle.std.proofs.lemmas.List.{drop_all, append-nil, take_at}
use Rattle.std.proofs.lemmas.List.Edits.{sets, sets-eq}

pub written_over : {A : Type 0} (new old : List A) → length new ≡ length old → sets old 0 new ≡ new
written_over new old h =
    let fits : 0 + length new ≤ length old = omega arith in
    let all : length old ≤ 0 + length new = omega arith in
    sets-eq new old 0 fits ∙ ap (λ r. new ++ r) (drop_all (0 + length new) old all) ∙ append-nil new

-- a slice that was written back at the front of a vector of as many places
pub all_written : {A : Type 0} (new old written rest : List A) (n : ℕ) → length new ≡ length old → n ≡ length old →
    written ≡ sets old 0 new → take n (written ++ rest) ≡ new
all_written new old written rest n fits count is =
    let all : written ≡ new = is ∙ written_over new old fits in
    let long : length new ≡ n = omega arith in
    ap (λ w. take n (w ++ rest)) all ∙ take_at new rest n long

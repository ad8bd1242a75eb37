-- Lists that lose a place.
use Rattle.std.proofs.Common.{◌≡◌, ℕ, ◌-◌, ◌<◌, ◌⊎◌, List, length, get_or, take, set, refl, ap, ◌∙◌, inl, inr, arith, length-set, get_or-set_other, get_or-set_same}
use Rattle.std.proofs.lemmas.Bool.{cases_eq}
use Rattle.std.proofs.lemmas.List.{get_or-take, length-take-le}

-- a list whose place i the last has taken, and which is shorter by one
abbrev pub taken_out : {A : Type 0} → A → List A → ℕ → List A
taken_out d xs i = take (length xs - 1) (set xs i (get_or xs (length xs - 1) d))

pub taken_out_length : {A : Type 0} (d : A) (xs : List A) (i : ℕ) → length (taken_out d xs i) ≡ length xs - 1
taken_out_length d xs i =
    length-take-le (length xs - 1) (set xs i (get_or xs (length xs - 1) d)) (let e = length-set xs i (get_or xs (length xs - 1) d) in omega arith)

-- what stands at place j once place i has gone stood at another place k than i before
pub taken_out_from : {A : Type 0} (d : A) (xs : List A) (i j : ℕ) → i < length xs → j < length xs - 1
    → (k : ℕ) × (k < length xs) × (k ≡ i → ⊥) × (get_or (taken_out d xs i) j d ≡ get_or xs k d) × ((j ≡ k) ⊎ ((j ≡ i) × (k ≡ length xs - 1)))
taken_out_from d xs i j l m =
    let last = get_or xs (length xs - 1) d in
    let t = get_or-take (length xs - 1) (set xs i last) j d m in
    elim (cases_eq j i) [
      | inl e ↦ (length xs - 1, omega arith, omega arith, t ∙ (ap (λ (w : ℕ). get_or (set xs i last) w d) e ∙ get_or-set_same xs i last d l), inr (e, refl))
      | inr n ↦ (j, omega arith, n, t ∙ get_or-set_other xs i j last d n, inl refl)
    ]

-- What stands in a list, and at which place.
use Rattle.std.proofs.Common.{◌≡◌, ℕ, zero, suc, ◌-◌, ◌<◌, ◌⊎◌, List, [], ◌∷◌, ◌++◌, length, get_or, take, set, Some, None, sym, refl, subst, inl, inr, not-suc-le-zero, arith}
use Rattle.congress.proofs.Places.{taken_out}
use Rattle.order.specs.Promises.{◌∈◌}

pub some_is : {A : Type 0} {x y : A} → Some x ≡ Some y → x ≡ y
some_is e = cc

pub none_is_some : {A : Type 0} {x : A} → None ≡ Some x → ⊥
none_is_some e = let z : ◌≡◌ {A = ℕ} 0 1 = cc in omega arith

pub in_append : {A : Type 0} (z : A) (xs ys : List A) → z ∈ (xs ++ ys) → (z ∈ xs) ⊎ (z ∈ ys)
in_append z [] ys m = inr m
in_append z (x ∷ xs) ys (inl e) = inl (inl e)
in_append z (x ∷ xs) ys (inr m) = elim (in_append z xs ys m) [ inl a ↦ inl (inr a) | inr b ↦ inr b ]

pub in_push : {A : Type 0} (z : A) (xs : List A) (x : A) → z ∈ (xs ++ (x ∷ [])) → (z ∈ xs) ⊎ (z ≡ x)
in_push z xs x m = elim (in_append z xs (x ∷ []) m) [ inl a ↦ inl a | inr b ↦ elim b [ inl e ↦ inr e | inr w ↦ absurd w ] ]

pub in_one : {A : Type 0} {z x : A} → z ∈ (x ∷ []) → z ≡ x
in_one (inl e) = e
in_one (inr w) = absurd w

pub in_take : {A : Type 0} (n : ℕ) (xs : List A) (z : A) → z ∈ take n xs → z ∈ xs
in_take zero xs z m = absurd m
in_take (suc n) [] z m = m
in_take (suc n) (x ∷ xs) z (inl e) = inl e
in_take (suc n) (x ∷ xs) z (inr m) = inr (in_take n xs z m)

pub in_set : {A : Type 0} (xs : List A) (i : ℕ) (v z : A) → z ∈ set xs i v → (z ≡ v) ⊎ (z ∈ xs)
in_set [] i v z m = inr m
in_set (x ∷ xs) zero v z (inl e) = inl e
in_set (x ∷ xs) zero v z (inr m) = inr (inr m)
in_set (x ∷ xs) (suc i) v z (inl e) = inr (inl e)
in_set (x ∷ xs) (suc i) v z (inr m) = elim (in_set xs i v z m) [ inl e ↦ inl e | inr k ↦ inr (inr k) ]

pub in_get : {A : Type 0} (xs : List A) (i : ℕ) (d : A) → i < length xs → get_or xs i d ∈ xs
in_get [] i d l = not-suc-le-zero l
in_get (x ∷ xs) zero d l = inl refl
in_get (x ∷ xs) (suc i) d l = inr (in_get xs i d (omega arith))

pub in_at : {A : Type 0} (xs : List A) (i : ℕ) (d x : A) → i < length xs → get_or xs i d ≡ x → x ∈ xs
in_at xs i d x l e = subst (λ w. w ∈ xs) e (in_get xs i d l)

-- what stands in a list has a place
pub has_place : {A : Type 0} (xs : List A) (z d : A) → z ∈ xs → (i : ℕ) × (i < length xs) × (z ≡ get_or xs i d)
has_place [] z d m = absurd m
has_place (x ∷ xs) z d (inl e) = (0, omega arith, e)
has_place (x ∷ xs) z d (inr m) = let r = has_place xs z d m in let l = r.1 in (suc r.0, omega arith, r.2)

pub in_taken_out : {A : Type 0} (d : A) (xs : List A) (i : ℕ) (z : A) → i < length xs → z ∈ taken_out d xs i → z ∈ xs
in_taken_out d xs i z l k =
    elim (in_set xs i (get_or xs (length xs - 1) d) z (in_take (length xs - 1) (set xs i (get_or xs (length xs - 1) d)) z k)) [
      | inl e ↦ subst (λ w. w ∈ xs) (sym e) (in_get xs (length xs - 1) d (omega arith))
      | inr j ↦ j
    ]

-- What every element of a list keeps; `d` stands for an element past its end.
use Rattle.std.proofs.Common.{◌≡◌, ℕ, zero, suc, List, [], ◌∷◌, get_or, set, replicate, refl}

-- of one value, which stands past the end too
pub get_or-replicate_same : {X : Type 0} (n h : ℕ) (x : X) → get_or (replicate n x) h x ≡ x
get_or-replicate_same zero h x = refl
get_or-replicate_same (suc n) zero x = refl
get_or-replicate_same (suc n) (suc h) x = get_or-replicate_same n h x

-- what every element keeps, they keep after a write that keeps it
pub set_keeps : {X : Type 0} (P : X → Type 0) (xs : List X) (i : ℕ) (v d : X) → P v → ((k : ℕ) → P (get_or xs k d)) → (k : ℕ) → P (get_or (set xs i v) k d)
set_keeps P [] i v d new old k = old k
set_keeps P (x ∷ xs) zero v d new old zero = new
set_keeps P (x ∷ xs) zero v d new old (suc k) = old (suc k)
set_keeps P (x ∷ xs) (suc i) v d new old zero = old 0
set_keeps P (x ∷ xs) (suc i) v d new old (suc k) = set_keeps P xs i v d new (λ j. old (suc j)) k

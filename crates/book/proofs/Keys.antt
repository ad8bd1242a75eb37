-- Which keys a set of keys has.
use Rattle.std.proofs.Common.{◌≡◌, ℕ, zero, suc, ◌^◌, ◌<◌, Bool, true, ◌&&◌, eqb, refl, ap, arith}
use Rattle.std.specs.Int.{bit_at}
use Rattle.std.specs.Int.Bits.{bit_and}
use Rattle.book.specs.Keys.{Held}
use Rattle.std.proofs.lemmas.Nat.Bits.{bit_at-zero, bit_at_and, bit_at-pow_same}
use Rattle.std.proofs.lemmas.Bool.Decides.{Decides-eqb, Decides-below_and}

-- of two sets with no key in common only one has a key
pub held_once : (x y k : ℕ) → bit_and x y ≡ 0 → Held x k → Held y k → ⊥
held_once x y k none p q = omega (arith, ap (λ n. bit_at n k) none, bit_at-zero k, bit_at_and x y k, p.bit, q.bit)

-- the set of one key
pub held_one : (k : ℕ) → Held (2 ^ k) k
held_one k = record { bit = bit_at-pow_same k }

-- whether a set has every key below n, as one computed test
abbrev pub full_below : ℕ → ℕ → Bool
full_below keys zero = true
full_below keys (suc n) = eqb (bit_at keys n) 1 && full_below keys n

pub held_below : (keys n : ℕ) → full_below keys n ≡ true → (k : ℕ) → k < n → Held keys k
held_below keys n full k h =
    let bits = (Decides-below_and (λ i. eqb (bit_at keys i) 1) (λ i. bit_at keys i ≡ 1) (full_below keys) (λ i. Decides-eqb (bit_at keys i) 1) refl (λ _. refl) n).0 full in
    record { bit = bits k h }

-- Every named hall has a vote if as many of the named halls have one as are named.
use Rattle.std.proofs.Common.{◌≡◌, ℕ, zero, suc, ◌/◌, ◌%◌, ◌<◌, ◌≤◌, ◌⊎◌, eqb, bit_and, inl, inr, ap, ◌∙◌, sym, arith}
use Rattle.std.specs.Int.Count.{ones, ones_step}
use Rattle.std.proofs.lemmas.Bool.{cases_eq, eq-eqb, ne_eqb}
use Rattle.std.proofs.lemmas.Nat.{and_le_r, and_shr, and_mod}

-- the part of a set that lies in another is all of it, or has fewer halls
part_of : (n v h : ℕ) → h ≤ n → (ones (bit_and v h) < ones h) ⊎ (bit_and v h ≡ h)
part_of zero v h l = inr (omega (arith, and_le_r v h))
part_of (suc n) v h l =
    let half = and_shr v h 1 in
    let low = and_mod v h 1 in
    let low_le = and_le_r (v % 2) (h % 2) in
    let part = ones_step (bit_and v h) in
    let whole = ones_step h in
    elim (part_of n (v / 2) (h / 2) (omega arith)) [
      | inl fewer ↦ inl (omega (arith, ap ones half))
      | inr same ↦ elim (cases_eq (bit_and v h % 2) (h % 2)) [
        | inl e ↦ inr (omega arith)
        | inr o ↦ inl (omega (arith, ap ones half, ap ones same))
      ]
    ]

pub all_voted : (v h : ℕ) → eqb (ones (bit_and v h)) (ones h) ≡ eqb (bit_and v h) h
all_voted v h = elim (part_of h v h (omega arith)) [
  | inl fewer ↦ ne_eqb (ones (bit_and v h)) (ones h) (λ e. omega arith) ∙ sym (ne_eqb (bit_and v h) h (λ e. let o = ap ones e in omega arith))
  | inr same ↦ eq-eqb (ones (bit_and v h)) (ones h) (ap ones same) ∙ sym (eq-eqb (bit_and v h) h same)
]

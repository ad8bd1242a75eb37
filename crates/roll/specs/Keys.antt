-- The keys of an operation: it has those of the entries that it reads and writes, and those that it needs below.
use Rattle.std.specs.Prelude.{◌≡◌, ℕ, ◌+◌, ◌^◌, ◌<◌, List, Ok, bit_and, bit_or, nat_le}
use Rattle.std.specs.Int.Bits.{and_zero_l}
use Rattle.std.proofs.lemmas.Nat.{and_assoc, and_comm, and_or_self}
use Rattle.std.proofs.lemmas.Nat.Bits.{bit_at_or}
use Rattle.std.proofs.Common.{sym, ap, subst, ◌∙◌, arith}
use Rattle.book.proofs.Keys.{held_one}
use Rattle.book.specs.Keys.{Held}
use Rattle.book.specs.Model.{Model, Disjoint}
use Rattle.records.specs.declared.Operation.{Operation}
use Rattle.roll.specs.Admitted.{AtEntry, write_at, read_at, below_not_own}
use Rattle.roll.specs.Asking.{of_roll, entry_key}
use Rattle.roll.specs.Roll.{admitted, roll_keys, roll_model}
use Rattle.roll.specs.declared.asking.Ask.TheVariants.{Other, Write, Read}
use Rattle.std.proofs.lemmas.Bool.{cond-true, cond-false, le-leb}

-- Unions of sets of keys.

held_left : (x y k : ℕ) → Held x k → Held (bit_or x y) k
held_left x y k h = record { bit = omega (arith, bit_at_or x y k, h.bit) }

held_right : (x y k : ℕ) → Held y k → Held (bit_or x y) k
held_right x y k h = record { bit = omega (arith, bit_at_or x y k, h.bit) }

-- what shares no key with a union shares none with a part
disjoint_right : (x y z : ℕ) → bit_and (bit_or x y) z ≡ 0 → bit_and y z ≡ 0
disjoint_right x y z none =
    ap (λ v. bit_and v z) (sym (and_or_self y x)) ∙ and_assoc z (bit_or x y) y ∙ ap (bit_and (bit_or x y)) (and_comm y z)
    ∙ sym (and_assoc y (bit_or x y) z) ∙ ap (λ v. bit_and v y) none ∙ and_zero_l y

-- The keys of an operation.

held_entry : (g : ℕ) → g < 16 → Held (entry_key g) (48 + g)
held_entry g l = subst (λ set. Held set (48 + g)) (sym (cond-true (nat_le g 15) (2 ^ (48 + g)) 0 (le-leb g 15 (omega arith)))) (held_one (48 + g))

module _ (m : Model) where
  pub held_grant : (o : Operation) → o.grant < 16 → Held (roll_keys m o) (48 + o.grant)
  held_grant o l = held_left (entry_key o.grant) _ (48 + o.grant) (held_entry o.grant l)

  held_at : (o : Operation) (a : ℕ) → AtEntry o a → Held (roll_keys m o) (48 + a)
  held_at o a h =
      let key = ap entry_key h.is ∙ sym (cond-true (of_roll o) (entry_key o.a) (m.keys o) h.own) in
      held_right (entry_key o.grant) _ (48 + a) (subst (λ set. Held set (48 + a)) key (held_entry a h.there))

  pub held_write : (tokens : List ℕ) (o : Operation) (a v : ℕ) → admitted tokens o ≡ Ok (Write a v) → Held (roll_keys m o) (48 + a)
  held_write tokens o a v e = held_at o a (write_at tokens o a v e)

  pub held_read : (tokens : List ℕ) (o : Operation) (a : ℕ) → admitted tokens o ≡ Ok (Read a) → Held (roll_keys m o) (48 + a)
  held_read tokens o a e = held_at o a (read_at tokens o a e)

  below_right : (tokens : List ℕ) (o : Operation) (set : ℕ) → admitted tokens o ≡ Ok Other → bit_and (roll_keys m o) set ≡ 0 → bit_and (m.keys o) set ≡ 0
  below_right tokens o set e h =
      ap (λ keys. bit_and keys set) (sym (cond-false (of_roll o) (entry_key o.a) (m.keys o) (below_not_own tokens o e)))
      ∙ disjoint_right (entry_key o.grant) _ set h

  -- two operations that both go to the book below share no key there either
  pub disjoint_below : (tokens : List ℕ) (o q : Operation) → admitted tokens o ≡ Ok Other → admitted tokens q ≡ Ok Other → Disjoint (roll_model m) o q → Disjoint m o q
  disjoint_below tokens o q e f h =
      let half = below_right tokens o (roll_keys m q) e h in
      and_comm (m.keys o) (m.keys q) ∙ below_right tokens q (m.keys o) f (and_comm (roll_keys m q) (m.keys o) ∙ half)

-- Two entries that are apart.
use Rattle.std.proofs.Common.{◌≡◌, true, not, ◌&&◌, sym, ◌∙◌, inl, inr}
use Rattle.std.specs.Prelude.{◌==◌, bit_and}
use lib.Bits.{and_comm}
use Rattle.congress.specs.Kept.{apart}
use Rattle.congress.specs.declared.tables.Entry.{Entry}
use Rattle.std.proofs.lemmas.Bool.{and_parts, and_from, or_cases, or_left, or_right, not-true, not_from_false, eqb-true, eq-eqb, ne_eqb, true≢false, cases_eq}

abbrev pub TwoApart : Entry → Entry → Type 0
TwoApart x y = apart x y ≡ true

apart_here : (x y : Entry) → TwoApart x y → x.hall ≡ y.hall → (not (x.transaction == y.transaction) && bit_and x.keys y.keys == 0) ≡ true
apart_here x y h e =
    elim (or_cases (not (x.hall == y.hall)) (not (x.transaction == y.transaction) && bit_and x.keys y.keys == 0) h) [
      | inl n ↦ absurd (true≢false (sym (eq-eqb x.hall y.hall e) ∙ not-true (x.hall == y.hall) n))
      | inr b ↦ b
    ]

pub apart_transactions : (x y : Entry) → TwoApart x y → x.hall ≡ y.hall → x.transaction ≡ y.transaction → ⊥
apart_transactions x y h e t =
    let n = (and_parts (not (x.transaction == y.transaction)) (bit_and x.keys y.keys == 0) (apart_here x y h e)).0 in
    true≢false (sym (eq-eqb x.transaction y.transaction t) ∙ not-true (x.transaction == y.transaction) n)

pub apart_keys : (x y : Entry) → TwoApart x y → x.hall ≡ y.hall → bit_and x.keys y.keys ≡ 0
apart_keys x y h e =
    eqb-true (bit_and x.keys y.keys) 0 (and_parts (not (x.transaction == y.transaction)) (bit_and x.keys y.keys == 0) (apart_here x y h e)).1

pub apart_from : (x y : Entry) → (x.hall ≡ y.hall → (x.transaction ≡ y.transaction → ⊥) × (bit_and x.keys y.keys ≡ 0)) → TwoApart x y
apart_from x y f =
    let rest = not (x.transaction == y.transaction) && bit_and x.keys y.keys == 0 in
    elim (cases_eq x.hall y.hall) [
      | inl e ↦ let k = f e in
          or_right (not (x.hall == y.hall)) rest
          (and_from (not (x.transaction == y.transaction)) (bit_and x.keys y.keys == 0)
          (not_from_false (x.transaction == y.transaction) (ne_eqb x.transaction y.transaction k.0)) (eq-eqb (bit_and x.keys y.keys) 0 k.1))
      | inr n ↦ or_left (not (x.hall == y.hall)) rest (not_from_false (x.hall == y.hall) (ne_eqb x.hall y.hall n))
    ]

pub flip_apart : (x y : Entry) → TwoApart x y → TwoApart y x
flip_apart x y h = apart_from y x
    (λ e. (λ t. apart_transactions x y h (sym e) (sym t), and_comm y.keys x.keys ∙ apart_keys x y h (sym e)))

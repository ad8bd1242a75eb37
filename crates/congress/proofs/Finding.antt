-- The place of a transaction's entry at a hall, found by way of the entries that bear its number.
use Rattle.std.proofs.Common.{◌≡◌, ℕ, ◌+◌, ◌-◌, ◌<◌, ◌≤◌, Bool, true, false, cond, eqb, get_or, nat_lt, Some, None, Option, List, length, drop, position, sym, ap, ◌∙◌, inl, inr, arith}
use Rattle.std.specs.List.{position_or_len}
use Rattle.std.specs.Option.{option_map}
use Rattle.congress.specs.Entries.{entry_transaction}
use Rattle.congress.specs.Queue.{no_entry, entry_in, is_at, place_at}
use Rattle.congress.specs.declared.tables.Entry.{Entry}
use Rattle.records.specs.Finder.{first_in}
use Rattle.std.proofs.lemmas.Bool.{lt-ltb, le-ltb, cond-true, cond-false, eq-eqb, ne_eqb, cases_lt, and_left, and_right, and_from}
use Rattle.std.proofs.lemmas.List.{get_or-drop, length-drop}
use Rattle.std.proofs.lemmas.List.Quantifiers.{position-Some}
use Rattle.std.proofs.lemmas.List.Sums.{position_or_len_is, fails_before_first}

-- the first place that a test takes, and where it takes none
module _ (test : Entry → Bool) (es : List Entry) where
  first_at : (i : ℕ) → i < length es → ((k : ℕ) → k < i → test (entry_in es k) ≡ false) → test (entry_in es i) ≡ true → position test es ≡ Some i
  first_at i inside before here =
      let e : position_or_len test es ≡ i = position_or_len_is test es i no_entry (omega arith) before (λ _. here) in
      ap (λ j. cond (nat_lt j (length es)) (Some j) None) e ∙ cond-true _ _ _ (lt-ltb i (length es) inside)

  nowhere_in : ((k : ℕ) → k < length es → test (entry_in es k) ≡ false) → position test es ≡ None
  nowhere_in none =
      let e : position_or_len test es ≡ length es = position_or_len_is test es (length es) no_entry (omega arith) none (λ l. absurd (omega arith)) in
      ap (λ j. cond (nat_lt j (length es)) (Some j) None) e ∙ cond-false _ _ _ (le-ltb (length es) (length es) (omega arith))

  none_in : position test es ≡ None → (k : ℕ) → k < length es → test (entry_in es k) ≡ false
  none_in none k inside = elim (cases_lt (position_or_len test es) (length es)) [
    | inl l ↦ let e = cond-true (nat_lt (position_or_len test es) (length es)) (Some (position_or_len test es)) None (lt-ltb _ _ l) in absurd (cc)
    | inr l ↦ fails_before_first test es k no_entry (omega arith)
  ]

-- the place that is counted on from `from`
counted_on : (from i : ℕ) (o : Option ℕ) → option_map (λ place. from + place) o ≡ Some i → (j : ℕ) × (o ≡ Some j) × (from + j ≡ i)
counted_on from i None e = absurd cc
counted_on from i (Some j) e = (j, cc, cc)

not_counted : (from : ℕ) (o : Option ℕ) → option_map (λ place. from + place) o ≡ None → o ≡ None
not_counted from None e = cc
not_counted from (Some j) e = absurd cc

module _ (h n : ℕ) (es : List Entry) where
  abbrev bears : Entry → Bool
  bears e = eqb (entry_transaction e) n

  -- no place below `from` has the entry
  abbrev pub NoneBefore : ℕ → Type 0
  NoneBefore from = (k : ℕ) → k < from → is_at h n (entry_in es k) ≡ false

  -- an entry with another number is another
  not_at : (k : ℕ) → bears (entry_in es k) ≡ false → is_at h n (entry_in es k) ≡ false
  not_at k other = and_right (eqb (entry_in es k).hall h) (bears (entry_in es k)) other

  module _ (from : ℕ) (before : NoneBefore from) where
    in_rest : (k : ℕ) → from ≤ k → bears (get_or (drop from es) (k - from) no_entry) ≡ bears (entry_in es k)
    in_rest k l =
        let e : from + (k - from) ≡ k = omega arith in
        ap bears (get_or-drop from es (k - from) no_entry ∙ ap (entry_in es) e)

    module _ (i : ℕ) (found : first_in entry_transaction n from (drop from es) ≡ Some i) where
      found_bears : bears (entry_in es i) ≡ true
      found_bears =
          let o = counted_on from i (position bears (drop from es)) found in
          let p = position-Some bears (drop from es) o.0 no_entry o.1 in
          ap (λ k. bears (entry_in es k)) (sym o.2) ∙ ap bears (sym (get_or-drop from es o.0 no_entry)) ∙ p.1

      none_before_found : NoneBefore i
      none_before_found k l = elim (cases_lt k from) [
        | inl low ↦ before k low
        | inr high ↦
            let o = counted_on from i (position bears (drop from es)) found in
            let p = position-Some bears (drop from es) o.0 no_entry o.1 in
            not_at k (sym (in_rest k high) ∙ p.2 (k - from) (omega (arith, o.2)))
      ]

      pub here : i < length es → (entry_in es i).hall ≡ h → place_at h n es ≡ Some i
      here inside at = first_at (is_at h n) es i inside none_before_found (and_from _ _ (eq-eqb _ _ at) found_bears)

      -- an entry of another hall is passed over
      pub further : ((entry_in es i).hall ≡ h → ⊥) → NoneBefore (i + 1)
      further other k l = elim (cases_lt k i) [
        | inl low ↦ none_before_found k low
        | inr high ↦
            let e : i ≡ k = omega arith in
            ap (λ j. is_at h n (entry_in es j)) (sym e) ∙ and_left _ _ (ne_eqb _ _ other)
      ]

    pub nowhere : first_in entry_transaction n from (drop from es) ≡ None → place_at h n es ≡ None
    nowhere none = nowhere_in (is_at h n) es (λ k l. elim (cases_lt k from) [
      | inl low ↦ before k low
      | inr high ↦
          let rest = not_counted from (position bears (drop from es)) none in
          not_at k (sym (in_rest k high) ∙ none_in bears (drop from es) rest (k - from) (omega (arith, length-drop from es)))
    ])

-- What holds between any two entries of a queue.
use Rattle.std.proofs.Common.{◌≡◌, ℕ, ◌-◌, ◌<◌, ◌⊎◌, List, [], ◌∷◌, ◌++◌, length, set, sym, ap, ◌∙◌, subst, inl, inr, arith, length-set, get_or-set_other, get_or-set_same}
use Rattle.congress.specs.Queue.{no_entry, entry_in, without}
use Rattle.congress.specs.declared.tables.Entry.{Entry}
use Rattle.congress.proofs.Places.{taken_out_length, taken_out_from}
use Rattle.std.proofs.lemmas.Bool.{cases_eq, cases_lt}
use Rattle.std.proofs.lemmas.List.{get_or_append_left, get_or_push, length_push}

-- R holds between any two entries at different places
abbrev pub Between : (Entry → Entry → Type 0) → List Entry → Type 0
Between R q = (i j : ℕ) → i < length q → j < length q → (i ≡ j → ⊥) → R (entry_in q i) (entry_in q j)

module _ (R : Entry → Entry → Type 0) (flip : (e f : Entry) → R e f → R f e) where
  pub between_push : (q : List Entry) (x : Entry) → Between R q → ((i : ℕ) → i < length q → R (entry_in q i) x) → Between R (q ++ (x ∷ []))
  between_push q x all new i j l m n =
      let size = length_push q x in
      elim (cases_lt i (length q)) [
        | inl a ↦ elim (cases_lt j (length q)) [
          | inl b ↦ subst (λ e. R e (entry_in (q ++ (x ∷ [])) j)) (sym (get_or_append_left q (x ∷ []) no_entry i a))
              (subst (λ f. R (entry_in q i) f) (sym (get_or_append_left q (x ∷ []) no_entry j b)) (all i j a b n))
          | inr b ↦ subst (λ e. R e (entry_in (q ++ (x ∷ [])) j)) (sym (get_or_append_left q (x ∷ []) no_entry i a))
              (subst (λ f. R (entry_in q i) f) (sym (get_or_push q x no_entry j (omega arith))) (new i a))
        ]
        | inr a ↦ let c : j < length q = omega arith in
            subst (λ e. R e (entry_in (q ++ (x ∷ [])) j)) (sym (get_or_push q x no_entry i (omega arith)))
            (subst (λ f. R x f) (sym (get_or_append_left q (x ∷ []) no_entry j c)) (flip (entry_in q j) x (new j c)))
      ]

  pub between_set : (q : List Entry) (p : ℕ) (x : Entry) → ((f : Entry) → R (entry_in q p) f → R x f) → Between R q → Between R (set q p x)
  between_set q p x like all i j l m n =
      let size = length-set q p x in
      elim (cases_eq i p) [
        | inl a ↦ let b : j ≡ p → ⊥ = λ e. n (a ∙ sym e) in
            subst (λ e. R e (entry_in (set q p x) j)) (sym (ap (λ (w : ℕ). entry_in (set q p x) w) a ∙ get_or-set_same q p x no_entry (omega arith)))
            (subst (λ f. R x f) (sym (get_or-set_other q p j x no_entry b)) (like (entry_in q j) (all p j (omega arith) (omega arith) (λ e. b (sym e)))))
        | inr a ↦ elim (cases_eq j p) [
          | inl b ↦ subst (λ e. R e (entry_in (set q p x) j)) (sym (get_or-set_other q p i x no_entry a))
              (subst (λ f. R (entry_in q i) f) (sym (ap (λ (w : ℕ). entry_in (set q p x) w) b ∙ get_or-set_same q p x no_entry (omega arith)))
              (flip x (entry_in q i) (like (entry_in q i) (all p i (omega arith) (omega arith) (λ e. a (sym e))))))
          | inr b ↦ subst (λ e. R e (entry_in (set q p x) j)) (sym (get_or-set_other q p i x no_entry a))
              (subst (λ f. R (entry_in q i) f) (sym (get_or-set_other q p j x no_entry b)) (all i j (omega arith) (omega arith) n))
        ]
      ]

  pub between_without : (q : List Entry) (p : ℕ) → p < length q → Between R q → Between R (without q p)
  between_without q p l all i j a b n =
      let size = taken_out_length no_entry q p in
      let u = taken_out_from no_entry q p i l (omega arith) in
      let v = taken_out_from no_entry q p j l (omega arith) in
      subst (λ e. R e (entry_in (without q p) j)) (sym u.3)
      (subst (λ f. R (entry_in q u.0) f) (sym v.3)
      (all u.0 v.0 u.1 v.1 (λ e. differ u.4 v.4 e)))
    where
      differ : {x y : ℕ} → (i ≡ x) ⊎ ((i ≡ p) × (x ≡ length q - 1)) → (j ≡ y) ⊎ ((j ≡ p) × (y ≡ length q - 1)) → x ≡ y → ⊥
      differ (inl c) (inl d) e = n (c ∙ (e ∙ sym d))
      differ (inl c) (inr d) e = let size = taken_out_length no_entry q p in let d1 = d.1 in omega arith
      differ (inr c) (inl d) e = let size = taken_out_length no_entry q p in let c1 = c.1 in omega arith
      differ (inr c) (inr d) e = n (c.0 ∙ sym d.0)

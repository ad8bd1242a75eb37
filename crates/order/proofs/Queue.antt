-- Which entries a test of the queue finds.
use Rattle.std.proofs.Common.{◌≡◌, ℕ, zero, suc, ◌<◌, Bool, true, false, not, ◌&&◌, eqb, ◌⊎◌, List, [], ◌∷◌, length, Some, None, Option, sym, ap, ◌∙◌, subst, inl, inr, arith}
use lib.Bits.{bit_and}
use Rattle.congress.specs.Queue.{entry_in, no_entry, any_at, holds_at, held_at, before, sooner, lesser, least_below, least}
use Rattle.congress.specs.declared.tables.Entry.{Entry}
use Rattle.order.proofs.Lists.{some_is, none_is_some, has_place}
use Rattle.order.specs.Promises.{◌∈◌}
use Rattle.std.proofs.lemmas.Bool.{cond_both, eqb-true, eqb-false, eq-eqb, or_parts, not-false, true≢false, cases_Bool, cases_eq}
use Rattle.std.proofs.lemmas.Bool.Decides.{nat_tests}
use Rattle.std.specs.List.{list_any}

-- what no element passes, this one does not pass
fails : (test : Entry → Bool) (entries : List Entry) → list_any test entries ≡ false → (e : Entry) → e ∈ entries → test e ≡ false
fails test [] n e m = absurd m
fails test (x ∷ xs) n e (inl q) = ap test q ∙ (or_parts (test x) (list_any test xs) n).0
fails test (x ∷ xs) n e (inr m) = fails test xs (or_parts (test x) (list_any test xs) n).1 e m

second : (a b : Bool) → (a && b) ≡ false → a ≡ true → b ≡ false
second true b p q = p
second false b p q = absurd (true≢false (sym q))

-- no key of an entry of the hall is one of these
pub held_none : (h keys : ℕ) (entries : List Entry) → held_at h keys entries ≡ false → (e : Entry) → e ∈ entries → e.hall ≡ h → bit_and e.keys keys ≡ 0
held_none h keys entries n e m a =
    eqb-true (bit_and e.keys keys) 0 (not-false (eqb (bit_and e.keys keys) 0)
    (second (eqb e.hall h) (not (eqb (bit_and e.keys keys) 0)) (fails (holds_at h keys) entries n e m) (eq-eqb e.hall h a)))

pub any_none : (h : ℕ) (entries : List Entry) → any_at h entries ≡ false → (e : Entry) → e ∈ entries → e.hall ≡ h → ⊥
any_none h entries n e m a = eqb-false e.hall h (fails (λ x. eqb x.hall h) entries n e m) a

pub any_some : (h : ℕ) (entries : List Entry) (e : Entry) → e ∈ entries → e.hall ≡ h → any_at h entries ≡ true
any_some h entries e m a = elim (cases_Bool (any_at h entries)) [ inl t ↦ t | inr n ↦ absurd (any_none h entries n e m a) ]

-- the order of entries

no_sooner_trans : (s t s' t' s'' t'' : ℕ) → before s t s' t' ≡ false → before s' t' s'' t'' ≡ false → before s t s'' t'' ≡ false
no_sooner_trans s t s' t' s'' t'' h k = grind (arith, nat_tests)

no_sooner_not : (s t s' t' : ℕ) → before s t s' t' ≡ true → before s' t' s t ≡ false
no_sooner_not s t s' t' h = grind (arith, nat_tests)

no_sooner_self : (s t : ℕ) → before s t s t ≡ false
no_sooner_self s t = grind (arith, nat_tests)

-- the least entry

module _ (test : Entry → Bool) (entries : List Entry) where
  abbrev at : ℕ → Entry
  at n = entry_in entries n

  -- the lesser of two places is one of them
  lesser_one : (o : Option ℕ) (n i : ℕ) → lesser entries o n ≡ Some i → (i ≡ n) ⊎ (o ≡ Some i)
  lesser_one None n i h = inl (sym (some_is h))
  lesser_one (Some k) n i h =
      cond_both (sooner (at n) (at k)) (Some n) (Some k) (λ (o : Option ℕ). o ≡ Some i → (i ≡ n) ⊎ (Some k ≡ Some i))
      (λ _ q. inl (sym (some_is q))) (λ _ q. inr q) h

  least_in_below : (n i : ℕ) → least_below test entries n ≡ Some i → (i < n) × (test (at i) ≡ true)
  least_in_below zero i h = absurd (none_is_some h)
  least_in_below (suc n) i h =
      cond_both (test (at n)) (lesser entries (least_below test entries n) n) (least_below test entries n)
      (λ (o : Option ℕ). o ≡ Some i → (i < suc n) × (test (at i) ≡ true))
      (λ t q. elim (lesser_one (least_below test entries n) n i q) [
        | inl e ↦ (omega arith, ap (λ (k : ℕ). test (at k)) e ∙ t)
        | inr r ↦ let b = least_in_below n i r in let l = b.0 in (omega arith, b.1)
      ])
      (λ _ q. let b = least_in_below n i q in let l = b.0 in (omega arith, b.1))
      h

  -- e comes no sooner than the entry at that place
  abbrev LeastOf : Option ℕ → Entry → Type 0
  LeastOf None e = ⊥
  LeastOf (Some i) e = sooner e (at i) ≡ false

  lesser_new : (o : Option ℕ) (n : ℕ) → LeastOf (lesser entries o n) (at n)
  lesser_new None n = no_sooner_self (at n).stamp (at n).transaction
  lesser_new (Some i) n =
      cond_both (sooner (at n) (at i)) (Some n) (Some i) (λ (o : Option ℕ). LeastOf o (at n))
      (λ _. no_sooner_self (at n).stamp (at n).transaction) (λ no. no)

  lesser_old : (o : Option ℕ) (n : ℕ) (e : Entry) → LeastOf o e → LeastOf (lesser entries o n) e
  lesser_old None n e h = absurd h
  lesser_old (Some i) n e h =
      cond_both (sooner (at n) (at i)) (Some n) (Some i) (λ (o : Option ℕ). LeastOf o e)
      (λ t. no_sooner_trans e.stamp e.transaction (at i).stamp (at i).transaction (at n).stamp (at n).transaction h
      (no_sooner_not (at n).stamp (at n).transaction (at i).stamp (at i).transaction t))
      (λ _. h)

  least_of : (n k : ℕ) → k < n → test (at k) ≡ true → LeastOf (least_below test entries n) (at k)
  least_of zero k l t = absurd (omega arith)
  least_of (suc n) k l t =
      cond_both (test (at n)) (lesser entries (least_below test entries n) n) (least_below test entries n) (λ (o : Option ℕ). LeastOf o (at k))
      (λ _. elim (cases_eq k n) [
        | inl e ↦ subst (λ (j : ℕ). LeastOf (lesser entries (least_below test entries n) n) (at j)) (sym e) (lesser_new (least_below test entries n) n)
        | inr d ↦ lesser_old (least_below test entries n) n (at k) (least_of n k (omega arith) t)
      ])
      (λ f. elim (cases_eq k n) [
        | inl e ↦ absurd (true≢false (sym t ∙ ap (λ (j : ℕ). test (at j)) e ∙ f))
        | inr d ↦ least_of n k (omega arith) t
      ])

pub least_in : (test : Entry → Bool) (entries : List Entry) (i : ℕ) → least test entries ≡ Some i → (i < length entries) × (test (entry_in entries i) ≡ true)
least_in test entries i h = least_in_below test entries (length entries) i h

-- no entry that passes comes sooner than the least
pub least_least : (test : Entry → Bool) (entries : List Entry) (i : ℕ) (e : Entry) → least test entries ≡ Some i → e ∈ entries → test e ≡ true
    → sooner e (entry_in entries i) ≡ false
least_least test entries i e h m t =
    let p = has_place entries e no_entry m in
    let least_at = least_of test entries (length entries) p.0 p.1 (ap test (sym p.2) ∙ t) in
    let right : LeastOf test entries (Some i) (entry_in entries p.0) = subst (λ (o : Option ℕ). LeastOf test entries o (entry_in entries p.0)) h least_at in
    ap (λ (x : Entry). sooner x (entry_in entries i)) p.2 ∙ right

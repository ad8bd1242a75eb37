-- An operation that is apart from what comes after it may as well come last.
use Rattle.std.proofs.Common.{◌≡◌, ℕ, true, false, eqb, ◌⊎◌, List, [], ◌∷◌, sym, refl, ap, ◌∙◌, subst, inl, inr, arith}
use Rattle.book.specs.Apart.{Apart}
use Rattle.book.specs.Model.{Page, Model, Lawful}
use Rattle.book.proofs.Apart.{apart_pass}
use Rattle.congress.specs.Queue.{before}
use Rattle.order.specs.Plain.{Part, comes_before, placed, in_order, page_after, Answers, PlainOrder, at_hall}
use Rattle.order.specs.Promises.{◌∈◌}
use Rattle.records.specs.declared.Operation.{Operation}
use Rattle.std.proofs.lemmas.Bool.{cond_both, eqb-true, true≢false}
use Rattle.std.proofs.lemmas.Bool.Decides.{nat_tests}

-- x is apart from each part of the list
abbrev pub ApartAll : Model → Operation → List Part → Type 0
ApartAll m x ys = (y : Part) → y ∈ ys → Apart m x y.operation

module _ (m : Model) (laws : Lawful m) where
  pub page_past : (x : Operation) (ys : List Part) (p : Page) → m.own p → ApartAll m x ys → page_after m (m.next p x) ys ≡ m.next (page_after m p ys) x
  page_past x [] p own h = refl
  page_past x (y ∷ ys) p own h =
      ap (λ (q : Page). page_after m q ys) ((apart_pass m laws p own x y.operation (h y (inl refl))).page)
      ∙ page_past x ys (m.next p y.operation) (laws.keeps p y.operation own) (λ z i. h z (inr i))

  pub answer_past : (x : Operation) (ys : List Part) (p : Page) → m.own p → ApartAll m x ys → m.answer (page_after m p ys) x ≡ m.answer p x
  answer_past x [] p own h = refl
  answer_past x (y ∷ ys) p own h =
      answer_past x ys (m.next p y.operation) (laws.keeps p y.operation own) (λ z i. h z (inr i))
      ∙ (apart_pass m laws p own x y.operation (h y (inl refl))).first

  pub answers_past : (x : Operation) (ys : List Part) (p : Page) → m.own p → ApartAll m x ys → Answers m p ys → Answers m (m.next p x) ys
  answers_past x [] p own h k = tt
  answers_past x (y ∷ ys) p own h k =
      let pass = apart_pass m laws p own x y.operation (h y (inl refl)) in
      let rest = answers_past x ys (m.next p y.operation) (laws.keeps p y.operation own) (λ z i. h z (inr i)) k.1 in
      (pass.second ∙ k.0, subst (λ (q : Page). Answers m q ys) (sym pass.page) rest)

-- sorted: each part comes no later than each after it
abbrev pub NoLater : Part → List Part → Type 0
NoLater x ys = (y : Part) → y ∈ ys → comes_before y x ≡ false

abbrev pub Sorted : List Part → Type 0
Sorted [] = Unit {0}
Sorted (x ∷ xs) = NoLater x xs × Sorted xs

pub in_placed : (z x : Part) (ys : List Part) → z ∈ placed x ys → (z ≡ x) ⊎ (z ∈ ys)
in_placed z x [] m = m
in_placed z x (y ∷ ys) m =
    cond_both (comes_before x y) (x ∷ y ∷ ys) (y ∷ placed x ys) (λ (l : List Part). z ∈ l → (z ≡ x) ⊎ (z ∈ (y ∷ ys)))
    (λ _ k. k)
    (λ _ k. elim k [ inl e ↦ inr (inl e) | inr r ↦ elim (in_placed z x ys r) [ inl e ↦ inl e | inr q ↦ inr (inr q) ] ])
    m

pub in_sorted : (z : Part) (xs : List Part) → z ∈ in_order xs → z ∈ xs
in_sorted z [] m = m
in_sorted z (x ∷ xs) m = elim (in_placed z x (in_order xs) m) [ inl e ↦ inl e | inr r ↦ inr (in_sorted z xs r) ]

-- the order is one
before_trans : (s t s' t' s'' t'' : ℕ) → before s t s' t' ≡ true → before s'' t'' s' t' ≡ false → before s'' t'' s t ≡ false
before_trans s t s' t' s'' t'' h k = grind (arith, nat_tests)

before_far : (s t s' t' s'' t'' : ℕ) → before s t s' t' ≡ true → before s'' t'' s' t' ≡ false → before s t s'' t'' ≡ true
before_far s t s' t' s'' t'' h k = grind (arith, nat_tests)

before_not : (s t s' t' : ℕ) → before s t s' t' ≡ true → before s' t' s t ≡ false
before_not s t s' t' h = grind (arith, nat_tests)

placed_sorted : (x : Part) (ys : List Part) → Sorted ys → Sorted (placed x ys)
placed_sorted x [] h = (λ y m. absurd m, tt)
placed_sorted x (y ∷ ys) h =
    cond_both (comes_before x y) (x ∷ y ∷ ys) (y ∷ placed x ys) Sorted
    (λ e. (λ z m. first e z m, h))
    (λ e. (λ z m. later e z (in_placed z x ys m), placed_sorted x ys h.1))
  where
    first : comes_before x y ≡ true → (z : Part) → (z ≡ y) ⊎ (z ∈ ys) → comes_before z x ≡ false
    first e z (inl q) = subst (λ (w : Part). comes_before w x ≡ false) (sym q) (before_not x.stamp x.transaction y.stamp y.transaction e)
    first e z (inr m) = before_trans x.stamp x.transaction y.stamp y.transaction z.stamp z.transaction e (h.0 z m)

    later : comes_before x y ≡ false → (z : Part) → (z ≡ x) ⊎ (z ∈ ys) → comes_before z y ≡ false
    later e z (inl q) = subst (λ (w : Part). comes_before w y ≡ false) (sym q) e
    later e z (inr m) = h.0 z m

sorted : (xs : List Part) → Sorted (in_order xs)
sorted [] = tt
sorted (x ∷ xs) = placed_sorted x (in_order xs) (sorted xs)

-- x comes no sooner than y, or is apart from it
abbrev pub AfterOrApart : Model → ℕ → ℕ → Operation → Part → Type 0
AfterOrApart m s t x y = (before s t y.stamp y.transaction ≡ false) ⊎ Apart m x y.operation

abbrev pub AfterOrApartAll : Model → Part → List Part → Type 0
AfterOrApartAll m x ys = (y : Part) → y ∈ ys → AfterOrApart m x.stamp x.transaction x.operation y

module _ (m : Model) (laws : Lawful m) where
  -- where x comes before the first of a sorted list, it is apart from all of it
  first_apart : (x y : Part) (ys : List Part) → comes_before x y ≡ true → NoLater y ys → AfterOrApartAll m x (y ∷ ys) → ApartAll m x.operation (y ∷ ys)
  first_apart x y ys e late h z i = elim (h z i) [ inl f ↦ absurd (true≢false (sym (before_z i) ∙ f)) | inr a ↦ a ]
    where
      before_z : z ∈ (y ∷ ys) → comes_before x z ≡ true
      before_z (inl q) = subst (λ (w : Part). comes_before x w ≡ true) (sym q) e
      before_z (inr k) = before_far x.stamp x.transaction y.stamp y.transaction z.stamp z.transaction e (late z k)

  placed_page : (x : Part) (ys : List Part) (p : Page) → m.own p → Sorted ys → AfterOrApartAll m x ys
      → page_after m p (placed x ys) ≡ m.next (page_after m p ys) x.operation
  placed_page x [] p own s h = refl
  placed_page x (y ∷ ys) p own s h =
      cond_both (comes_before x y) (x ∷ y ∷ ys) (y ∷ placed x ys) (λ (l : List Part). page_after m p l ≡ m.next (page_after m p (y ∷ ys)) x.operation)
      (λ e. page_past m laws x.operation (y ∷ ys) p own (first_apart x y ys e s.0 h))
      (λ e. placed_page x ys (m.next p y.operation) (laws.keeps p y.operation own) s.1 (λ z i. h z (inr i)))

  placed_answers : (x : Part) (ys : List Part) (p : Page) → m.own p → Sorted ys → AfterOrApartAll m x ys
      → m.answer (page_after m p ys) x.operation ≡ x.answer → Answers m p ys → Answers m p (placed x ys)
  placed_answers x [] p own s h r k = (r, tt)
  placed_answers x (y ∷ ys) p own s h r k =
      cond_both (comes_before x y) (x ∷ y ∷ ys) (y ∷ placed x ys) (Answers m p)
      (λ e. let far = first_apart x y ys e s.0 h in
      (sym (answer_past m laws x.operation (y ∷ ys) p own far) ∙ r, answers_past m laws x.operation (y ∷ ys) p own far k))
      (λ e. (k.0, placed_answers x ys (m.next p y.operation) (laws.keeps p y.operation own) s.1 (λ z i. h z (inr i)) r k.1))

  -- one more part, that comes after or is apart from each part done before, is run last
  pub one_more : (x : Part) (xs : List Part) (first now : Page) → m.own first → PlainOrder m first xs now → AfterOrApartAll m x xs
      → m.answer now x.operation ≡ x.answer → PlainOrder m first (x ∷ xs) (m.next now x.operation)
  one_more x xs first now own plain h r =
      let h' : AfterOrApartAll m x (in_order xs) = λ y i. h y (in_sorted y xs i) in
      record {
        page = placed_page x (in_order xs) first own (sorted xs) h' ∙ ap (λ (p : Page). m.next p x.operation) plain.page;
        answers = placed_answers x (in_order xs) first own (sorted xs) h' (ap (λ (p : Page). m.answer p x.operation) plain.page ∙ r) plain.answers;
      }

pub in_at_hall : (h : ℕ) (xs : List Part) (x : Part) → x ∈ at_hall h xs → (x ∈ xs) × (x.hall ≡ h)
in_at_hall h [] x i = absurd i
in_at_hall h (y ∷ ys) x i =
    cond_both (eqb y.hall h) (y ∷ at_hall h ys) (at_hall h ys) (λ (l : List Part). x ∈ l → (x ∈ (y ∷ ys)) × (x.hall ≡ h))
    (λ n k. elim k [ inl q ↦ (inl q, ap (λ (w : Part). w.hall) q ∙ eqb-true y.hall h n) | inr k' ↦ let r = in_at_hall h ys x k' in (inr r.0, r.1) ])
    (λ n k. let r = in_at_hall h ys x k in (inr r.0, r.1))
    i

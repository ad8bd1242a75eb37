-- Laws of sums, tests and lists over the numbers below n: the start of a loop over them, its step, and what it comes to.
use Rattle.std.proofs.Common.{◌≡◌, ℕ, zero, suc, ◌+◌, ◌-◌, ◌*◌, ◌<◌, ◌≤◌, Bool, true, false, cond, ◌&&◌, ◌||◌, eqb, List, [], ◌∷◌, ◌++◌, length, get_or, slice_get, Some, sym, refl, ap, ◌∙◌, ap₂, inl, inr, mul-suc, mul-add, add-one, arith, length-append}
use Rattle.book.specs.Below.{sum_below, some_below, all_below, table, rows}
use Rattle.std.proofs.lemmas.List.FromFn.{length-map-range_with_len, get_or-map-range_with_len, fill_by_all}
use Rattle.std.proofs.lemmas.List.{get_or_append_left, get_or-append_right}
use Rattle.std.proofs.lemmas.Option.{slice_get-get_or, slice_get_cases}
use Rattle.std.proofs.lemmas.Bool.{cases_eq, cond-true, cond-false, eq-eqb, ne_eqb, and_left, and_right, or_left, or_right}

pub sum_none : (f : ℕ → ℕ) → sum_below 0 f ≡ 0
unfolding sum_below
sum_none f = refl

pub sum_more : (f : ℕ → ℕ) (n : ℕ) → sum_below (n + 1) f ≡ sum_below n f + f n
unfolding sum_below
sum_more f n = ap (λ k. sum_below k f) (add-one n)

pub sum_bound : (f : ℕ → ℕ) (most n : ℕ) → ((k : ℕ) → f k ≤ most) → sum_below n f ≤ most * n
unfolding sum_below
sum_bound f most zero h = omega arith
sum_bound f most (suc n) h = omega (arith, sum_bound f most n h, h n, mul-suc most n)

pub sum_same : (f g : ℕ → ℕ) (n : ℕ) → ((k : ℕ) → k < n → f k ≡ g k) → sum_below n f ≡ sum_below n g
unfolding sum_below
sum_same f g zero h = refl
sum_same f g (suc n) h = ap₂ (λ x y. x + y) (sum_same f g n (λ k l. h k (omega arith))) (h n (omega arith))

pub sum_zero : (n : ℕ) → sum_below n (λ _. 0) ≡ 0
unfolding sum_below
sum_zero zero = refl
sum_zero (suc n) = omega (arith, sum_zero n)

pub sum_add : (f g : ℕ → ℕ) (n : ℕ) → sum_below n (λ k. f k + g k) ≡ sum_below n f + sum_below n g
unfolding sum_below
sum_add f g zero = refl
sum_add f g (suc n) = omega (arith, sum_add f g n)

pub sum_times : (f : ℕ → ℕ) (c n : ℕ) → sum_below n (λ k. c * f k) ≡ c * sum_below n f
unfolding sum_below
sum_times f c zero = omega arith
sum_times f c (suc n) = omega (arith, sum_times f c n, mul-add c (sum_below n f) (f n))

-- rows and columns sum to the same
pub sum_swap : (f : ℕ → ℕ → ℕ) (m n : ℕ) → sum_below m (λ i. sum_below n (f i)) ≡ sum_below n (λ k. sum_below m (λ i. f i k))
unfolding sum_below
sum_swap f zero n = sym (sum_zero n)
sum_swap f (suc m) n = ap (λ x. x + sum_below n (f m)) (sum_swap f m n) ∙ sym (sum_add (λ k. sum_below m (λ i. f i k)) (f m) n)

-- a number that stands at one place alone
pub sum_one : (place x n : ℕ) → place < n → sum_below n (λ i. cond (eqb place i) x 0) ≡ x
unfolding sum_below
sum_one place x zero h = absurd (omega arith)
sum_one place x (suc n) h =
    elim (cases_eq place n) [
      | inl e ↦
          let last = cond-true (eqb place n) x 0 (eq-eqb place n e) in
          let others : sum_below n (λ i. cond (eqb place i) x 0) ≡ 0 =
          sum_same (λ i. cond (eqb place i) x 0) (λ _. 0) n (λ k l. cond-false (eqb place k) x 0 (ne_eqb place k (omega arith))) ∙ sum_zero n in
          omega arith
      | inr ne ↦
          let last = cond-false (eqb place n) x 0 (ne_eqb place n ne) in
          omega (arith, sum_one place x n (omega arith))
    ]

-- all but one, and the one
pub sum_without : (f : ℕ → ℕ) (place n : ℕ) → place < n → sum_below n (λ i. cond (eqb i place) 0 (f i)) + f place ≡ sum_below n f
sum_without f place n h =
    let others : ℕ → ℕ = λ i. cond (eqb i place) 0 (f i) in
    let here : ℕ → ℕ = λ i. cond (eqb place i) (f place) 0 in
    ap (λ x. sum_below n others + x) (sym (sum_one place (f place) n h)) ∙ sym (sum_add others here n)
    ∙ sum_same (λ i. others i + here i) f n (λ i _.
    elim (cases_eq i place) [
      | inl e ↦
          let one = cond-true (eqb i place) 0 (f i) (eq-eqb i place e) in
          let two = cond-true (eqb place i) (f place) 0 (eq-eqb place i (sym e)) in
          omega (arith, ap f e)
      | inr ne ↦
          let one = cond-false (eqb i place) 0 (f i) (ne_eqb i place ne) in
          let two = cond-false (eqb place i) (f place) 0 (ne_eqb place i (λ e. ne (sym e))) in
          omega arith
    ])

pub some_none : (t : ℕ → Bool) → some_below 0 t ≡ false
unfolding some_below
some_none t = refl

pub some_more : (t : ℕ → Bool) (n : ℕ) → some_below (n + 1) t ≡ (some_below n t || t n)
unfolding some_below
some_more t n = ap (λ k. some_below k t) (add-one n)

pub some_at : (t : ℕ → Bool) (n k : ℕ) → k < n → t k ≡ true → some_below n t ≡ true
unfolding some_below
some_at t zero k h e = absurd (omega arith)
some_at t (suc n) k h e =
    elim (cases_eq k n) [
      | inl same ↦ or_right (some_below n t) (t n) (ap t (sym same) ∙ e)
      | inr ne ↦ or_left (some_below n t) (t n) (some_at t n k (omega arith) e)
    ]

pub all_none : (t : ℕ → Bool) → all_below 0 t ≡ true
unfolding all_below
all_none t = refl

pub all_more : (t : ℕ → Bool) (n : ℕ) → all_below (n + 1) t ≡ (all_below n t && t n)
unfolding all_below
all_more t n = ap (λ k. all_below k t) (add-one n)

pub not_all_at : (t : ℕ → Bool) (n k : ℕ) → k < n → t k ≡ false → all_below n t ≡ false
unfolding all_below
not_all_at t zero k h e = absurd (omega arith)
not_all_at t (suc n) k h e =
    elim (cases_eq k n) [
      | inl same ↦ and_right (all_below n t) (t n) (ap t (sym same) ∙ e)
      | inr ne ↦ and_left (all_below n t) (t n) (not_all_at t n k (omega arith) e)
    ]

-- a row of this width ends before the next begins
pub row_inside : (width k n : ℕ) → k < n → width * k + width ≤ width * n
row_inside width k zero l = absurd (omega arith)
row_inside width k (suc n) l =
    elim (cases_eq k n) [
      | inl e ↦ omega (arith, mul-suc width n, ap (λ i. width * i) e)
      | inr ne ↦ omega (arith, mul-suc width n, row_inside width k n (omega arith))
    ]

module _ {X : Type 0} where
  pub length-table : (n : ℕ) (f : ℕ → X) → length (table n f) ≡ n
  unfolding table
  length-table n f = length-map-range_with_len f 0 n

  pub get_or-table : (n : ℕ) (f : ℕ → X) (i : ℕ) (d : X) → i < n → get_or (table n f) i d ≡ f i
  unfolding table
  get_or-table n f i d h = get_or-map-range_with_len f 0 n i i d h (omega arith)

  -- a list is the table of its elements
  pub table_all : (n : ℕ) (f : ℕ → X) (xs : List X) (d : X) → length xs ≡ n → ((k : ℕ) → k < n → get_or xs k d ≡ f k) → xs ≡ table n f
  unfolding table
  table_all n f xs d l h = fill_by_all f xs n d l h

  -- rows of the same width
  module _ (width : ℕ) (f : ℕ → List X) (wide : (k : ℕ) → length (f k) ≡ width) where
    pub length-rows : (n : ℕ) → length (rows n f) ≡ width * n
    unfolding rows
    length-rows zero = omega arith
    length-rows (suc n) = length-append (rows n f) (f n) ∙ omega (arith, length-rows n, wide n, mul-suc width n)

    pub get_or-rows : (n k j : ℕ) (d : X) → k < n → j < width → get_or (rows n f) (width * k + j) d ≡ get_or (f k) j d
    unfolding rows
    get_or-rows zero k j d h g = absurd (omega arith)
    get_or-rows (suc n) k j d h g =
        elim (cases_eq k n) [
          | inl e ↦
              let here : width * k + j - width * n ≡ j = omega (arith, ap (λ i. width * i) e) in
              get_or-append_right (rows n f) (f n) (width * n) (width * k + j) d (length-rows n) (omega (arith, ap (λ i. width * i) e))
              ∙ ap (λ i. get_or (f n) i d) here ∙ ap (λ i. get_or (f i) j d) (omega arith)
          | inr ne ↦
              get_or_append_left (rows n f) (f n) d (width * k + j) (omega (arith, length-rows n, row_inside width k n (omega arith))) ∙ get_or-rows n k j d (omega arith) g
        ]

    -- an element of the rows, by its row and its place there
    pub slice_get-rows : (n i k j : ℕ) → i ≡ width * k + j → k < n → j < width → slice_get (rows n f) i ≡ slice_get (f k) j
    slice_get-rows n i k j e h g =
        elim (slice_get_cases (f k) j).1 [
          | inl here ↦
              let x = here.0 in
              let inside : i < length (rows n f) = omega (arith, length-rows n, row_inside width k n h) in
              slice_get-get_or (rows n f) i x inside ∙ ap Some (ap (λ m. get_or (rows n f) m x) e ∙ get_or-rows n k j x h g) ∙ sym (slice_get-get_or (f k) j x here.1)
          | inr past ↦ absurd (omega (arith, past.0, wide k))
        ]

  -- an element of two lists, by its place in the one or the other
  pub slice_get-append_left : (xs ys : List X) (i : ℕ) → i < length xs → slice_get (xs ++ ys) i ≡ slice_get xs i
  slice_get-append_left [] ys i h = absurd (omega arith)
  slice_get-append_left (x ∷ xs) ys zero h = refl
  slice_get-append_left (x ∷ xs) ys (suc i) h = slice_get-append_left xs ys i (omega arith)

  pub slice_get-append_right : (xs ys : List X) (n i : ℕ) → n ≡ length xs → n ≤ i → slice_get (xs ++ ys) i ≡ slice_get ys (i - n)
  slice_get-append_right [] ys n i e h = ap (slice_get ys) (omega arith)
  slice_get-append_right (x ∷ xs) ys n zero e h = absurd (omega arith)
  slice_get-append_right (x ∷ xs) ys n (suc i) e h = slice_get-append_right xs ys (n - 1) i (omega arith) (omega arith) ∙ ap (slice_get ys) (omega arith)

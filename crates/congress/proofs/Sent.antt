-- Messages that are sent to the halls one after another, and the places they take.
use Rattle.std.proofs.Common.{◌≡◌, ℕ, zero, suc, ◌+◌, ◌-◌, ◌/◌, ◌^◌, ◌<◌, ◌≤◌, Bool, true, false, not, ◌&&◌, eqb, min, List, [], ◌∷◌, ◌++◌, length, get_or, set, sym, refl, ap, ◌∙◌, inl, inr, append-nil, add-zero, add-one, arith}
use Rattle.std.specs.Int.Count.{ones, ones_step}
use Rattle.std.proofs.Math.Seq.{length-sets}
use Rattle.std.proofs.lemmas.List.Edits.{sets}
use Rattle.congress.specs.State.{World, world, with_count, posting}
use Rattle.congress.specs.Sending.{to_each, is_other, vote_to, votes_of, to_hall, no_operation, requests_below, requests}
use Rattle.records.specs.Halls.{bit, names}
use Rattle.records.specs.declared.Operation.{Operation}
use Rattle.records.specs.declared.messages.Message.{Message}
use Rattle.records.specs.declared.messages.Message.TheVariants.{Request as request}
use Rattle.records.specs.declared.messages.Request.{Request}
use Rattle.std.proofs.lemmas.Nat.{shr-shr}
use Rattle.std.proofs.lemmas.List.{length_push}
use Rattle.std.proofs.lemmas.Bool.{lt-ltb, eqb-true, eqb-false, eq-eqb, cases_Bool, cond-true, cond-false}

pub sets_push : {X : Type 0} (l : List X) (i : ℕ) (vs : List X) (x : X) → sets l i (vs ++ (x ∷ [])) ≡ set (sets l i vs) (i + length vs) x
sets_push l i [] x = ap (λ k. set l k x) (sym (add-zero i))
sets_push l i (v ∷ vs) x =
    let e : suc i + length vs ≡ i + suc (length vs) = omega arith in
    sets_push (set l i v) (suc i) vs x ∙ ap (λ k. set (sets (set l i v) (suc i) vs) k x) e

pub posting_push : (w : World) (ms : List Message) (m : Message) → posting (posting w ms) (m ∷ []) ≡ posting w (ms ++ (m ∷ []))
posting_push w ms m =
    let count : w.state.count + length ms + 1 ≡ w.state.count + length (ms ++ (m ∷ [])) = omega (arith, length_push ms m) in
    ap (λ n. world (with_count w.state n) (set (sets w.post w.state.count ms) (w.state.count + length ms) m)) count
    ∙ ap (λ post. world (with_count w.state (w.state.count + length (ms ++ (m ∷ [])))) post) (sym (sets_push w.post w.state.count ms m))

pub named : (halls h : ℕ) → h < 8 → names halls h ≡ bit halls h
named halls h inside = ap (λ b. b && bit halls h) (lt-ltb h 8 inside)

module _ (meant : ℕ → Bool) (message : ℕ → Message) where
  pub next_in : (n : ℕ) → meant n ≡ true → to_each meant message (n + 1) ≡ to_each meant message n ++ (message n ∷ [])
  next_in n h = ap (to_each meant message) (add-one n) ∙ ap (λ r. to_each meant message n ++ r) (cond-true (meant n) _ _ h)

  -- a hall that is not meant gets none
  pub passes : (n : ℕ) → meant n ≡ false → to_each meant message n ≡ to_each meant message (n + 1)
  passes n h =
      sym (ap (to_each meant message) (add-one n) ∙ ap (λ r. to_each meant message n ++ r) (cond-false (meant n) _ _ h) ∙ append-nil (to_each meant message n))

  length_in : (n : ℕ) → meant n ≡ true → length (to_each meant message (n + 1)) ≡ length (to_each meant message n) + 1
  length_in n h = omega (arith, ap length (next_in n h), length_push (to_each meant message n) (message n))

  -- the more halls, the more messages
  length_step : (n : ℕ) → length (to_each meant message n) ≤ length (to_each meant message (n + 1))
  length_step n = elim (cases_Bool (meant n)) [
    | inl b ↦ omega (arith, length_in n b)
    | inr b ↦ omega (arith, ap length (passes n b))
  ]

  length_rises : (n k : ℕ) → length (to_each meant message n) ≤ length (to_each meant message (n + k))
  length_rises n zero = omega (arith, ap (λ i. length (to_each meant message i)) (add-zero n))
  length_rises n (suc k) =
      let e : n + suc k ≡ n + k + 1 = omega arith in
      omega (arith, length_rises n k, length_step (n + k), ap (λ i. length (to_each meant message i)) e)

  -- where a hall is meant, there is one more to send
  pub more_to_send : (n k : ℕ) → n < k → meant n ≡ true → length (to_each meant message n) < length (to_each meant message k)
  more_to_send n k l h =
      let e : n + 1 + (k - (n + 1)) ≡ k = omega arith in
      omega (arith, length_in n h, length_rises (n + 1) (k - (n + 1)), ap (λ i. length (to_each meant message i)) e)

  -- a message more goes to the end of the post
  pub sends : (w : World) (n : ℕ) → meant n ≡ true → posting (posting w (to_each meant message n)) (message n ∷ []) ≡ posting w (to_each meant message (n + 1))
  sends w n b = posting_push w (to_each meant message n) (message n) ∙ ap (posting w) (sym (next_in n b))

  -- while there is more to send there is room for it
  pub room_for : (w v : World) (n k : ℕ) → v ≡ posting w (to_each meant message n) → n < k → meant n ≡ true
      → w.state.count + length (to_each meant message k) ≤ min (length w.post) 1024 → v.state.count < min (length v.post) 1024
  room_for w v n k is l h room =
      let count = ap (λ (u : World). u.state.count) is in
      let size = ap (λ (u : World). length u.post) is in
      omega (arith, count, size, length-sets w.post w.state.count (to_each meant message n), more_to_send n k l h)

-- As many messages as halls are meant.

module _ (halls : ℕ) (message : ℕ → Message) where
  -- those sent, and the halls still to come, are the halls named
  pub sent_count : (n : ℕ) → length (to_each (bit halls) message n) + ones (halls / 2 ^ n) ≡ ones halls
  sent_count zero = let e : halls / 1 ≡ halls = omega arith in omega (arith, ap ones e)
  sent_count (suc n) =
      let next = ap (λ k. length (to_each (bit halls) message k)) (add-one n) in
      let half = ap ones (shr-shr halls n 1 ∙ ap (λ k. halls / 2 ^ k) (add-one n)) in
      let split = ones_step (halls / 2 ^ n) in
      elim (cases_Bool (bit halls n)) [
        | inl b ↦ omega (arith, sent_count n, split, half, next, eqb-true _ _ b, length_in (bit halls) message n b)
        | inr b ↦ omega (arith, sent_count n, split, half, next, eqb-false _ _ b, ap length (passes (bit halls) message n b))
      ]

  pub all_sent : halls < 256 → length (to_each (bit halls) message 8) ≡ ones halls
  unfolding ones
  all_sent l = let e : halls / 2 ^ 8 ≡ 0 = omega arith in let none : ones 0 ≡ 0 = refl in omega (arith, sent_count 8, ap ones e, none)

-- A hall that is named sends to one hall less than are named.

is_meant : (halls own n : ℕ) → (n ≡ own → ⊥) → is_other halls own n ≡ bit halls n
is_meant halls own n o = elim (cases_Bool (eqb n own)) [
  | inl b ↦ absurd (o (eqb-true n own b))
  | inr b ↦ ap (λ c. bit halls n && not c) b ∙ and_true (bit halls n)
]
  where
    and_true : (a : Bool) → (a && true) ≡ a
    and_true true = refl
    and_true false = refl

not_itself : (halls own : ℕ) → is_other halls own own ≡ false
not_itself halls own = ap (λ c. bit halls own && not c) (eq-eqb own own refl) ∙ and_false (bit halls own)
  where
    and_false : (a : Bool) → (a && false) ≡ false
    and_false true = refl
    and_false false = refl

module _ (halls own : ℕ) (message other : ℕ → Message) (own_is : bit halls own ≡ true) where
  same_step : (n : ℕ) → (n ≡ own → ⊥)
      → length (to_each (bit halls) message (n + 1)) - length (to_each (bit halls) message n) ≡ length (to_each (is_other halls own) other (n + 1)) - length (to_each (is_other halls own) other n)
  same_step n o = elim (cases_Bool (bit halls n)) [
    | inl b ↦ omega (arith, length_in (bit halls) message n b, length_in (is_other halls own) other n (is_meant halls own n o ∙ b))
    | inr b ↦ omega (arith, ap length (passes (bit halls) message n b), ap length (passes (is_other halls own) other n (is_meant halls own n o ∙ b)))
  ]

  before_own : (n : ℕ) → n ≤ own → length (to_each (is_other halls own) other n) ≡ length (to_each (bit halls) message n)
  before_own zero l = refl
  before_own (suc n) l =
      omega (
        arith,
        before_own n (omega arith),
        same_step n (λ e. omega arith),
        length_step (bit halls) message n,
        length_step (is_other halls own) other n,
        ap (λ k. length (to_each (bit halls) message k)) (add-one n),
        ap (λ k. length (to_each (is_other halls own) other k)) (add-one n),
      )

  after_own : (k : ℕ) → length (to_each (is_other halls own) other (own + 1 + k)) + 1 ≡ length (to_each (bit halls) message (own + 1 + k))
  after_own zero =
      omega (
        arith,
        before_own own (omega arith),
        length_in (bit halls) message own own_is,
        ap length (passes (is_other halls own) other own (not_itself halls own)),
        ap (λ k. length (to_each (bit halls) message k)) (add-zero (own + 1)),
        ap (λ k. length (to_each (is_other halls own) other k)) (add-zero (own + 1)),
      )
  after_own (suc k) =
      let e : own + 1 + suc k ≡ own + 1 + k + 1 = omega arith in
      omega (
        arith,
        after_own k,
        same_step (own + 1 + k) (λ q. omega arith),
        length_step (bit halls) message (own + 1 + k),
        length_step (is_other halls own) other (own + 1 + k),
        ap (λ j. length (to_each (bit halls) message j)) e,
        ap (λ j. length (to_each (is_other halls own) other j)) e,
      )

pub requests_is : (d : Request) (os : List Operation) → requests_below d os 8 ≡ requests d os
unfolding requests
requests_is d os = refl

pub votes_are : (t own halls stamp status : ℕ) → to_each (is_other halls own) (vote_to t own stamp status) 8 ≡ votes_of t own halls stamp status
unfolding votes_of
votes_are t own halls stamp status = refl

pub votes_count : (t own halls stamp status : ℕ) → halls < 256 → own < 8 → bit halls own ≡ true → length (votes_of t own halls stamp status) + 1 ≡ ones halls
votes_count t own halls stamp status l inside b =
    let e : own + 1 + (8 - (own + 1)) ≡ 8 = omega arith in
    omega (
      arith,
      after_own halls own (vote_to t own stamp status) (vote_to t own stamp status) b (8 - (own + 1)),
      all_sent halls (vote_to t own stamp status) l,
      ap (λ k. length (to_each (is_other halls own) (vote_to t own stamp status) k)) e,
      ap (λ k. length (to_each (bit halls) (vote_to t own stamp status) k)) e,
      ap length (votes_are t own halls stamp status),
    )

pub requests_count : (d : Request) (os : List Operation) → d.halls < 256 → length (requests d os) ≡ ones d.halls
requests_count d os l = ap length (sym (requests_is d os)) ∙ all_sent d.halls (λ h. request (to_hall d h (get_or os h no_operation))) l

-- no more requests than halls are named
pub requests_few : (d : Request) (os : List Operation) → length (requests d os) ≤ ones d.halls
requests_few d os =
    omega (arith, sent_count d.halls (λ h. request (to_hall d h (get_or os h no_operation))) 8, ap length (requests_is d os))

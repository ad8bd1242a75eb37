-- Which messages are in the post.
use Rattle.std.proofs.Common.{◌≡◌, ℕ, zero, suc, ◌+◌, ◌-◌, ◌<◌, ◌≤◌, min, Bool, true, false, cond, List, [], ◌∷◌, ◌++◌, length, get_or, take, drop, set, sym, ap, ◌∙◌, subst, inl, inr, arith}
use Rattle.congress.specs.Calls.{dropped}
use Rattle.congress.specs.Sending.{no_message, to_each}
use Rattle.congress.specs.State.{World, short, messages, posting}
use Rattle.order.proofs.Happens.{Room}
use Rattle.order.proofs.Lists.{in_append, in_one, in_get, in_set, in_take}
use Rattle.order.specs.Promises.{◌∈◌}
use Rattle.records.specs.declared.messages.Message.{Message}
use Rattle.std.proofs.lemmas.Bool.{cond_both, ltb-false}
use Rattle.std.proofs.lemmas.List.{get_or-take, length-take-le, take-take, length-append}
use Rattle.std.proofs.Math.Seq.{take-append_seam, take-set-lt}
use Rattle.std.proofs.lemmas.List.Edits.{sets-eq}

pub long_post : (w : World) → short w ≡ false → w.state.count ≤ length w.post
long_post w n = ltb-false (length w.post) w.state.count n

-- n messages more stay within the post and within the 1,024 places that are used
pub room_left : (w : World) (n : ℕ) → Room w n → w.state.count + n ≤ min (length w.post) 1024
room_left w n r = ltb-false (min (length w.post) 1024) (w.state.count + n) r.room

pub count_few : (w : World) (n : ℕ) → Room w n → w.state.count + n ≤ 1024
count_few w n r = let l = room_left w n r in omega arith

-- the messages sent follow those that were there
pub messages_posting : (w : World) (new : List Message) → Room w (length new) → messages (posting w new) ≡ messages w ++ new
messages_posting w new r =
    let few = room_left w (length new) r in
    let n = w.state.count + length new in
    let long : length (messages w ++ new) ≡ n =
    length-append (messages w) new ∙ ap (λ (k : ℕ). k + length new) (length-take-le w.state.count w.post (long_post w r.long)) in
    let rest = drop n w.post in
    ap (take n) (sets-eq new w.post w.state.count (omega arith))
    ∙ ap (λ (k : ℕ). take k (messages w ++ new ++ rest)) (sym long)
    ∙ take-append_seam (messages w ++ new) rest

pub in_post : (w : World) (place : ℕ) → short w ≡ false → place < w.state.count → get_or w.post place no_message ∈ messages w
in_post w place n l =
    let p = long_post w n in
    subst (λ x. x ∈ messages w) (get_or-take w.state.count w.post place no_message l)
    (in_get (messages w) place no_message (let e = length-take-le w.state.count w.post p in omega arith))

-- what a drop leaves was there before it
pub in_dropped : (w : World) (place : ℕ) (x : Message) → short w ≡ false → place < w.state.count → x ∈ messages (dropped w place) → x ∈ messages w
in_dropped w place x n l k =
    let p = long_post w n in
    let c = w.state.count in
    let last = get_or w.post (c - 1) no_message in
    let after = set w.post place last in
    let in_first : x ∈ take c after =
    in_take (c - 1) (take c after) x (subst (λ (ms : List Message). x ∈ ms) (sym (take-take (c - 1) c after (omega arith))) k) in
    elim (in_set (take c w.post) place last x (subst (λ (ms : List Message). x ∈ ms) (take-set-lt c w.post place last l) in_first)) [
      | inl e ↦ subst (λ y. y ∈ messages w) (sym e) (in_post w (c - 1) n (omega arith))
      | inr i ↦ i
    ]

pub in_to_each : (meant : ℕ → Bool) (message : ℕ → Message) (n : ℕ) (x : Message) → x ∈ to_each meant message n
    → (h : ℕ) × (h < n) × (meant h ≡ true) × (x ≡ message h)
in_to_each meant message zero x k = absurd k
in_to_each meant message (suc n) x k = elim (in_append x (to_each meant message n) (cond (meant n) (message n ∷ []) []) k) [
  | inl a ↦ let r = in_to_each meant message n x a in let l = r.1 in (r.0, omega arith, r.2, r.3)
  | inr b ↦ cond_both (meant n) (message n ∷ []) [] (λ (l : List Message). x ∈ l → (h : ℕ) × (h < suc n) × (meant h ≡ true) × (x ≡ message h))
      (λ t i. (n, omega arith, t, in_one i)) (λ _ i. absurd i) b
]

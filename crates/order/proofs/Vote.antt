-- Deliver, of a vote; and how an entry leaves.
use Rattle.std.proofs.Common.{◌≡◌, ℕ, ◌^◌, ◌<◌, ◌≤◌, List, [], ◌∷◌, length, get_or, set, refl, sym, ap, ◌∙◌, subst, inl, inr, arith}
use Rattle.book.specs.Model.{Model}
use Rattle.congress.proofs.Sets.{names_or, names_pow}
use Rattle.congress.specs.Kept.{locks}
use Rattle.congress.specs.Queue.{no_entry, any_at, without}
use Rattle.congress.specs.Sending.{no_answer, reply_of}
use Rattle.congress.specs.State.{State, Scene, hall_at, with_entries, with_state}
use Rattle.congress.specs.Votes.{settled, leaving, counted, removed}
use Rattle.congress.specs.declared.tables.Entry.{Entry}
use Rattle.congress.specs.declared.tables.Hall.{Hall}
use Rattle.order.proofs.Changes.{hall_is, hall_kept, leaves_kept, votes_kept, falls_kept, standing_in}
use Rattle.order.proofs.Easy.{sending_kept}
use Rattle.order.proofs.Happens.{Room, Voted}
use Rattle.order.proofs.Invariant.{agreed, Sayings, TrueVote, Genuine, Counted, last_of, Kept}
use Rattle.order.proofs.Lists.{in_at, in_one, in_set, in_taken_out}
use Rattle.order.proofs.Queue.{any_none}
use Rattle.order.specs.History.{History, issue_of, with_fallen}
use Rattle.order.specs.Promises.{◌∈◌}
use Rattle.records.specs.Halls.{names}
use Rattle.records.specs.declared.messages.Vote.{Vote}
use Rattle.std.proofs.lemmas.Bool.{cond_both, cases_lt}

-- what is left of a queue was in it
pub left_in : (q : List Entry) (i : ℕ) → i < length q → (e : Entry) → e ∈ without q i → e ∈ q
left_in q i l e j = in_taken_out no_entry q i e l j

-- the hall's last stays
pub leaving_last : (s : State) (h i : ℕ) → h < length s.halls → (P : ℕ → Type 0) → P (last_of s h) → P (last_of (leaving s h i) h)
leaving_last s h i l P p =
    subst (λ (w : Hall). P w.last) (sym (hall_is s h (settled (without s.entries i) h (hall_at s h)) l))
    (cond_both (any_at h (without s.entries i)) (hall_at s h) _ (λ (w : Hall). P w.last) (λ _. p) (λ _. p))

module _ {m : Model} {said : Sayings} {s : Scene} {H : History} (kept : Kept m said s H) where
  -- where an entry leaves hall h, the mode of the hall may change; no entry is there then
  pub leaving_kept : (h i : ℕ) → h < length s.world.state.halls → i < length s.world.state.entries → Kept m said (with_state s (leaving s.world.state h i)) H
  leaving_kept h i exists there =
      hall_kept (leaves_kept kept q (left_in s.world.state.entries i there)) h (settled q h x) (record {
        low = exists;
        rise = λ k. cond_both (any_at h q) x _ (λ (w : Hall). get_or x.taken k 0 ≤ get_or w.taken k 0) (λ _. omega arith) (λ _. omega arith);
        lasts = cond_both (any_at h q) x _ (λ (w : Hall). x.last ≤ w.last) (λ _. omega arith) (λ _. omega arith);
        mode = λ e j a. cond_both (any_at h q) x _ (λ (w : Hall). locks w.mode ≡ locks x.mode) (λ _. refl)
            (λ none. absurd (any_none h q none e (standing_in q e j) a));
      })
    where
      q : List Entry
      q = without s.world.state.entries i

      x : Hall
      x = hall_at s.world.state h

  module _ (place : ℕ) (v : Vote) (i : ℕ) (e : Entry) (met : Voted s place v i e) (true_vote : TrueVote said v) where
    in_queue : e ∈ s.world.state.entries
    in_queue = in_at s.world.state.entries i no_entry e met.there met.is

    -- a commit vote is added
    counted_right : v.status ≡ 1 → Counted said H.issues (counted e v)
    counted_right commit =
        let c = kept.told.queued e in_queue in
        let new : said e.transaction v.from ≡ agreed v.stamp = ap (λ (t : ℕ). said t v.from) met.same_transaction ∙ true_vote.commit commit in
        record {
          meant = c.meant;
          voted = λ k n. elim (names_or e.votes (2 ^ v.from) k n) [
            | inl b ↦ let a = c.voted k b in let l = a.2 in (a.0, a.1, omega arith)
            | inr b ↦ (v.stamp, ap (said e.transaction) (names_pow v.from k b) ∙ new, omega arith)
          ];
          stamped = elim (cases_lt e.stamp v.stamp) [
            | inl l ↦ (v.from, met.named, new ∙ ap agreed (omega arith))
            | inr l ↦ let a = c.stamped in (a.0, a.1, a.2 ∙ ap agreed (omega arith))
          ];
        }

    pub counts_kept : v.status ≡ 1 → Kept m said (with_state s (with_entries s.world.state (set s.world.state.entries i (counted e v)))) H
    counts_kept commit = votes_kept kept (set s.world.state.entries i (counted e v)) (counted e v) e in_queue
        (record { hall = refl; transaction = refl; class = refl; keys = refl; operation = refl; stamp = omega arith })
        (λ f j. elim (in_set s.world.state.entries i (counted e v) f j) [ inl p ↦ inr p | inr b ↦ inl b ])
        (counted_right commit)

    -- any other vote removes the entry
    pub removes_kept : v.to < length s.world.state.halls → (v.status ≡ 1 → ⊥) → Room s.world 1 → Kept m said (removed s v i e) (with_fallen H (record { hall = v.to; transaction = v.transaction }))
    removes_kept exists other room =
        let meant = (kept.told.queued e in_queue).meant in
        sending_kept (falls_kept (leaving_kept v.to i exists met.there) (record { hall = v.to; transaction = v.transaction }) (record {
          issue = meant.issue;
          found = ap (λ (t : ℕ). issue_of t H.issues) (sym met.same_transaction) ∙ meant.found;
          by = (v.from, ap (λ (x : ℕ). names x v.from) (sym meant.halls_is) ∙ met.named, true_vote.other other);
        }))
        (reply_of v.transaction v.to e.stamp v.status no_answer ∷ []) (record { long = room.long; room = room.room })
        (λ w j. subst (Genuine said H.issues) (sym (in_one j)) tt)

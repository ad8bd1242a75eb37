-- The entries that wait, in the memory of the queue.
use Rattle.std.proofs.Common.{◌≡◌, ℕ, ◌-◌, ◌^◌, ◌<◌, ◌≤◌, max, not, eqb, true, false, List, length, get_or, set, take, refl, sym, ap, ◌∙◌, subst, inr, arith}
use Rattle.std.specs.Prelude.{bit_or}
use Rattle.congress.proofs.Kept.{voted_more, kept_at, kept_hall, kept_votes, kept_without}
use Rattle.congress.specs.Kept.{locks, kept}
use Rattle.congress.specs.Queue.{no_entry, entry_in, any_at, without}
use Rattle.congress.specs.State.{Scene, no_hall}
use Rattle.congress.specs.Tables.{with_mode}
use Rattle.congress.specs.Votes.{settled, counts, counted, count_vote, vote_on}
use Rattle.congress.specs.declared.tables.Entry.{Entry}
use Rattle.congress.specs.declared.tables.Hall.{Hall}
use Rattle.congress.specs.declared.tables.Mode.TheVariants.{Timestamp, Locking}
use Rattle.congress.specs.declared.tables.Mode.{Mode}
use Rattle.records.specs.Halls.{names}
use Rattle.records.specs.declared.messages.Vote.{Vote}
use Rattle.std.proofs.lemmas.Bool.{and_parts, cond-true, cond_both, true≢false}
use Rattle.std.proofs.Math.Seq.{take-set-lt, take-take}
use Rattle.std.proofs.lemmas.List.{length-take-le, get_or-take, set-get_or}

pub set_in : (queue : List Entry) (n i : ℕ) (e : Entry) → i < n → take n (set queue i e) ≡ set (take n queue) i e
set_in queue n i e l = take-set-lt n queue i e l

-- one leaves, and the last takes its place
pub removed_in : (queue : List Entry) (n i : ℕ) → i < n → n ≤ length queue
    → take (n - 1) (set queue i (get_or queue (n - 1) no_entry)) ≡ without (take n queue) i
removed_in queue n i l fits =
    let v = get_or queue (n - 1) no_entry in
    sym (take-take (n - 1) n (set queue i v) (omega arith)) ∙ ap (take (n - 1)) (take-set-lt n queue i v l)
    ∙ ap (λ (w : Entry). take (n - 1) (set (take n queue) i w)) (sym (get_or-take n queue (n - 1) no_entry (omega arith)))
    ∙ ap (λ (m : ℕ). take (m - 1) (set (take n queue) i (get_or (take n queue) (m - 1) no_entry))) (sym (length-take-le n queue fits))

pub kept_set_in : (halls : List Hall) (queue : List Entry) (n i : ℕ) (e : Entry) → i < n → kept halls (set (take n queue) i e) ≡ true → kept halls (take n (set queue i e)) ≡ true
kept_set_in halls queue n i e l k = subst (λ (es : List Entry). kept halls es ≡ true) (sym (set_in queue n i e l)) k

pub kept_removed_in : (halls : List Hall) (queue : List Entry) (n i : ℕ) → i < n → n ≤ length queue → kept halls (take n queue) ≡ true
    → kept halls (take (n - 1) (set queue i (get_or queue (n - 1) no_entry))) ≡ true
kept_removed_in halls queue n i l fits k =
    subst (λ (es : List Entry). kept halls es ≡ true) (sym (removed_in queue n i l fits))
    (kept_without halls (take n queue) i k (let e = length-take-le n queue fits in omega arith))

-- a hall without entries is back in timestamp mode
pub kept_settles : (halls : List Hall) (es : List Entry) (h : ℕ) → any_at h es ≡ false → kept halls es ≡ true → kept (set halls h (with_mode (get_or halls h no_hall) Timestamp)) es ≡ true
kept_settles halls es h none k = kept_hall halls es h (with_mode (get_or halls h no_hall) Timestamp) k (λ c. omega arith) (λ _. inr none)

-- a hall in timestamp mode stays as it is
same_mode : (hall : Hall) (mode : Mode) → hall.mode ≡ mode → with_mode hall mode ≡ hall
same_mode hall mode e = ap (with_mode hall) (sym e)

not_locking : (mode : Mode) → locks mode ≡ false → mode ≡ Timestamp
not_locking Timestamp e = refl
not_locking Locking e = absurd (true≢false e)

pub settled_stays : (halls : List Hall) (es : List Entry) (h : ℕ) → locks (get_or halls h no_hall).mode ≡ false
    → set halls h (settled es h (get_or halls h no_hall)) ≡ halls
settled_stays halls es h e =
    let hall = get_or halls h no_hall in
    let same : settled es h hall ≡ hall = cond_both (any_at h es) hall (with_mode hall Timestamp) (λ x. x ≡ hall) (λ _. refl) (λ _. same_mode hall Timestamp (not_locking hall.mode e)) in
    ap (set halls h) same ∙ set-get_or halls h no_hall

-- a vote that counts keeps what is kept
pub kept_counts : (halls : List Hall) (es : List Entry) (i : ℕ) (e : Entry) (v : Vote) → kept halls es ≡ true → i < length es → entry_in es i ≡ e → counts e v.from ≡ true
    → kept halls (set es i (counted e v)) ≡ true
kept_counts halls es i e v k l is c =
    subst (λ (x : Entry). counts x v.from ≡ true → kept halls (set es i (counted x v)) ≡ true) is
    (λ now. let x = entry_in es i in
    kept_votes halls es i (bit_or x.votes (2 ^ v.from)) (max x.stamp v.stamp) k l
    (voted_more x v.from (max x.stamp v.stamp) (kept_at halls es i k l).0 (and_parts (names x.halls v.from) (not (names x.votes v.from)) now).0))
    c

-- what a commit vote that counts comes to
pub commit_counts : (s : Scene) (v : Vote) (place : ℕ) (e : Entry) → counts e v.from ≡ true → eqb v.status 1 ≡ true → vote_on s v place e ≡ count_vote s v place (counted e v)
commit_counts s v place e c k = cond-true (counts e v.from) _ _ c ∙ cond-true (eqb v.status 1) _ _ k

-- What every congress keeps of its queue, at each place and between any two, and how a change keeps it.
use Rattle.std.proofs.Common.{◌≡◌, ℕ, zero, suc, ◌-◌, ◌^◌, ◌<◌, ◌≤◌, true, false, not, ◌||◌, ◌⊎◌, List, [], ◌∷◌, ◌++◌, length, get_or, set, sym, refl, ap, ◌∙◌, subst, inl, inr, arith, get_or-set_other, get_or-set_same}
use Rattle.std.specs.Prelude.{◌==◌, bit_or}
use Rattle.std.specs.List.{All, list_all}
use Rattle.congress.proofs.Apart.{TwoApart, flip_apart}
use Rattle.congress.proofs.Between.{Between, between_push, between_set, between_without}
use Rattle.congress.proofs.Sets.{or_pow, or_pow_more, names_parts, names_or_left, names_pow_self}
use Rattle.congress.specs.Kept.{voted, locks, coordinated, suits, apart, kept}
use Rattle.congress.specs.Queue.{no_entry, entry_in, any_at, without}
use Rattle.congress.specs.State.{no_hall}
use Rattle.congress.specs.Tables.{with_clock, with_votes}
use Rattle.congress.specs.declared.tables.Entry.{Entry}
use Rattle.congress.specs.declared.tables.Hall.{Hall}
use Rattle.records.specs.Halls.{names}
use Rattle.records.specs.Transactions.{console, sequence}
use Rattle.std.proofs.lemmas.Bool.{and_parts, and_from, or_cases, or_left, or_right, not-true, not_from_false, both_ways, leb-true, le-leb, eqb-true, eq-eqb, cases_eq, cases_lt, cases_Bool}
use Rattle.std.proofs.lemmas.List.{set_past}
use Rattle.std.proofs.lemmas.List.Elements.{All-nil, All-cons, All-head, All-tail, All-from_get_or, All-push, All-set, All-take}
use Rattle.std.proofs.lemmas.List.Folds.{list_any_at}
use Rattle.std.proofs.lemmas.List.Sums.{AllPass-from_list_all, list_all-from_AllPass}

-- Votes.

pub voted_from : (e : Entry) → bit_or e.votes e.halls ≡ e.halls → names e.votes e.hall ≡ true → voted e ≡ true
voted_from e among own = and_from (bit_or e.votes e.halls == e.halls) (names e.votes e.hall) (eq-eqb (bit_or e.votes e.halls) e.halls among) own

pub votes_within : (e : Entry) → voted e ≡ true → bit_or e.votes e.halls ≡ e.halls
votes_within e h = eqb-true (bit_or e.votes e.halls) e.halls (and_parts (bit_or e.votes e.halls == e.halls) (names e.votes e.hall) h).0

-- a vote of one of its halls is added
pub voted_more : (e : Entry) (from stamp : ℕ) → voted e ≡ true → names e.halls from ≡ true → voted (with_votes e (bit_or e.votes (2 ^ from)) stamp) ≡ true
voted_more e from stamp h named =
    let own = (and_parts (bit_or e.votes e.halls == e.halls) (names e.votes e.hall) h).1 in
    voted_from (with_votes e (bit_or e.votes (2 ^ from)) stamp)
    (or_pow_more e.votes e.halls from (votes_within e h) (names_parts e.halls from named).1)
    (names_or_left e.votes (2 ^ from) e.hall own)

-- a new entry has the vote of its own hall
pub voted_new : (e : Entry) → e.votes ≡ 2 ^ e.hall → names e.halls e.hall ≡ true → voted e ≡ true
voted_new e own named =
    let p = names_parts e.halls e.hall named in
    voted_from e
    (ap (λ (v : ℕ). bit_or v e.halls) own ∙ or_pow e.halls e.hall p.1)
    (ap (λ (v : ℕ). names v e.hall) own ∙ names_pow_self e.hall p.0)

-- An entry at its hall.

pub suits_from : (x : Hall) (e : Entry) → (coordinated e.class ≡ true → locks x.mode ≡ true)
    → sequence e.transaction ≤ get_or x.taken (console e.transaction) 0 → suits x e ≡ true
suits_from x e locking taken =
    and_from (not (coordinated e.class) || locks x.mode) _
    (elim (cases_Bool (coordinated e.class)) [
      | inl y ↦ or_right (not (coordinated e.class)) (locks x.mode) (locking y)
      | inr n ↦ or_left (not (coordinated e.class)) (locks x.mode) (not_from_false (coordinated e.class) n)
    ])
    (le-leb (sequence e.transaction) (get_or x.taken (console e.transaction) 0) taken)

pub suits_taken : (x : Hall) (e : Entry) → suits x e ≡ true → sequence e.transaction ≤ get_or x.taken (console e.transaction) 0
suits_taken x e h = leb-true (sequence e.transaction) (get_or x.taken (console e.transaction) 0) (and_parts (not (coordinated e.class) || locks x.mode) _ h).1

pub suits_locks : (x : Hall) (e : Entry) → suits x e ≡ true → coordinated e.class ≡ true → locks x.mode ≡ true
suits_locks x e h c =
    elim (or_cases (not (coordinated e.class)) (locks x.mode) (and_parts (not (coordinated e.class) || locks x.mode) _ h).0) [
      | inl n ↦ absurd (both_ways (coordinated e.class) (not-true (coordinated e.class) n) c)
      | inr y ↦ y
    ]

-- The queue by its places.

-- what each entry keeps
abbrev pub WaitsWell : List Hall → Entry → Type 0
WaitsWell halls e = (voted e ≡ true) × (suits (get_or halls e.hall no_hall) e ≡ true)

pub kept_from : (halls : List Hall) (es : List Entry) → All (WaitsWell halls) es → Between TwoApart es → kept halls es ≡ true
kept_from halls [] fit between = refl
kept_from halls (e ∷ es) fit between =
    let own = All-head (WaitsWell halls) e es fit in
    and_from (voted e) _ own.0
    (and_from (suits (get_or halls e.hall no_hall) e) _ own.1
    (and_from (list_all (apart e) es) (kept halls es)
    (list_all-from_AllPass (apart e) es (All-from_get_or (TwoApart e) es no_entry (λ i l. between 0 (suc i) (omega arith) (omega arith) (omega arith))))
    (kept_from halls es (All-tail (WaitsWell halls) e es fit) (λ i j l m n. between (suc i) (suc j) (omega arith) (omega arith) (λ q. n (omega arith))))))

kept_parts : (halls : List Hall) (e : Entry) (es : List Entry) → kept halls (e ∷ es) ≡ true → WaitsWell halls e × All (TwoApart e) es × (kept halls es ≡ true)
kept_parts halls e es k =
    let one = and_parts (voted e) _ k in
    let two = and_parts (suits (get_or halls e.hall no_hall) e) _ one.1 in
    let three = and_parts (list_all (apart e) es) (kept halls es) two.1 in
    ((one.0, two.0), AllPass-from_list_all (apart e) es three.0, three.1)

pub kept_fits : (halls : List Hall) (es : List Entry) → kept halls es ≡ true → All (WaitsWell halls) es
kept_fits halls [] k = All-nil (WaitsWell halls)
kept_fits halls (e ∷ es) k = let p = kept_parts halls e es k in All-cons (WaitsWell halls) e es p.0 (kept_fits halls es p.2)

pub kept_between : (halls : List Hall) (es : List Entry) → kept halls es ≡ true → Between TwoApart es
kept_between halls [] k i j l m n = absurd (omega arith)
kept_between halls (e ∷ es) k zero zero l m n = absurd (n refl)
kept_between halls (e ∷ es) k zero (suc j) l m n = (kept_parts halls e es k).1 j no_entry (omega arith)
kept_between halls (e ∷ es) k (suc i) zero l m n = flip_apart e (entry_in es i) ((kept_parts halls e es k).1 i no_entry (omega arith))
kept_between halls (e ∷ es) k (suc i) (suc j) l m n =
    kept_between halls es (kept_parts halls e es k).2 i j (omega arith) (omega arith) (λ q. n (omega arith))

pub kept_at : (halls : List Hall) (es : List Entry) (i : ℕ) → kept halls es ≡ true → i < length es
    → (voted (entry_in es i) ≡ true) × (suits (get_or halls (entry_in es i).hall no_hall) (entry_in es i) ≡ true)
kept_at halls es i k l = kept_fits halls es k i no_entry l

-- Changes.

-- what holds of hall k once hall h has become x, where h is in range and where it may not be
pub by_hall : (P : Hall → Type 0) (halls : List Hall) (h : ℕ) (x : Hall) → h < length halls → (k : ℕ) → (k ≡ h → P x) → ((k ≡ h → ⊥) → P (get_or halls k no_hall))
    → P (get_or (set halls h x) k no_hall)
by_hall P halls h x l k here else = elim (cases_eq k h) [
  | inl e ↦ subst P (sym (ap (λ (i : ℕ). get_or (set halls h x) i no_hall) e ∙ get_or-set_same halls h x no_hall l)) (here e)
  | inr n ↦ subst P (sym (get_or-set_other halls h k x no_hall n)) (else n)
]

by_hall_any : (P : Hall → Type 0) (halls : List Hall) (h : ℕ) (x : Hall) (k : ℕ) → (k ≡ h → P x) → P (get_or halls k no_hall) → P (get_or (set halls h x) k no_hall)
by_hall_any P halls h x k here else = elim (cases_lt h (length halls)) [
  | inl l ↦ by_hall P halls h x l k here (λ _. else)
  | inr o ↦ subst (λ (l : List Hall). P (get_or l k no_hall)) (sym (set_past halls h x o)) else
]

-- a hall records more, and stays in locking mode or has no entry
pub kept_hall : (halls : List Hall) (es : List Entry) (h : ℕ) (x : Hall) → kept halls es ≡ true
    → ((k : ℕ) → get_or (get_or halls h no_hall).taken k 0 ≤ get_or x.taken k 0)
    → (locks (get_or halls h no_hall).mode ≡ true → (locks x.mode ≡ true) ⊎ (any_at h es ≡ false))
    → kept (set halls h x) es ≡ true
kept_hall halls es h x k rise mode =
    kept_from (set halls h x) es (All-from_get_or (WaitsWell (set halls h x)) es no_entry fits) (kept_between halls es k)
  where
    old : Hall
    old = get_or halls h no_hall

    locking : (i : ℕ) → i < length es → (entry_in es i).hall ≡ h → locks old.mode ≡ true → locks x.mode ≡ true
    locking i l here y = elim (mode y) [
      | inl stays ↦ stays
      | inr none ↦ absurd (both_ways (any_at h es) none (list_any_at (λ (e : Entry). e.hall == h) es i no_entry l (eq-eqb (entry_in es i).hall h here)))
    ]

    fits : (i : ℕ) → i < length es → WaitsWell (set halls h x) (entry_in es i)
    fits i l =
        let e = entry_in es i in
        let was = kept_at halls es i k l in (
          was.0,
          by_hall_any (λ (y : Hall). suits y e ≡ true) halls h x e.hall
              (λ here.
              let suit = subst (λ (j : ℕ). suits (get_or halls j no_hall) e ≡ true) here was.1 in
              suits_from x e (λ c. locking i l here (suits_locks old e suit c))
              (let before = suits_taken old e suit in let more = rise (console e.transaction) in omega arith))
              was.1,
        )

-- the time of a hall changes neither its mode nor what it has recorded
pub kept_clock : (halls : List Hall) (es : List Entry) (h time : ℕ) → kept halls es ≡ true → kept (set halls h (with_clock (get_or halls h no_hall) time)) es ≡ true
kept_clock halls es h time k = kept_hall halls es h (with_clock (get_or halls h no_hall) time) k (λ c. omega arith) (λ locking. inl locking)

pub kept_push : (halls : List Hall) (es : List Entry) (e : Entry) → kept halls es ≡ true → voted e ≡ true → suits (get_or halls e.hall no_hall) e ≡ true
    → ((i : ℕ) → i < length es → apart (entry_in es i) e ≡ true) → kept halls (es ++ (e ∷ [])) ≡ true
kept_push halls es e k votes suit new =
    kept_from halls (es ++ (e ∷ [])) (All-push (WaitsWell halls) es e (kept_fits halls es k) (votes, suit))
    (between_push TwoApart flip_apart es e (kept_between halls es k) new)

pub kept_votes : (halls : List Hall) (es : List Entry) (i votes stamp : ℕ) → kept halls es ≡ true → i < length es
    → voted (with_votes (entry_in es i) votes stamp) ≡ true → kept halls (set es i (with_votes (entry_in es i) votes stamp)) ≡ true
kept_votes halls es i votes stamp k l now =
    let x = with_votes (entry_in es i) votes stamp in
    kept_from halls (set es i x) (All-set (WaitsWell halls) es i x (now, (kept_at halls es i k l).1) (kept_fits halls es k))
    (between_set TwoApart flip_apart es i x (λ f a. a) (kept_between halls es k))

pub kept_without : (halls : List Hall) (es : List Entry) (i : ℕ) → kept halls es ≡ true → i < length es → kept halls (without es i) ≡ true
kept_without halls es i k l =
    let last = entry_in es (length es - 1) in
    kept_from halls (without es i)
    (All-take (WaitsWell halls) (length es - 1) (set es i last) (All-set (WaitsWell halls) es i last (kept_at halls es (length es - 1) k (omega arith)) (kept_fits halls es k)))
    (between_without TwoApart flip_apart es i l (kept_between halls es k))

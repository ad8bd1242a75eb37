-- A hall that takes a request keeps what every congress keeps.
use Rattle.std.proofs.Common.{◌≡◌, ℕ, ◌-◌, ◌<◌, ◌≤◌, true, false, cond, not, ◌⊎◌, List, [], ◌∷◌, ◌++◌, length, get_or, set, refl, sym, ap, ◌∙◌, subst, inl, inr, arith, get_or-set_other, get_or-set_same}
use lib.Bits.{and_zero_r}
use Rattle.std.specs.Prelude.{◌==◌, bit_and}
use Rattle.book.specs.Model.{Model}
use Rattle.congress.proofs.Apart.{apart_from}
use Rattle.congress.proofs.Sent.{votes_count}
use Rattle.congress.proofs.Sets.{names_parts}
use Rattle.congress.specs.Sending.{votes_of, reply_of}
use Rattle.std.specs.Int.Count.{ones}
use Rattle.std.proofs.lemmas.List.{length_push}
use Rattle.records.specs.Classes.{status_number}
use Rattle.records.specs.declared.classes.Status.{Status}
use Rattle.congress.proofs.Kept.{voted_new, suits_from, suits_taken, kept_at, kept_hall, kept_push}
use Rattle.congress.specs.Kept.{locks, coordinated, suits, apart, kept}
use Rattle.congress.specs.Queue.{no_entry, entry_in, any_at, held_at, holds_at}
use Rattle.congress.specs.Requests.{hall_of, class_in, verdict, by_verdict, fate_busy, fate_free, fate_locking, fate_timestamp, fate, recorded, mode_for, locked_for, entry_for, falling, needs_entry, is_old}
use Rattle.congress.specs.State.{Scene, no_hall}
use Rattle.congress.specs.Tables.{with_last}
use Rattle.congress.specs.declared.fates.Fate.{Fate}
use Rattle.congress.specs.declared.fates.Fate.TheVariants.{Conflicts}
use Rattle.congress.specs.declared.tables.Entry.{Entry}
use Rattle.congress.specs.declared.tables.Hall.{Hall}
use Rattle.congress.specs.declared.tables.Mode.{Mode}
use Rattle.records.specs.Halls.{names}
use Rattle.records.specs.Transactions.{console, sequence}
use Rattle.records.specs.declared.Answer.{Answer}
use Rattle.records.specs.declared.classes.Class.{Class}
use Rattle.records.specs.declared.classes.Class.TheVariants.{Single, Independent, Coordinated}
use Rattle.records.specs.declared.messages.Request.{Request}
use Rattle.std.proofs.lemmas.Bool.{cond_both, cond-true, cond-false, not_from_false, cases_eq, cases_lt, cases_Bool, eqb-true, eq-eqb, leb-false, and_from, both_ways, true≢false}
use Rattle.std.proofs.lemmas.List.{set_past}
use Rattle.std.proofs.lemmas.List.Folds.{list_any_at}

single_not : Single ≡ Coordinated → ⊥
single_not e = true≢false (sym (ap coordinated e))

independent_not : Independent ≡ Coordinated → ⊥
independent_not e = true≢false (sym (ap coordinated e))

-- a recorded sequence that is new is above what was recorded
pub records_rise : (hall : Hall) (t : ℕ) → is_old hall t ≡ false → (k : ℕ) → get_or hall.taken k 0 ≤ get_or (recorded hall t).taken k 0
records_rise hall t new k =
    let above = leb-false (sequence t) (get_or hall.taken (console t) 0) new in
    elim (cases_lt (console t) (length hall.taken)) [
      | inr past ↦ let e = ap (λ (l : List ℕ). get_or l k 0) (set_past hall.taken (console t) (sequence t) past) in omega arith
      | inl inside ↦ elim (cases_eq k (console t)) [
        | inl is ↦
            let here = get_or-set_same hall.taken (console t) (sequence t) 0 inside in
            let now = ap (λ (i : ℕ). get_or (set hall.taken (console t) (sequence t)) i 0) is in
            let was = ap (λ (i : ℕ). get_or hall.taken i 0) is in
            omega arith
        | inr other ↦ let e = get_or-set_other hall.taken (console t) k (sequence t) 0 other in omega arith
      ]
    ]

-- a hall that records a new sequence, and whatever its last becomes
pub kept_records : (halls : List Hall) (es : List Entry) (h t last : ℕ) → kept halls es ≡ true → is_old (get_or halls h no_hall) t ≡ false
    → kept (set halls h (with_last (recorded (get_or halls h no_hall) t) last)) es ≡ true
kept_records halls es h t last k new =
    kept_hall halls es h (with_last (recorded (get_or halls h no_hall) t) last) k (records_rise (get_or halls h no_hall) t new) (λ y. inl y)

-- a hall whose last becomes another
pub kept_last : (halls : List Hall) (es : List Entry) (h last : ℕ) → kept halls es ≡ true → kept (set halls h (with_last (get_or halls h no_hall) last)) es ≡ true
kept_last halls es h last k = kept_hall halls es h (with_last (get_or halls h no_hall) last) k (λ c. omega arith) (λ y. inl y)

-- What is known of a hall where a request enters: no key of it is held there, and a coordinated one finds no entry.
module _ (m : Model) (s : Scene) (r : Request) where
  abbrev pub Free : Type 0
  Free = locks (hall_of s r).mode ≡ true → held_at r.to (m.keys r.operation) s.world.state.entries ≡ false

  abbrev pub Empty : Type 0
  Empty = locks (hall_of s r).mode ≡ false → class_in r ≡ Coordinated → any_at r.to s.world.state.entries ≡ false

module _ (m : Model) (s : Scene) (r : Request) (enters : needs_entry (fate m s r) ≡ true) where
  no_entry_needed : false ≡ true → ⊥
  no_entry_needed e = true≢false (sym e)

  free : Free m s r
  free k =
      cond_both (held_at r.to (m.keys r.operation) s.world.state.entries) Conflicts (fate_free (verdict m s r) (class_in r))
      (λ (f : Fate). needs_entry f ≡ true → held_at r.to (m.keys r.operation) s.world.state.entries ≡ false)
      (λ _ e. absurd (no_entry_needed e)) (λ n _. n)
      (ap needs_entry (sym (cond-true (locks (hall_of s r).mode) (fate_locking m s r) (fate_timestamp m s r (class_in r)) k)) ∙ enters)

  timestamp : (c : Class) → c ≡ Coordinated → needs_entry (fate_timestamp m s r c) ≡ true → any_at r.to s.world.state.entries ≡ false
  timestamp Single c e = absurd (single_not c)
  timestamp Independent c e = absurd (independent_not c)
  timestamp Coordinated c e =
      cond_both (any_at r.to s.world.state.entries) fate_busy (by_verdict (verdict m s r))
      (λ (f : Fate). needs_entry f ≡ true → any_at r.to s.world.state.entries ≡ false)
      (λ _ e. absurd (no_entry_needed e)) (λ n _. n) e

  empty : Empty m s r
  empty k c =
      timestamp (class_in r) c
      (ap needs_entry (sym (cond-false (locks (hall_of s r).mode) (fate_locking m s r) (fate_timestamp m s r (class_in r)) k)) ∙ enters)

-- The request enters.
module _ (m : Model) (s : Scene) (r : Request) (free : Free m s r) (empty : Empty m s r) where
  abbrev es : List Entry
  es = s.world.state.entries

  abbrev halls : List Hall
  halls = s.world.state.halls

  abbrev keys : ℕ
  keys = m.keys r.operation

  -- the hall that keeps the part
  abbrev hall' : Hall
  hall' = locked_for (recorded (hall_of s r) r.transaction) (class_in r)

  -- its mode stays locking, or there is no entry
  mode_stays : (c : Class) → class_in r ≡ c → (locks (mode_for (hall_of s r).mode c) ≡ locks (hall_of s r).mode) ⊎ (any_at r.to es ≡ false)
  mode_stays Single c = inl refl
  mode_stays Independent c = inl refl
  mode_stays Coordinated c = elim (cases_Bool (locks (hall_of s r).mode)) [
    | inl k ↦ inl (sym k)
    | inr k ↦ inr (empty k c)
  ]

  hall_kept : kept halls es ≡ true → is_old (hall_of s r) r.transaction ≡ false → kept (set halls r.to hall') es ≡ true
  hall_kept k new =
      kept_hall halls es r.to hall' k (records_rise (hall_of s r) r.transaction new)
      (λ y. elim (mode_stays (class_in r) refl) [ inl same ↦ inl (same ∙ y) | inr none ↦ inr none ])

  coordinated_locks : (mode : Mode) (c : Class) → coordinated c ≡ true → locks (mode_for mode c) ≡ true
  coordinated_locks mode Single e = absurd (true≢false (sym e))
  coordinated_locks mode Independent e = absurd (true≢false (sym e))
  coordinated_locks mode Coordinated e = refl

  -- the new entry is apart from each that waits
  new_apart : kept halls es ≡ true → is_old (hall_of s r) r.transaction ≡ false → (stamp i : ℕ) → i < length es → apart (entry_in es i) (entry_for m (hall_of s r) r stamp) ≡ true
  new_apart k new stamp i l = apart_from e (entry_for m (hall_of s r) r stamp) (λ same. (other same, no_key same))
    where
      e : Entry
      e = entry_in es i

      other : e.hall ≡ r.to → e.transaction ≡ r.transaction → ⊥
      other same t =
          let taken = suits_taken (get_or halls e.hall no_hall) e (kept_at halls es i k l).1 in
          let above = leb-false (sequence r.transaction) (get_or (hall_of s r).taken (console r.transaction) 0) new in
          let here : get_or (get_or halls e.hall no_hall).taken (console e.transaction) 0 ≡ get_or (hall_of s r).taken (console r.transaction) 0 =
          ap (λ (h : ℕ). get_or (get_or halls h no_hall).taken (console e.transaction) 0) same ∙ ap (λ (n : ℕ). get_or (hall_of s r).taken (console n) 0) t in
          let seq : sequence e.transaction ≡ sequence r.transaction = ap sequence t in
          omega arith

      some_here : e.hall ≡ r.to → any_at r.to es ≡ true
      some_here same = list_any_at (λ (f : Entry). f.hall == r.to) es i no_entry l (eq-eqb e.hall r.to same)

      was_locking : e.hall ≡ r.to → locks hall'.mode ≡ true → locks (hall_of s r).mode ≡ true
      was_locking same k' = elim (mode_stays (class_in r) refl) [
        | inl stays ↦ sym stays ∙ k'
        | inr none ↦ absurd (both_ways (any_at r.to es) none (some_here same))
      ]

      not_held : e.hall ≡ r.to → held_at r.to keys es ≡ false → bit_and e.keys keys ≡ 0
      not_held same none = elim (cases_Bool (bit_and e.keys keys == 0)) [
        | inl zero ↦ eqb-true (bit_and e.keys keys) 0 zero
        | inr some ↦ absurd (both_ways (held_at r.to keys es) none
            (list_any_at (holds_at r.to keys) es i no_entry l (and_from (e.hall == r.to) (not (bit_and e.keys keys == 0)) (eq-eqb e.hall r.to same) (not_from_false (bit_and e.keys keys == 0) some))))
      ]

      no_key : e.hall ≡ r.to → bit_and e.keys (cond (locks hall'.mode) keys 0) ≡ 0
      no_key same =
          cond_both (locks hall'.mode) keys 0 (λ (w : ℕ). bit_and e.keys w ≡ 0)
          (λ y. not_held same (free (was_locking same y)))
          (λ _. and_zero_r e.keys)

  pub enters_kept : (stamp : ℕ) → kept s.world.state.halls s.world.state.entries ≡ true → is_old (hall_of s r) r.transaction ≡ false → names r.halls r.to ≡ true
      → r.to < length s.world.state.halls → console r.transaction < length (hall_of s r).taken
      → kept (set s.world.state.halls r.to (locked_for (recorded (hall_of s r) r.transaction) (class_in r))) (s.world.state.entries ++ (entry_for m (hall_of s r) r stamp ∷ [])) ≡ true
  enters_kept stamp k new named inside wide =
      kept_push (set halls r.to hall') es (entry_for m (hall_of s r) r stamp) (hall_kept k new)
      (voted_new (entry_for m (hall_of s r) r stamp) refl named)
      (subst (λ (x : Hall). suits x (entry_for m (hall_of s r) r stamp) ≡ true) (sym (get_or-set_same halls r.to hall' no_hall inside))
      (suits_from hall' (entry_for m (hall_of s r) r stamp) (coordinated_locks (hall_of s r).mode (class_in r))
      (let e = get_or-set_same (hall_of s r).taken (console r.transaction) (sequence r.transaction) 0 wide in omega arith)))
      (new_apart k new stamp)

pub kept_enters : (m : Model) (s : Scene) (r : Request) → needs_entry (fate m s r) ≡ true → (stamp : ℕ) → kept s.world.state.halls s.world.state.entries ≡ true
    → is_old (hall_of s r) r.transaction ≡ false → names r.halls r.to ≡ true
    → r.to < length s.world.state.halls → console r.transaction < length (hall_of s r).taken
    → kept (set s.world.state.halls r.to (locked_for (recorded (hall_of s r) r.transaction) (class_in r))) (s.world.state.entries ++ (entry_for m (hall_of s r) r stamp ∷ [])) ≡ true
kept_enters m s r enters = enters_kept m s r (free m s r enters) (empty m s r enters)

-- How many messages a request sends.

pub some_named : (r : Request) → r.halls < 256 → names r.halls r.to ≡ true → 1 ≤ ones r.halls
some_named r small named =
    let p = names_parts r.halls r.to named in
    omega (arith, votes_count r.transaction r.to r.halls 0 0 small p.0 p.1)

pub entering_count : (r : Request) (stamp status : ℕ) → r.halls < 256 → names r.halls r.to ≡ true → length (votes_of r.transaction r.to r.halls stamp status) ≡ ones r.halls - 1
entering_count r stamp status small named =
    let p = names_parts r.halls r.to named in
    omega (arith, votes_count r.transaction r.to r.halls stamp status small p.0 p.1)

pub falling_count : (r : Request) (stamp : ℕ) (status : Status) (answer : Answer) → r.halls < 256 → names r.halls r.to ≡ true → length (falling r stamp status answer) ≡ ones r.halls
falling_count r stamp status answer small named =
    let p = names_parts r.halls r.to named in
    omega (
      arith,
      votes_count r.transaction r.to r.halls stamp (status_number status) small p.0 p.1,
      length_push (votes_of r.transaction r.to r.halls stamp (status_number status)) (reply_of r.transaction r.to stamp (status_number status) answer),
    )

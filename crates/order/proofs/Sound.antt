-- What every call keeps of the tables and the queue, whatever the post holds.
use Rattle.std.proofs.Common.{◌≡◌, ℕ, suc, ◌-◌, ◌<◌, ◌≤◌, max, true, false, not, List, [], ◌∷◌, ◌++◌, length, get_or, set, Result, sym, refl, ap, ◌∙◌, subst, inl, inr, arith, length-set, get_or-set_other, get_or-set_same}
use Rattle.std.specs.Prelude.{◌==◌, count_ones}
use Rattle.congress.proofs.Kept.{by_hall, kept_at, kept_between, kept_hall, kept_without, suits_taken}
use Rattle.congress.proofs.Memory.{kept_counts, kept_settles}
use Rattle.congress.proofs.Takes.{records_rise, enters_kept}
use Rattle.congress.specs.Kept.{locks, suits, kept}
use Rattle.congress.specs.Requests.{hall_of, class_in, recorded, locked_for, entry_for, is_old}
use Rattle.std.proofs.lemmas.Bool.{and_from, or_cases, or_left, or_right, eqb-true, eq-eqb, lt-leb, not_from_false, true≢false, cond_both, cases_eq}
use lib.ListN.{get_or-replicate}
use Rattle.book.specs.Model.{Model}
use Rattle.congress.proofs.Apart.{apart_transactions}
use Rattle.congress.proofs.Sent.{requests_few}
use Rattle.congress.proofs.Places.{taken_out_length, taken_out_from}
use Rattle.congress.specs.Calls.{draft_of}
use Rattle.congress.specs.Queue.{no_entry, entry_in, any_at, without}
use Rattle.congress.specs.State.{State, Scene, hall_at, console_at, fresh, no_hall, new_hall, new_halls, new_consoles, with_hall, with_console, with_entries, with_count}
use Rattle.congress.specs.Tables.{with_last, with_mode}
use Rattle.congress.specs.Votes.{settled, leaving, counted}
use Rattle.congress.specs.Work.{raised}
use Rattle.congress.specs.declared.refusals.Refusal.{Refusal}
use Rattle.congress.specs.declared.tables.Console.{Console}
use Rattle.congress.specs.declared.tables.Entry.{Entry}
use Rattle.congress.specs.declared.tables.Hall.{Hall}
use Rattle.congress.specs.declared.tables.Mode.TheVariants.{Timestamp}
use Rattle.order.proofs.Happens.{Asked, MayEnter, Voted, MayWork, Happens, refuses, passes, opens, issues, enters, runs, conflicts, aborts, counts, readies, removes, replies, confirms, frees, works, clocks, drops}
use Rattle.order.proofs.Lawful.{LawfulRequest, lawful_is, vote_to_open}
use Rattle.order.proofs.Lists.{has_place, in_get, in_at}
use Rattle.order.proofs.Posting.{count_few}
use Rattle.order.proofs.Queue.{any_some}
use Rattle.order.specs.Promises.{◌∈◌, WellKept}
use Rattle.order.specs.declared.calls.Call.{Call}
use Rattle.order.specs.declared.calls.Said.{Said}
use Rattle.records.specs.Halls.{names}
use Rattle.records.specs.Transactions.{console, sequence}
use Rattle.records.specs.declared.messages.Request.{Request}
use Rattle.records.specs.declared.messages.Vote.{Vote}
use Rattle.std.proofs.lemmas.List.{get_or-take, length_push}
use Rattle.std.proofs.lemmas.List.Folds.{list_any-append}

-- A state that is well kept, with tables of their sizes.
pub record Sound (s : State) : Type 0 where
  pub few : s.opened ≤ 8
  pub few_entries : length s.entries ≤ 64
  pub few_messages : s.count ≤ 1024
  pub kept : kept s.halls s.entries ≡ true
  -- a hall without entries is in timestamp mode
  pub settled : (h : ℕ) → h < 8 → locks (hall_at s h).mode ≡ true → any_at h s.entries ≡ true
  pub eight : length s.halls ≡ 8
  pub sixteen : length s.consoles ≡ 16
  pub taken : (h : ℕ) → h < 8 → length (hall_at s h).taken ≡ 16

pub well_kept : (s : State) → Sound s → WellKept s
well_kept s k = record {
  few_halls = k.few;
  few_entries = k.few_entries;
  few_messages = k.few_messages;
  kept = k.kept;
  settled = k.settled;
}

-- the sequence of an entry has been taken at its hall
pub recorded_in : (s : State) → Sound s → (e : Entry) → e ∈ s.entries → sequence e.transaction ≤ get_or (hall_at s e.hall).taken (console e.transaction) 0
recorded_in s k e m =
    let g = has_place s.entries e no_entry m in
    suits_taken (hall_at s e.hall) e (subst (λ (x : Entry). suits (hall_at s x.hall) x ≡ true) (sym g.2) (kept_at s.halls s.entries g.0 k.kept g.1).1)

-- the others of the hall are of other transactions
pub others_apart : (s : State) → Sound s → (i : ℕ) → i < length s.entries → (e : Entry) → e ∈ without s.entries i
    → e.hall ≡ (entry_in s.entries i).hall → e.transaction ≡ (entry_in s.entries i).transaction → ⊥
others_apart s sound i l e m same_hall same_transaction =
    let g = has_place (without s.entries i) e no_entry m in
    let size = taken_out_length no_entry s.entries i in
    let in_range = g.1 in
    let u = taken_out_from no_entry s.entries i g.0 l (omega arith) in
    let same : e ≡ entry_in s.entries u.0 = g.2 ∙ u.3 in
    apart_transactions (entry_in s.entries u.0) (entry_in s.entries i) (kept_between s.halls s.entries sound.kept u.0 i u.1 l u.2)
    (ap (λ (w : Entry). w.hall) (sym same) ∙ same_hall) (ap (λ (w : Entry). w.transaction) (sym same) ∙ same_transaction)

-- Open

taken_new : (h : ℕ) → h < 8 → length (hall_at (fresh 0) h).taken ≡ 16
unfolding new_halls new_hall
taken_new h l = ap (λ (x : Hall). length x.taken) (get_or-replicate 8 h new_hall no_hall l)

pub opened_sound : (n : ℕ) → n ≤ 8 → Sound (fresh n)
unfolding new_halls new_hall new_consoles
opened_sound n l = record {
  few = l;
  few_entries = omega arith;
  few_messages = omega arith;
  kept = refl;
  settled = λ h below locking. absurd (true≢false (sym locking ∙ ap (λ (x : Hall). locks x.mode) (get_or-replicate 8 h new_hall no_hall below)));
  eight = refl;
  sixteen = refl;
  taken = taken_new;
}

-- Entries of a hall.

any_found : (h : ℕ) (q : List Entry) → any_at h q ≡ true → (j : ℕ) × (j < length q) × ((entry_in q j).hall ≡ h)
any_found h [] a = absurd (true≢false (sym a))
any_found h (x ∷ xs) a = elim (or_cases (x.hall == h) (any_at h xs) a) [
  | inl e ↦ (0, omega arith, eqb-true x.hall h e)
  | inr m ↦ let r = any_found h xs m in let l = r.1 in (suc r.0, omega arith, r.2)
]

any_push : (h : ℕ) (q : List Entry) (x : Entry) → any_at h q ≡ true → any_at h (q ++ (x ∷ [])) ≡ true
any_push h q x a = list_any-append (λ (e : Entry). e.hall == h) q (x ∷ []) ∙ or_left (any_at h q) (any_at h (x ∷ [])) a

any_push_here : (h : ℕ) (q : List Entry) (x : Entry) → x.hall ≡ h → any_at h (q ++ (x ∷ [])) ≡ true
any_push_here h q x e =
    list_any-append (λ (e : Entry). e.hall == h) q (x ∷ []) ∙ or_right (any_at h q) (any_at h (x ∷ [])) (or_left (x.hall == h) false (eq-eqb x.hall h e))

any_set : (h : ℕ) (q : List Entry) (i : ℕ) (x : Entry) → x.hall ≡ (entry_in q i).hall → any_at h q ≡ true → any_at h (set q i x) ≡ true
any_set h q i x same a =
    let f = any_found h q a in
    let l = f.1 in
    let size = length-set q i x in
    let at : (entry_in (set q i x) f.0).hall ≡ h = elim (cases_eq f.0 i) [
      | inl e ↦ ap (λ (j : ℕ). (entry_in (set q i x) j).hall) e
          ∙ (ap (λ (w : Entry). w.hall) (get_or-set_same q i x no_entry (omega arith)) ∙ (same ∙ (ap (λ (j : ℕ). (entry_in q j).hall) (sym e) ∙ f.2)))
      | inr n ↦ ap (λ (w : Entry). w.hall) (get_or-set_other q i f.0 x no_entry n) ∙ f.2
    ] in
    any_some h (set q i x) (entry_in (set q i x) f.0) (in_get (set q i x) f.0 no_entry (omega arith)) at

-- an entry at another place than i is still there once i has gone
stays : (q : List Entry) (i j : ℕ) → i < length q → j < length q → (j ≡ i → ⊥) → entry_in q j ∈ without q i
stays q i j l m n =
    let last = entry_in q (length q - 1) in
    let size = taken_out_length no_entry q i in
    elim (cases_eq j (length q - 1)) [
      | inl e ↦ in_at (without q i) i no_entry (entry_in q j) (omega arith)
          (get_or-take (length q - 1) (set q i last) i no_entry (omega arith) ∙ (get_or-set_same q i last no_entry l ∙ ap (entry_in q) (sym e)))
      | inr o ↦ in_at (without q i) j no_entry (entry_in q j) (omega arith)
          (get_or-take (length q - 1) (set q i last) j no_entry (omega arith) ∙ get_or-set_other q i j last no_entry n)
    ]

any_without : (h : ℕ) (q : List Entry) (i : ℕ) → i < length q → ((entry_in q i).hall ≡ h → ⊥) → any_at h q ≡ true → any_at h (without q i) ≡ true
any_without h q i l other a =
    let f = any_found h q a in
    any_some h (without q i) (entry_in q f.0) (stays q i f.0 l f.1 (λ e. other (ap (λ (j : ℕ). (entry_in q j).hall) (sym e) ∙ f.2))) f.2

-- What calls leave.
module _ (s : State) (k : Sound s) where
  within : (h : ℕ) → h < s.opened → h < length s.halls
  within h l = let e = k.eight in let f = k.few in omega arith

  taken_set : (h : ℕ) (x : Hall) → h < s.opened → length x.taken ≡ 16 → (i : ℕ) → i < 8 → length (hall_at (with_hall s h x) i).taken ≡ 16
  taken_set h x l size i low = by_hall (λ w. length w.taken ≡ 16) s.halls h x (within h l) i (λ _. size) (λ _. k.taken i low)

  sound_console : (c : ℕ) (x : Console) → Sound (with_console s c x)
  sound_console c x = record {
    few = k.few;
    few_entries = k.few_entries;
    few_messages = k.few_messages;
    kept = k.kept;
    settled = k.settled;
    eight = k.eight;
    sixteen = length-set s.consoles c x ∙ k.sixteen;
    taken = k.taken;
  }

  sound_count : (n : ℕ) → n ≤ 1024 → Sound (with_count s n)
  sound_count n l = record {
    few = k.few;
    few_entries = k.few_entries;
    few_messages = l;
    kept = k.kept;
    settled = k.settled;
    eight = k.eight;
    sixteen = k.sixteen;
    taken = k.taken;
  }

  -- a hall keeps its mode
  sound_hall : (h : ℕ) (x : Hall) → h < s.opened → length x.taken ≡ 16 → ((c : ℕ) → get_or (hall_at s h).taken c 0 ≤ get_or x.taken c 0)
      → x.mode ≡ (hall_at s h).mode → Sound (with_hall s h x)
  sound_hall h x l size rise mode =
      let same : locks x.mode ≡ locks (hall_at s h).mode = ap locks mode in
      record {
        few = k.few;
        few_entries = k.few_entries;
        few_messages = k.few_messages;
        kept = kept_hall s.halls s.entries h x k.kept rise (λ locking. inl (same ∙ locking));
        settled = λ i low. by_hall (λ w. locks w.mode ≡ true → any_at i s.entries ≡ true) s.halls h x (within h l) i
            (λ e locking. k.settled i low (ap (λ (j : ℕ). locks (hall_at s j).mode) e ∙ (sym same ∙ locking)))
            (λ _ locking. k.settled i low locking);
        eight = length-set s.halls h x ∙ k.eight;
        sixteen = k.sixteen;
        taken = taken_set h x l size;
      }

  -- an entry leaves its hall
  sound_left : (h i : ℕ) → h < s.opened → i < length s.entries → (entry_in s.entries i).hall ≡ h → Sound (leaving s h i)
  sound_left h i l in_range here = record {
    few = k.few;
    few_entries = let a = k.few_entries in let e = taken_out_length no_entry s.entries i in omega arith;
    few_messages = k.few_messages;
    kept = cond_both (any_at h q) hall (with_mode hall Timestamp) (λ w. kept (set s.halls h w) q ≡ true)
        (λ _. kept_hall s.halls q h hall others (λ c. omega arith) (λ locking. inl locking))
        (λ none. kept_settles s.halls q h none others);
    settled = λ j low. by_hall (λ w. locks w.mode ≡ true → any_at j q ≡ true) s.halls h x (within h l) j
        (λ e locking. ap (λ (a : ℕ). any_at a q) e ∙ has_entry locking)
        (λ n locking. any_without j s.entries i in_range (λ e. n (sym e ∙ here)) (k.settled j low locking));
    eight = length-set s.halls h x ∙ k.eight;
    sixteen = k.sixteen;
    taken = taken_set h x l (cond_both (any_at h q) hall (with_mode hall Timestamp) (λ w. length w.taken ≡ 16) (λ _. size) (λ _. size));
  }
    where
      q : List Entry
      q = without s.entries i

      hall : Hall
      hall = hall_at s h

      x : Hall
      x = settled q h hall

      size : length hall.taken ≡ 16
      size = k.taken h (let f = k.few in omega arith)

      others : kept s.halls q ≡ true
      others = kept_without s.halls s.entries i k.kept in_range

      has_entry : locks x.mode ≡ true → any_at h q ≡ true
      has_entry = cond_both (any_at h q) hall (with_mode hall Timestamp) (λ w. locks w.mode ≡ true → any_at h q ≡ true)
          (λ y _. y) (λ _ f. absurd (true≢false (sym f)))

-- A request that its hall takes.
module _ (m : Model) (s : Scene) (k : Sound s.world.state) (place : ℕ) (r : Request) (stamp : ℕ) (a : Asked s place r stamp) where
  abbrev st : State
  st = s.world.state

  abbrev hall : Hall
  hall = hall_of s r

  law : LawfulRequest st.opened r
  law = lawful_is st.opened r a.delivered.law

  size : length hall.taken ≡ 16
  size = k.taken r.to (let l = law.exists in let f = k.few in omega arith)

  size_now : length (set hall.taken (console r.transaction) (sequence r.transaction)) ≡ 16
  size_now = length-set hall.taken (console r.transaction) (sequence r.transaction) ∙ size

  is_new : is_old hall r.transaction ≡ false
  is_new = lt-leb (sequence r.transaction) (get_or hall.taken (console r.transaction) 0) a.rises

  -- the hall records the sequence, and no more but the last stamp
  sound_recorded : (last : ℕ) → Sound (with_hall st r.to (with_last (recorded hall r.transaction) last))
  sound_recorded last = sound_hall st k r.to (with_last (recorded hall r.transaction) last) law.exists size_now (records_rise hall r.transaction is_new) refl

  -- the part waits
  sound_enters : MayEnter m s r → Sound (with_entries (with_hall st r.to (locked_for (recorded hall r.transaction) (class_in r))) (st.entries ++ (entry_for m hall r stamp ∷ [])))
  sound_enters may = record {
    few = k.few;
    few_entries = let z = length_push st.entries new in let room = may.room in omega arith;
    few_messages = k.few_messages;
    kept = enters_kept m s r may.free may.empty stamp k.kept is_new law.named inside (let z = size in omega arith);
    settled = λ i low. by_hall (λ w. locks w.mode ≡ true → any_at i (st.entries ++ (new ∷ [])) ≡ true) st.halls r.to hall_now inside i
        (λ e _. any_push_here i st.entries new (sym e)) (λ _ locking. any_push i st.entries new (k.settled i low locking));
    eight = length-set st.halls r.to hall_now ∙ k.eight;
    sixteen = k.sixteen;
    taken = taken_set st k r.to hall_now law.exists size_now;
  }
    where
      hall_now : Hall
      hall_now = locked_for (recorded hall r.transaction) (class_in r)

      new : Entry
      new = entry_for m hall r stamp

      inside : r.to < length st.halls
      inside = within st k r.to law.exists

-- A vote that is counted.
sound_counts : (s : Scene) → Sound s.world.state → (place : ℕ) (v : Vote) (i : ℕ) (e : Entry) → Voted s place v i e
    → Sound (with_entries s.world.state (set s.world.state.entries i (counted e v)))
sound_counts s k place v i e met = record {
  few = k.few;
  few_entries = let few = k.few_entries in let z = length-set st.entries i (counted e v) in omega arith;
  few_messages = k.few_messages;
  kept = kept_counts st.halls st.entries i e v k.kept met.there met.is
      (and_from (names e.halls v.from) (not (names e.votes v.from)) met.named (not_from_false (names e.votes v.from) met.new));
  settled = λ h low locking. any_set h st.entries i (counted e v) (ap (λ (w : Entry). w.hall) (sym met.is)) (k.settled h low locking);
  eight = k.eight;
  sixteen = k.sixteen;
  taken = k.taken;
}
  where
    st : State
    st = s.world.state

-- An entry leaves: by a vote, and once it is done.

sound_removes : (s : Scene) → Sound s.world.state → (place : ℕ) (v : Vote) (i : ℕ) (e : Entry) → Voted s place v i e → Sound (leaving s.world.state v.to i)
sound_removes s k place v i e met =
    sound_left s.world.state k v.to i (vote_to_open s.world.state.opened v met.delivered.law) met.there (ap (λ (w : Entry). w.hall) met.is ∙ met.same_hall)

sound_works : (s : Scene) → Sound s.world.state → (h i : ℕ) (e : Entry) → MayWork s h i e → Sound (leaving (raised s.world.state h e.stamp) h i)
sound_works s k h i e may =
    let st = s.world.state in
    let hall = hall_at st h in
    sound_left (raised st h e.stamp)
    (sound_hall st k h (with_last hall (max hall.last e.stamp)) may.exists (k.taken h (let f = k.few in let l = may.exists in omega arith)) (λ c. omega arith) refl)
    h i may.exists may.there (ap (λ (w : Entry). w.hall) may.is ∙ may.here)

-- every call keeps it
pub sound_step : {m : Model} {s : Scene} {call : Call} {st : Result Said Refusal × Scene} → Happens m s call st → Sound s.world.state → Sound st.1.world.state
sound_step (refuses call why) k = k
sound_step (passes place) k = k
sound_step (opens halls some few) k = opened_sound halls few
sound_step {m} {s} (issues c class halls operations may) k =
    sound_count _ (sound_console s.world.state k c _) _
    (let few = count_few s.world (count_ones halls) may.room in
    let sent = requests_few (draft_of (console_at s.world.state c) c class halls operations) operations in
    omega arith)
sound_step {m} {s} (enters place r stamp a may room) k = sound_count _ (sound_enters m s k place r stamp a may) _ (count_few s.world _ room)
sound_step {m} {s} (runs place r stamp a may room) k = sound_count _ (sound_recorded m s k place r stamp a _) _ (count_few s.world _ room)
sound_step {m} {s} (conflicts place r stamp a room) k = sound_count _ (sound_recorded m s k place r stamp a (hall_of s r).last) _ (count_few s.world _ room)
sound_step {m} {s} (aborts place r stamp a room) k = sound_count _ (sound_recorded m s k place r stamp a (hall_of s r).last) _ (count_few s.world _ room)
sound_step {m} {s} (counts place v i e met status) k = sound_counts s k place v i e met
sound_step {m} {s} (readies place v i e met status) k = sound_counts s k place v i e met
sound_step {m} {s} (removes place v i e met status room) k = sound_count _ (sound_removes s k place v i e met) _ (count_few s.world 1 room)
sound_step {m} {s} (replies place r a) k = sound_console s.world.state k _ _
sound_step {m} {s} (confirms place r a status all) k = sound_console s.world.state k _ _
sound_step {m} {s} (frees place r a) k = sound_console s.world.state k _ _
sound_step {m} {s} (works h i e may) k = sound_count _ (sound_works s k h i e may) _ (count_few s.world 1 may.room)
sound_step {m} {s} (clocks h time there) k =
    sound_hall s.world.state k h _ there (k.taken h (let f = k.few in omega arith)) (λ c. omega arith) refl
sound_step {m} {s} (drops place long there) k = sound_count s.world.state k _ (let f = k.few_messages in omega arith)

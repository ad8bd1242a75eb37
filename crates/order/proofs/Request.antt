-- Deliver, of a request.
use Rattle.std.proofs.Common.{◌≡◌, ℕ, ◌+◌, ◌^◌, ◌<◌, ◌≤◌, max, true, ltb, List, [], ◌∷◌, ◌++◌, length, get_or, set, Some, None, Option, refl, sym, ap, ◌∙◌, subst, inl, inr, arith, get_or-set_other, get_or-set_same}
use Rattle.std.specs.Prelude.{bit_and}
use Rattle.book.proofs.Apart.{apart_sym}
use Rattle.book.specs.Apart.{Apart}
use Rattle.book.specs.Model.{Page, Model, Lawful, turned}
use Rattle.congress.proofs.Sets.{names_pow}
use Rattle.congress.specs.Kept.{locks}
use Rattle.congress.specs.Requests.{hall_of, class_in, verdict, recorded, mode_for, locked_for, entry_for, sent, entering, running, recording}
use Rattle.congress.specs.Sending.{is_other, vote_to, votes_of, reply_of}
use Rattle.congress.specs.State.{State, Scene, scene, hall_at, with_hall, with_state, sending}
use Rattle.congress.specs.Tables.{with_last, with_mode}
use Rattle.congress.specs.declared.fates.Fate.TheVariants.{Enters, Runs}
use Rattle.congress.specs.declared.outcomes.Outcome.TheVariants.{DoneAtOnce}
use Rattle.congress.specs.declared.tables.Entry.{Entry}
use Rattle.congress.specs.declared.tables.Hall.{Hall}
use Rattle.congress.specs.declared.tables.Mode.{Mode}
use Rattle.order.proofs.Changes.{hall_is, hall_kept, speaks_kept, enters_kept, falls_kept, does_kept, standing_in}
use Rattle.order.proofs.Easy.{sending_kept}
use Rattle.order.proofs.Effects.{says, says_here, above_last}
use Rattle.order.proofs.Happens.{Room, MayEnter, MayDo}
use Rattle.order.proofs.Invariant.{Saying, silent, agreed, denied, Sayings, Meant, Genuine, Counted, Agreed, Standing, Holds, last_of, locking_of, taken_of, Kept}
use Rattle.order.proofs.Lawful.{LawfulRequest}
use Rattle.order.proofs.Lists.{some_is, none_is_some, in_push, in_one}
use Rattle.order.proofs.Pages.{put, told_is, turned_is}
use Rattle.order.proofs.Posting.{in_to_each}
use Rattle.order.proofs.Queue.{any_none, held_none}
use Rattle.order.proofs.Sound.{Sound, recorded_in}
use Rattle.order.specs.History.{Issued, History, issue_of, part_given, is_coordinated, part_done, with_done, with_fallen}
use Rattle.order.specs.Plain.{Part}
use Rattle.order.specs.Promises.{◌∈◌}
use Rattle.records.specs.Classes.{class_number}
use Rattle.records.specs.Halls.{names}
use Rattle.records.specs.Transactions.{console, sequence, next_stamp}
use Rattle.records.specs.declared.Answer.{Answer}
use Rattle.records.specs.declared.Operation.{Operation}
use Rattle.records.specs.declared.classes.Class.{Class}
use Rattle.records.specs.declared.classes.Class.TheVariants.{Single, Independent, Coordinated}
use Rattle.records.specs.declared.messages.Message.{Message}
use Rattle.records.specs.declared.messages.Request.{Request}
use Rattle.std.proofs.lemmas.Bool.{cond_both, cond-true, eqb-true, eq-eqb, cases_Bool, cases_eq}

-- a stamp is above the hall's last
pub stamp_above : (high last clock n : ℕ) → next_stamp high last clock ≡ Some n → last < n
stamp_above high last clock n =
    cond_both (ltb (max (max high last) clock) (2 ^ 48)) (Some (max (max high last) clock + 1)) None (λ (o : Option ℕ). o ≡ Some n → last < n)
    (λ _ e. let q : max (max high last) clock + 1 ≡ n = some_is e in omega arith)
    (λ _ e. absurd (none_is_some e))

-- The votes that a hall sends are true once it has spoken.

module _ (said : Sayings) (issues : List Issued) (t own halls : ℕ) where
  vote_in : (stamp status : ℕ) (x : Message) → x ∈ votes_of t own halls stamp status → (h : ℕ) × (x ≡ vote_to t own stamp status h)
  unfolding votes_of
  vote_in stamp status x i = let q = in_to_each (is_other halls own) (vote_to t own stamp status) 8 x i in (q.0, q.3)

  pub commits_true : (stamp : ℕ) → said t own ≡ agreed stamp → (x : Message) → x ∈ votes_of t own halls stamp 1 → Genuine said issues x
  commits_true stamp e x i =
      let q = vote_in stamp 1 x i in
      subst (Genuine said issues) (sym q.1) (record { commit = λ _. e; other = λ n. absurd (n refl) })

  pub others_true : (stamp status : ℕ) (answer : Answer) → (status ≡ 1 → ⊥) → said t own ≡ denied
      → (x : Message) → x ∈ (votes_of t own halls stamp status ++ (reply_of t own stamp status answer ∷ [])) → Genuine said issues x
  others_true stamp status answer other e x i = elim (in_push x (votes_of t own halls stamp status) (reply_of t own stamp status answer) i) [
    | inl j ↦ let q = vote_in stamp status x j in
        subst (Genuine said issues) (sym q.1) (record { commit = λ c. absurd (other c); other = λ _. e })
    | inr p ↦ subst (Genuine said issues) (sym p) tt
  ]

-- What the modes of a hall come to.

coordinated_locks : (mode : Mode) (c : Class) → c ≡ Coordinated → locks (mode_for mode c) ≡ true
coordinated_locks mode c e = ap (λ (w : Class). locks (mode_for mode w)) e

-- an entry that holds its keys, none of which an operation needs, is apart from it
apart_held : (m : Model) (e : Entry) (o : Operation) → Holds m e → bit_and e.keys (m.keys o) ≡ 0 → Apart m e.operation o
apart_held m e o h n = eq-eqb (bit_and (m.keys e.operation) (m.keys o)) 0 (ap (λ (k : ℕ). bit_and k (m.keys o)) (sym h) ∙ n)

-- The request is taken: what all fates share.
module _ {m : Model} {said : Sayings} {s : Scene} {H : History} (sound : Sound s.world.state) (kept : Kept m said s H) (r : Request)
    (law : LawfulRequest s.world.state.opened r) (meant : Meant H.issues r.transaction r.class r.halls r.to r.operation)
    (rises : get_or (hall_of s r).taken (console r.transaction) 0 < sequence r.transaction) where
  abbrev st : State
  st = s.world.state

  abbrev x : Hall
  x = hall_of s r

  abbrev t : ℕ
  t = r.transaction

  low : r.to < 8
  low = let a = law.exists in let b = sound.few in omega arith

  inside : r.to < length st.halls
  inside = let a = low in let b = sound.eight in omega arith

  quiet : said t r.to ≡ silent
  quiet = elim (kept.heard t r.to) [ inl q ↦ q | inr n ↦ absurd (omega arith) ]

  never_done : (d : Part) → d ∈ H.done → d.hall ≡ r.to → d.transaction ≡ t → ⊥
  never_done d i a b =
      let g = kept.told.did d i in
      let k = g.all d.hall g.here in
      let z : silent ≡ agreed k.0 = sym quiet ∙ (ap (λ (j : ℕ). said j r.to) (sym b) ∙ (ap (said d.transaction) (sym a) ∙ k.1)) in
      let y : ◌≡◌ {A = ℕ} 0 1 = cc in omega arith

  not_waiting : (e : Entry) → e ∈ st.entries → e.hall ≡ r.to → e.transaction ≡ t → ⊥
  not_waiting e i a b =
      let c = recorded_in st sound e i in
      let d : get_or (taken_of st e.hall) (console e.transaction) 0 ≡ get_or x.taken (console t) 0 =
      ap (λ (w : ℕ). get_or (taken_of st w) (console e.transaction) 0) a ∙ ap (λ (w : ℕ). get_or x.taken (console w) 0) b in
      let f : sequence e.transaction ≡ sequence t = ap sequence b in
      omega arith

  size : length x.taken ≡ 16
  size = sound.taken r.to low

  new_here : get_or (set x.taken (console t) (sequence t)) (console t) 0 ≡ sequence t
  new_here = get_or-set_same x.taken (console t) (sequence t) 0 (let z = size in omega arith)

  rise : (c : ℕ) → get_or x.taken c 0 ≤ get_or (set x.taken (console t) (sequence t)) c 0
  rise c = elim (cases_eq c (console t)) [
    | inl e ↦ let a : get_or (set x.taken (console t) (sequence t)) c 0 ≡ sequence t = ap (λ (i : ℕ). get_or (set x.taken (console t) (sequence t)) i 0) e ∙ new_here in
        let b : get_or x.taken c 0 ≡ get_or x.taken (console t) 0 = ap (λ (i : ℕ). get_or x.taken i 0) e in
        omega arith
    | inr n ↦ let a = get_or-set_other x.taken (console t) c (sequence t) 0 n in omega arith
  ]

  -- the hall records the sequence, may raise its last and change its mode, and speaks
  spoken : (v : Saying) (last : ℕ) (mode : Mode) → x.last ≤ last → ((e : Entry) → Standing st.entries e → e.hall ≡ r.to → locks mode ≡ locks x.mode)
      → Kept m (says said t r.to v) (with_state s (with_hall st r.to (with_mode (with_last (recorded x t) last) mode))) H
  spoken v last mode up same =
      speaks_kept (hall_kept kept r.to (with_mode (with_last (recorded x t) last) mode) (record { low = inside; rise = rise; lasts = up; mode = same })) t r.to v quiet
      (let e : get_or (taken_of (with_hall st r.to (with_mode (with_last (recorded x t) last) mode)) r.to) (console t) 0 ≡ sequence t =
      ap (λ (w : Hall). get_or w.taken (console t) 0) (hall_is st r.to (with_mode (with_last (recorded x t) last) mode) inside) ∙ new_here in omega arith)

  -- conflict and abort
  pub falls_now : (stamp status : ℕ) (answer : Answer) → (status ≡ 1 → ⊥)
      → Room s.world (length (votes_of t r.to r.halls stamp status ++ (reply_of t r.to stamp status answer ∷ [])))
      → Kept m (says said t r.to denied) (sending (recording s r) (votes_of t r.to r.halls stamp status ++ (reply_of t r.to stamp status answer ∷ []))) (with_fallen H (record { hall = r.to; transaction = t }))
  falls_now stamp status answer other room =
      let here = says_here said t r.to denied in
      sending_kept (falls_kept (spoken denied x.last x.mode (omega arith) (λ _ _ _. refl)) (record { hall = r.to; transaction = t }) (record {
        issue = meant.issue;
        found = meant.found;
        by = (r.to, ap (λ (w : ℕ). names w r.to) (sym meant.halls_is) ∙ meant.named, here);
      }))
      (votes_of t r.to r.halls stamp status ++ (reply_of t r.to stamp status answer ∷ [])) (record { long = room.long; room = room.room })
      (others_true (says said t r.to denied) H.issues t r.to r.halls stamp status answer other here)

  module _ (stamp : ℕ) (above : (hall_of s r).last < stamp) where
    abbrev said' : Sayings
    said' = says said r.transaction r.to (agreed stamp)

    here' : said' t r.to ≡ agreed stamp
    here' = says_here said t r.to (agreed stamp)

    -- the part waits in the queue
    pub comes_in : MayEnter m s r → Room s.world (length (sent m s r stamp Enters))
        → Kept m (says said r.transaction r.to (agreed stamp)) (sending (entering m s r stamp) (sent m s r stamp Enters)) H
    comes_in may room = sending_kept
        (enters_kept (spoken (agreed stamp) x.last mode (omega arith) same_or_empty) (st.entries ++ (new ∷ [])) new (λ e i. in_push e st.entries new i) counts_own
        (let e : last_of (with_hall st r.to x') r.to ≡ x.last = ap (λ (w : Hall). w.last) at_x' in omega arith)
        (λ k. cond-true (locks mode) (m.keys r.operation) 0 (locked k))
        (λ k f i a. entry_apart (locked k) f i a)
        (λ c. ap (λ (w : Hall). locks w.mode) at_x' ∙ coordinated_locks x.mode (class_in r) c)
        (λ c. eq-eqb _ 0 (ap (λ (a : Answer). a.cause) (sym (told_is m s.pages r.to r.operation low)) ∙ may.sound c))
        never_done)
        (sent m s r stamp Enters) (record { long = room.long; room = room.room })
        (commits_true said' H.issues t r.to r.halls stamp here')
      where
        mode : Mode
        mode = mode_for (hall_of s r).mode (class_in r)

        x' : Hall
        x' = locked_for (recorded (hall_of s r) r.transaction) (class_in r)

        new : Entry
        new = entry_for m (hall_of s r) r stamp

        at_x' : hall_at (with_hall st r.to x') r.to ≡ x'
        at_x' = hall_is st r.to x' inside

        locked : locking_of (with_hall st r.to x') r.to ≡ true → locks mode ≡ true
        locked k = sym (ap (λ (w : Hall). locks w.mode) at_x') ∙ k

        counts_own : Counted said' H.issues new
        counts_own = record {
          meant = subst (λ (c : ℕ). Meant H.issues t c r.halls r.to r.operation) (sym law.class_is) meant;
          voted = λ k n. (stamp, ap (said' t) (names_pow r.to k n) ∙ here', omega arith);
          stamped = (r.to, meant.named, here');
        }

        -- where the hall's mode changes it has no entries
        same_mode : (c : Class) → class_in r ≡ c → (f : Entry) → Standing st.entries f → f.hall ≡ r.to → locks (mode_for x.mode c) ≡ locks x.mode
        same_mode Single q f i e = refl
        same_mode Independent q f i e = refl
        same_mode Coordinated q f i e = elim (cases_Bool (locks x.mode)) [
          | inl k ↦ sym k
          | inr k ↦ absurd (any_none r.to st.entries (may.empty k q) f (standing_in st.entries f i) e)
        ]

        same_or_empty : (f : Entry) → Standing st.entries f → f.hall ≡ r.to → locks mode ≡ locks x.mode
        same_or_empty = same_mode (class_in r) refl

        entry_apart : locks mode ≡ true → (f : Entry) → Standing st.entries f → f.hall ≡ r.to → Apart m f.operation r.operation
        entry_apart k f i a =
            let now : locks x.mode ≡ true = sym (same_or_empty f i a) ∙ k in
            apart_held m f r.operation (kept.ordered.holds f i (ap (locking_of st) a ∙ now))
            (held_none r.to (m.keys r.operation) st.entries (may.free now) f (standing_in st.entries f i) a)

    -- a single is done at once
    pub runs_at_once : Lawful m → MayDo m s r → Room s.world (length (sent m s r stamp Runs))
        → Kept m (says said r.transaction r.to (agreed stamp)) (sending (running m s r stamp) (sent m s r stamp Runs))
        (with_done H (part_done H.issues (record { outcome = DoneAtOnce; transaction = r.transaction; hall = r.to; stamp = stamp; answer = verdict m s r })))
    runs_at_once laws may room = sending_kept
        (subst (λ (p : ℕ → Page). Kept m said' (scene (with_state s (with_hall st r.to x')).world p) (with_done H d)) pages_are
        (does_kept (spoken (agreed stamp) (max x.last stamp) x.mode (omega arith) (λ _ _ _. refl)) laws d agreed_part
        (let e : last_of (with_hall st r.to x') r.to ≡ max x.last stamp = ap (λ (w : Hall). w.last) (hall_is st r.to x' inside) in omega arith)
        (λ e i a. inr (subst (Apart m e.operation) (sym same_operation) (entry_apart e i a)))
        (λ e i a c. subst (λ (o : Operation). Apart m o e.operation) (sym same_operation) (apart_sym m e.operation r.operation (entry_apart e i a)))
        (above_last m (last_of st) H.done stamp t r.to d.operation above kept.ordered.lasts)
        (ap (m.answer (s.pages r.to)) same_operation ∙ sym (told_is m s.pages r.to r.operation low))
        (λ c. absurd (not_coordinated c))
        never_done not_waiting))
        (sent m s r stamp Runs) (record { long = room.long; room = room.room })
        (λ w j. subst (Genuine said' H.issues) (sym (in_one j)) tt)
      where
        x' : Hall
        x' = with_last (recorded (hall_of s r) r.transaction) (max (hall_of s r).last stamp)

        d : Part
        d = part_done H.issues (record { outcome = DoneAtOnce; transaction = r.transaction; hall = r.to; stamp = stamp; answer = verdict m s r })

        same_operation : part_given (issue_of t H.issues) r.to ≡ r.operation
        same_operation = ap (λ (o : Option Issued). part_given o r.to) meant.found ∙ sym meant.operation_is

        pages_are : put s.pages r.to (m.next (s.pages r.to) d.operation) ≡ turned m s.pages r.to r.operation
        pages_are = ap (λ (o : Operation). put s.pages r.to (m.next (s.pages r.to) o)) same_operation ∙ sym (turned_is m s.pages r.to r.operation low)

        single : r.class ≡ 1
        single = sym law.class_is ∙ ap class_number may.single

        not_coordinated : is_coordinated (issue_of t H.issues) ≡ true → ⊥
        not_coordinated c = let k : ◌≡◌ {A = ℕ} 3 1 = sym (eqb-true meant.issue.class 3 (ap is_coordinated (sym meant.found) ∙ c)) ∙ (sym meant.class_is ∙ single) in omega arith

        agreed_part : Agreed said' H.issues d
        agreed_part = record {
          issue = meant.issue;
          found = meant.found;
          here = ap (λ (w : ℕ). names w r.to) (sym meant.halls_is) ∙ meant.named;
          all = λ k n. (stamp, ap (said' t) (meant.alone single k (ap (λ (w : ℕ). names w k) meant.halls_is ∙ n)) ∙ here', omega arith);
          topped = (r.to, ap (λ (w : ℕ). names w r.to) (sym meant.halls_is) ∙ meant.named, here');
        }

        entry_apart : (f : Entry) → Standing st.entries f → f.hall ≡ r.to → Apart m f.operation r.operation
        entry_apart f i a =
            apart_held m f r.operation (kept.ordered.holds f i (ap (locking_of st) a ∙ may.locked))
            (held_none r.to (m.keys r.operation) st.entries may.free f (standing_in st.entries f i) a)

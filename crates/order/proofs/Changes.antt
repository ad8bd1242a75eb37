-- The small changes that calls are made of: each keeps what is kept.
use Rattle.std.proofs.Common.{◌≡◌, ℕ, ◌<◌, ◌≤◌, Bool, true, ◌⊎◌, List, length, get_or, sym, refl, ap, ◌∙◌, subst, inl, inr, arith, get_or-set_other, get_or-set_same}
use Rattle.book.specs.Apart.{Apart}
use Rattle.book.specs.Model.{Model, Lawful}
use Rattle.congress.specs.Kept.{locks}
use Rattle.congress.specs.State.{State, World, Scene, scene, no_hall, no_console, hall_at, with_hall, with_console, with_entries, with_state, messages}
use Rattle.congress.specs.declared.tables.Console.{Console}
use Rattle.congress.specs.declared.tables.Entry.{Entry}
use Rattle.congress.specs.declared.tables.Hall.{Hall}
use Rattle.order.proofs.Effects.{view_put, no_more, says, says_grows, heard_more, heard_rises, told_more, Alike, like_itself, ordered_like, ordered_halls, ordered_enters, ordered_does, right_does}
use Rattle.order.proofs.Invariant.{Saying, silent, Sayings, Genuine, Counted, Agreed, Denied, Heard, Numbered, Standing, Holds, Ordered, Singly, last_of, locking_of, taken_of, sequences, Kept}
use Rattle.order.proofs.Pages.{put, put_at, put_same}
use Rattle.order.proofs.Plain.{AfterOrApart}
use Rattle.order.specs.History.{Fallen, History, with_done, with_fallen, with_confirmed}
use Rattle.order.specs.Plain.{Part}
use Rattle.order.specs.Promises.{◌∈◌}
use Rattle.records.specs.Answers.{well_done}
use Rattle.records.specs.Transactions.{console, sequence}
use Rattle.records.specs.declared.classes.Class.TheVariants.{Coordinated}
use Rattle.records.specs.declared.messages.Message.{Message}
use Rattle.std.proofs.lemmas.Bool.{cases_eq}

-- what stands in the queue, and in a part of it, and in more of it
pub standing_in : (q : List Entry) (e : Entry) → Standing q e → e ∈ q
standing_in q e i = i

pub standing_part : (q q' : List Entry) → ((e : Entry) → e ∈ q' → e ∈ q) → (e : Entry) → Standing q' e → Standing q e
standing_part q q' sub e i = sub e i

pub standing_more : (q q' : List Entry) (x : Entry) → ((e : Entry) → e ∈ q' → (e ∈ q) ⊎ (e ≡ x)) → (e : Entry) → Standing q' e → Standing q e ⊎ (e ≡ x)
standing_more q q' x from e i = from e i

-- a change of one hall that may be made at any time
pub record HallMay (s : State) (h : ℕ) (x : Hall) : Type 0 where
  pub low : h < length s.halls
  pub rise : (k : ℕ) → get_or (taken_of s h) k 0 ≤ get_or x.taken k 0
  pub lasts : last_of s h ≤ x.last
  pub mode : (e : Entry) → Standing s.entries e → e.hall ≡ h → locks x.mode ≡ locking_of s h

pub hall_is : (s : State) (h : ℕ) (x : Hall) → h < length s.halls → hall_at (with_hall s h x) h ≡ x
hall_is s h x l = get_or-set_same s.halls h x no_hall l

-- a view of the halls that each change leaves or moves the right way
pub view_rises : {A : Type 0} (R : A → A → Type 0) (f : Hall → A) (s : State) (h : ℕ) (x : Hall) → h < length s.halls → ((a : A) → R a a) → R (f (hall_at s h)) (f x)
    → (k : ℕ) → R (f (hall_at s k)) (f (hall_at (with_hall s h x) k))
view_rises R f s h x l same here k =
    elim (cases_eq k h) [
      | inl e ↦ subst (λ (i : ℕ). R (f (hall_at s i)) (f (hall_at (with_hall s h x) i))) (sym e) (subst (λ (y : Hall). R (f (hall_at s h)) (f y)) (sym (hall_is s h x l)) here)
      | inr n ↦ subst (λ (y : Hall). R (f (hall_at s k)) (f y)) (sym (get_or-set_other s.halls h k x no_hall n)) (same (f (hall_at s k)))
    ]

module _ {m : Model} {said : Sayings} {s : Scene} {H : History} (kept : Kept m said s H) where
  abbrev st : State
  st = s.world.state

  pub hall_kept : (h : ℕ) (x : Hall) → HallMay s.world.state h x → Kept m said (with_state s (with_hall s.world.state h x)) H
  hall_kept h x may =
      let l = may.low in
      record {
        told = kept.told;
        heard = heard_rises said (taken_of st) (taken_of (with_hall st h x))
            (λ k c. view_rises (λ (a b : List ℕ). get_or a c 0 ≤ get_or b c 0) (λ (w : Hall). w.taken) st h x l (λ a. omega arith) (may.rise c) k) kept.heard;
        numbered = kept.numbered;
        ordered = ordered_halls m (last_of st) (last_of (with_hall st h x)) (locking_of st) (locking_of (with_hall st h x)) (Standing st.entries) s.pages H.done
            (view_rises (λ (a b : ℕ). a ≤ b) (λ (w : Hall). w.last) st h x l (λ a. omega arith) may.lasts)
            (λ e i. subst (λ (f : ℕ → Bool). f e.hall ≡ locking_of st e.hall) (sym (view_put (λ (w : Hall). locks w.mode) no_hall st.halls h x l))
            (put_at (λ (b : Bool). b ≡ locking_of st e.hall) (locking_of st) h (locks x.mode) e.hall (λ q. may.mode e i q ∙ ap (locking_of st) (sym q)) (λ _. refl)))
            kept.ordered;
        right = kept.right;
        single = kept.single;
      }

  -- a console changes, but not its sequence
  pub console_kept : (k : ℕ) (c : Console) → k < length s.world.state.consoles → c.sequence ≡ sequences s.world.state k → Kept m said (with_state s (with_console s.world.state k c)) H
  console_kept k c l e = record {
    told = kept.told;
    heard = kept.heard;
    numbered = subst (Numbered H.issues) (sym (view_put (λ (x : Console). x.sequence) no_console st.consoles k c l ∙ (ap (put (sequences st) k) e ∙ put_same (sequences st) k))) kept.numbered;
    ordered = kept.ordered;
    right = kept.right;
    single = kept.single;
  }

  -- a hall that has recorded the sequence, and said nothing, speaks
  pub speaks_kept : (t h : ℕ) (v : Saying) → said t h ≡ silent → sequence t ≤ get_or (taken_of s.world.state h) (console t) 0 → Kept m (says said t h v) s H
  speaks_kept t h v quiet recorded = record {
    told = told_more (says_grows said t h v quiet) (no_more H.issues) (messages s.world) st.entries H.done H.fallen kept.told;
    heard = heard_more said (taken_of st) t h v recorded kept.heard;
    numbered = kept.numbered;
    ordered = kept.ordered;
    right = kept.right;
    single = kept.single;
  }

  -- the post becomes one of true messages, with which nothing else changes but the count
  pub post_kept : (w : World) → ((x : Message) → x ∈ messages w → Genuine said H.issues x) → w.state.halls ≡ s.world.state.halls → w.state.consoles ≡ s.world.state.consoles → w.state.entries ≡ s.world.state.entries
      → Kept m said (scene w s.pages) H
  post_kept w all halls consoles entries = record {
    told = record {
      posted = all;
      queued = subst (λ (q : List Entry). (e : Entry) → e ∈ q → Counted said H.issues e) (sym entries) kept.told.queued;
      did = kept.told.did;
      fell = kept.told.fell;
    };
    heard = subst (λ (hs : List Hall). Heard said (λ h. (get_or hs h no_hall).taken)) (sym halls) kept.heard;
    numbered = subst (λ (cs : List Console). Numbered H.issues (λ k. (get_or cs k no_console).sequence)) (sym consoles) kept.numbered;
    ordered = subst (λ (hs : List Hall). Ordered m (λ h. (get_or hs h no_hall).last) (λ h. locks (get_or hs h no_hall).mode) (Standing w.state.entries) s.pages H.done) (sym halls)
        (subst (λ (q : List Entry). Ordered m (last_of st) (locking_of st) (Standing q) s.pages H.done) (sym entries) kept.ordered);
    right = kept.right;
    single = subst (λ (q : List Entry). Singly q H.done) (sym entries) kept.single;
  }

  -- entries leave
  pub leaves_kept : (q : List Entry) → ((e : Entry) → e ∈ q → e ∈ s.world.state.entries) → Kept m said (with_state s (with_entries s.world.state q)) H
  leaves_kept q sub = record {
    told = record { posted = kept.told.posted; queued = λ e i. kept.told.queued e (sub e i); did = kept.told.did; fell = kept.told.fell };
    heard = kept.heard;
    numbered = kept.numbered;
    ordered = ordered_like m (last_of st) (locking_of st) (Standing st.entries) (Standing q) s.pages H.done
        (λ f i. (f, standing_part st.entries q sub f i, like_itself f)) kept.ordered;
    right = kept.right;
    single = record { once = kept.single.once; waits = λ e x i. kept.single.waits e x (sub e i) };
  }

  -- an entry changes its votes and may raise its stamp
  pub votes_kept : (q : List Entry) (x g : Entry) → g ∈ s.world.state.entries → Alike x g → ((e : Entry) → e ∈ q → (e ∈ s.world.state.entries) ⊎ (e ≡ x)) → Counted said H.issues x
      → Kept m said (with_state s (with_entries s.world.state q)) H
  votes_kept q x g there like from counted = record {
    told = record {
      posted = kept.told.posted;
      queued = λ e i. elim (from e i) [ inl j ↦ kept.told.queued e j | inr p ↦ subst (Counted said H.issues) (sym p) counted ];
      did = kept.told.did;
      fell = kept.told.fell;
    };
    heard = kept.heard;
    numbered = kept.numbered;
    ordered = ordered_like m (last_of st) (locking_of st) (Standing st.entries) (Standing q) s.pages H.done
        (λ f i. elim (standing_more st.entries q x from f i) [
          | inl j ↦ (f, j, like_itself f)
          | inr p ↦ (g, there, subst (λ (w : Entry). Alike w g) (sym p) like)
        ]) kept.ordered;
    right = kept.right;
    single = record {
      once = kept.single.once;
      waits = λ e d i. elim (from e i) [
        | inl j ↦ kept.single.waits e d j
        | inr p ↦ subst (λ (w : Entry). d ∈ H.done → d.hall ≡ w.hall → d.transaction ≡ w.transaction → ⊥) (sym p)
            (λ j a t. kept.single.waits g d there j (a ∙ like.hall) (t ∙ like.transaction))
      ];
    };
  }

  -- an entry comes to stand
  pub enters_kept : (q : List Entry) (x : Entry) → ((e : Entry) → e ∈ q → (e ∈ s.world.state.entries) ⊎ (e ≡ x)) → Counted said H.issues x
      → last_of s.world.state x.hall < x.stamp
      → (locking_of s.world.state x.hall ≡ true → Holds m x)
      → (locking_of s.world.state x.hall ≡ true → (f : Entry) → Standing s.world.state.entries f → f.hall ≡ x.hall → Apart m f.operation x.operation)
      → (x.class ≡ Coordinated → locking_of s.world.state x.hall ≡ true)
      → (x.class ≡ Coordinated → well_done (m.answer (s.pages x.hall) x.operation) ≡ true)
      → ((d : Part) → d ∈ H.done → d.hall ≡ x.hall → d.transaction ≡ x.transaction → ⊥)
      → Kept m said (with_state s (with_entries s.world.state q)) H
  enters_kept q x from counted above holds apart locked sound not_done = record {
    told = record {
      posted = kept.told.posted;
      queued = λ e i. elim (from e i) [ inl j ↦ kept.told.queued e j | inr p ↦ subst (Counted said H.issues) (sym p) counted ];
      did = kept.told.did;
      fell = kept.told.fell;
    };
    heard = kept.heard;
    numbered = kept.numbered;
    ordered = ordered_enters m (last_of st) (locking_of st) (Standing st.entries) (Standing q) s.pages H.done x (standing_more st.entries q x from) above holds apart locked sound kept.ordered;
    right = kept.right;
    single = record {
      once = kept.single.once;
      waits = λ e d i. elim (from e i) [
        | inl j ↦ kept.single.waits e d j
        | inr p ↦ subst (λ (w : Entry). d ∈ H.done → d.hall ≡ w.hall → d.transaction ≡ w.transaction → ⊥) (sym p) (not_done d)
      ];
    };
  }

  -- a part falls, of which a named hall has denied its own
  pub falls_kept : (f : Fallen) → Denied said H.issues f → Kept m said s (with_fallen H f)
  falls_kept f denied_it = record {
    told = record {
      posted = kept.told.posted;
      queued = kept.told.queued;
      did = kept.told.did;
      fell = λ g i. elim i [ inl p ↦ subst (Denied said H.issues) (sym p) denied_it | inr j ↦ kept.told.fell g j ];
    };
    heard = kept.heard;
    numbered = kept.numbered;
    ordered = kept.ordered;
    right = kept.right;
    single = kept.single;
  }

  pub confirms_kept : (t : ℕ) → Kept m said s (with_confirmed H t)
  confirms_kept t = record { told = kept.told; heard = kept.heard; numbered = kept.numbered; ordered = kept.ordered; right = kept.right; single = kept.single }

  -- a part is done, whose entry, if it had one, has left
  pub does_kept : Lawful m → (d : Part) → Agreed said H.issues d
      → d.stamp ≤ last_of s.world.state d.hall
      → ((e : Entry) → Standing s.world.state.entries e → e.hall ≡ d.hall → AfterOrApart m e.stamp e.transaction e.operation d)
      → ((e : Entry) → Standing s.world.state.entries e → e.hall ≡ d.hall → e.class ≡ Coordinated → Apart m d.operation e.operation)
      → ((w : Part) → w ∈ H.done → w.hall ≡ d.hall → AfterOrApart m d.stamp d.transaction d.operation w)
      → m.answer (s.pages d.hall) d.operation ≡ d.answer
      → (d.coordinated ≡ true → well_done d.answer ≡ true)
      → ((w : Part) → w ∈ H.done → w.hall ≡ d.hall → w.transaction ≡ d.transaction → ⊥)
      → ((e : Entry) → e ∈ s.world.state.entries → e.hall ≡ d.hall → e.transaction ≡ d.transaction → ⊥)
      → Kept m said (scene s.world (put s.pages d.hall (m.next (s.pages d.hall) d.operation))) (with_done H d)
  does_kept laws d agreed_it last_up after apart before_it answer good never_done not_waiting = record {
    told = record {
      posted = kept.told.posted;
      queued = kept.told.queued;
      did = λ w i. elim i [ inl p ↦ subst (Agreed said H.issues) (sym p) agreed_it | inr j ↦ kept.told.did w j ];
      fell = kept.told.fell;
    };
    heard = kept.heard;
    numbered = kept.numbered;
    ordered = ordered_does m laws (last_of st) (locking_of st) (Standing st.entries) s.pages H.done d (kept.right.own d.hall) last_up after apart kept.ordered;
    right = right_does m laws H.first s.pages H.done d before_it answer good kept.right;
    single = record {
      once = (never_done, kept.single.once);
      waits = λ e w i j a t. elim j [
        | inl p ↦ not_waiting e i (sym a ∙ ap (λ (z : Part). z.hall) p) (sym t ∙ ap (λ (z : Part). z.transaction) p)
        | inr k ↦ kept.single.waits e w i k a t
      ];
    };
  }

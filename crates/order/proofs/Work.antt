-- Work.
use Rattle.std.proofs.Common.{◌≡◌, ℕ, ◌<◌, ◌≤◌, max, true, List, [], ◌∷◌, length, get_or, length-set, Option, refl, sym, ap, ◌∙◌, subst, inl, inr, arith}
use Rattle.std.specs.Prelude.{bit_and}
use Rattle.book.proofs.Apart.{apart_sym}
use Rattle.book.specs.Apart.{Apart}
use Rattle.book.specs.Model.{Page, Model, Lawful, turned}
use Rattle.congress.proofs.Sets.{names_all}
use Rattle.congress.specs.Queue.{no_entry, without}
use Rattle.congress.specs.Sending.{no_operation, reply_of}
use Rattle.congress.specs.State.{State, Scene, scene, hall_at, with_state}
use Rattle.congress.specs.Tables.{with_last}
use Rattle.congress.specs.Votes.{leaving}
use Rattle.congress.specs.Work.{part_answer, raised, worked}
use Rattle.congress.specs.declared.outcomes.Outcome.TheVariants.{Done}
use Rattle.congress.specs.declared.tables.Entry.{Entry}
use Rattle.congress.specs.declared.tables.Hall.{Hall}
use Rattle.order.proofs.Changes.{hall_is, hall_kept, does_kept, standing_in, standing_part}
use Rattle.order.proofs.Easy.{sending_kept}
use Rattle.order.proofs.Happens.{MayWork}
use Rattle.order.proofs.Invariant.{Sayings, Meant, Genuine, Agreed, Standing, last_of, locking_of, Kept}
use Rattle.order.proofs.Lists.{in_at, in_one}
use Rattle.order.proofs.Pages.{put, told_is, turned_is}
use Rattle.order.proofs.Plain.{AfterOrApart}
use Rattle.order.proofs.Sound.{Sound, others_apart}
use Rattle.order.proofs.Vote.{left_in, leaving_last, leaving_kept}
use Rattle.order.specs.History.{Issued, History, issue_of, part_given, is_coordinated, part_done, with_done}
use Rattle.order.specs.Plain.{Part}
use Rattle.order.specs.Promises.{◌∈◌}
use Rattle.records.specs.Answers.{well_done}
use Rattle.records.specs.Classes.{class_number}
use Rattle.records.specs.Halls.{names}
use Rattle.records.specs.declared.Operation.{Operation}
use Rattle.records.specs.declared.classes.Class.{Class}
use Rattle.records.specs.declared.classes.Class.TheVariants.{Single, Independent, Coordinated}
use Rattle.std.proofs.lemmas.Bool.{eqb-true}

coordinated_number : (c : Class) → class_number c ≡ 3 → c ≡ Coordinated
coordinated_number Single e = absurd (omega arith)
coordinated_number Independent e = absurd (omega arith)
coordinated_number Coordinated e = refl

module _ {m : Model} (laws : Lawful m) {said : Sayings} {s : Scene} {H : History} (sound : Sound s.world.state) (kept : Kept m said s H) (h i : ℕ) (x : Entry) (may : MayWork s h i x) where
  abbrev st : State
  st = s.world.state

  low : h < 8
  low = let l = may.exists in let few = sound.few in omega arith

  inside : h < length st.halls
  inside = let l = low in let e = sound.eight in omega arith

  in_queue : x ∈ st.entries
  in_queue = in_at st.entries i no_entry x may.there may.is

  -- the entry's part, once done
  abbrev pub d : Part
  d = part_done H.issues (record { outcome = Done; transaction = x.transaction; hall = h; stamp = x.stamp; answer = part_answer m s h x })

  abbrev hall' : Hall
  hall' = with_last (hall_at s.world.state h) (max (hall_at s.world.state h).last x.stamp)

  abbrev q : List Entry
  q = without st.entries i

  abbrev meant : Meant H.issues x.transaction (class_number x.class) x.halls x.hall x.operation
  meant = (kept.told.queued x in_queue).meant

  same_operation : part_given (issue_of x.transaction H.issues) h ≡ x.operation
  same_operation =
      ap (λ (o : Option Issued). part_given o h) meant.found
      ∙ (ap (λ (k : ℕ). get_or meant.issue.operations k no_operation) (sym may.here) ∙ sym meant.operation_is)

  agreed_part : Agreed said H.issues d
  agreed_part =
      let c = kept.told.queued x in_queue in
      let t = c.stamped in
      record {
        issue = meant.issue;
        found = meant.found;
        here = ap (λ (w : ℕ). names w h) (sym meant.halls_is) ∙ (ap (names x.halls) (sym may.here) ∙ meant.named);
        all = λ k n. c.voted k (names_all x.votes x.halls k (eqb-true (bit_and x.votes x.halls) x.halls may.is_ready) (ap (λ (w : ℕ). names w k) meant.halls_is ∙ n));
        topped = (t.0, ap (λ (w : ℕ). names w t.0) (sym meant.halls_is) ∙ t.1, t.2);
      }

  -- the entries that stay at the hall are after x, or apart from it
  stayed : (e : Entry) → e ∈ q → e ∈ st.entries
  stayed = left_in st.entries i may.there

  stood : (e : Entry) → Standing q e → Standing st.entries e
  stood = standing_part st.entries q stayed

  others : (e : Entry) → e ∈ q → e.hall ≡ h → e.transaction ≡ x.transaction → ⊥
  others e j a t = others_apart st sound i may.there e j
      (a ∙ sym may.here ∙ ap (λ (w : Entry). w.hall) (sym may.is))
      (t ∙ ap (λ (w : Entry). w.transaction) (sym may.is))

  entries_apart : (e : Entry) → Standing q e → e.hall ≡ h → locking_of st h ≡ true → Apart m e.operation x.operation
  entries_apart e j a k =
      kept.ordered.apart e x (stood e j) in_queue (a ∙ sym may.here) (ap (locking_of st) a ∙ k) (others e (standing_in q e j) a)

  raised_kept : Kept m said (with_state s (raised st h x.stamp)) H
  raised_kept = hall_kept kept h hall' (record { low = inside; rise = λ c. omega arith; lasts = omega arith; mode = λ _ _ _. refl })

  left_kept : Kept m said (with_state s (leaving (raised st h x.stamp) h i)) H
  left_kept = leaving_kept raised_kept h i raised_inside may.there
    where
      raised_inside : h < length (raised st h x.stamp).halls
      raised_inside = let l = inside in let e : length (raised s.world.state h x.stamp).halls ≡ length s.world.state.halls = length-set s.world.state.halls h hall' in omega arith

  last_up : x.stamp ≤ last_of (leaving (raised st h x.stamp) h i) h
  last_up = leaving_last (raised st h x.stamp) h i
      (let l = inside in let e : length (raised s.world.state h x.stamp).halls ≡ length s.world.state.halls = length-set s.world.state.halls h hall' in omega arith)
      (λ (n : ℕ). x.stamp ≤ n)
      (let e : last_of (raised st h x.stamp) h ≡ max (last_of st h) x.stamp = ap (λ (w : Hall). w.last) (hall_is st h hall' inside) in omega arith)

  pages_are : put s.pages h (m.next (s.pages h) d.operation) ≡ turned m s.pages h x.operation
  pages_are = ap (λ (o : Operation). put s.pages h (m.next (s.pages h) o)) same_operation ∙ sym (turned_is m s.pages h x.operation low)

  pub works_kept : Kept m said (worked m s h i x) (with_done H d)
  works_kept = sending_kept
      (subst (λ (p : ℕ → Page). Kept m said (scene (with_state s (leaving (raised st h x.stamp) h i)).world p) (with_done H d)) pages_are
      (does_kept left_kept laws d agreed_part last_up
      (λ e j a. elim (may.first e (stayed e (standing_in q e j)) a) [
        | inl k ↦ inr (subst (Apart m e.operation) (sym same_operation) (entries_apart e j a k))
        | inr n ↦ inl n
      ])
      (λ e j a c. subst (λ (o : Operation). Apart m o e.operation) (sym same_operation)
      (apart_sym m e.operation x.operation (entries_apart e j a (ap (locking_of st) (sym a) ∙ kept.ordered.locked e (stood e j) c))))
      (λ w j a. subst (λ (o : Operation). AfterOrApart m x.stamp x.transaction o w) (sym same_operation) (kept.ordered.after x w in_queue j (a ∙ sym may.here)))
      (ap (m.answer (s.pages h)) same_operation ∙ sym (told_is m s.pages h x.operation low))
      (λ c. ap well_done (told_is m s.pages h x.operation low) ∙ (ap (λ (k : ℕ). well_done (m.answer (s.pages k) x.operation)) (sym may.here)
      ∙ kept.ordered.sound x in_queue (coordinated_number x.class (meant.class_is ∙ eqb-true meant.issue.class 3 (ap is_coordinated (sym meant.found) ∙ c)))))
      (λ w j a t. kept.single.waits x w in_queue j (a ∙ sym may.here) t)
      others))
      (reply_of x.transaction h x.stamp 1 (part_answer m s h x) ∷ []) (record { long = may.room.long; room = may.room.room })
      (λ w j. subst (Genuine said H.issues) (sym (in_one j)) tt)

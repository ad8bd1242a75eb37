-- Issue.
use Rattle.std.proofs.Common.{◌≡◌, ℕ, ◌+◌, ◌≤◌, true, eqb, List, ◌∷◌, length, get_or, Some, Option, refl, sym, ap, ◌∙◌, subst, arith}
use Rattle.std.specs.Int.Count.{ones}
use Rattle.book.specs.Model.{Model}
use Rattle.congress.proofs.Sent.{requests_is, requests_few}
use Rattle.congress.specs.Calls.{draft_of, issued}
use Rattle.congress.specs.Sending.{no_operation, to_hall, requests_below, requests}
use Rattle.congress.specs.State.{Scene, scene, no_console, console_at, with_console, with_state}
use Rattle.congress.specs.Tables.{opened_for}
use Rattle.congress.specs.declared.tables.Console.{Console}
use Rattle.order.proofs.Easy.{room_less, sending_kept}
use Rattle.order.proofs.Effects.{view_put, More, stays, told_more}
use Rattle.order.proofs.Happens.{MayIssue}
use Rattle.order.proofs.Invariant.{Sayings, Meant, Genuine, Numbered, sequences, Kept}
use Rattle.order.proofs.Pages.{put, put_at}
use Rattle.order.proofs.Posting.{in_to_each}
use Rattle.congress.proofs.Sets.{one_named, names_from}
use Rattle.order.proofs.Sound.{Sound}
use Rattle.order.specs.History.{Issued, History, issue_of, with_issued}
use Rattle.order.specs.Promises.{◌∈◌}
use Rattle.records.specs.Classes.{class_of}
use Rattle.records.specs.Halls.{bit, names, exist, fit_class, fit}
use Rattle.records.specs.Transactions.{console, sequence, number_of}
use Rattle.records.specs.declared.Operation.{Operation}
use Rattle.records.specs.declared.messages.Message.{Message}
use Rattle.records.specs.declared.messages.Message.TheVariants.{Request as request}
use Rattle.records.specs.declared.messages.Request.{Request}
use Rattle.std.proofs.lemmas.Bool.{cond_both, cond-true, and_parts, eqb-true, eq-eqb}

-- a single names one hall
one_hall : (opened class halls : ℕ) → fit opened class halls ≡ true → class ≡ 1 → ones halls ≡ 1
one_hall opened class halls f e =
    let parts = and_parts (exist opened halls) (fit_class (class_of class) halls) f in
    eqb-true (ones halls) 1 (subst (λ (n : ℕ). fit_class (class_of n) halls ≡ true) e parts.1)

module _ {m : Model} {said : Sayings} {s : Scene} {H : History} (sound : Sound s.world.state) (kept : Kept m said s H) (k class halls : ℕ) (operations : List Operation) (may : MayIssue s.world k class halls) where
  abbrev pub c : Console
  c = console_at s.world.state k

  abbrev pub t : ℕ
  t = number_of (c.sequence + 1) k

  abbrev pub new : Issued
  new = record { transaction = t; class = class; halls = halls; operations = operations }

  fresh : (i : Issued) → issue_of t H.issues ≡ Some i → ⊥
  fresh i e =
      let a = kept.numbered t i e in
      let l = may.low in
      let b : console t ≡ k = omega arith in
      let d : sequences s.world.state (console t) ≡ sequences s.world.state k = ap (sequences s.world.state) b in
      omega arith

  pub more : More H.issues (new ∷ H.issues)
  more = record {
    still = λ u i e. cond_both (eqb new.transaction u) (Some new) (issue_of u H.issues) (λ (o : Option Issued). o ≡ Some i)
        (λ n. absurd (fresh i (ap (λ (w : ℕ). issue_of w H.issues) (eqb-true new.transaction u n) ∙ e)))
        (λ _. e);
  }

  pub issued_now : (h : ℕ) → names halls h ≡ true → Meant (new ∷ H.issues) t class halls h (get_or operations h no_operation)
  issued_now h n = record {
    issue = new;
    found = cond-true (eqb new.transaction t) (Some new) (issue_of t H.issues) (eq-eqb new.transaction t refl);
    class_is = refl;
    halls_is = refl;
    operation_is = refl;
    named = n;
    alone = λ e j q. one_named halls h j (one_hall s.world.state.opened class halls may.fits e) n q;
  }

  numbered : Numbered (new ∷ H.issues) (put (sequences s.world.state) k (c.sequence + 1))
  numbered u i e =
      let l = may.low in
      put_at (λ (n : ℕ). sequence u ≤ n) (sequences s.world.state) k (c.sequence + 1) (console u)
      (λ q. both (λ p. omega arith) (λ r. let d : sequences s.world.state (console u) ≡ sequences s.world.state k = ap (sequences s.world.state) q in omega arith))
      (λ n. both (λ p. absurd (n (omega arith))) (λ r. r))
    where
      both : {G : Type 0} → (new.transaction ≡ u → G) → (sequence u ≤ sequences s.world.state (console u) → G) → G
      both {G} f g = cond_both (eqb new.transaction u) (Some new) (issue_of u H.issues) (λ (o : Option Issued). o ≡ Some i → G)
          (λ n _. f (eqb-true new.transaction u n)) (λ _ r. g (kept.numbered u i r)) e

  opened_console : Kept m said (with_state s (with_console s.world.state k (opened_for c halls))) (with_issued H new)
  opened_console = record {
    told = told_more (stays said) more _ s.world.state.entries H.done H.fallen kept.told;
    heard = kept.heard;
    numbered = subst (Numbered (new ∷ H.issues)) (sym (view_put (λ (x : Console). x.sequence) no_console s.world.state.consoles k (opened_for c halls) (let z = sound.sixteen in let l = may.low in omega arith))) numbered;
    ordered = kept.ordered;
    right = kept.right;
    single = kept.single;
  }

  abbrev draft : Request
  draft = draft_of c k class halls operations

  genuine_all : (x : Message) → x ∈ requests draft operations → Genuine said (new ∷ H.issues) x
  genuine_all x i =
      let j : x ∈ requests_below draft operations 8 = subst (λ (l : List Message). x ∈ l) (sym (requests_is draft operations)) i in
      let r = in_to_each (bit halls) (λ h. request (to_hall draft h (get_or operations h no_operation))) 8 x j in
      subst (Genuine said (new ∷ H.issues)) (sym r.3) (issued_now r.0 (names_from halls r.0 r.1 r.2))

  pub issues_kept : Kept m said (scene (issued s.world k class halls operations) s.pages) (with_issued H new)
  issues_kept = sending_kept opened_console (requests draft operations)
      (room_less (with_state s (with_console s.world.state k (opened_for c halls))).world (ones halls) (length (requests draft operations)) (requests_few draft operations)
      (record { long = may.room.long; room = may.room.room }))
      genuine_all

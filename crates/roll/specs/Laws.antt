-- A roll over a book that obeys the law of books obeys it too.
use Rattle.std.specs.Prelude.{◌≡◌, ℕ, ◌+◌, ◌≤◌, false, cond, not, ◌&&◌, List, length, Ok, Err, Result, ◌==◌, ◌≢◌, nat_le, refl}
use Rattle.std.proofs.lemmas.Nat.{and_comm}
use Rattle.std.proofs.Common.{length-set, get_or-set_other, inl, inr, sym, ap, subst, ◌∙◌, arith}
use Rattle.std.proofs.lemmas.List.{set_comm}
use Rattle.book.proofs.Below.{length-table}
use Rattle.book.proofs.Keys.{held_once}
use Rattle.book.specs.Keys.{Held}
use Rattle.book.specs.Model.{Page, Model, Disjoint, Lawful}
use Rattle.book.specs.Numbers.{natural, at}
use Rattle.records.specs.Answers.{Shaped, done_with, well_done}
use Rattle.records.specs.declared.Operation.{Operation}
use Rattle.roll.specs.Keys.{held_grant, held_write, held_read, disjoint_below}
use Rattle.roll.specs.Pages.{read_write}
use Rattle.roll.specs.Asking.{refuse, asked}
use Rattle.roll.specs.Refusals.{cause}
use Rattle.roll.specs.declared.refusals.Refused.{Refused}
use Rattle.roll.specs.Roll.{Sheet, write, read, entry, stands, admitted, filled, says, changed, answer, after, roll_keys, roll_model}
use Rattle.roll.specs.declared.asking.Ask.{Ask}
use Rattle.roll.specs.declared.asking.Ask.TheVariants.{Other, Write, Read}
use Rattle.roll.specs.declared.refusals.Refusal.{Refusal}
use Rattle.roll.specs.declared.refusals.Refusal.TheVariants.{NotStanding, NotChief, NoEntry, NoToken}
use Rattle.std.proofs.lemmas.Bool.{cases_lt, and_left, lt-leb, true≢false}

-- 16 tokens over a page of the book below's own
pub record Kept (m : Model) (s : Sheet) : Type 0 where
  pub sixteen : length s.tokens ≡ 16
  pub own : m.own s.below

pub cause_not_0 : (why : Refusal) → cause why ≢ 0
cause_not_0 NotStanding e = omega arith
cause_not_0 NotChief e = omega arith
cause_not_0 NoEntry e = omega arith
cause_not_0 NoToken e = omega arith

no_grant : (tokens : List ℕ) (o : Operation) → 16 ≤ o.grant → stands tokens o ≡ false
no_grant tokens o h = and_left (nat_le o.grant 15) _ (lt-leb o.grant 15 (omega arith))

module _ (m : Model) (lawful : Lawful m) where
  -- One operation.
  module _ (s : Sheet) (o : Operation) (kept : Kept m s) where
    kept_changed : (x : Result Ask Refused) → Kept m (changed m s o x)
    kept_changed (Ok Other) = record { sixteen = kept.sixteen; own = lawful.keeps s.below o kept.own }
    kept_changed (Ok (Write a token)) = record { sixteen = simp length-set kept.sixteen; own = kept.own }
    kept_changed (Ok (Read a)) = kept
    kept_changed (Err r) = kept

    pub kept_after : Kept m (after m s o)
    kept_after = kept_changed (admitted s.tokens o)

    says_shaped : (x : Result Ask Refused) → Shaped (says m s o x)
    says_shaped (Ok Other) = lawful.shaped s.below o kept.own
    says_shaped (Ok (Write a token)) = record { done = λ _. refl; fault = λ no. absurd (no refl) }
    says_shaped (Ok (Read a)) = record { done = λ _. refl; fault = λ no. absurd (no refl) }
    says_shaped (Err r) = record { done = λ e. absurd (cause_not_0 r.why e); fault = λ _. refl }

    fault_changes : (x : Result Ask Refused) → well_done (says m s o x) ≡ false → changed m s o x ≡ s
    fault_changes (Ok Other) f = ap (λ u. record { tokens = s.tokens; below = u }) (lawful.fault_leaves s.below o kept.own f)
    fault_changes (Ok (Write a token)) f = absurd (true≢false f)
    fault_changes (Ok (Read a)) f = refl
    fault_changes (Err r) f = refl

  -- an operation leaves each entry whose key it lacks
  leaves : (s : Sheet) (o : Operation) (x : Result Ask Refused) (g : ℕ) → admitted s.tokens o ≡ x → (Held (roll_keys m o) (48 + g) → ⊥)
      → entry (changed m s o x).tokens g ≡ entry s.tokens g
  leaves s o (Ok Other) g e lacks = refl
  leaves s o (Ok (Write a token)) g e lacks =
      get_or-set_other s.tokens a g token 0 (λ same. lacks (subst (λ k. Held (roll_keys m o) (48 + k)) (sym same) (held_write m s.tokens o a token e)))
  leaves s o (Ok (Read a)) g e lacks = refl
  leaves s o (Err r) g e lacks = refl

  -- Two operations with no key in common, done at one sheet.
  module _ (s : Sheet) (o q : Operation) (none : Disjoint (roll_model m) o q) where
    -- an entry whose key o has, q lacks
    lacks : (g : ℕ) → Held (roll_keys m o) (48 + g) → Held (roll_keys m q) (48 + g) → ⊥
    lacks g = held_once (roll_keys m o) (roll_keys m q) (48 + g) none

    stands_same : stands (after m s q).tokens o ≡ stands s.tokens o
    stands_same =
        elim (cases_lt o.grant 16) [
          | inl l ↦
              ap (λ token. nat_le o.grant 15 && (not (o.token == 0) && token == o.token))
              (leaves s q (admitted s.tokens q) o.grant refl (lacks o.grant (held_grant m o l)))
          | inr h ↦ no_grant (after m s q).tokens o h ∙ sym (no_grant s.tokens o h)
        ]

    pub admitted_same : admitted (after m s q).tokens o ≡ admitted s.tokens o
    admitted_same = ap (λ t. cond t (asked o) (refuse NotStanding o.grant)) stands_same

    module _ (kept : Kept m s) where
      says_same : (x y : Result Ask Refused) → admitted s.tokens o ≡ x → admitted s.tokens q ≡ y → says m (changed m s q y) o x ≡ says m s o x
      says_same (Ok Other) (Ok Other) e f = lawful.same_answer s.below o q kept.own (disjoint_below m s.tokens o q e f none)
      says_same (Ok Other) (Ok (Write b w)) e f = refl
      says_same (Ok Other) (Ok (Read b)) e f = refl
      says_same (Ok Other) (Err r) e f = refl
      says_same (Ok (Write a v)) y e f = ap (λ token. done_with 3 (filled token)) (leaves s q y a f (lacks a (held_write m s.tokens o a v e)))
      says_same (Ok (Read a)) y e f = ap (λ token. done_with 3 (filled token)) (leaves s q y a f (lacks a (held_read m s.tokens o a e)))
      says_same (Err r) y e f = refl

      pub answer_same : answer m (after m s q) o ≡ answer m s o
      answer_same = ap (says m (after m s q) o) admitted_same ∙ says_same (admitted s.tokens o) (admitted s.tokens q) refl refl

      changed_same : (x y : Result Ask Refused) → admitted s.tokens o ≡ x → admitted s.tokens q ≡ y
          → changed m (changed m s o x) q y ≡ changed m (changed m s q y) o x
      changed_same (Ok Other) (Ok Other) e f =
          ap (λ u. record { tokens = s.tokens; below = u }) (lawful.same_page s.below o q kept.own (disjoint_below m s.tokens o q e f none))
      changed_same (Ok Other) (Ok (Write b w)) e f = refl
      changed_same (Ok Other) (Ok (Read b)) e f = refl
      changed_same (Ok Other) (Err r) e f = refl
      changed_same (Ok (Write a v)) (Ok Other) e f = refl
      changed_same (Ok (Write a v)) (Ok (Write b w)) e f =
          ap (λ tokens. record { tokens = tokens; below = s.below })
          (set_comm s.tokens a b v w (λ same.
          lacks a (held_write m s.tokens o a v e) (subst (λ k. Held (roll_keys m q) (48 + k)) (sym same) (held_write m s.tokens q b w f))))
      changed_same (Ok (Write a v)) (Ok (Read b)) e f = refl
      changed_same (Ok (Write a v)) (Err r) e f = refl
      changed_same (Ok (Read a)) y e f = refl
      changed_same (Err r) y e f = refl

  pub after_same : (s : Sheet) (o q : Operation) → Disjoint (roll_model m) o q → Kept m s → after m (after m s o) q ≡ after m (after m s q) o
  after_same s o q none kept =
      let back = and_comm (roll_keys m q) (roll_keys m o) ∙ none in
      ap (changed m (after m s o) q) (admitted_same s q o back)
      ∙ changed_same s o q none kept (admitted s.tokens o) (admitted s.tokens q) refl refl
      ∙ sym (ap (changed m (after m s q) o) (admitted_same s o q none))

  -- From sheets to pages.
  pub own_page : (s : Sheet) → Kept m s → (roll_model m).own (write s)
  own_page s kept =
      let again = read_write s kept.sixteen in
      (ap write again, subst m.own (sym (ap (λ t. t.below) again)) kept.own)

  pub kept_read : (p : Page) → (roll_model m).own p → Kept m (read p)
  kept_read p own = record { sixteen = length-table 16 (λ g. natural (at p g)); own = own.1 }

  -- the sheet after an operation is read again from its page
  pub read_after : (p : Page) (o : Operation) → (roll_model m).own p → read (write (after m (read p) o)) ≡ after m (read p) o
  read_after p o own = read_write (after m (read p) o) (kept_after (read p) o (kept_read p own)).sixteen

  pub roll_lawful : Lawful (roll_model m)
  roll_lawful = record {
    keeps = λ p o own. own_page (after m (read p) o) (kept_after (read p) o (kept_read p own));
    shaped = λ p o own. says_shaped (read p) o (kept_read p own) (admitted (read p).tokens o);
    fault_leaves = λ p o own f. ap write (fault_changes (read p) o (kept_read p own) (admitted (read p).tokens o) f) ∙ own.0;
    same_page = λ p o q own none.
        ap (λ s. write (after m s q)) (read_after p o own)
        ∙ ap write (after_same (read p) o q none (kept_read p own))
        ∙ sym (ap (λ s. write (after m s o)) (read_after p q own));
    same_answer = λ p o q own none.
        ap (λ s. answer m s o) (read_after p q own) ∙ answer_same (read p) o q none (kept_read p own);
  }

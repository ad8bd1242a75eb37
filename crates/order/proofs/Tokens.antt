-- What one part does to a token on a page of the roll's own.
use Rattle.std.proofs.Common.{◌≡◌, ℕ, ◌<◌, ◌≤◌, true, List, length, set, ℤ, pos, negsuc, Ok, Err, Result, sym, refl, ap, ◌∙◌, inl, inr, arith, length-set, get_or-set_other, get_or-set_same}
use Rattle.book.proofs.Below.{length-table}
use Rattle.book.specs.Model.{Page, Model}
use Rattle.book.specs.Numbers.{natural, at}
use Rattle.records.specs.Answers.{well_done}
use Rattle.records.specs.declared.Answer.{Answer}
use Rattle.records.specs.declared.Operation.{Operation}
use Rattle.roll.specs.Admitted.{AtEntry, write_at, write_kind, removal_writes, removal_reads, removal_below}
use Rattle.roll.specs.Asking.{refuse, asked}
use Rattle.roll.specs.Laws.{cause_not_0}
use Rattle.roll.specs.Over.{below_with, IsRoll}
use Rattle.roll.specs.Pages.{at_entry}
use Rattle.roll.specs.Refusals.{cause}
use Rattle.roll.specs.Roll.{Sheet, read, entry, stands, admitted, says, changed, after, roll_model}
use Rattle.roll.specs.declared.asking.Ask.{Ask}
use Rattle.roll.specs.declared.asking.Ask.TheVariants.{Other, Write, Read}
use Rattle.roll.specs.declared.refusals.Refused.{Refused}
use Rattle.roll.specs.declared.refusals.Refusal.TheVariants.{NotStanding}
use Rattle.std.proofs.lemmas.Bool.{cond_both, cases_eq, eqb-true}
use Rattle.std.proofs.lemmas.Bool.Decides.{nat_tests}

-- a part bears a grant that stands
pub record Borne (p : Page) (o : Operation) : Type 0 where
  pub low : o.grant < 16
  pub some : o.token ≡ 0 → ⊥
  pub token : at p o.grant ≡ pos o.token

-- what an operation makes of token g, which becomes z
pub data TokenNow (p : Page) (o : Operation) (g : ℕ) (z : ℤ) : Type 0 where
  same : z ≡ at p g → (o.kind ≡ 2 → o.a ≡ g → ⊥) → TokenNow p o g z
  gone : z ≡ pos 0 → TokenNow p o g z
  given : o.kind ≡ 1 → o.a ≡ g → z ≡ o.c → TokenNow p o g z

natural_pos : (z : ℤ) (v : ℕ) → 1 ≤ v → natural z ≡ v → z ≡ pos v
natural_pos (pos n) v l e = ap pos e
natural_pos (negsuc n) v l e = absurd (omega arith)

-- an appointment writes its c
appointed : (tokens : List ℕ) (o : Operation) (a v : ℕ) → o.kind ≡ 1 → admitted tokens o ≡ Ok (Write a v) → o.c ≡ pos v
appointed tokens o a v k e =
    let some : 1 ≤ v = grind (arith, nat_tests) in
    let is : natural o.c ≡ v = grind (arith, nat_tests) in
    natural_pos o.c v some is

-- what is refused is not well done
refused_not : (m : Model) (s : Sheet) (o : Operation) (r : Refused) → well_done (says m s o (Err r)) ≡ true → ⊥
refused_not m s o r d = cause_not_0 r.why (eqb-true (cause r.why) 0 d)

-- where a part is well done its grant stands
stood : (m : Model) (s : Sheet) (o : Operation) → well_done (says m s o (admitted s.tokens o)) ≡ true → stands s.tokens o ≡ true
stood m s o d =
    cond_both (stands s.tokens o) (asked o) (refuse NotStanding o.grant)
    (λ (x : Result Ask Refused). well_done (says m s o x) ≡ true → stands s.tokens o ≡ true)
    (λ e _. e)
    (λ _ k. absurd (refused_not m s o (record { why = NotStanding; place = o.grant }) k))
    d

-- the entry that an operation leaves, by what it asks
entry_now : (m : Model) (s : Sheet) (p : Page) (o : Operation) (g : ℕ) (z : ℤ) (x : Result Ask Refused) → length s.tokens ≡ 16
    → at p g ≡ pos (entry s.tokens g) → admitted s.tokens o ≡ x → well_done (says m s o x) ≡ true
    → z ≡ pos (entry (changed m s o x).tokens g) → TokenNow p o g z
entry_now m s p o g z (Ok Other) n b e d q = same (q ∙ sym b) (λ k _. removal_below s.tokens o k e)
entry_now m s p o g z (Ok (Read a)) n b e d q = same (q ∙ sym b) (λ k _. removal_reads s.tokens o a k e)
entry_now m s p o g z (Err r) n b e d q = absurd (refused_not m s o r d)
entry_now m s p o g z (Ok (Write a v)) n b e d q =
    elim (cases_eq g a) [
      | inl i ↦ elim (write_kind s.tokens o a v e) [
        | inl one ↦ given one (sym (i ∙ w.is)) (q ∙ ap pos (written i) ∙ sym (appointed s.tokens o a v one e))
        | inr two ↦ gone (q ∙ ap pos (written i ∙ removal_writes s.tokens o a v two e))
      ]
      | inr other ↦ same (q ∙ ap pos (get_or-set_other s.tokens a g v 0 other) ∙ sym b) (λ _ i. other (sym i ∙ sym w.is))
    ]
  where
    w : AtEntry o a
    w = write_at s.tokens o a v e

    written : g ≡ a → entry (set s.tokens a v) g ≡ v
    written i = ap (entry (set s.tokens a v)) i ∙ get_or-set_same s.tokens a v 0 (omega (arith, w.there))

-- a sheet keeps 16 tokens
after_sixteen : (m : Model) (s : Sheet) (o : Operation) (x : Result Ask Refused) → length s.tokens ≡ 16 → length (changed m s o x).tokens ≡ 16
after_sixteen m s o (Ok Other) n = n
after_sixteen m s o (Ok (Read a)) n = n
after_sixteen m s o (Err r) n = n
after_sixteen m s o (Ok (Write a v)) n = length-set s.tokens a v ∙ n

-- Of a book that is a roll, on a page of its own.
module _ (b : Model) (roll : IsRoll b) (p : Page) (o : Operation) (own : b.own p) where
  abbrev m : Model
  m = below_with roll.keys roll.answer roll.next

  sixteen : length (read p).tokens ≡ 16
  sixteen = length-table 16 (λ g. natural (at p g))

  answer_is : b.answer p o ≡ (roll_model m).answer p o
  answer_is = ap (λ (f : Page → Operation → Answer). f p o) roll.answers

  next_is : b.next p o ≡ (roll_model m).next p o
  next_is = ap (λ (f : Page → Operation → Page). f p o) roll.turns

  at_read : (g : ℕ) → g < 16 → at p g ≡ pos (entry (read p).tokens g)
  at_read g l = ap (λ page. at page g) (sym (roll.tokens p own)) ∙ at_entry (read p) sixteen g l

  at_after : (g : ℕ) → g < 16 → at (b.next p o) g ≡ pos (entry (after m (read p) o).tokens g)
  at_after g l = ap (λ page. at page g) next_is ∙ at_entry (after m (read p) o) (after_sixteen m (read p) o (admitted (read p).tokens o) sixteen) g l

  done_so : well_done (b.answer p o) ≡ true → well_done ((roll_model m).answer p o) ≡ true
  done_so d = ap well_done (sym answer_is) ∙ d

  pub well_borne : well_done (b.answer p o) ≡ true → Borne p o
  well_borne d =
      let standing = stood m (read p) o (done_so d) in
      let low : o.grant < 16 = grind (arith, nat_tests) in
      let is : entry (read p).tokens o.grant ≡ o.token = grind (arith, nat_tests) in
      record { low = low; some = grind (arith, nat_tests); token = at_read o.grant low ∙ ap pos is }

  pub token_now : well_done (b.answer p o) ≡ true → (g : ℕ) → g < 16 → TokenNow p o g (at (b.next p o) g)
  token_now d g l =
      entry_now m (read p) p o g (at (b.next p o) g) (admitted (read p).tokens o) sixteen (at_read g l) refl (done_so d) (at_after g l)

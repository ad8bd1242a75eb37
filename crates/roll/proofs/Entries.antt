-- The promises of the roll on its entries.
use Rattle.std.proofs.Common.{◌≡◌, ℕ, true, cond, length, set, pos, Ok, Err, Result, sym, refl, ap, ◌∙◌, inl, inr, arith, get_or-set_other, get_or-set_same}
use Rattle.book.specs.Model.{Model, Lawful}
use Rattle.book.specs.Numbers.{at}
use Rattle.records.specs.Answers.{well_done}
use Rattle.records.specs.declared.Operation.{Operation}
use Rattle.roll.specs.Admitted.{write_at, write_chief, write_kind, removal_writes, removal_reads, removal_below, empty_stands}
use Rattle.roll.specs.Laws.{kept_read, kept_after, read_after, cause_not_0}
use Rattle.roll.specs.Pages.{at_entry}
use Rattle.roll.specs.Asking.{refuse, asked}
use Rattle.roll.specs.Refusals.{cause}
use Rattle.roll.specs.declared.refusals.Refused.{Refused}
use Rattle.roll.specs.Promises.{RemovalEmpties, EntriesStay}
use Rattle.roll.specs.Roll.{Sheet, write, read, entry, admitted, says, changed, answer, after}
use Rattle.roll.specs.declared.asking.Ask.{Ask}
use Rattle.roll.specs.declared.asking.Ask.TheVariants.{Other, Write, Read}
use Rattle.roll.specs.declared.refusals.Refusal.TheVariants.{NotStanding}
use Rattle.std.proofs.lemmas.Bool.{cases_eq, eqb-true}

module _ (m : Model) (s : Sheet) (o : Operation) where
  -- a removal that is well done empties its entry
  emptied : (x : Result Ask Refused) → length s.tokens ≡ 16 → o.kind ≡ 2 → admitted s.tokens o ≡ x → well_done (says m s o x) ≡ true
      → entry (changed m s o x).tokens o.a ≡ 0
  emptied (Ok Other) n k e d = absurd (removal_below s.tokens o k e)
  emptied (Ok (Write a v)) n k e d =
      let w = write_at s.tokens o a v e in
      ap (entry (set s.tokens a v)) (sym w.is) ∙ get_or-set_same s.tokens a v 0 (omega (arith, w.there)) ∙ removal_writes s.tokens o a v k e
  emptied (Ok (Read a)) n k e d = absurd (removal_reads s.tokens o a k e)
  emptied (Err r) n k e d = absurd (cause_not_0 r.why (eqb-true (cause r.why) 0 d))

  -- an entry that does not stay is written
  written : (x : Result Ask Refused) (g : ℕ) → (entry (changed m s o x).tokens g ≡ entry s.tokens g → ⊥) → (v : ℕ) × (x ≡ Ok (Write g v))
  written (Ok Other) g new = absurd (new refl)
  written (Ok (Write a v)) g new =
      elim (cases_eq g a) [
        | inl same ↦ (v, ap (λ k. Ok (Write k v)) (sym same))
        | inr other ↦ absurd (new (get_or-set_other s.tokens a g v 0 other))
      ]
  written (Ok (Read a)) g new = absurd (new refl)
  written (Err r) g new = absurd (new refl)

module _ (m : Model) (lawful : Lawful m) where
  pub removal_empties_lem : RemovalEmpties m
  removal_empties_lem p o q own k d e =
      let s = read p in
      let x = admitted s.tokens o in
      let t = after m s o in
      let none : entry t.tokens q.grant ≡ 0 = ap (entry t.tokens) e ∙ emptied m s o x (kept_read m lawful p own).sixteen k refl d in
      ap (λ u. answer m u q) (read_after m lawful p o own)
      ∙ ap (λ b. says m t q (cond b (asked q) (refuse NotStanding q.grant))) (empty_stands t.tokens q none)

  pub entries_stay_lem : EntriesStay m
  entries_stay_lem p o g own l new =
      let s = read p in
      let t = after m s o in
      let kept = kept_read m lawful p own in
      let before : at p g ≡ pos (entry s.tokens g) = ap (λ page. at page g) (sym own.0) ∙ at_entry s kept.sixteen g l in
      let later : at (write t) g ≡ pos (entry t.tokens g) = at_entry t (kept_after m lawful s o kept).sixteen g l in
      let wrote = written m s o (admitted s.tokens o) g (λ same. new (later ∙ ap pos same ∙ sym before)) in
      let v = wrote.0 in
      record {
        kind = write_kind s.tokens o g v wrote.1;
        chief = write_chief s.tokens o g v wrote.1;
        entry = sym (write_at s.tokens o g v wrote.1).is;
        done = ap (λ x. well_done (says m s o x)) wrote.1;
      }
